-- What is prepared of a paragraph in each way. CSS Text 3, 4.1 and 5.1; CSS Writing Modes 4, 5.1 and 9.1; UAX 9.
use Rattle.std.specs.Prelude.{◌≡◌, ℕ, List, map, Option}
use Rattle.face_api.specs.Table.{Table}
use Rattle.style_types.specs.declared.style.Style.{Style}
use Rattle.fragment_types.specs.Item.{Entry}
use Rattle.cluster_units.specs.Unit.{units_of}
use Rattle.cluster_units.specs.declared.unit.Unit.{Unit}
use Rattle.para_prepare.specs.declared.item.PreparedContent.{PreparedContent}
use Rattle.para_prepare.specs.declared.item.PreparedContent.TheVariants as contents
use Rattle.para_prepare.specs.declared.item.PreparedItem.{PreparedItem}
use Rattle.para_prepare.specs.Preparation.{Preparation, preparation}
use Rattle.page_turn.specs.Kinds.{form_in}
use Rattle.mode_ways.specs.Ways.{Way, entries_in, mode_of, plain, style_in}

-- a unit stands in its line as sideways text does there
abbrev pub unit_in : Way → Unit → Unit
unit_in way unit = record unit { kind = form_in (mode_of way) unit.kind }

-- the units of a text in a way are those of a horizontal flow, in that way
abbrev pub UnitsAlike : Type 0
UnitsAlike = (way : Way) (style : Style) (table : Table) (text : List ℕ) → units_of (style_in way style) table text ≡ map (unit_in way) (units_of (style_in plain style) table text)

abbrev pub what_in : Way → PreparedContent → PreparedContent
what_in way (contents.Unit form space node first end_ advance glyphs) = contents.Unit (form_in (mode_of way) form) space node first end_ advance glyphs
what_in way (contents.Combined node first end_ advance natural glyphs) = contents.Combined node first end_ advance natural glyphs
what_in way (contents.Atom name) = contents.Atom name
what_in way (contents.Break node) = contents.Break node

abbrev pub prepared_item_in : Way → PreparedItem → PreparedItem
prepared_item_in way item = record item { what = what_in way item.what }

-- levels, classes, base levels and breaks stay
abbrev pub preparation_in : Way → Preparation → Preparation
preparation_in way prepared = record prepared { items = map (prepared_item_in way) prepared.items }

-- what is prepared of a paragraph in a way is what is prepared of it in a horizontal flow, in that way
abbrev pub PreparationsAlike : Type 0
PreparationsAlike = (faces : List (Option Table)) (given : Option ℕ) (way : Way) (style : Style) (entries : List Entry)
    → preparation faces given (style_in way style) (entries_in way entries) ≡ preparation_in way (preparation faces given (style_in plain style) (entries_in plain entries))
