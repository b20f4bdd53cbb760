-- Documents that can be set in any of four modes, horizontal-tb, vertical-rl, sideways-rl and sideways-lr: no declaration ties them to one,
-- by a side or an axis of the page, by a mode, or by how text turns in one. CSS Logical Properties 1, 4; CSS Writing Modes 4, 3.2, 5.1 and 9.1.
use Rattle.std.specs.Prelude.{◌≡◌, ℕ, Bool, true, false, List, Option, Some, None, ⊤}
use Rattle.std.specs.List.{All}
use Rattle.css_types.specs.declared.property.Property.{Property}
use Rattle.css_types.specs.declared.property.Property.TheVariants.{TextCombineUpright, TextOrientation, WritingMode}
use Rattle.css_types.specs.declared.reach.Reach.{Reach}
use Rattle.css_types.specs.declared.reach.Reach.TheVariants.{Whole, PhysicalSide, FlowSide, PhysicalAxis, FlowAxis}
use Rattle.css_types.specs.declared.table.PropertyRow.{PropertyRow}
use Rattle.css_types.specs.declared.value.Declaration.{Declaration}
use Rattle.css_types.specs.Rule.{Ruling}
use Rattle.css_types.specs.Table.{row_of}
use Rattle.dom_store.specs.State.{Entry, State, What, element, text}

-- a property of the page: it is about one of its sides or axes
abbrev pub is_of_page : Reach → Bool
is_of_page Whole = false
is_of_page (PhysicalSide family side) = true
is_of_page (FlowSide family side) = false
is_of_page (PhysicalAxis family axis) = true
is_of_page (FlowAxis family axis) = false

abbrev pub is_of_page_by : Option PropertyRow → Bool
is_of_page_by None = false
is_of_page_by (Some row) = is_of_page row.reach

-- a property that ties a document to one mode: a property of the page, or one that says the mode or how text turns in it
abbrev pub ties : Property → Bool
ties WritingMode = true
ties TextOrientation = true
ties TextCombineUpright = true
ties property = is_of_page_by (row_of property)

-- declarations that tie a document to no mode. They are longhands: a shorthand stands for those that it sets
abbrev pub TieNone : List Declaration → Type 0
TieNone declarations = All (λ d. ties d.property ≡ false) declarations

-- those of an element's style attribute
abbrev pub TiesNone : What → Type 0
TiesNone (element tag id classes dir own) = TieNone own
TiesNone (text letters) = ⊤

-- no rule has one that ties, whether or not it matches, and no element, whether or not it is shown
pub record IsTurnable (author : List Ruling) (state : State) : Type 0 where
  pub rules : All (λ rule. TieNone rule.declarations) author
  pub own : (number : ℕ) (entry : Entry) → state.node_at number ≡ Some entry → TiesNone entry.what
