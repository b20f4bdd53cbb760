-- What holds of that which the lines of a paragraph are made from. Each holds in one way at most, so that it can stand in a type.
use Rattle.std.specs.Prelude.{ℕ, ◌≤◌, ◌^◌, List, [], ◌∷◌, All, length, map}
use Rattle.std.specs.Coded.{×_prop, Unit-prop, le_prop}
use Rattle.fragment_types.specs.Item.{Entry, text, begins, ends, atom, line_break}
use Rattle.line_place.specs.Reach.{total}
use Rattle.para_prepare.specs.Preparation.{atoms_in}
use Rattle.para_prepare.specs.declared.item.PreparedItem.{PreparedItem}
use Rattle.para_prepare.specs.declared.item.PreparedContent.{PreparedContent}
use Rattle.para_prepare.specs.declared.item.PreparedContent.TheVariants.{Unit, Combined, Atom as atoms_of, Break}
use Rattle.para_lines.specs.declared.paragraph.Atom as code_atom
use Rattle.para_lines.specs.declared.paragraph.Container.{Container}
use Rattle.para_lines.specs.Standing as code
use Rattle.para_lines.specs.Bounded.{IsBounded-prop}
use Rattle.para_lines.specs.Boxes.{AreBounded, HasBounds}
use Rattle.para_lines.specs.Line.{HasAtom, IsAble, RiseIn, standing_of}
use Rattle.para_lines.specs.Paragraph.{IsContainer, atom_of}
use Rattle.para_lines.specs.Prepared.{AreSources}
use Rattle.para_lines.specs.Reach.{AreNear, HasAdvance, Rise, atom_reach, standing_reach}
use denote.Struct.Props.{props}

-- lines can be made from these prepared items: few, in order, each from an entry that there is, with as many inline-blocks as
-- they ask for, and lengths within bounds
pub record IsInput (entries : List Entry) (items : List PreparedItem) (container : Container) (atoms : List code_atom.Atom) : Type 0 where
  pub bounded : AreBounded entries
  pub sources : AreSources (length entries) items
  pub near : AreNear items
  pub few : length items ≤ 2 ^ 21
  pub container_is : IsContainer container
  pub atoms_there : atoms_in items ≤ length atoms
  pub reach : total atom_reach (map atom_of atoms) ≤ 2 ^ 57

-- lines can be made from these items on their way to them: few, in order, each with its atom, and lengths within bounds
pub record IsSetting (entries : List Entry) (container : Container) (standings : List code.Standing) : Type 0 where
  pub bounded : AreBounded entries
  pub container_is : IsContainer container
  pub able : All (IsAble (length entries)) standings
  pub rise : RiseIn 0 standings
  pub few : length standings ≤ 2 ^ 21
  pub reach : total standing_reach (map (standing_of entries) standings) ≤ 2 ^ 58

-- ---- in one way at most

pub HasBounds-prop : (entry : Entry) → IsProp (HasBounds entry)
HasBounds-prop (begins node style edges) = IsBounded-prop style
HasBounds-prop (ends node edges) = hlevel props
HasBounds-prop (text node bytes style) = hlevel props
HasBounds-prop (atom name) = hlevel props
HasBounds-prop (line_break node) = hlevel props

pub IsContainer-prop : (container : Container) → IsProp (IsContainer container)
IsContainer-prop container = hlevel (props, IsBounded-prop)

Rise-prop : (from : ℕ) (items : List PreparedItem) → IsProp (Rise from items)
Rise-prop from [] = Unit-prop
Rise-prop from (item ∷ items) = ×_prop le_prop (Rise-prop item.source items)

HasAdvance-prop : (what : PreparedContent) → IsProp (HasAdvance what)
HasAdvance-prop (Unit form space node first end_ advance glyphs) = hlevel props
HasAdvance-prop (Combined node first end_ advance natural glyphs) = hlevel props
HasAdvance-prop (atoms_of name) = hlevel props
HasAdvance-prop (Break node) = hlevel props

HasAtom-prop : (what : PreparedContent) (atoms : List code_atom.Atom) → IsProp (HasAtom what atoms)
HasAtom-prop (Unit form space node first end_ advance glyphs) atoms = hlevel props
HasAtom-prop (Combined node first end_ advance natural glyphs) atoms = hlevel props
HasAtom-prop (atoms_of name) atoms = hlevel props
HasAtom-prop (Break node) atoms = hlevel props

RiseIn-prop : (from : ℕ) (standings : List code.Standing) → IsProp (RiseIn from standings)
RiseIn-prop from [] = Unit-prop
RiseIn-prop from (standing ∷ standings) = ×_prop le_prop (RiseIn-prop standing.item.source standings)

pub IsInput-prop : (entries : List Entry) (items : List PreparedItem) (container : Container) (atoms : List code_atom.Atom) → IsProp (IsInput entries items container atoms)
IsInput-prop entries items container atoms = hlevel (props, IsBounded-prop, HasBounds-prop, Rise-prop, HasAdvance-prop)

pub IsSetting-prop : (entries : List Entry) (container : Container) (standings : List code.Standing) → IsProp (IsSetting entries container standings)
IsSetting-prop entries container standings = hlevel (props, IsBounded-prop, HasBounds-prop, HasAtom-prop, RiseIn-prop)
