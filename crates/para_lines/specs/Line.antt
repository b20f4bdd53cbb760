-- The boxes of a line by their places among the paragraph's entries.
use Rattle.std.specs.Prelude.{◌≡◌, ℕ, ◌<◌, ◌≤◌, ◌^◌, ⊤, Bool, false, ◌&&◌, ◌==◌, List, [], ◌∷◌, All, length, map, Option, ℤ, ◌+ℤ◌, ◌-ℤ◌, unsigned_abs}
use Rattle.wm_units.specs.Numbers.{cap}
use Rattle.face_api.specs.Table.{Table}
use Rattle.line_place.specs.declared.line.LineBox.{LineBox}
use Rattle.line_place.specs.Line as place
use Rattle.line_place.specs.Runs.{is_form}
use Rattle.para_prepare.specs.declared.item.PreparedContent.{PreparedContent}
use Rattle.para_prepare.specs.declared.item.PreparedContent.TheVariants.{Unit, Combined, Atom as atoms_of, Break}
use Rattle.para_lines.specs.Standing as code
use Rattle.para_lines.specs.declared.paragraph.Atom as code_atom
use Rattle.para_lines.specs.declared.seated.Seated as code_seated
use Rattle.para_lines.specs.Paragraph.{atom_of}
use Rattle.fragment_types.specs.Item.{Entry}
use Rattle.para_lines.specs.Boxes.{chain_at, chain_behind}
use Rattle.para_lines.specs.Lines as rule
use Rattle.para_lines.specs.Lines.{boxes_on, innermost_in, no_atom}

-- ---- an item of a line

abbrev pub first_atom : List code_atom.Atom → rule.Atom
first_atom [] = no_atom
first_atom (atom ∷ atoms) = atom_of atom

-- an item as the code holds it: the atoms from it on stand for its own
abbrev pub standing_of : List Entry → code.Standing → rule.Standing
standing_of entries standing = record {
  item = standing.item;
  level = standing.level;
  class = standing.class;
  base = standing.base;
  extent = standing.extent;
  chain = chain_at entries standing.item.source;
  atom = first_atom standing.atoms;
}

-- there is an atom for an item that is one
abbrev pub HasAtom : PreparedContent → List code_atom.Atom → Type 0
HasAtom (atoms_of name) atoms = 0 < length atoms
HasAtom (Unit form space node first end_ advance glyphs) atoms = ⊤
HasAtom (Combined node first end_ advance natural glyphs) atoms = ⊤
HasAtom (Break node) atoms = ⊤

-- how far the lengths of an atom reach
pub record IsNearAtom (atom : code_atom.Atom) : Type 0 where
  pub over : unsigned_abs atom.over ≤ 2 ^ 59
  pub under : unsigned_abs atom.under ≤ 2 ^ 59
  pub shift : unsigned_abs atom.shift ≤ 2 ^ 59

-- an atom inside boxes with these lengths of `vertical-align`
abbrev pub atom_in : (shifts : ℤ) → rule.Atom → place.Content
atom_in shifts atom =
    place.atom atom.fragment atom.left_margin atom.over_margin (atom.over +ℤ cap (atom.shift +ℤ shifts)) (atom.under -ℤ cap (atom.shift +ℤ shifts))

abbrev pub content_in : (shifts : ℤ) → PreparedContent → rule.Atom → place.Content
content_in shifts (Unit form space node first end_ advance glyphs) atom = place.unit node first end_ form glyphs
content_in shifts (Combined node first end_ advance natural glyphs) atom = place.combined node first end_ natural glyphs
content_in shifts (atoms_of name) atom = atom_in shifts atom
content_in shifts (Break node) atom = place.nothing

-- units of one text node and one form
abbrev pub units_alike : PreparedContent → PreparedContent → Bool
units_alike (Unit form space node first end_ advance glyphs) (Unit form' space' node' first' end' advance' glyphs') = (node == node') && is_form form form'
units_alike _ _ = false

-- ---- the boxes of a line

-- the boxes on the line of these items, where the item before the first stands in these
abbrev pub on_line : List Entry → (before : List ℕ) → List code.Standing → List ℕ
on_line entries before standings = boxes_on before (map (standing_of entries) standings)

-- a box on this line
abbrev pub box_on : code_seated.Seated → List (Option Table) → (box : ℕ) → LineBox
box_on seated tables =
    rule.line_box tables seated.container.now seated.boxes.now seated.places.now
    (chain_behind seated.boxes.now seated.sides.before) (chain_behind seated.boxes.now seated.sides.after)

-- ---- the items that a line is made of

-- an item that can stand on a line: it comes from an entry that there is, and has its atom
pub record IsAble (count : ℕ) (standing : code.Standing) : Type 0 where
  pub source : standing.item.source < count
  pub atom : HasAtom standing.item.what standing.atoms
  pub near : All IsNearAtom standing.atoms

-- items come in the order of what they come from
abbrev pub RiseIn : (from : ℕ) → List code.Standing → Type 0
RiseIn from [] = ⊤
RiseIn from (standing ∷ standings) = (from ≤ standing.item.source) × RiseIn standing.item.source standings

-- the items of a line, with what they are made from
pub record ItemsOn : Type 0 where
  pub seated : code_seated.Seated
  pub standings : List code.Standing

-- each stands in boxes of the line
pub record AreSeated (seated : code_seated.Seated) (standings : List code.Standing) : Type 0 where
  pub able : All (IsAble (length seated.boxes.now)) standings
  pub places : seated.places.now ≡ on_line seated.boxes.now [] standings

-- the items of the definition
abbrev pub items_on : ItemsOn → List place.Item
items_on own = map (λ standing. rule.line_item own.seated.boxes.now own.seated.places.now (standing_of own.seated.boxes.now standing)) own.standings

-- the line that they are on
abbrev pub line_on : List (Option Table) → ItemsOn → place.Line
line_on tables own =
    rule.line tables own.seated.container.now own.seated.boxes.now
    (chain_behind own.seated.boxes.now own.seated.sides.before) (chain_behind own.seated.boxes.now own.seated.sides.after) (map (standing_of own.seated.boxes.now) own.standings)

-- where among the boxes of the line an item stands
abbrev pub seat_in : ItemsOn → code.Standing → Option ℕ
seat_in own standing = innermost_in own.seated.places.now (chain_at own.seated.boxes.now standing.item.source)
