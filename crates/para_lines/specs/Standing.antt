-- The items of a paragraph on their way to its lines, without where they lie in memory.
use Rattle.std.specs.Prelude.{◌≡◌, ℕ, zero, suc, ◌<◌, ◌≤◌, min, List, [], ◌∷◌, All, drop, length, map, ℤ}
use Rattle.wm_chars.specs.declared.classes.BidiClass.{BidiClass}
use Rattle.fragment_types.specs.declared.breaking.Breaking.{Breaking}
use Rattle.para_prepare.specs.declared.item.PreparedContent.{PreparedContent}
use Rattle.para_prepare.specs.declared.item.PreparedContent.TheVariants.{Unit, Combined, Atom as inline_block, Break}
use Rattle.para_prepare.specs.declared.item.PreparedItem.{PreparedItem}
use Rattle.para_lines.specs.declared.paragraph.Atom.{Atom}
use Rattle.para_lines.specs.declared.standing.Standing as code
use Rattle.para_lines.specs.Filling.{advance_of}
use Rattle.para_lines.specs.Lines.{atom_extents}
use Rattle.para_lines.specs.Paragraph.{atom_of}

-- all that is prepared of an item, its extent along the line, and the atoms from it on
pub record Standing : Type 0 where
  pub item : PreparedItem
  pub level : ℕ
  pub class : BidiClass
  pub base : ℕ
  pub end : Breaking
  pub extent : ℤ
  pub atoms : List Atom

-- as the code holds it
abbrev pub plain : code.Standing → Standing
plain own = record { item = own.item.now; level = own.level; class = own.class; base = own.base; end = own.end; extent = own.extent; atoms = own.atoms.now }

-- the atoms from an item on, where so many of all stand before it; nothing is counted where there are none
abbrev pub rest_of : (skipped : List ℕ) → List Atom → List Atom
rest_of [] atoms = atoms
rest_of (count ∷ skipped) atoms = drop count atoms

abbrev pub standing_with : PreparedItem → (level : ℕ) → BidiClass → (base : ℕ) → Breaking → List Atom → Standing
standing_with item level class base end_ atoms =
    record { item = item; level = level; class = class; base = base; end = end_; extent = advance_of item.what (atom_extents (map atom_of atoms)); atoms = atoms }

-- the items of these lists, with all atoms and how many of them stand before each item
abbrev pub standings_of : (items : List PreparedItem) → (levels : List ℕ) → (classes : List BidiClass) → (bases : List ℕ) → (breaks : List Breaking) → (skipped : List ℕ) → (atoms : List Atom) → List Standing
standings_of (item ∷ items) (level ∷ levels) (class ∷ classes) (base ∷ bases) (end_ ∷ breaks) skipped atoms =
    standing_with item level class base end_ (rest_of skipped atoms) ∷ standings_of items levels classes bases breaks (drop 1 skipped) atoms
standings_of _ _ _ _ _ skipped atoms = []

-- how many of so many atoms stand before what stands behind an item
abbrev pub count_behind : PreparedContent → (before most : ℕ) → ℕ
count_behind (inline_block name) before most = min (suc before) most
count_behind (Unit form space node first end_ advance glyphs) before most = before
count_behind (Combined node first end_ advance natural glyphs) before most = before
count_behind (Break node) before most = before

-- how many of so many atoms stand before each of these items, where so many stand before the first
abbrev pub counts : (before most : ℕ) → List PreparedItem → List ℕ
counts before most [] = []
counts before most (item ∷ items) = before ∷ counts (count_behind item.what before most) most items

-- how many of so many atoms stand before each item of a paragraph; nothing is counted where there are none
abbrev pub counted : (most : ℕ) → List PreparedItem → List ℕ
counted zero items = []
counted (suc most) items = counts 0 (suc most) items

-- there is a count for each item, or none at all, and none is past the atoms
pub record HasCounts (items : List PreparedItem) (skipped : List ℕ) (atoms : List Atom) : Type 0 where
  pub each : 0 < length skipped → length skipped ≡ length items
  pub within : All (λ count. count ≤ length atoms) skipped
