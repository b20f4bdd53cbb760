-- A paragraph that is prepared for its lines.
use Rattle.std.specs.Prelude.{ℕ, suc, ◌≡◌, ◌-◌, ◌*◌, ◌<◌, ◌≤◌, ⊤, List, [], ◌∷◌, length, map, All, Option, pos, ◌≤ℤ◌}
use Rattle.face_api.specs.Table.{Table}
use Rattle.wm_chars.specs.declared.classes.BidiClass.{BidiClass}
use Rattle.fragment_types.specs.declared.breaking.Breaking.{Breaking}
use Rattle.style_types.specs.declared.style.Style.{Style}
use Rattle.fragment_types.specs.Item.{Entry, text, begins, ends, atom, line_break}
use Rattle.para_prepare.specs.declared.bidi_text.Around.{Around}
use Rattle.para_prepare.specs.declared.item.PreparedContent as content
use Rattle.para_prepare.specs.declared.item.PreparedContent.TheVariants as contents
use Rattle.para_prepare.specs.declared.item.PreparedItem.{PreparedItem}
use Rattle.para_prepare.specs.declared.standing.Standing.{Standing}
use Rattle.para_prepare.specs.BidiText.{bidi_texts}
use Rattle.para_prepare.specs.Boxes.{taking_part}
use Rattle.para_prepare.specs.Breaks.{break_class_of, breaks_of}
use Rattle.para_prepare.specs.Content.{parts}
use Rattle.para_prepare.specs.Glyph.{class_of}
use Rattle.para_prepare.specs.Items.{items_by}
use Rattle.para_prepare.specs.Parts.{Part, Raw, raws, used_direction}
use Rattle.para_prepare.specs.Standing.{standings}

-- the items, and for each its level, its class for L1 of UAX 9, the base level of its bidi paragraph, the break behind it
pub record Preparation : Type 0 where
  pub items : List PreparedItem
  pub levels : List ℕ
  pub classes : List BidiClass
  pub bases : List ℕ
  pub breaks : List Breaking

-- there is one of each for every item, no level is above 126, and no base level above 1
pub record AreWhole (items : List PreparedItem) (levels : List ℕ) (classes : List BidiClass) (bases : List ℕ) (breaks : List Breaking) : Type 0 where
  pub levels_count : length levels ≡ length items
  pub classes_count : length classes ≡ length items
  pub bases_count : length bases ≡ length items
  pub breaks_count : length breaks ≡ length items
  pub levels_bounds : All (λ level. level ≤ 126) levels
  pub bases_bounds : All (λ base. base ≤ 1) bases

-- the bounds of an item's lengths: no character advances by more than 655,360, and a combined run by one font size
abbrev pub HasBounds : content.PreparedContent → Type 0
HasBounds (contents.Unit form space node first end_ advance glyphs) = (pos 0 ≤ℤ advance) × (advance ≤ℤ pos 655360)
HasBounds (contents.Combined node first end_ advance natural glyphs) = (pos 0 ≤ℤ advance) × (advance ≤ℤ pos 65536) × (pos 0 ≤ℤ natural) × (natural ≤ℤ pos (655360 * (end_ - first)))
HasBounds (contents.Atom name) = ⊤
HasBounds (contents.Break node) = ⊤

-- the items stand in the order of the paragraph's items that they come from, of which there are so many
abbrev pub AreFrom : (first many : ℕ) → List PreparedItem → Type 0
AreFrom first many [] = ⊤
AreFrom first many (item ∷ items) = (first ≤ item.source) × (item.source < many) × AreFrom item.source many items

-- one more where that is an inline-block
abbrev pub atoms_first : content.PreparedContent → (others : ℕ) → ℕ
atoms_first (contents.Atom name) others = suc others
atoms_first (contents.Unit form space node first end_ advance glyphs) others = others
atoms_first (contents.Combined node first end_ advance natural glyphs) others = others
atoms_first (contents.Break node) others = others

-- how many of these items are inline-blocks
abbrev pub atoms_in : List PreparedItem → ℕ
atoms_in [] = 0
atoms_in (item ∷ items) = atoms_first item.what (atoms_in items)

-- how many inline-blocks a paragraph has
abbrev pub atoms_of : List Entry → ℕ
atoms_of [] = 0
atoms_of (text node bytes style ∷ entries) = atoms_of entries
atoms_of (begins node style edges ∷ entries) = atoms_of entries
atoms_of (ends node edges ∷ entries) = atoms_of entries
atoms_of (atom name ∷ entries) = suc (atoms_of entries)
atoms_of (line_break node ∷ entries) = atoms_of entries

abbrev pub container_of : Style → Around
container_of style = record { bidi = style.bidi; dir = used_direction style }

abbrev pub standings_of : (given : Option ℕ) → Style → List Part → List Standing
standings_of given style parts = standings given (bidi_texts (container_of style) (taking_part parts))

abbrev pub prepared_by : List Raw → List Standing → Preparation
prepared_by raws standings =
    record {
      items = items_by raws standings;
      levels = map (λ s. s.level) standings;
      classes = map class_of raws;
      bases = map (λ s. s.base) standings;
      breaks = breaks_of (map break_class_of raws);
    }

-- the paragraph of these entries, in a block container of this style and with this base level or none
unfoldable pub preparation : List (Option Table) → (given : Option ℕ) → Style → List Entry → Preparation
preparation faces given style entries =
    prepared_by (raws (parts faces entries)) (standings_of given style (parts faces entries))
