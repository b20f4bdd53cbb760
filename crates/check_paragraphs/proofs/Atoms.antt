-- The inline-blocks of a paragraph: how many there are, and their lengths as a sum; and the styles of its boxes.
use Rattle.std.proofs.Common.{◌≡◌, refl, sym, ap, ◌∙◌, subst, arith, ℕ, ◌+◌, ◌<◌, ◌≤◌, ◌^◌, List, [], ◌∷◌, All, drop, get_or, length, map, sum_by}
use Rattle.std.proofs.lemmas.List.{drop_more}
use Rattle.std.proofs.lemmas.List.Elements.{All-map}
use Rattle.std.proofs.lemmas.List.Sums.{sum_by-cons}
use Rattle.fragment_types.specs.declared.item.Item.{Item}
use Rattle.fragment_types.specs.Item.{entries_of, entry_of}
use Rattle.line_place.specs.Reach.{total}
use Rattle.check_paragraphs.specs.Bounds.{IsBoundedItem}
use Rattle.para_lines.specs.Boxes.{HasBounds}
use Rattle.para_lines.specs.Paragraph.{atom_of}
use Rattle.para_lines.specs.Reach.{atom_reach}
use Rattle.para_prepare.specs.Preparation.{atoms_first, atoms_in}
use Rattle.para_prepare.specs.declared.item.PreparedContent.{PreparedContent}
use Rattle.para_prepare.specs.declared.item.PreparedContent.TheVariants as contents
use Rattle.para_prepare.specs.declared.item.PreparedItem.{PreparedItem}
use Rattle.para_lines.specs.declared.paragraph.Atom.{Atom}

pub all_bounded : (items : List Item) → All IsBoundedItem items → All HasBounds (entries_of items)
all_bounded items bounded = All-map HasBounds entry_of items (λ k d lt. (bounded k d lt).is)

atoms_sum : (atoms : List Atom) → sum_by (λ atom. atom_reach (atom_of atom)) atoms ≡ total atom_reach (map atom_of atoms)
atoms_sum [] = refl
atoms_sum (atom ∷ atoms) = sum_by-cons (λ atom. atom_reach (atom_of atom)) atom atoms ∙ ap (λ n. atom_reach (atom_of atom) + n) (atoms_sum atoms)

pub near_atoms : (atoms : List Atom) → sum_by (λ atom. atom_reach (atom_of atom)) atoms ≤ 2 ^ 57 → total atom_reach (map atom_of atoms) ≤ 2 ^ 57
near_atoms atoms near = subst (λ n. n ≤ 2 ^ 57) (atoms_sum atoms) near

first_most : (what : PreparedContent) (a b : ℕ) → a ≤ b → atoms_first what a ≤ atoms_first what b
first_most (contents.Unit form space node first end_ advance glyphs) a b most = most
first_most (contents.Combined node first end_ advance natural glyphs) a b most = most
first_most (contents.Atom name) a b most = omega arith
first_most (contents.Break node) a b most = most

-- one item more is passed
pub counted_on : (items : List PreparedItem) (k : ℕ) (item : PreparedItem) (left less count : ℕ) → k < length items → item ≡ get_or items k item → left ≡ atoms_first item.what less
    → (atoms_in (drop k items) ≤ left → atoms_in items ≤ count) → atoms_in (drop (k + 1) items) ≤ less → atoms_in items ≤ count
counted_on items k item left less count lt read is before rest =
    let here : drop k items ≡ item ∷ drop (k + 1) items = drop_more items k item lt ∙ ap (λ (i : PreparedItem). i ∷ drop (k + 1) items) (sym read) in
    before (subst (λ n. n ≤ left) (sym (ap atoms_in here))
    (subst (λ n. atoms_first item.what (atoms_in (drop (k + 1) items)) ≤ n) (sym is) (first_most item.what (atoms_in (drop (k + 1) items)) less rest)))
