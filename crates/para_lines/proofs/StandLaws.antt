-- The items of a paragraph on their way to its lines, one by one.
use Rattle.std.proofs.Common.{◌≡◌, ◌∙◌, refl, sym, ap, arith, subst, ℕ, zero, suc, ◌+◌, ◌-◌, ◌<◌, ◌≤◌, List, [], ◌∷◌, ◌++◌, length, map, get_or, drop, take, append_assoc, append-nil, Option, ℤ, pos}
use Rattle.std.specs.Prelude.{All, ⊤, min, ◌≤ℤ◌}
use Rattle.std.specs.List.{slice_range}
use Rattle.std.proofs.lemmas.List.Elements.{All-cons}
use Rattle.std.proofs.lemmas.Int.{ints}
use Rattle.std.proofs.lemmas.List.{drop_all, drop_more, length-drop}
use Rattle.wm_chars.specs.declared.classes.BidiClass.{BidiClass}
use Rattle.fragment_types.specs.declared.breaking.Breaking.{Breaking}
use Rattle.fragment_types.specs.Item.{Entry}
use Rattle.fragment_types.specs.declared.item.BoxName.{BoxName}
use Rattle.line_fill.specs.declared.item.FillItem.{FillItem}
use Rattle.line_fill.specs.Forward.{IsForward}
use Rattle.para_prepare.specs.Preparation.{HasBounds, Preparation, atoms_first, atoms_in}
use Rattle.para_prepare.specs.declared.item.PreparedItem.{PreparedItem}
use Rattle.para_prepare.specs.declared.item.PreparedContent.{PreparedContent}
use Rattle.para_prepare.specs.declared.item.PreparedContent.TheVariants.{Unit, Combined, Atom, Break}
use Rattle.para_lines.specs.Standing as code
use Rattle.para_lines.specs.Standing.{HasCounts, count_behind, counted, counts, rest_of, standing_with, standings_of}
use Rattle.para_lines.specs.declared.paragraph.Atom as code_atom
use Rattle.para_lines.specs.declared.prepared.PreparedLists as code_lists
use Rattle.para_lines.specs.Alone.{GoForward, fill_alone}
use Rattle.para_lines.specs.Boxes.{chain_at}
use Rattle.para_lines.specs.Filling.{advance_of, fill_item, fill_items, fill_items_from, first_chain, item_chains, past}
use Rattle.para_lines.specs.Line.{HasAtom, IsAble, IsNearAtom, first_atom, standing_of}
use Rattle.para_lines.specs.Lines as rule
use Rattle.para_lines.specs.Lines.{atom_extents, no_atom, standings_by}
use Rattle.para_lines.specs.Paragraph.{atom_of}
use Rattle.para_lines.specs.Prepared.{AreSources, preparation_of}
use Rattle.para_lines.proofs.FillLaws.{chain_alone}

-- ---- extents of atoms

pub no_extent : (atoms : List code_atom.Atom) → length atoms ≡ 0 → pos 0 ≡ get_or (atom_extents (map atom_of atoms)) 0 (pos 0)
no_extent [] none = refl
no_extent (atom ∷ atoms) none = absurd (omega arith)

pub first_extent_is : (atoms : List code_atom.Atom) (d : code_atom.Atom) → 0 < length atoms → (get_or atoms 0 d).extent ≡ get_or (atom_extents (map atom_of atoms)) 0 (pos 0)
first_extent_is [] d some = absurd (omega arith)
first_extent_is (atom ∷ atoms) d some = refl

-- ---- the base level of the first

pub no_base : (standings : List code.Standing) (entries : List Entry) → length standings ≡ 0 → 0 ≡ rule.first_base (map (standing_of entries) standings)
no_base [] entries none = refl
no_base (standing ∷ standings) entries none = absurd (omega arith)

pub base_first : (standings : List code.Standing) (entries : List Entry) (d : code.Standing) → 0 < length standings → (get_or standings 0 d).base ≡ rule.first_base (map (standing_of entries) standings)
base_first [] entries d some = absurd (omega arith)
base_first (standing ∷ standings) entries d some = refl

-- ---- item by item

pub standings_length : (items : List PreparedItem) (levels : List ℕ) (classes : List BidiClass) (bases : List ℕ) (breaks : List Breaking) (skipped : List ℕ) (atoms : List code_atom.Atom)
    → length levels ≡ length items → length classes ≡ length items → length bases ≡ length items → length breaks ≡ length items
    → length (standings_of items levels classes bases breaks skipped atoms) ≡ length items
standings_length [] levels classes bases breaks skipped atoms a b c d = refl
standings_length (item ∷ items) [] classes bases breaks skipped atoms a b c d = absurd (omega arith)
standings_length (item ∷ items) (level ∷ levels) [] bases breaks skipped atoms a b c d = absurd (omega arith)
standings_length (item ∷ items) (level ∷ levels) (class ∷ classes) [] breaks skipped atoms a b c d = absurd (omega arith)
standings_length (item ∷ items) (level ∷ levels) (class ∷ classes) (base ∷ bases) [] skipped atoms a b c d = absurd (omega arith)
standings_length (item ∷ items) (level ∷ levels) (class ∷ classes) (base ∷ bases) (end_ ∷ breaks) skipped atoms a b c d =
    ap suc (standings_length items levels classes bases breaks (drop 1 skipped) atoms (omega arith) (omega arith) (omega arith) (omega arith))

pub standings_levels : (items : List PreparedItem) (levels : List ℕ) (classes : List BidiClass) (bases : List ℕ) (breaks : List Breaking) (skipped : List ℕ) (atoms : List code_atom.Atom)
    → length levels ≡ length items → length classes ≡ length items → length bases ≡ length items → length breaks ≡ length items
    → map (λ s. s.level) (standings_of items levels classes bases breaks skipped atoms) ≡ levels
standings_levels [] [] classes bases breaks skipped atoms a b c d = refl
standings_levels [] (level ∷ levels) classes bases breaks skipped atoms a b c d = absurd (omega arith)
standings_levels (item ∷ items) [] classes bases breaks skipped atoms a b c d = absurd (omega arith)
standings_levels (item ∷ items) (level ∷ levels) [] bases breaks skipped atoms a b c d = absurd (omega arith)
standings_levels (item ∷ items) (level ∷ levels) (class ∷ classes) [] breaks skipped atoms a b c d = absurd (omega arith)
standings_levels (item ∷ items) (level ∷ levels) (class ∷ classes) (base ∷ bases) [] skipped atoms a b c d = absurd (omega arith)
standings_levels (item ∷ items) (level ∷ levels) (class ∷ classes) (base ∷ bases) (end_ ∷ breaks) skipped atoms a b c d =
    ap (λ (l : List ℕ). level ∷ l) (standings_levels items levels classes bases breaks (drop 1 skipped) atoms (omega arith) (omega arith) (omega arith) (omega arith))

pub standings_classes : (items : List PreparedItem) (levels : List ℕ) (classes : List BidiClass) (bases : List ℕ) (breaks : List Breaking) (skipped : List ℕ) (atoms : List code_atom.Atom)
    → length levels ≡ length items → length classes ≡ length items → length bases ≡ length items → length breaks ≡ length items
    → map (λ s. s.class) (standings_of items levels classes bases breaks skipped atoms) ≡ classes
standings_classes [] levels [] bases breaks skipped atoms a b c d = refl
standings_classes [] levels (class ∷ classes) bases breaks skipped atoms a b c d = absurd (omega arith)
standings_classes (item ∷ items) [] classes bases breaks skipped atoms a b c d = absurd (omega arith)
standings_classes (item ∷ items) (level ∷ levels) [] bases breaks skipped atoms a b c d = absurd (omega arith)
standings_classes (item ∷ items) (level ∷ levels) (class ∷ classes) [] breaks skipped atoms a b c d = absurd (omega arith)
standings_classes (item ∷ items) (level ∷ levels) (class ∷ classes) (base ∷ bases) [] skipped atoms a b c d = absurd (omega arith)
standings_classes (item ∷ items) (level ∷ levels) (class ∷ classes) (base ∷ bases) (end_ ∷ breaks) skipped atoms a b c d =
    ap (λ (l : List BidiClass). class ∷ l) (standings_classes items levels classes bases breaks (drop 1 skipped) atoms (omega arith) (omega arith) (omega arith) (omega arith))

drop_one : {X : Type 0} (k : ℕ) (xs : List X) → drop k (drop 1 xs) ≡ drop (suc k) xs
drop_one zero [] = refl
drop_one (suc k) [] = refl
drop_one k (x ∷ xs) = refl

pub standing_is : (items : List PreparedItem) (levels : List ℕ) (classes : List BidiClass) (bases : List ℕ) (breaks : List Breaking) (skipped : List ℕ) (atoms : List code_atom.Atom) (k : ℕ)
    (i : PreparedItem) (l : ℕ) (c : BidiClass) (b : ℕ) (e : Breaking) (d : code.Standing) → k < length items
    → length levels ≡ length items → length classes ≡ length items → length bases ≡ length items → length breaks ≡ length items
    → standing_with (get_or items k i) (get_or levels k l) (get_or classes k c) (get_or bases k b) (get_or breaks k e) (rest_of (drop k skipped) atoms)
    ≡ get_or (standings_of items levels classes bases breaks skipped atoms) k d
standing_is [] levels classes bases breaks skipped atoms k i l c b e d lt n1 n2 n3 n4 = absurd (omega arith)
standing_is (item ∷ items) [] classes bases breaks skipped atoms k i l c b e d lt n1 n2 n3 n4 = absurd (omega arith)
standing_is (item ∷ items) (level ∷ levels) [] bases breaks skipped atoms k i l c b e d lt n1 n2 n3 n4 = absurd (omega arith)
standing_is (item ∷ items) (level ∷ levels) (class ∷ classes) [] breaks skipped atoms k i l c b e d lt n1 n2 n3 n4 = absurd (omega arith)
standing_is (item ∷ items) (level ∷ levels) (class ∷ classes) (base ∷ bases) [] skipped atoms k i l c b e d lt n1 n2 n3 n4 = absurd (omega arith)
standing_is (item ∷ items) (level ∷ levels) (class ∷ classes) (base ∷ bases) (end_ ∷ breaks) skipped atoms zero i l c b e d lt n1 n2 n3 n4 = refl
standing_is (item ∷ items) (level ∷ levels) (class ∷ classes) (base ∷ bases) (end_ ∷ breaks) skipped atoms (suc k) i l c b e d lt n1 n2 n3 n4 =
    ap (λ (s : List ℕ). standing_with (get_or items k i) (get_or levels k l) (get_or classes k c) (get_or bases k b) (get_or breaks k e) (rest_of s atoms)) (sym (drop_one k skipped))
    ∙ standing_is items levels classes bases breaks (drop 1 skipped) atoms k i l c b e d (omega arith) (omega arith) (omega arith) (omega arith) (omega arith)

abbrev with_extent : PreparedItem → ℕ → BidiClass → ℕ → Breaking → ℤ → List code_atom.Atom → code.Standing
with_extent item level class base end_ extent atoms = record { item = item; level = level; class = class; base = base; end = end_; extent = extent; atoms = atoms }

-- what is read of each list is the item
pub read_at : (items : List PreparedItem) (levels : List ℕ) (classes : List BidiClass) (bases : List ℕ) (breaks : List Breaking) (skipped : List ℕ) (atoms rest : List code_atom.Atom) (k : ℕ)
    (i : PreparedItem) (l : ℕ) (c : BidiClass) (b : ℕ) (e : Breaking) (extent : ℤ) (d : code.Standing) → k < length items
    → length levels ≡ length items → length classes ≡ length items → length bases ≡ length items → length breaks ≡ length items
    → i ≡ get_or items k i → l ≡ get_or levels k l → c ≡ get_or classes k c → b ≡ get_or bases k b → e ≡ get_or breaks k e → rest ≡ rest_of (drop k skipped) atoms
    → extent ≡ advance_of i.what (atom_extents (map atom_of rest))
    → with_extent i l c b e extent rest ≡ get_or (standings_of items levels classes bases breaks skipped atoms) k d
read_at items levels classes bases breaks skipped atoms rest k i l c b e extent d lt n1 n2 n3 n4 r1 r2 r3 r4 r5 r6 r7 =
    ap (λ z. with_extent i l c b e z rest) r7
    ∙ ap (standing_with i l c b e) r6
    ∙ ap (λ x. standing_with x l c b e (rest_of (drop k skipped) atoms)) r1
    ∙ ap (λ x. standing_with (get_or items k i) x c b e (rest_of (drop k skipped) atoms)) r2
    ∙ ap (λ x. standing_with (get_or items k i) (get_or levels k l) x b e (rest_of (drop k skipped) atoms)) r3
    ∙ ap (λ x. standing_with (get_or items k i) (get_or levels k l) (get_or classes k c) x e (rest_of (drop k skipped) atoms)) r4
    ∙ ap (λ x. standing_with (get_or items k i) (get_or levels k l) (get_or classes k c) (get_or bases k b) x (rest_of (drop k skipped) atoms)) r5
    ∙ standing_is items levels classes bases breaks skipped atoms k i l c b e d lt n1 n2 n3 n4

-- ---- some that follow one another

standings_drop : (items : List PreparedItem) (levels : List ℕ) (classes : List BidiClass) (bases : List ℕ) (breaks : List Breaking) (skipped : List ℕ) (atoms : List code_atom.Atom) (k : ℕ)
    → length levels ≡ length items → length classes ≡ length items → length bases ≡ length items → length breaks ≡ length items
    → standings_of (drop k items) (drop k levels) (drop k classes) (drop k bases) (drop k breaks) (drop k skipped) atoms ≡ drop k (standings_of items levels classes bases breaks skipped atoms)
standings_drop items levels classes bases breaks skipped atoms zero n1 n2 n3 n4 = refl
standings_drop [] levels classes bases breaks skipped atoms (suc k) n1 n2 n3 n4 = refl
standings_drop (item ∷ items) [] classes bases breaks skipped atoms (suc k) n1 n2 n3 n4 = absurd (omega arith)
standings_drop (item ∷ items) (level ∷ levels) [] bases breaks skipped atoms (suc k) n1 n2 n3 n4 = absurd (omega arith)
standings_drop (item ∷ items) (level ∷ levels) (class ∷ classes) [] breaks skipped atoms (suc k) n1 n2 n3 n4 = absurd (omega arith)
standings_drop (item ∷ items) (level ∷ levels) (class ∷ classes) (base ∷ bases) [] skipped atoms (suc k) n1 n2 n3 n4 = absurd (omega arith)
standings_drop (item ∷ items) (level ∷ levels) (class ∷ classes) (base ∷ bases) (end_ ∷ breaks) skipped atoms (suc k) n1 n2 n3 n4 =
    ap (λ (s : List ℕ). standings_of (drop k items) (drop k levels) (drop k classes) (drop k bases) (drop k breaks) s atoms) (sym (drop_one k skipped))
    ∙ standings_drop items levels classes bases breaks (drop 1 skipped) atoms k (omega arith) (omega arith) (omega arith) (omega arith)

first_taken : (n : ℕ) (skipped : List ℕ) (atoms : List code_atom.Atom) → rest_of (take (suc n) skipped) atoms ≡ rest_of skipped atoms
first_taken n [] atoms = refl
first_taken n (count ∷ skipped) atoms = refl

take_one : {X : Type 0} (n : ℕ) (xs : List X) → drop 1 (take (suc n) xs) ≡ take n (drop 1 xs)
take_one zero [] = refl
take_one (suc n) [] = refl
take_one n (x ∷ xs) = refl

standings_take : (items : List PreparedItem) (levels : List ℕ) (classes : List BidiClass) (bases : List ℕ) (breaks : List Breaking) (skipped : List ℕ) (atoms : List code_atom.Atom) (n : ℕ)
    → standings_of (take n items) (take n levels) (take n classes) (take n bases) (take n breaks) (take n skipped) atoms ≡ take n (standings_of items levels classes bases breaks skipped atoms)
standings_take items levels classes bases breaks skipped atoms zero = refl
standings_take [] levels classes bases breaks skipped atoms (suc n) = refl
standings_take (item ∷ items) [] classes bases breaks skipped atoms (suc n) = refl
standings_take (item ∷ items) (level ∷ levels) [] bases breaks skipped atoms (suc n) = refl
standings_take (item ∷ items) (level ∷ levels) (class ∷ classes) [] breaks skipped atoms (suc n) = refl
standings_take (item ∷ items) (level ∷ levels) (class ∷ classes) (base ∷ bases) [] skipped atoms (suc n) = refl
standings_take (item ∷ items) (level ∷ levels) (class ∷ classes) (base ∷ bases) (end_ ∷ breaks) skipped atoms (suc n) =
    ap (λ (rest : List code_atom.Atom). standing_with item level class base end_ rest
    ∷ standings_of (take n items) (take n levels) (take n classes) (take n bases) (take n breaks) (drop 1 (take (suc n) skipped)) atoms) (first_taken n skipped atoms)
    ∙ ap (λ (s : List ℕ). standing_with item level class base end_ (rest_of skipped atoms) ∷ standings_of (take n items) (take n levels) (take n classes) (take n bases) (take n breaks) s atoms) (take_one n skipped)
    ∙ ap (λ (others : List code.Standing). standing_with item level class base end_ (rest_of skipped atoms) ∷ others) (standings_take items levels classes bases breaks (drop 1 skipped) atoms n)

pub standings_range : (items : List PreparedItem) (levels : List ℕ) (classes : List BidiClass) (bases : List ℕ) (breaks : List Breaking) (skipped : List ℕ) (atoms : List code_atom.Atom) (from end_ : ℕ)
    → length levels ≡ length items → length classes ≡ length items → length bases ≡ length items → length breaks ≡ length items
    → standings_of (slice_range items from end_) (slice_range levels from end_) (slice_range classes from end_) (slice_range bases from end_) (slice_range breaks from end_) (slice_range skipped from end_) atoms
    ≡ slice_range (standings_of items levels classes bases breaks skipped atoms) from end_
standings_range items levels classes bases breaks skipped atoms from end_ n1 n2 n3 n4 =
    standings_take (drop from items) (drop from levels) (drop from classes) (drop from bases) (drop from breaks) (drop from skipped) atoms (end_ - from)
    ∙ ap (take (end_ - from)) (standings_drop items levels classes bases breaks skipped atoms from n1 n2 n3 n4)

-- ---- atoms before each item

pub record Counting (most : ℕ) (items : List PreparedItem) (made : List ℕ) (count k : ℕ) : Type 0 where
  pub within : count ≤ most
  pub done : made ++ counts count most (drop k items) ≡ counts 0 most items

pub counting_first : (most : ℕ) (items : List PreparedItem) → Counting most items [] 0 0
counting_first most items = record { within = omega arith; done = refl }

pub counting_on : (most : ℕ) (items : List PreparedItem) (made more : List ℕ) (count k next : ℕ) (own : PreparedItem) → k < length items → own ≡ get_or items k own → more ≡ made ++ count ∷ []
    → next ≡ count_behind own.what count most → next ≤ most → Counting most items made count k → Counting most items more next (k + 1)
counting_on most items made more count k next own lt read pushed is within h =
    let e : drop k items ≡ own ∷ drop (k + 1) items = drop_more items k own lt ∙ ap (λ (i : PreparedItem). i ∷ drop (k + 1) items) (sym read) in
    record {
      within = within;
      done =
          ap (λ (m : List ℕ). m ++ counts next most (drop (k + 1) items)) pushed
          ∙ append_assoc made (count ∷ []) (counts next most (drop (k + 1) items))
          ∙ ap (λ n. made ++ count ∷ counts n most (drop (k + 1) items)) is
          ∙ ap (λ (is : List PreparedItem). made ++ counts count most is) (sym e)
          ∙ h.done;
    }

pub counting_all : (most : ℕ) (items : List PreparedItem) (made : List ℕ) (count k : ℕ) → 0 < most → length items ≤ k → Counting most items made count k → made ≡ counted most items
counting_all zero items made count k some past_ h = absurd (omega arith)
counting_all (suc most) items made count k some past_ h =
    sym (append-nil made) ∙ ap (λ (is : List PreparedItem). made ++ counts count (suc most) is) (sym (drop_all k items past_)) ∙ h.done

counts_length : (before most : ℕ) (items : List PreparedItem) → length (counts before most items) ≡ length items
counts_length before most [] = refl
counts_length before most (item ∷ items) = ap suc (counts_length (count_behind item.what before most) most items)

behind_within : (what : PreparedContent) (before most : ℕ) → before ≤ most → count_behind what before most ≤ most
behind_within (Atom name) before most h = omega arith
behind_within (Unit form space node first end_ advance glyphs) before most h = h
behind_within (Combined node first end_ advance natural glyphs) before most h = h
behind_within (Break node) before most h = h

counts_within : (before most : ℕ) (items : List PreparedItem) → before ≤ most → All (λ count. count ≤ most) (counts before most items)
counts_within before most [] h = λ k d lt. absurd (omega arith)
counts_within before most (item ∷ items) h =
    All-cons (λ count. count ≤ most) before (counts (count_behind item.what before most) most items) h
    (counts_within (count_behind item.what before most) most items (behind_within item.what before most h))

pub counted_within : (items : List PreparedItem) (atoms : List code_atom.Atom) (skipped : List ℕ) → skipped ≡ counted (length atoms) items → HasCounts items skipped atoms
counted_within items atoms skipped are = subst (λ (s : List ℕ). HasCounts items s atoms) (sym are) (by_atoms atoms) where
  by_atoms : (atoms : List code_atom.Atom) → HasCounts items (counted (length atoms) items) atoms
  by_atoms [] = record { each = λ some. absurd (omega arith); within = λ k d lt. absurd (omega arith) }
  by_atoms (atom ∷ atoms) = record { each = λ some. counts_length 0 (suc (length atoms)) items; within = counts_within 0 (suc (length atoms)) items (omega arith) }

-- so many atoms stand before each item, of which these are left from the first on
abbrev AreSkipped : List PreparedItem → (skipped : List ℕ) → (atoms left : List code_atom.Atom) → Type 0
AreSkipped [] skipped atoms left = ⊤
AreSkipped (item ∷ items) skipped atoms left = (rest_of skipped atoms ≡ left) × AreSkipped items (drop 1 skipped) atoms (past item.what left)

abbrev no_atoms : List code_atom.Atom
no_atoms = []

none_past : (what : PreparedContent) → past what no_atoms ≡ no_atoms
none_past (Atom name) = refl
none_past (Unit form space node first end_ advance glyphs) = refl
none_past (Combined node first end_ advance natural glyphs) = refl
none_past (Break node) = refl

none_skipped : (items : List PreparedItem) → AreSkipped items [] [] []
none_skipped [] = tt
none_skipped (item ∷ items) = (refl, subst (AreSkipped items [] []) (sym (none_past item.what)) (none_skipped items))

past_first : (name : BoxName) (atoms : List code_atom.Atom) (before : ℕ) → before ≤ length atoms → past (Atom name) (drop before atoms) ≡ drop (min (suc before) (length atoms)) atoms
past_first name [] zero h = refl
past_first name [] (suc before) h = absurd (omega arith)
past_first name (atom ∷ atoms) zero h = ap (λ n. drop n (atom ∷ atoms)) (one (length atoms)) where
  one : (n : ℕ) → 1 ≡ min 1 (suc n)
  one n = omega arith
past_first name (atom ∷ atoms) (suc before) h = past_first name atoms before (omega arith) ∙ ap (λ n. drop n (atom ∷ atoms)) (up before (length atoms)) where
  up : (a b : ℕ) → suc (min (suc a) b) ≡ min (suc (suc a)) (suc b)
  up a b = omega arith

past_behind : (what : PreparedContent) (atoms : List code_atom.Atom) (before : ℕ) → before ≤ length atoms → past what (drop before atoms) ≡ drop (count_behind what before (length atoms)) atoms
past_behind (Atom name) atoms before h = past_first name atoms before h
past_behind (Unit form space node first end_ advance glyphs) atoms before h = refl
past_behind (Combined node first end_ advance natural glyphs) atoms before h = refl
past_behind (Break node) atoms before h = refl

counts_skip : (items : List PreparedItem) (atoms : List code_atom.Atom) (before : ℕ) → before ≤ length atoms → AreSkipped items (counts before (length atoms) items) atoms (drop before atoms)
counts_skip [] atoms before h = tt
counts_skip (item ∷ items) atoms before h =
    let P : List code_atom.Atom → Type 0 = λ left. AreSkipped items (counts (count_behind item.what before (length atoms)) (length atoms) items) atoms left in
    (refl, subst P (sym (past_behind item.what atoms before h)) (counts_skip items atoms (count_behind item.what before (length atoms)) (behind_within item.what before (length atoms) h)))

counted_skip : (items : List PreparedItem) (atoms : List code_atom.Atom) → AreSkipped items (counted (length atoms) items) atoms atoms
counted_skip items [] = none_skipped items
counted_skip items (atom ∷ atoms) = counts_skip items (atom ∷ atoms) 0 (omega arith)

-- ---- the items of the definition

first_is : (atoms : List code_atom.Atom) → first_atom atoms ≡ get_or (map atom_of atoms) 0 no_atom
first_is [] = refl
first_is (atom ∷ atoms) = refl

past_is : (what : PreparedContent) (atoms : List code_atom.Atom) → map atom_of (past what atoms) ≡ past what (map atom_of atoms)
past_is (Unit form space node first end_ advance glyphs) atoms = refl
past_is (Combined node first end_ advance natural glyphs) atoms = refl
past_is (Break node) atoms = refl
past_is (Atom name) [] = refl
past_is (Atom name) (atom ∷ atoms) = refl

abbrev extents : List code_atom.Atom → List ℤ
extents atoms = atom_extents (map atom_of atoms)

past_extents : (what : PreparedContent) (atoms : List code_atom.Atom) → extents (past what atoms) ≡ past what (extents atoms)
past_extents (Unit form space node first end_ advance glyphs) atoms = refl
past_extents (Combined node first end_ advance natural glyphs) atoms = refl
past_extents (Break node) atoms = refl
past_extents (Atom name) [] = refl
past_extents (Atom name) (atom ∷ atoms) = refl

abbrev pub advances : List FillItem → List ℤ
advances fills = map (λ (item : FillItem). item.advance) fills

are_by : (inline : Option ℤ) (entries : List Entry) (before : List ℕ) (items : List PreparedItem) (levels : List ℕ) (classes : List BidiClass) (bases : List ℕ) (breaks : List Breaking) (skipped : List ℕ)
    (atoms left : List code_atom.Atom) → length levels ≡ length items → length classes ≡ length items → length bases ≡ length items → length breaks ≡ length items → AreSkipped items skipped atoms left
    → map (standing_of entries) (standings_of items levels classes bases breaks skipped atoms)
    ≡ standings_by items levels classes bases (advances (fill_items_from inline entries before items breaks (item_chains entries items) (extents left))) (item_chains entries items) (map atom_of left)
are_by inline entries before [] levels classes bases breaks skipped atoms left n1 n2 n3 n4 h = refl
are_by inline entries before (item ∷ items) [] classes bases breaks skipped atoms left n1 n2 n3 n4 h = absurd (omega arith)
are_by inline entries before (item ∷ items) (level ∷ levels) [] bases breaks skipped atoms left n1 n2 n3 n4 h = absurd (omega arith)
are_by inline entries before (item ∷ items) (level ∷ levels) (class ∷ classes) [] breaks skipped atoms left n1 n2 n3 n4 h = absurd (omega arith)
are_by inline entries before (item ∷ items) (level ∷ levels) (class ∷ classes) (base ∷ bases) [] skipped atoms left n1 n2 n3 n4 h = absurd (omega arith)
are_by inline entries before (item ∷ items) (level ∷ levels) (class ∷ classes) (base ∷ bases) (end_ ∷ breaks) skipped atoms left n1 n2 n3 n4 h =
    let chain : List ℕ = chain_at entries item.source in
    let others = are_by inline entries chain items levels classes bases breaks (drop 1 skipped) atoms (past item.what left) (omega arith) (omega arith) (omega arith) (omega arith) h.1 in
    ap (λ (rest : List code_atom.Atom). with_front (advance_of item.what (extents rest)) (first_atom rest) (map (standing_of entries) (standings_of items levels classes bases breaks (drop 1 skipped) atoms))) h.0
    ∙ ap (λ (a : rule.Atom). with_front (advance_of item.what (extents left)) a (map (standing_of entries) (standings_of items levels classes bases breaks (drop 1 skipped) atoms))) (first_is left)
    ∙ ap (with_front (advance_of item.what (extents left)) (get_or (map atom_of left) 0 no_atom)) (others ∙ turned) where
      with_front : ℤ → rule.Atom → List rule.Standing → List rule.Standing
      with_front extent atom others = record { item = item; level = level; class = class; base = base; extent = extent; chain = chain_at entries item.source; atom = atom } ∷ others

      turned :
          standings_by items levels classes bases (advances (fill_items_from inline entries (chain_at entries item.source) items breaks (item_chains entries items) (extents (past item.what left)))) (item_chains entries items) (map atom_of (past item.what left))
          ≡ standings_by items levels classes bases (advances (fill_items_from inline entries (chain_at entries item.source) items breaks (item_chains entries items) (past item.what (extents left)))) (item_chains entries items) (past item.what (map atom_of left))
      turned =
          ap (λ (es : List ℤ). standings_by items levels classes bases (advances (fill_items_from inline entries (chain_at entries item.source) items breaks (item_chains entries items) es)) (item_chains entries items) (map atom_of (past item.what left)))
          (past_extents item.what left)
          ∙ ap (standings_by items levels classes bases (advances (fill_items_from inline entries (chain_at entries item.source) items breaks (item_chains entries items) (past item.what (extents left)))) (item_chains entries items))
          (past_is item.what left)

-- lists with one entry for each item
pub record AreWhole (prepared : Preparation) : Type 0 where
  pub levels : length prepared.levels ≡ length prepared.items
  pub classes : length prepared.classes ≡ length prepared.items
  pub bases : length prepared.bases ≡ length prepared.items
  pub breaks : length prepared.breaks ≡ length prepared.items

pub whole_lists : (lists : code_lists.PreparedLists) → AreWhole (preparation_of lists)
whole_lists lists = record { levels = lists.each_level; classes = lists.each_class; bases = lists.each_base; breaks = lists.each_break }

pub standings_are : (inline : Option ℤ) (entries : List Entry) (prepared : Preparation) (skipped : List ℕ) (atoms : List code_atom.Atom)
    → AreWhole prepared → skipped ≡ counted (length atoms) prepared.items
    → map (standing_of entries) (standings_of prepared.items prepared.levels prepared.classes prepared.bases prepared.breaks skipped atoms)
    ≡ rule.standings entries prepared (map atom_of atoms) (advances (fill_items inline entries prepared (extents atoms)))
unfolding fill_items
standings_are inline entries prepared skipped atoms even are =
    ap (λ (s : List ℕ). map (standing_of entries) (standings_of prepared.items prepared.levels prepared.classes prepared.bases prepared.breaks s atoms)) are
    ∙ are_by inline entries [] prepared.items prepared.levels prepared.classes prepared.bases prepared.breaks (counted (length atoms) prepared.items) atoms atoms even.levels even.classes even.bases even.breaks
    (counted_skip prepared.items atoms)

-- ---- as lines are filled with them, in a paragraph of one item

alone_by : (inline : Option ℤ) (entries : List Entry) (items : List PreparedItem) (levels : List ℕ) (classes : List BidiClass) (bases : List ℕ) (breaks : List Breaking) (skipped : List ℕ)
    (atoms left : List code_atom.Atom) → length entries ≡ 1 → AreSources 1 items → length levels ≡ length items → length classes ≡ length items → length bases ≡ length items → length breaks ≡ length items
    → AreSkipped items skipped atoms left
    → map fill_alone (standings_of items levels classes bases breaks skipped atoms) ≡ fill_items_from inline entries [] items breaks (item_chains entries items) (extents left)
alone_by inline entries [] levels classes bases breaks skipped atoms left one sources n1 n2 n3 n4 h = refl
alone_by inline entries (item ∷ items) [] classes bases breaks skipped atoms left one sources n1 n2 n3 n4 h = absurd (omega arith)
alone_by inline entries (item ∷ items) (level ∷ levels) [] bases breaks skipped atoms left one sources n1 n2 n3 n4 h = absurd (omega arith)
alone_by inline entries (item ∷ items) (level ∷ levels) (class ∷ classes) [] breaks skipped atoms left one sources n1 n2 n3 n4 h = absurd (omega arith)
alone_by inline entries (item ∷ items) (level ∷ levels) (class ∷ classes) (base ∷ bases) [] skipped atoms left one sources n1 n2 n3 n4 h = absurd (omega arith)
alone_by inline entries (item ∷ items) (level ∷ levels) (class ∷ classes) (base ∷ bases) (end_ ∷ breaks) skipped atoms left one sources n1 n2 n3 n4 h =
    let none : chain_at entries item.source ≡ [] = chain_alone entries item.source one (sources 0 item (omega arith)) in
    let rest : AreSources 1 items = λ k d lt. sources (suc k) d (omega arith) in
    let others = alone_by inline entries items levels classes bases breaks (drop 1 skipped) atoms (past item.what left) one rest (omega arith) (omega arith) (omega arith) (omega arith) h.1 in
    ap (λ (es : List code_atom.Atom). filled_with (advance_of item.what (extents es)) ∷ map fill_alone (standings_of items levels classes bases breaks (drop 1 skipped) atoms)) h.0
    ∙ ap (λ (fills : List FillItem). filled_with (advance_of item.what (extents left)) ∷ fills)
    (others ∙ ap (fill_items_from inline entries [] items breaks (item_chains entries items)) (past_extents item.what left))
    ∙ ap (λ (chain : List ℕ). fill_item inline entries item end_ [] chain (first_chain (item_chains entries items)) (advance_of item.what (extents left))
    ∷ fill_items_from inline entries chain items breaks (item_chains entries items) (past item.what (extents left))) (sym none) where
      filled_with : ℤ → FillItem
      filled_with advance = fill_item inline entries item end_ [] [] (first_chain (item_chains entries items)) advance

pub alone_are : (inline : Option ℤ) (entries : List Entry) (prepared : Preparation) (skipped : List ℕ) (atoms : List code_atom.Atom)
    → AreWhole prepared → skipped ≡ counted (length atoms) prepared.items → length entries ≡ 1 → AreSources 1 prepared.items
    → map fill_alone (standings_of prepared.items prepared.levels prepared.classes prepared.bases prepared.breaks skipped atoms) ≡ fill_items inline entries prepared (extents atoms)
unfolding fill_items
alone_are inline entries prepared skipped atoms even are one sources =
    ap (λ (s : List ℕ). map fill_alone (standings_of prepared.items prepared.levels prepared.classes prepared.bases prepared.breaks s atoms)) are
    ∙ alone_by inline entries prepared.items prepared.levels prepared.classes prepared.bases prepared.breaks (counted (length atoms) prepared.items) atoms atoms one sources
    even.levels even.classes even.bases even.breaks (counted_skip prepared.items atoms)

-- ---- each has its atom

own_atom : (what : PreparedContent) (others : ℕ) (rest : List code_atom.Atom) → atoms_first what others ≤ length rest → HasAtom what rest
own_atom (Unit form space node first end_ advance glyphs) others rest h = tt
own_atom (Combined node first end_ advance natural glyphs) others rest h = tt
own_atom (Break node) others rest h = tt
own_atom (Atom name) others rest h = omega arith

atoms_left : (what : PreparedContent) (others : ℕ) (rest : List code_atom.Atom) → atoms_first what others ≤ length rest → others ≤ length (past what rest)
atoms_left (Unit form space node first end_ advance glyphs) others rest h = h
atoms_left (Combined node first end_ advance natural glyphs) others rest h = h
atoms_left (Break node) others rest h = h
atoms_left (Atom name) others [] h = absurd (omega arith)
atoms_left (Atom name) others (atom ∷ rest) h = omega arith

near_left : (what : PreparedContent) (rest : List code_atom.Atom) → All IsNearAtom rest → All IsNearAtom (past what rest)
near_left (Unit form space node first end_ advance glyphs) rest h = h
near_left (Combined node first end_ advance natural glyphs) rest h = h
near_left (Break node) rest h = h
near_left (Atom name) [] h = h
near_left (Atom name) (atom ∷ rest) h = λ k d lt. h (suc k) d (omega arith)

no_able : (count : ℕ) → All (IsAble count) []
no_able count = λ k d lt. absurd (omega arith)

able_by : (count : ℕ) (items : List PreparedItem) (levels : List ℕ) (classes : List BidiClass) (bases : List ℕ) (breaks : List Breaking) (skipped : List ℕ) (atoms left : List code_atom.Atom)
    → AreSkipped items skipped atoms left → AreSources count items → atoms_in items ≤ length left → All IsNearAtom left → All (IsAble count) (standings_of items levels classes bases breaks skipped atoms)
able_by count [] levels classes bases breaks skipped atoms left h sources some near = no_able count
able_by count (item ∷ items) [] classes bases breaks skipped atoms left h sources some near = no_able count
able_by count (item ∷ items) (level ∷ levels) [] bases breaks skipped atoms left h sources some near = no_able count
able_by count (item ∷ items) (level ∷ levels) (class ∷ classes) [] breaks skipped atoms left h sources some near = no_able count
able_by count (item ∷ items) (level ∷ levels) (class ∷ classes) (base ∷ bases) [] skipped atoms left h sources some near = no_able count
able_by count (item ∷ items) (level ∷ levels) (class ∷ classes) (base ∷ bases) (end_ ∷ breaks) skipped atoms left h sources some near =
    let P : List code_atom.Atom → Type 0 = λ rest. IsAble count (standing_with item level class base end_ rest) in
    let own : P left = record { source = sources 0 item (omega arith); atom = own_atom item.what (atoms_in items) left some; near = near } in
    All-cons (IsAble count) (standing_with item level class base end_ (rest_of skipped atoms)) (standings_of items levels classes bases breaks (drop 1 skipped) atoms) (subst P (sym h.0) own)
    (able_by count items levels classes bases breaks (drop 1 skipped) atoms (past item.what left) h.1 (λ k d lt. sources (suc k) d (omega arith)) (atoms_left item.what (atoms_in items) left some) (near_left item.what left near))

pub standings_able : (count : ℕ) (items : List PreparedItem) (levels : List ℕ) (classes : List BidiClass) (bases : List ℕ) (breaks : List Breaking) (skipped : List ℕ) (atoms : List code_atom.Atom)
    → skipped ≡ counted (length atoms) items → AreSources count items → atoms_in items ≤ length atoms → All IsNearAtom atoms → All (IsAble count) (standings_of items levels classes bases breaks skipped atoms)
standings_able count items levels classes bases breaks skipped atoms are sources some near =
    let P : List ℕ → Type 0 = λ s. AreSkipped items s atoms atoms in
    able_by count items levels classes bases breaks skipped atoms atoms (subst P (sym are) (counted_skip items atoms)) sources some near

-- ---- items that go forward

none_left : (skipped : List ℕ) (atoms : List code_atom.Atom) → length atoms ≡ 0 → length (rest_of skipped atoms) ≡ 0
none_left [] atoms none = none
none_left (count ∷ skipped) atoms none = let n = length-drop count atoms in omega arith

no_atom_goes : (atoms : List code_atom.Atom) → length atoms ≡ 0 → pos 0 ≤ℤ get_or (atom_extents (map atom_of atoms)) 0 (pos 0)
no_atom_goes [] none = omega (arith, ints)
no_atom_goes (atom ∷ atoms) none = absurd (omega arith)

advance_forward : (what : PreparedContent) (atoms : List code_atom.Atom) → HasBounds what → length atoms ≡ 0 → pos 0 ≤ℤ advance_of what (atom_extents (map atom_of atoms))
advance_forward (Unit form space node first end_ advance glyphs) atoms h none = h.0
advance_forward (Combined node first end_ advance natural glyphs) atoms h none = h.0
advance_forward (Atom name) atoms h none = no_atom_goes atoms none
advance_forward (Break node) atoms h none = omega (arith, ints)

pub standings_forward : (items : List PreparedItem) (levels : List ℕ) (classes : List BidiClass) (bases : List ℕ) (breaks : List Breaking) (skipped : List ℕ) (atoms : List code_atom.Atom)
    → All (λ item. HasBounds item.what) items → length atoms ≡ 0 → GoForward (standings_of items levels classes bases breaks skipped atoms)
standings_forward [] levels classes bases breaks skipped atoms bounds none = λ k d lt. absurd (omega arith)
standings_forward (item ∷ items) [] classes bases breaks skipped atoms bounds none = λ k d lt. absurd (omega arith)
standings_forward (item ∷ items) (level ∷ levels) [] bases breaks skipped atoms bounds none = λ k d lt. absurd (omega arith)
standings_forward (item ∷ items) (level ∷ levels) (class ∷ classes) [] breaks skipped atoms bounds none = λ k d lt. absurd (omega arith)
standings_forward (item ∷ items) (level ∷ levels) (class ∷ classes) (base ∷ bases) [] skipped atoms bounds none = λ k d lt. absurd (omega arith)
standings_forward (item ∷ items) (level ∷ levels) (class ∷ classes) (base ∷ bases) (end_ ∷ breaks) skipped atoms bounds none =
    All-cons (λ (standing : code.Standing). pos 0 ≤ℤ standing.extent) (standing_with item level class base end_ (rest_of skipped atoms)) (standings_of items levels classes bases breaks (drop 1 skipped) atoms)
    (advance_forward item.what (rest_of skipped atoms) (bounds 0 item (omega arith)) (none_left skipped atoms none))
    (standings_forward items levels classes bases breaks (drop 1 skipped) atoms (λ k d lt. bounds (suc k) d (omega arith)) none)

alone_goes : (standing : code.Standing) → pos 0 ≤ℤ standing.extent → IsForward (fill_alone standing)
alone_goes standing h = record { advance = h; before = omega (arith, ints); after = omega (arith, ints) }

pub alone_forward : (standings : List code.Standing) → GoForward standings → All IsForward (map fill_alone standings)
alone_forward [] h = λ k d lt. absurd (omega arith)
alone_forward (standing ∷ standings) h =
    All-cons IsForward (fill_alone standing) (map fill_alone standings) (alone_goes standing (h 0 standing (omega arith))) (alone_forward standings (λ k d lt. h (suc k) d (omega arith)))
