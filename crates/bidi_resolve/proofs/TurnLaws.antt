-- Sequences one after the other.
use Rattle.std.proofs.Common.{◌≡◌, ◌≢◌, ◌∙◌, refl, sym, ap, arith, inl, inr, ℕ, zero, suc, ◌+◌, ◌<◌, Bool, true, false, eqb, eq-eqb, List, [], ◌∷◌, ◌++◌, length, length-append, get_or, map}
use Rattle.std.specs.List.{AllByRecursion, IsDistinct, concat}
use Rattle.std.specs.List.Sorted.{IsPermutation}
use Rattle.std.specs.Prelude.{All, fold}
use Rattle.std.proofs.lemmas.Bool.{cases_Bool, eqb-true, eqb-false}
use Rattle.std.proofs.lemmas.List.{get_or_append_left, get_or-append-add}
use Rattle.std.proofs.lemmas.Map.Keys.{IsDistinct-IsPermutation}
use Rattle.std.proofs.lemmas.List.Elements.{All-tail}
use Rattle.wm_chars.specs.declared.classes.BidiClass.{BidiClass}
use Rattle.wm_chars.specs.declared.classes.BidiClass.TheVariants.{L}
use Rattle.bidi_explicit.specs.Sequences.{kept_places}
use Rattle.bidi_explicit.specs.Sequences.{Sequence, kept_from}
use Rattle.bidi_resolve.specs.Laws.{Lists, resolved_next, AreApartFrom, AreApart}
use Rattle.bidi_resolve.specs.Paragraph.{resolved_from}
use Rattle.bidi_resolve.specs.Places.{gathered, scattered, run_level}
use Rattle.bidi_resolve.specs.Sequence.{sequence_classes, sequence_levels}
use Rattle.bidi_resolve.proofs.PlaceLaws.{outside}

-- ---- lists that are the same at these places

abbrev SameAt : {X : Type 0} → List X → List X → List ℕ → Type 0
SameAt {X} xs ys places = All (λ p. (d : X) → get_or xs p d ≡ get_or ys p d) places

gathered_same : {X : Type 0} (d : X) (xs ys : List X) (places : List ℕ) → SameAt xs ys places → gathered d xs places ≡ gathered d ys places
gathered_same d xs ys [] same = refl
gathered_same d xs ys (p ∷ places) same =
    let first = same zero p (omega arith) d in
    let rest = gathered_same d xs ys places (All-tail (λ q. (e : _) → get_or xs q e ≡ get_or ys q e) p places same) in
    rw (first, rest) refl

level_same : (xs ys : List ℕ) (places : List ℕ) → SameAt xs ys places → run_level xs places ≡ run_level ys places
level_same xs ys [] same = refl
level_same xs ys (p ∷ places) same = same zero p (omega arith) 0

classes_same : (chars : List ℕ) (originals : List BidiClass) (levels levels' : List ℕ) (classes classes' : List BidiClass) (sequence : Sequence) → SameAt levels levels' sequence.places → SameAt classes classes' sequence.places
    → sequence_classes chars originals levels classes sequence ≡ sequence_classes chars originals levels' classes' sequence
unfolding sequence_classes
classes_same chars originals levels levels' classes classes' sequence same_levels same_classes =
    let level = level_same levels levels' sequence.places same_levels in
    let gathered = gathered_same L classes classes' sequence.places same_classes in
    rw (level, gathered) refl

levels_same : (chars : List ℕ) (originals : List BidiClass) (levels levels' : List ℕ) (classes classes' : List BidiClass) (sequence : Sequence) → SameAt levels levels' sequence.places → SameAt classes classes' sequence.places
    → sequence_levels chars originals levels classes sequence ≡ sequence_levels chars originals levels' classes' sequence
unfolding sequence_levels
levels_same chars originals levels levels' classes classes' sequence same_levels same_classes =
    let level = level_same levels levels' sequence.places same_levels in
    let same = classes_same chars originals levels levels' classes classes' sequence same_levels same_classes in
    rw (level, same) refl

-- ---- in turn

abbrev SameForAll : {X : Type 0} → List X → List X → List Sequence → Type 0
SameForAll xs ys [] = Unit {0}
SameForAll xs ys (s ∷ sequences) = SameAt xs ys s.places × SameForAll xs ys sequences

all_refl : {X : Type 0} (xs : List X) (sequences : List Sequence) → SameForAll xs xs sequences
all_refl xs [] = tt
all_refl xs (s ∷ sequences) = (λ k d lt e. refl, all_refl xs sequences)

all_written : {X : Type 0} (places : List ℕ) (new xs ys : List X) (sequences : List Sequence) → AreApartFrom places sequences → SameForAll xs ys sequences → SameForAll (scattered places new xs) ys sequences
all_written places new xs ys [] apart same = tt
all_written places new xs ys (s ∷ sequences) apart same =
    (λ k d lt e. outside places new xs (get_or s.places k d) e (apart.0 k d lt) ∙ same.0 k d lt e, all_written places new xs ys sequences apart.1 same.1)

in_turn : (chars : List ℕ) (originals : List BidiClass) (levels : List ℕ) (classes : List BidiClass) (sequences : List Sequence) (lists : Lists) → AreApart sequences → SameForAll lists.levels levels sequences → SameForAll lists.classes classes sequences
    → (fold (resolved_next chars originals) lists sequences).levels ≡ resolved_from chars originals levels classes sequences lists.levels
in_turn chars originals levels classes [] lists apart same_levels same_classes = refl
in_turn chars originals levels classes (s ∷ sequences) lists apart same_levels same_classes =
    in_turn chars originals levels classes sequences (resolved_next chars originals lists s) apart.1
    (all_written s.places (sequence_levels chars originals lists.levels lists.classes s) lists.levels levels sequences apart.0 same_levels.1)
    (all_written s.places (sequence_classes chars originals lists.levels lists.classes s) lists.classes classes sequences apart.0 same_classes.1)
    ∙ ap (λ (new : List ℕ). resolved_from chars originals levels classes sequences (scattered s.places new lists.levels)) (levels_same chars originals lists.levels levels lists.classes classes s same_levels.0 same_classes.0)

pub may_come_in_turn : (chars : List ℕ) (originals : List BidiClass) (levels : List ℕ) (classes : List BidiClass) (sequences : List Sequence) → AreApart sequences
    → (fold (resolved_next chars originals) (record { levels = levels; classes = classes }) sequences).levels ≡ resolved_from chars originals levels classes sequences levels
may_come_in_turn chars originals levels classes sequences apart =
    in_turn chars originals levels classes sequences (record { levels = levels; classes = classes }) apart (all_refl levels sequences) (all_refl classes sequences)

-- ---- what covers is apart

differ : (a b : ℕ) → a ≢ b → eqb a b ≡ false
differ a b other = elim (cases_Bool (eqb a b)) [
  | inl same ↦ absurd (other (eqb-true a b same))
  | inr is ↦ is
]

flips : (a b : ℕ) → eqb a b ≡ eqb b a
flips a b = elim (cases_Bool (eqb a b)) [
  | inl same ↦ same ∙ sym (eq-eqb b a (sym (eqb-true a b same)))
  | inr other ↦ other ∙ sym (differ b a (λ e. eqb-false a b other (sym e)))
]

above : (p at : ℕ) (marks : List Bool) → p < at → AllByRecursion (λ q. eqb p q ≡ false) (kept_from at marks)
above p at [] lt = tt
above p at (true ∷ marks) lt = above p (at + 1) marks (omega arith)
above p at (false ∷ marks) lt = (differ p at (λ e. omega arith), above p (at + 1) marks (omega arith))

kept_distinct : (at : ℕ) (marks : List Bool) → IsDistinct eqb (kept_from at marks)
unfolding IsDistinct
kept_distinct at [] = tt
kept_distinct at (true ∷ marks) = kept_distinct (at + 1) marks
kept_distinct at (false ∷ marks) = (above at (at + 1) marks (omega arith), kept_distinct (at + 1) marks)

-- no element of the one list is one of the other
abbrev AreCrosswise : List ℕ → List ℕ → Type 0
AreCrosswise xs ys = (i j d e : ℕ) → i < length xs → j < length ys → get_or xs i d ≢ get_or ys j e

by_index : (x : ℕ) (ys : List ℕ) → AllByRecursion (λ q. eqb x q ≡ false) ys → (j e : ℕ) → j < length ys → x ≢ get_or ys j e
by_index x [] all j e lt = absurd (omega arith)
by_index x (y ∷ ys) all zero e lt = eqb-false x y all.0
by_index x (y ∷ ys) all (suc j) e lt = by_index x ys all.1 j e (omega arith)

right_part : (P : ℕ → Type 0) (xs ys : List ℕ) → AllByRecursion P (xs ++ ys) → AllByRecursion P ys
right_part P [] ys all = all
right_part P (x ∷ xs) ys all = right_part P xs ys all.1

right_distinct : (xs ys : List ℕ) → IsDistinct eqb (xs ++ ys) → IsDistinct eqb ys
unfolding IsDistinct
right_distinct [] ys d = d
right_distinct (x ∷ xs) ys d = right_distinct xs ys d.1

crosswise : (xs ys : List ℕ) → IsDistinct eqb (xs ++ ys) → AreCrosswise xs ys
unfolding IsDistinct
crosswise [] ys d i j e f lt lt' = absurd (omega arith)
crosswise (x ∷ xs) ys d zero j e f lt lt' = by_index x ys (right_part (λ q. eqb x q ≡ false) xs ys d.0) j f lt'
crosswise (x ∷ xs) ys d (suc i) j e f lt lt' = crosswise xs ys d.1 i j e f (omega arith) lt'

left_cross : (xs ys zs : List ℕ) → AreCrosswise xs (ys ++ zs) → AreCrosswise xs ys
left_cross xs ys zs cross i j d e lt lt' =
    let many = length-append ys zs in
    rw (← get_or_append_left ys zs e j lt') (cross i j d e lt (omega arith))

right_cross : (xs ys zs : List ℕ) → AreCrosswise xs (ys ++ zs) → AreCrosswise xs zs
right_cross xs ys zs cross i j d e lt lt' =
    let many = length-append ys zs in
    rw (← get_or-append-add ys zs j e) (cross i (length ys + j) d e lt (omega arith))

apart_from : (places : List ℕ) (sequences : List Sequence) → AreCrosswise places (concat (map (λ s. s.places) sequences)) → AreApartFrom places sequences
apart_from places [] cross = tt
apart_from places (s ∷ sequences) cross =
    let here = left_cross places s.places (concat (map (λ t. t.places) sequences)) cross in
    (λ j e lt' i d lt same. here i j d e lt lt' (sym same), apart_from places sequences (right_cross places s.places (concat (map (λ t. t.places) sequences)) cross))

apart : (sequences : List Sequence) → IsDistinct eqb (concat (map (λ s. s.places) sequences)) → AreApart sequences
apart [] d = tt
apart (s ∷ sequences) d =
    (apart_from s.places sequences (crosswise s.places (concat (map (λ t. t.places) sequences)) d), apart sequences (right_distinct s.places (concat (map (λ t. t.places) sequences)) d))

pub apart_where_they_cover : (marks : List Bool) (sequences : List Sequence) → IsPermutation (kept_places marks) (concat (map (λ s. s.places) sequences)) → AreApart sequences
apart_where_they_cover marks sequences cover = apart sequences (IsDistinct-IsPermutation eqb flips (kept_places marks) (concat (map (λ s. s.places) sequences)) cover (kept_distinct 0 marks))
