-- What a sequence writes and what it leaves.
use Rattle.std.proofs.Common.{◌≡◌, ◌≢◌, ◌∙◌, refl, ap, arith, ℕ, zero, suc, ◌+◌, ◌<◌, List, [], ◌∷◌, ◌++◌, length, get_or, take, drop, set, reverse, append_assoc}
use Rattle.std.specs.Prelude.{All}
use Rattle.std.proofs.lemmas.List.{length-set, get_or-set_same, get_or-set_other, reverse-append}
use Rattle.std.proofs.lemmas.List.Elements.{All-tail}
use Rattle.wm_chars.specs.declared.classes.BidiClass.{BidiClass}
use Rattle.bidi_explicit.specs.Sequences.{Rises}
use Rattle.bidi_resolve.specs.Passes.{each}
use Rattle.bidi_resolve.specs.Places.{gathered, scattered}

pub outside : {X : Type 0} (places : List ℕ) (new xs : List X) (k : ℕ) (d : X) → All (λ p. k ≢ p) places → get_or (scattered places new xs) k d ≡ get_or xs k d
outside [] new xs k d apart = refl
outside (p ∷ places) [] xs k d apart = refl
outside (p ∷ places) (x ∷ new) xs k d apart =
    outside places new (set xs p x) k d (All-tail (λ q. k ≢ q) p places apart) ∙ get_or-set_other xs p k x d (apart zero p (omega arith))

above : (p : ℕ) (places : List ℕ) → All (λ q. p < q) places → All (λ q. p ≢ q) places
above p places rise k d lt same = let h = rise k d lt in absurd (omega arith)

length_scattered : {X : Type 0} (places : List ℕ) (new xs : List X) → length (scattered places new xs) ≡ length xs
length_scattered [] new xs = refl
length_scattered (p ∷ places) [] xs = refl
length_scattered (p ∷ places) (x ∷ new) xs = length_scattered places new (set xs p x) ∙ length-set xs p x

-- what was written to the first place stays there
first_stays : {X : Type 0} (p : ℕ) (places : List ℕ) (x : X) (new xs : List X) (d : X) → All (λ q. p < q) places → p < length xs
    → get_or (scattered places new (set xs p x)) p d ≡ x
first_stays p places x new xs d rise lt = outside places new (set xs p x) p d (above p places rise) ∙ get_or-set_same xs p x d lt

pub inside : {X : Type 0} (d : X) (places : List ℕ) (new xs : List X) → Rises places → All (λ p. p < length xs) places → length new ≡ length places
    → gathered d (scattered places new xs) places ≡ new
inside d [] [] xs rise within many = refl
inside d [] (x ∷ new) xs rise within many = absurd (omega arith)
inside d (p ∷ places) [] xs rise within many = absurd (omega arith)
inside d (p ∷ places) (x ∷ new) xs rise within many =
    let first = first_stays p places x new xs d rise.0 (within zero p (omega arith)) in
    let rest = inside d places new (set xs p x) rise.1 (λ k e lt. let h = within (suc k) e (omega arith) in rw (length-set xs p x) h) (omega arith) in
    rw (first, rest) refl

-- what stands at a place behind a rule
pub each_at : (rule : List BidiClass → BidiClass → List BidiClass → BidiClass) (before xs : List BidiClass) (k : ℕ) (d : BidiClass) → k < length xs
    → get_or (each rule before xs) k d ≡ rule (reverse (take k xs) ++ before) (get_or xs k d) (drop (k + 1) xs)
each_at rule before [] k d lt = absurd (omega arith)
each_at rule before (x ∷ xs) zero d lt = refl
each_at rule before (x ∷ xs) (suc k) d lt =
    let back : reverse (x ∷ take k xs) ++ before ≡ reverse (take k xs) ++ x ∷ before = ap (λ l. l ++ before) (reverse-append (x ∷ []) (take k xs)) ∙ append_assoc (reverse (take k xs)) (x ∷ []) before in
    let n : suc k + 1 ≡ suc (k + 1) = omega arith in
    let next : drop (suc k + 1) (x ∷ xs) ≡ drop (k + 1) xs = ap (λ (m : ℕ). drop m (x ∷ xs)) n in
    rw (back, next) (each_at rule (x ∷ before) xs k d (omega arith))
