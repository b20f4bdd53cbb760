-- Each rule leaves as many classes as it takes.
use Rattle.std.proofs.Common.{◌≡◌, ◌∙◌, refl, sym, ap, arith, inl, inr, ℕ, zero, suc, ◌+◌, ◌<◌, Bool, true, false, cond, List, [], ◌∷◌, length, get_or, map, Option, Some, None}
use Rattle.std.specs.Prelude.{All}
use Rattle.std.proofs.lemmas.List.{length-map}
use Rattle.std.proofs.lemmas.Bool.{cases_Bool}
use Rattle.wm_chars.specs.declared.classes.BidiClass.{BidiClass}
use Rattle.wm_chars.specs.declared.classes.BidiClass.TheVariants.{L, R}
use Rattle.bidi_resolve.specs.Brackets.{both_become, become, n0}
use Rattle.bidi_resolve.specs.Pairing.{Reading, begin, read, read_all, read_one, resolve_at, resolve_read}
use Rattle.wm_chars.specs.Classes.{is_neutral}
use Rattle.bidi_resolve.specs.Neutral.{is_even, n1, n2_class}
use Rattle.bidi_resolve.specs.Pairing.{IsWithin}
use Rattle.bidi_resolve.specs.Passes.{each}
use Rattle.bidi_resolve.specs.Sequence.{weak, resolved}
use Rattle.bidi_resolve.specs.Weak.{w1, w2, w3, w3_class, w4, w5, w6, w6_class}
use Rattle.bidi_resolve.proofs.BracketLaws.{length_become}
use Rattle.bidi_resolve.proofs.SortedPairs.{resolved_read}
use Rattle.bidi_resolve.proofs.PairingLaws.{read_within, within_wider, begin_within}

length_each : (rule : List BidiClass → BidiClass → List BidiClass → BidiClass) (before xs : List BidiClass) → length (each rule before xs) ≡ length xs
length_each rule before [] = refl
length_each rule before (x ∷ xs) = ap (λ (n : ℕ). suc n) (length_each rule (x ∷ before) xs)

-- ---- the pairs

read_all_within : (place : ℕ) (chars : List ℕ) (classes : List BidiClass) (reading : Reading) → IsWithin place reading → IsWithin (place + length classes) (read place chars classes reading)
read_all_within place [] classes reading within = within_wider place (place + length classes) reading (omega arith) within
read_all_within place (char ∷ chars) [] reading within = within_wider place (place + 0) reading (omega arith) within
read_all_within place (char ∷ chars) (class ∷ classes) reading within =
    within_wider ((place + 1) + length classes) (place + suc (length classes)) _ (omega arith) (read_all_within (place + 1) chars classes (read_one place char class reading) (read_within place char class reading within))

pub all_within : (chars : List ℕ) (classes : List BidiClass) → IsWithin (length classes) (read_all chars classes)
all_within chars classes = within_wider (0 + length classes) (length classes) _ (omega arith) (read_all_within 0 chars classes begin begin_within)

-- ---- what they become

length_both : (class : Option BidiClass) (place closing : ℕ) (originals cs : List BidiClass) → place < closing → closing < length cs → length (both_become class place closing originals cs) ≡ length cs
length_both None place closing originals cs behind lt = refl
length_both (Some class) place closing originals cs behind lt =
    let first = length_become class place originals cs (omega arith) in
    length_become class closing originals (become class place originals cs) (omega arith) ∙ first

length_at : (level : ℕ) (sos : BidiClass) (opening : ℕ) (closing : Option ℕ) (originals cs : List BidiClass) → ((b : ℕ) → closing ≡ Some b → (opening < b) × (b < length cs)) → length (resolve_at level sos opening closing originals cs) ≡ length cs
length_at level sos opening None originals cs behind = refl
length_at level sos opening (Some closing) originals cs behind = let both = behind closing refl in length_both _ opening closing originals cs both.0 both.1

length_pairs : (level : ℕ) (sos : BidiClass) (openings : List ℕ) (closings : List (Option ℕ)) (originals cs : List BidiClass)
    → ((k b : ℕ) → get_or closings k None ≡ Some b → (get_or openings k 0 < b) × (b < length cs)) → length (resolve_read level sos openings closings originals cs) ≡ length cs
length_pairs level sos [] closings originals cs behind = refl
length_pairs level sos (opening ∷ openings) [] originals cs behind = refl
length_pairs level sos (opening ∷ openings) (closing ∷ closings) originals cs behind =
    let same = length_at level sos opening closing originals cs (λ b e. behind zero b e) in
    length_pairs level sos openings closings originals (resolve_at level sos opening closing originals cs) (λ k b e. let h = behind (suc k) b e in (h.0, rw same h.1)) ∙ same

length_n0 : (level : ℕ) (sos : BidiClass) (chars : List ℕ) (originals classes : List BidiClass) → length (n0 level sos chars originals classes) ≡ length classes
length_n0 level sos chars originals classes =
    let within = all_within chars classes in
    ap length (sym (resolved_read level sos chars originals classes))
    ∙ length_pairs level sos (read_all chars classes).openings (read_all chars classes).closings originals classes (λ k b e. (within.behind k b e, within.closed k b e))

length_weak : (sos : BidiClass) (classes : List BidiClass) → length (weak sos classes) ≡ length classes
unfolding weak
length_weak sos classes =
    length_each _ [] (w6 (w5 (w4 (w3 (w2 sos (w1 sos classes))))))
    ∙ length-map (w5 (w4 (w3 (w2 sos (w1 sos classes))))) w6_class
    ∙ length_each _ [] (w4 (w3 (w2 sos (w1 sos classes))))
    ∙ length_each _ [] (w3 (w2 sos (w1 sos classes)))
    ∙ length-map (w2 sos (w1 sos classes)) w3_class
    ∙ length_each _ [] (w1 sos classes)
    ∙ length_each _ [] classes

pub length_resolved : (level : ℕ) (sos eos : BidiClass) (chars : List ℕ) (originals classes : List BidiClass) → length (resolved level sos eos chars originals classes) ≡ length classes
unfolding resolved
length_resolved level sos eos chars originals classes =
    length-map (n1 sos eos (n0 level sos chars originals (weak sos classes))) (n2_class level)
    ∙ length_each _ [] (n0 level sos chars originals (weak sos classes))
    ∙ length_n0 level sos chars originals (weak sos classes)
    ∙ length_weak sos classes

-- ---- no neutral is left

directed : (even : Bool) → is_neutral (cond even L R) ≡ false
directed true = refl
directed false = refl

none_neutral : (level : ℕ) (c : BidiClass) → is_neutral (n2_class level c) ≡ false
none_neutral level c = elim (cases_Bool (is_neutral c)) [
  | inl neutral ↦ rw neutral (directed (is_even level))
  | inr other ↦ rw (other, other) refl
]

all_resolved : (level : ℕ) (classes : List BidiClass) → All (λ c. is_neutral c ≡ false) (map (n2_class level) classes)
all_resolved level [] k d lt = absurd (omega arith)
all_resolved level (c ∷ classes) zero d lt = none_neutral level c
all_resolved level (c ∷ classes) (suc k) d lt = all_resolved level classes k d (omega arith)

pub no_neutral : (level : ℕ) (sos eos : BidiClass) (chars : List ℕ) (originals classes : List BidiClass) → All (λ c. is_neutral c ≡ false) (resolved level sos eos chars originals classes)
unfolding resolved
no_neutral level sos eos chars originals classes = all_resolved level (n1 sos eos (n0 level sos chars originals (weak sos classes)))
