-- What the levels of a paragraph rest on.
use Rattle.std.proofs.Common.{◌≡◌, arith, inl, inr, ℕ, zero, suc, ◌+◌, ◌%◌, ◌<◌, ◌≤◌, List, [], ◌∷◌, length, set, map}
use Rattle.std.specs.Prelude.{All, IfOk, Result, Ok, Err, slice_index}
use Rattle.std.proofs.lemmas.Bool.{cases_Bool, eqb-true}
use Rattle.std.proofs.lemmas.List.Elements.{All-set, All-tail}
use Rattle.wm_chars.specs.declared.classes.BidiClass.{BidiClass}
use Rattle.wm_chars.specs.declared.classes.BidiClass.TheVariants.{L, R, EN, AN}
use Rattle.bidi_explicit.specs.Paragraph.{IsBetween}
use Rattle.bidi_resolve.specs.Neutral.{is_even, i1, i2, raised, i1_i2}
use Rattle.bidi_explicit.specs.Sequences.{Sequence}
use Rattle.bidi_resolve.specs.Paragraph.{IsResolvedLevel, resolved_from}
use Rattle.bidi_resolve.specs.Sequence.{sequence_classes, sequence_levels}
use Rattle.bidi_resolve.specs.Places.{scattered, run_level}

-- ---- the bounds

two : (n : ℕ) → n ≤ 2 → (m : ℕ) → (m ≤ m + n) × (m + n ≤ m + 2)
two n low m = (omega arith, omega arith)

i1_two : (c : BidiClass) → i1 c ≤ 2
i1_two R = omega arith
i1_two AN = omega arith
i1_two EN = omega arith
i1_two c = omega arith

i2_one : (c : BidiClass) → i2 c ≤ 1
i2_one L = omega arith
i2_one AN = omega arith
i2_one EN = omega arith
i2_one c = omega arith

by_two : (level : ℕ) (c : BidiClass) → (level ≤ raised level c) × (raised level c ≤ level + 2)
by_two level c = elim (cases_Bool (is_even level)) [
  | inl even ↦ rw even (two (i1 c) (i1_two c) level)
  | inr odd ↦ rw odd (two (i2 c) (let up : i2 c ≤ 1 = i2_one c in omega arith) level)
]

-- an even level is 124 at most
most_raised : (level : ℕ) (c : BidiClass) → level ≤ 125 → raised level c ≤ 126
most_raised level c most = elim (cases_Bool (is_even level)) [
  | inl even ↦
      let parity : level % 2 ≡ 0 = eqb-true (level % 2) 0 even in
      let up : i1 c ≤ 2 = i1_two c in
      rw even (omega arith)
  | inr odd ↦
      let up : i2 c ≤ 1 = i2_one c in
      rw odd (omega arith)
]

raised_between : (base level : ℕ) (c : BidiClass) → IsBetween base level → IsResolvedLevel base (raised level c)
raised_between base level c between =
    let low = between.low in
    let high = between.high in
    let rise = by_two level c in
    let up = rise.0 in
    record { low = omega arith; high = most_raised level c high }

set_between : (base : ℕ) (p level : ℕ) (out : List ℕ) → IsResolvedLevel base level → All (IsResolvedLevel base) out → All (IsResolvedLevel base) (set out p level)
set_between base p level out is all = All-set (IsResolvedLevel base) out p level is all

scattered_between : (base : ℕ) (places new out : List ℕ) → All (IsResolvedLevel base) new → All (IsResolvedLevel base) out → All (IsResolvedLevel base) (scattered places new out)
scattered_between base [] new out all_new all_out = all_out
scattered_between base (p ∷ places) [] out all_new all_out = all_out
scattered_between base (p ∷ places) (level ∷ new) out all_new all_out =
    scattered_between base places new (set out p level) (λ k d lt. all_new (suc k) d (omega arith)) (set_between base p level out (all_new zero level (omega arith)) all_out)

pub all_raised : (base level : ℕ) (classes : List BidiClass) → IsBetween base level → All (IsResolvedLevel base) (i1_i2 level classes)
all_raised base level [] between k d lt = absurd (omega arith)
all_raised base level (c ∷ classes) between zero d lt = raised_between base level c between
all_raised base level (c ∷ classes) between (suc k) d lt = all_raised base level classes between k d (omega arith)

-- one sequence, whose first place has one of the levels
written_between : (base : ℕ) (levels places out : List ℕ) (classes : List BidiClass) → All (IsBetween base) levels → All (λ p. p < length levels) places → All (IsResolvedLevel base) out
    → All (IsResolvedLevel base) (scattered places (i1_i2 (run_level levels places) classes) out)
written_between base levels [] out classes between within all = all
written_between base levels (p ∷ places) out classes between within all =
    scattered_between base (p ∷ places) (i1_i2 (slice_index levels p) classes) out (all_raised base (slice_index levels p) classes (between p 0 (within zero p (omega arith)))) all

-- explicit levels are within the bounds
explicit_between : (base : ℕ) (levels : List ℕ) → All (IsBetween base) levels → All (IsResolvedLevel base) levels
explicit_between base levels between k d lt =
    let h = between k d lt in
    let low = h.low in
    let high = h.high in
    record { low = omega arith; high = omega arith }

-- and so they stay, sequence by sequence, whatever holds the sequences and tells each by a function
from_between : {X : Type 0} (seq : X → Sequence) (base : ℕ) (chars : List ℕ) (originals : List BidiClass) (levels : List ℕ) (classes : List BidiClass) (runs : List X) (out : List ℕ) → All (IsBetween base) levels
    → All (λ run. All (λ p. p < length levels) (seq run).places) runs → All (IsResolvedLevel base) out → All (IsResolvedLevel base) (resolved_from chars originals levels classes (map seq runs) out)
unfolding sequence_levels
from_between seq base chars originals levels classes [] out between within all = all
from_between seq base chars originals levels classes (run ∷ runs) out between within all =
    from_between seq base chars originals levels classes runs (scattered (seq run).places (sequence_levels chars originals levels classes (seq run)) out) between
    (All-tail (λ r. All (λ p. p < length levels) (seq r).places) run runs within)
    (written_between base levels (seq run).places out (sequence_classes chars originals levels classes (seq run)) between (within zero run (omega arith)) all)

pub all_between : {X : Type 0} (seq : X → Sequence) (base : ℕ) (chars : List ℕ) (originals : List BidiClass) (levels : List ℕ) (classes : List BidiClass) (runs : List X) → All (IsBetween base) levels
    → All (λ run. All (λ p. p < length levels) (seq run).places) runs → All (IsResolvedLevel base) (resolved_from chars originals levels classes (map seq runs) levels)
all_between seq base chars originals levels classes runs between within = from_between seq base chars originals levels classes runs levels between within (explicit_between base levels between)

pub if_ok : {X E : Type 0} (P Q : X → Type 0) (result : Result X E) → ((x : X) → P x → Q x) → IfOk result P → IfOk result Q
if_ok P Q (Ok x) so holds = so x holds
if_ok P Q (Err e) so holds = tt
