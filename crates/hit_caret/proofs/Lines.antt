-- The lines of a text, from its first one on.
use Rattle.std.proofs.Common.{◌≡◌, refl, sym, ap, ◌∙◌, ℕ, suc, ◌+◌, ◌-◌, ◌<◌, ◌≤◌, ◌⊎◌, inl, inr, Bool, true, false, cond, not, List, [], ◌∷◌, ◌++◌, length, take, drop, get_or, Ok, Err, arith}
use Rattle.std.specs.Prelude.{Result}
use Rattle.std.specs.List.{after_first, before_first, onto_first, position_or_len, slice_split}
use Rattle.std.specs.Str.Lines.{strip_carriage_return}
use Rattle.std.proofs.lemmas.Bool.{ne_eqb}
use Rattle.std.proofs.lemmas.List.{drop_all, length-drop, length-take-le, take_all}
use Rattle.std.proofs.lemmas.List.Splits.{slice_split-cons_no, slice_split_first}
use Rattle.std.proofs.Math.Nat.{eq-or-lt_of_le}
use Rattle.std.proofs.Math.Seq.{take-suc}
use Rattle.hit_caret.specs.declared.error.Refusal.{Refusal}
use Rattle.hit_caret.specs.declared.probes.Probe.{Probe}
use Rattle.hit_caret.specs.Probing.{Said, at_place, is_lf, lines_from, with_line}

-- ---- the first line

abbrev place_of_lf : List ℕ → ℕ
place_of_lf bytes = position_or_len is_lf bytes

pub whole_line : (bytes : List ℕ) → place_of_lf bytes ≡ length bytes → bytes ≡ before_first is_lf bytes
whole_line bytes none = sym (take_all (place_of_lf bytes) bytes (omega (arith, none)))

pub no_line_after : (bytes : List ℕ) → place_of_lf bytes ≡ length bytes → [] ≡ after_first is_lf bytes
no_line_after bytes none = sym (drop_all (place_of_lf bytes + 1) bytes (omega (arith, none)))

one_by : (byte : ℕ) (bytes : List ℕ) (t : Bool) → is_lf byte ≡ t → cond (not t) (1 + place_of_lf bytes) 0 ≡ length (byte ∷ bytes)
    → (place_of_lf bytes ≡ length bytes → slice_split is_lf bytes ≡ bytes ∷ []) → slice_split is_lf (byte ∷ bytes) ≡ (byte ∷ bytes) ∷ []
one_by byte bytes true e none later = absurd (omega (arith, none))
one_by byte bytes false e none later = slice_split-cons_no is_lf byte bytes e ∙ ap (onto_first byte) (later (omega (arith, none)))

one_line : (bytes : List ℕ) → place_of_lf bytes ≡ length bytes → slice_split is_lf bytes ≡ bytes ∷ []
one_line [] none = refl
one_line (byte ∷ bytes) none = one_by byte bytes (is_lf byte) refl none (one_line bytes)

place_by : (byte : ℕ) (bytes : List ℕ) (t : Bool) → place_of_lf bytes ≤ length bytes → cond (not t) (1 + place_of_lf bytes) 0 ≤ length (byte ∷ bytes)
place_by byte bytes true le = omega arith
place_by byte bytes false le = omega (arith, le)

place_within : (bytes : List ℕ) → place_of_lf bytes ≤ length bytes
place_within [] = omega arith
place_within (byte ∷ bytes) = place_by byte bytes (is_lf byte) (place_within bytes)

-- ---- the CR at the end

last_byte : (byte : ℕ) (bytes : List ℕ) → byte ∷ bytes ≡ take (length (byte ∷ bytes) - 1) (byte ∷ bytes) ++ get_or (byte ∷ bytes) (length (byte ∷ bytes) - 1) 0 ∷ []
last_byte byte bytes =
    sym (take_all (suc (length (byte ∷ bytes) - 1)) (byte ∷ bytes) (omega arith)) ∙ take-suc (byte ∷ bytes) (length (byte ∷ bytes) - 1) 0 (omega arith)

pub no_cr : (line : List ℕ) → ((front : List ℕ) → line ≡ front ++ 13 ∷ [] → ⊥) → line ≡ strip_carriage_return line
no_cr [] none = refl
no_cr (byte ∷ bytes) none =
    sym (ap (λ (t : Bool). cond t (take (length (byte ∷ bytes) - 1) (byte ∷ bytes)) (byte ∷ bytes))
    (ne_eqb (get_or (byte ∷ bytes) (length (byte ∷ bytes) - 1) 0) 13
    (λ cr. none (take (length (byte ∷ bytes) - 1) (byte ∷ bytes)) (last_byte byte bytes ∙ ap (λ (b : ℕ). take (length (byte ∷ bytes) - 1) (byte ∷ bytes) ++ b ∷ []) cr))))

-- ---- reading the first line and then the others

abbrev Answer : Type 0
Answer = Result (List Probe) (Refusal × ℕ)

abbrev pub asked : List Probe → Answer
asked probes = Ok probes

no_lines : (place : ℕ) (before : List Probe) → lines_from place before [] ≡ asked before
unfolding lines_from
no_lines place before = refl

abbrev read_so : List Probe → Said
read_so probes = Ok probes

blank_end : (before : List Probe) → with_line before [] ≡ read_so before
unfolding with_line
blank_end before = refl

line_then : (place : ℕ) (before : List Probe) (line : List ℕ) (others : List (List ℕ))
    → lines_from place before (line ∷ others) ≡ at_place place (with_line before line) (λ next. lines_from (place + length line + 1) next others)
unfolding lines_from
line_then place before line others = refl

-- behind the last LF, or the last line
pub at_end : (place : ℕ) (before : List Probe) → lines_from place before (slice_split is_lf []) ≡ asked before
at_end place before =
    line_then place before [] [] ∙ ap (λ (s : Said). at_place place s (λ next. lines_from (place + 0 + 1) next [])) (blank_end before) ∙ no_lines (place + 0 + 1) before

-- the place of what stands behind the first line
abbrev next_place : (place : ℕ) (rest : List ℕ) → ℕ
next_place place rest = place + (length rest - length (after_first is_lf rest))

first_behind : (place : ℕ) (before : List Probe) (line others : List ℕ) (long : ℕ) (said : Said) → with_line before line ≡ said → place + length line + 1 ≡ long
    → lines_from place before (line ∷ slice_split is_lf others) ≡ at_place place said (λ next. lines_from long next (slice_split is_lf others))
first_behind place before line others long said read is =
    line_then place before line (slice_split is_lf others)
    ∙ ap (λ (n : ℕ). at_place place (with_line before line) (λ next. lines_from n next (slice_split is_lf others))) is
    ∙ ap (λ (s : Said). at_place place s (λ next. lines_from long next (slice_split is_lf others))) read

last_then : (place other : ℕ) (said : Said) → at_place place said (λ next. lines_from (place + other + 1) next []) ≡ at_place place said (λ next. lines_from (place + other) next (slice_split is_lf []))
last_then place other (Ok next) = no_lines (place + other + 1) next ∙ sym (at_end (place + other) next)
last_then place other (Err kind) = refl

ends_so : (place : ℕ) (before : List Probe) (rest line after : List ℕ) → rest ≡ line → [] ≡ after
    → at_place place (with_line before rest) (λ next. lines_from (place + length rest) next (slice_split is_lf []))
    ≡ at_place place (with_line before line) (λ next. lines_from (place + (length rest - length after)) next (slice_split is_lf after))
ends_so place before rest line after is none =
    let same : place + length rest ≡ place + (length rest - 0) = omega arith in
    rw (sym is, sym none) (ap (λ (n : ℕ). at_place place (with_line before rest) (λ next. lines_from n next (slice_split is_lf []))) same)

long_so : (place : ℕ) (rest : List ℕ) → place_of_lf rest < length rest → place + length (before_first is_lf rest) + 1 ≡ next_place place rest
long_so place rest lt =
    let front : length (take (place_of_lf rest) rest) ≡ place_of_lf rest = length-take-le (place_of_lf rest) rest (omega (arith, lt)) in
    let back : length (drop (place_of_lf rest + 1) rest) ≡ length rest - (place_of_lf rest + 1) = length-drop (place_of_lf rest + 1) rest in
    omega (arith, front, back, lt)

first_by : (place : ℕ) (before : List Probe) (rest : List ℕ) → (place_of_lf rest ≡ length rest) ⊎ (place_of_lf rest < length rest)
    → lines_from place before (slice_split is_lf rest)
    ≡ at_place place (with_line before (before_first is_lf rest)) (λ next. lines_from (next_place place rest) next (slice_split is_lf (after_first is_lf rest)))
first_by place before rest (inl none) =
    ap (lines_from place before) (one_line rest none)
    ∙ line_then place before rest []
    ∙ last_then place (length rest) (with_line before rest)
    ∙ ends_so place before rest (before_first is_lf rest) (after_first is_lf rest) (whole_line rest none) (no_line_after rest none)
first_by place before rest (inr lt) =
    ap (lines_from place before) (slice_split_first is_lf rest 0 lt)
    ∙ first_behind place before (before_first is_lf rest) (after_first is_lf rest) (next_place place rest) (with_line before (before_first is_lf rest)) refl (long_so place rest lt)

pub first_then : (place : ℕ) (before : List Probe) (rest : List ℕ)
    → lines_from place before (slice_split is_lf rest)
    ≡ at_place place (with_line before (before_first is_lf rest)) (λ next. lines_from (next_place place rest) next (slice_split is_lf (after_first is_lf rest)))
first_then place before rest = first_by place before rest (eq-or-lt_of_le (place_within rest))

pub fewer_after : (rest : List ℕ) → 0 < length rest → length (after_first is_lf rest) < length rest
fewer_after rest some =
    let back : length (drop (place_of_lf rest + 1) rest) ≡ length rest - (place_of_lf rest + 1) = length-drop (place_of_lf rest + 1) rest in
    omega (arith, back, some)
