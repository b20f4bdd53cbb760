-- Numbers of references, digit by digit.
use Rattle.std.proofs.Common.{◌≡◌, ℕ, zero, suc, ◌+◌, ◌-◌, ◌*◌, ◌<◌, ◌≤◌, true, false, List, [], ◌∷◌, None, refl, sym, ◌∙◌, arith}
use Rattle.std.specs.Prelude.{nat_lt, nat_le, ◌&&◌, ◌||◌}
use lib.Utf8.{scalar}
use Rattle.std.specs.Char.{digit_value}
use Rattle.reading.specs.Readers.{Read, next_is, one_of, IsAsciiFirst}
use Rattle.html_tokens.specs.Lexing.{number_from, number_end, may_follow}

digit_read : (base left value byte : ℕ) (after : List ℕ) → may_follow base left value byte ≡ true
    → number_from base (suc left) value (byte ∷ after) ≡ number_from base left (base * value + digit_value byte) after
unfolding number_from one_of
digit_read base left value byte after e = rw e refl

no_digit : (base left value : ℕ) (text : List ℕ) → next_is (may_follow base left value) text ≡ false → number_from base (suc left) value text ≡ number_end value text
unfolding number_from
no_digit base left value text e = rw e refl

pub number_goes_on : (base most read value next : ℕ) (rest after : List ℕ) (total : Read ℕ) → read < most
    → (byte : ℕ) × (rest ≡ byte ∷ after) × (may_follow base (most - 1 - read) value byte ≡ true) × (next ≡ base * value + digit_value byte)
    → number_from base (most - read) value rest ≡ total → number_from base (most - (read + 1)) next after ≡ total
number_goes_on base most read value next rest after total lt d so_far =
    let left : most - read ≡ suc (most - 1 - read) = omega arith in
    let fewer : most - (read + 1) ≡ most - 1 - read = omega arith in
    let here : number_from base (most - read) value rest ≡ number_from base (most - 1 - read) next after =
    rw (left, d.1, d.3) (digit_read base (most - 1 - read) value d.0 after d.2) in
    rw fewer (sym here ∙ so_far)

pub number_stops : (base most read value : ℕ) (rest : List ℕ) (total : Read ℕ) → read < most → next_is (may_follow base (most - 1 - read) value) rest ≡ false
    → number_from base (most - read) value rest ≡ total → number_end value rest ≡ total
number_stops base most read value rest total lt none so_far =
    let left : most - read ≡ suc (most - 1 - read) = omega arith in
    let here : number_from base (most - read) value rest ≡ number_end value rest = rw left (no_digit base (most - 1 - read) value rest none) in
    sym here ∙ so_far

digits_none : (base value : ℕ) (rest : List ℕ) → number_from base zero value rest ≡ number_end value rest
unfolding number_from
digits_none base value rest = refl

pub number_ends : (base most read value : ℕ) (rest : List ℕ) (total : Read ℕ) → most ≤ read → number_from base (most - read) value rest ≡ total → number_end value rest ≡ total
number_ends base most read value rest total le so_far =
    let none : most - read ≡ zero = omega arith in
    sym (rw none (digits_none base value rest)) ∙ so_far

-- ---- the next digit

none_wide : (base left value byte : ℕ) → base ≤ 16 → 128 ≤ byte → may_follow base left value byte ≡ false
none_wide base left value byte le wide =
    let high : digit_value byte ≡ 36 = grind arith in
    let no : nat_lt (digit_value byte) base ≡ false = rw high (grind arith) in
    rw no refl

pub digit_none : (base left value : ℕ) (text : List ℕ) → base ≤ 16 → IsAsciiFirst None text → next_is (may_follow base left value) text ≡ false
digit_none base left value [] le none = refl
digit_none base left value (byte ∷ after) le none = none_wide base left value byte le none

pub digit_other : (base left value byte digit next : ℕ) (text after : List ℕ) → text ≡ byte ∷ after → digit ≡ digit_value byte → next ≡ base * value + digit
    → (nat_lt digit base && nat_le next 0x10FFFF && (scalar next || nat_lt 0 left)) ≡ false → next_is (may_follow base left value) text ≡ false
digit_other base left value byte digit next text after first is made e =
    let here : may_follow base left value byte ≡ false = rw (← is) (rw (← made) e) in
    rw first here
