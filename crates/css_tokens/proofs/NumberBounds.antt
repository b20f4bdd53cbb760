-- How great numbers are.
use Rattle.std.proofs.Common.{◌≡◌, ℕ, zero, suc, ◌<◌, ◌≤◌, ◌+◌, ◌*◌, Bool, true, false, cond, ℤ, List, [], ◌∷◌, refl, sym, subst, arith}
use Rattle.std.specs.Prelude.{nat_lt, unsigned_abs}
use Rattle.std.specs.Char.{is_ascii_digit, digit_value}
use Rattle.reading.specs.Grammars.{AllPass}
use Rattle.css_tokens.specs.Grammar.{AreDecimals, IsNumber}
use Rattle.css_tokens.specs.Numbers.{first_decimals, hundredths_of, number_from, signed}

digit_is_small : (byte : ℕ) → is_ascii_digit byte ≡ true → digit_value byte < 10
digit_is_small byte e = grind arith

decimals_are_small : (decimals : List ℕ) → AllPass is_ascii_digit decimals → first_decimals decimals < 100
decimals_are_small [] pass = omega arith
decimals_are_small (tenths ∷ []) pass = omega (arith, digit_is_small tenths pass.0)
decimals_are_small (tenths ∷ hundredths ∷ decimals) pass = omega (arith, digit_is_small tenths pass.0, digit_is_small hundredths pass.1.0)

are_digits : (text behind decimals : List ℕ) → AreDecimals text behind decimals → AllPass is_ascii_digit decimals
are_digits text behind [] are = tt
are_digits text behind (digit ∷ digits) are = are.1

hundredths_by : (whole part : ℕ) (t : Bool) → nat_lt whole 10000000 ≡ t → part < 100 → cond t (whole * 100 + part) 999999999 ≤ 999999999
hundredths_by whole part true is lt = grind arith
hundredths_by whole part false is lt = omega arith

hundredths_are_small : (whole decimals : List ℕ) → first_decimals decimals < 100 → hundredths_of whole decimals ≤ 999999999
hundredths_are_small whole decimals lt = hundredths_by (number_from 0 whole) (first_decimals decimals) (nat_lt (number_from 0 whole) 10000000) refl lt

signed_are_small : (negative : Bool) (n : ℕ) → n ≤ 999999999 → unsigned_abs (signed negative n) ≤ 999999999
signed_are_small true zero le = le
signed_are_small true (suc n) le = le
signed_are_small false n le = le

pub number_is_small : (text behind : List ℕ) (n : ℤ) → IsNumber text behind n → unsigned_abs n ≤ 999999999
number_is_small text behind n is =
    subst (λ (z : ℤ). unsigned_abs z ≤ 999999999) (sym is.value)
    (signed_are_small is.negative (hundredths_of is.digits is.decimals) (hundredths_are_small is.digits is.decimals (decimals_are_small is.decimals (are_digits is.fraction behind is.decimals is.are_decimals))))
