-- Decimal numbers without a sign.
use Rattle.std.specs.Prelude.{◌≡◌, ⊤, ℕ, zero, suc, ◌+◌, ◌-◌, ◌*◌, ◌<◌, ◌≤◌, false, if◌then◌else◌, List, [], ◌∷◌, length, fold, All, Ok}
use Rattle.std.specs.Char.{IsAsciiDigit, is_ascii_digit}
use Rattle.reading.specs.Readers.{Reader, follow, refuse, one_of}

-- the number that decimal digits stand for, behind digits that stand for `high`
abbrev pub digits_from : ℕ → List ℕ → ℕ
digits_from high digits = fold (λ value digit. 10 * value + (digit - 48)) high digits

-- the number that decimal digits stand for
abbrev pub digits_value : List ℕ → ℕ
digits_value digits = digits_from 0 digits

-- one to `most` decimal digits, and the number that they stand for
pub record IsDecimal (most : ℕ) (text : List ℕ) (number : ℕ) : Type 0 where
  pub some : 0 < length text
  pub few : length text ≤ most
  pub digits : All IsAsciiDigit text
  pub value : number ≡ digits_value text

-- the bytes don't go on with a digit
abbrev pub NoDigit : List ℕ → Type 0
NoDigit [] = ⊤
NoDigit (byte ∷ bytes) = is_ascii_digit byte ≡ false

-- at most `most` digits, behind digits that stand for `high`
unfoldable pub more_digits : ℕ → ℕ → Reader ℕ
more_digits zero high bytes = Ok (high, bytes)
more_digits (suc most) high [] = Ok (high, [])
more_digits (suc most) high (byte ∷ bytes) = if is_ascii_digit byte then more_digits most (10 * high + (byte - 48)) bytes else Ok (high, byte ∷ bytes)

-- one to `most` digits
unfoldable pub number : ℕ → Reader ℕ
number zero = refuse
number (suc most) = follow (one_of is_ascii_digit) (λ digit. more_digits most (digit - 48))
