-- Numbers, in hundredths. CSS Syntax 3, 4.3.12, without an exponent.
use Rattle.std.specs.Prelude.{ℕ, ◌+◌, ◌*◌, nat_lt, Bool, true, false, ◌==◌, if◌then◌else◌, ℤ, pos, neg_ℤ, List, [], ◌∷◌, codes}
use Rattle.std.specs.Char.{digit_value, is_ascii_digit}
use Rattle.reading.specs.Readers.{Reader, give, follow, mapped, choice, strip, one_of, next_is, run_of, can_read}
use Rattle.css_tokens.specs.Characters.{is_plus_or_minus}

-- the number that decimal digits stand for, behind `high` from the digits before them
abbrev pub number_from : (high : ℕ) → List ℕ → ℕ
number_from high [] = high
number_from high (digit ∷ digits) = number_from (high * 10 + digit_value digit) digits

-- the first two decimals, as hundredths; those behind them are dropped
abbrev pub first_decimals : List ℕ → ℕ
first_decimals [] = 0
first_decimals (tenths ∷ []) = digit_value tenths * 10
first_decimals (tenths ∷ hundredths ∷ decimals) = digit_value tenths * 10 + digit_value hundredths

-- a number of more than seven digits before the point counts as 9,999,999.99
abbrev pub hundredths_of : (whole decimals : List ℕ) → ℕ
hundredths_of whole decimals = if nat_lt (number_from 0 whole) 10000000 then number_from 0 whole * 100 + first_decimals decimals else 999999999

abbrev pub signed : (negative : Bool) → ℕ → ℤ
signed false n = pos n
signed true n = neg_ℤ (pos n)

-- a sign or none: whether it is `-`
unfoldable pub sign : Reader Bool
sign = choice (next_is is_plus_or_minus) (mapped (λ byte. byte == 45) (one_of is_plus_or_minus)) (give false)

-- a point directly before a digit
unfoldable pub point : Reader ℕ
point = follow (strip (codes ".")) (λ u. one_of is_ascii_digit)

-- a number can be read: a digit comes, or a point and a digit, behind a sign or none
unfoldable pub number_ahead : List ℕ → Bool
number_ahead bytes = can_read (follow sign (λ negative. choice (next_is is_ascii_digit) (one_of is_ascii_digit) point)) bytes

-- the decimals behind a point, where digits stand there
unfoldable pub decimals : Reader (List ℕ)
decimals = choice (can_read point) (follow (strip (codes ".")) (λ u. run_of is_ascii_digit)) (give [])

-- a number, where one can be read: as long as it can be
unfoldable pub number : Reader ℤ
number = follow sign (λ negative. follow (run_of is_ascii_digit) (λ whole. mapped (λ part. signed negative (hundredths_of whole part)) decimals))
