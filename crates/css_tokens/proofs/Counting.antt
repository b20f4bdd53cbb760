-- Numbers, digit by digit.
use Rattle.std.proofs.Common.{◌≡◌, ℕ, ◌<◌, ◌≤◌, ◌+◌, ◌*◌, ◌-◌, Bool, true, false, cond, List, [], ◌∷◌, ◌++◌, length, codes, Ok, Err, refl, sym, ap, ◌∙◌, append_assoc, append-nil, arith}
use Rattle.std.specs.Prelude.{ℤ, min, nat_lt, ⊤}
use Rattle.std.specs.Char.{is_ascii_digit, digit_value}
use Rattle.reading.specs.Readers.{follow, choice, strip, one_of, run_of, with_byte, next_is, can_read}
use Rattle.reading.specs.Cuts.{ReadsFront}
use Rattle.reading.proofs.SpellLaws.{ok, stop, one_of_spells, bind_ok, same_answer}
use Rattle.reading.proofs.Shorter.{strip_shortens}
use Rattle.reading.proofs.Running.{with_front, no_front, longer_front, IsRunning, running_goes_on}
use Rattle.css_tokens.proofs.Running.{run_shorter, run_strict}
use Rattle.css_tokens.specs.Cuts.{Counts}
use Rattle.css_tokens.specs.Numbers.{sign, point, number_ahead, number_from, first_decimals, decimals, hundredths_of, signed, number}

ahead_by : (text rest : List ℕ) (negative : Bool) → sign text ≡ Ok (negative, rest) → number_ahead text ≡ can_read (choice (next_is is_ascii_digit) (one_of is_ascii_digit) point) rest
unfolding number_ahead
ahead_by text rest negative e = rw e refl

digit_is_ahead : (rest : List ℕ) → next_is is_ascii_digit rest ≡ true → can_read (choice (next_is is_ascii_digit) (one_of is_ascii_digit) point) rest ≡ true
unfolding one_of
digit_is_ahead [] e = absurd cc
digit_is_ahead (byte ∷ after) e = rw e refl

point_is_ahead : (rest : List ℕ) → next_is is_ascii_digit rest ≡ false → can_read (choice (next_is is_ascii_digit) (one_of is_ascii_digit) point) rest ≡ can_read point rest
point_is_ahead rest e = rw e refl

-- by a digit behind the sign, or by a point
pub ahead_by_digit : (text rest : List ℕ) (negative : Bool) → sign text ≡ Ok (negative, rest) → next_is is_ascii_digit rest ≡ true → number_ahead text ≡ true
ahead_by_digit text rest negative e digit = ahead_by text rest negative e ∙ digit_is_ahead rest digit

pub ahead_by_point : (text rest : List ℕ) (negative : Bool) → sign text ≡ Ok (negative, rest) → next_is is_ascii_digit rest ≡ false → number_ahead text ≡ can_read point rest
ahead_by_point text rest negative e none = ahead_by text rest negative e ∙ point_is_ahead rest none

-- ---- digits, one by one

pub first_digit : (bytes after : List ℕ) (byte : ℕ) → one_of is_ascii_digit bytes ≡ Ok (byte, after) → (bytes ≡ byte ∷ after) × (is_ascii_digit byte ≡ true)
first_digit bytes after byte e =
    let t = (one_of_spells is_ascii_digit).takes bytes byte after e in
    (t.2 ∙ ap (λ (text : List ℕ). text ++ after) t.1.0, t.1.1)

no_digit_by : (byte : ℕ) (after left : List ℕ) (t : Bool) → is_ascii_digit byte ≡ t → cond t (ok (byte, after)) (stop (byte ∷ after)) ≡ stop left → is_ascii_digit byte ≡ false
no_digit_by byte after left true is e = absurd cc
no_digit_by byte after left false is e = is

pub no_digit : (bytes left : List ℕ) → one_of is_ascii_digit bytes ≡ Err left → next_is is_ascii_digit bytes ≡ false
unfolding one_of
no_digit [] left e = refl
no_digit (byte ∷ after) left e = no_digit_by byte after left (is_ascii_digit byte) refl e

-- the digits so far, and what they stand for
pub record IsCounting (text : List ℕ) (value : ℕ) (rest : List ℕ) : Type 0 where
  pub front : List ℕ
  pub parts : text ≡ front ++ rest
  pub same : run_of is_ascii_digit text ≡ with_front front (run_of is_ascii_digit rest)
  pub counted : value ≡ min (number_from 0 front) 10000000

pub counting_starts : (text : List ℕ) → IsCounting text 0 text
counting_starts text = record { front = []; parts = refl; same = sym (no_front (run_of is_ascii_digit text)); counted = refl }

step : (byte : ℕ) (after : List ℕ) → is_ascii_digit byte ≡ true → run_of is_ascii_digit (byte ∷ after) ≡ with_byte byte (run_of is_ascii_digit after)
unfolding run_of
step byte after e = rw e refl

number_behind : (high : ℕ) (front : List ℕ) (byte : ℕ) → number_from high (front ++ byte ∷ []) ≡ number_from high front * 10 + digit_value byte
number_behind high [] byte = refl
number_behind high (digit ∷ front) byte = number_behind (high * 10 + digit_value digit) front byte

digit_is : (byte : ℕ) → is_ascii_digit byte ≡ true → digit_value byte ≡ byte - 48
digit_is byte e = grind arith

capped : (number value digit : ℕ) → value ≡ min number 10000000 → min 10000000 (10 * value + digit) ≡ min (number * 10 + digit) 10000000
capped number value digit e = omega arith

pub counting_goes_on : (text rest after : List ℕ) (value later byte : ℕ) → IsCounting text value rest → one_of is_ascii_digit rest ≡ Ok (byte, after) → later ≡ min 10000000 (10 * value + (byte - 48)) → IsCounting text later after
counting_goes_on text rest after value later byte now e is =
    let first = first_digit rest after byte e in
    let number : number_from 0 (now.front ++ byte ∷ []) ≡ number_from 0 now.front * 10 + (byte - 48) =
    number_behind 0 now.front byte ∙ ap (λ (d : ℕ). number_from 0 now.front * 10 + d) (digit_is byte first.1) in
    record {
      front = now.front ++ byte ∷ [];
      parts = now.parts ∙ ap (λ (r : List ℕ). now.front ++ r) first.0 ∙ sym (append_assoc now.front (byte ∷ []) after);
      same = now.same ∙ ap (λ (r : List ℕ). with_front now.front (run_of is_ascii_digit r)) first.0 ∙ ap (with_front now.front) (step byte after first.1) ∙ longer_front now.front byte (run_of is_ascii_digit after);
      counted = is ∙ capped (number_from 0 now.front) value (byte - 48) now.counted ∙ ap (λ (n : ℕ). min n 10000000) (sym number);
    }

run_over : (rest : List ℕ) → next_is is_ascii_digit rest ≡ false → run_of is_ascii_digit rest ≡ Ok ([], rest)
unfolding run_of
run_over [] e = refl
run_over (byte ∷ after) e = rw e refl

front_over : (front rest : List ℕ) → with_front front (Ok ([], rest)) ≡ Ok (front, rest)
unfolding with_front
front_over front rest = ap (λ (run : List ℕ). Ok (run, rest)) (append-nil front)

pub counting_ends : (text rest left : List ℕ) (value : ℕ) → IsCounting text value rest → one_of is_ascii_digit rest ≡ Err left → Counts (λ digits. min (number_from 0 digits) 10000000) (run_of is_ascii_digit text) value rest
counting_ends text rest left value now e =
    (now.front, now.same ∙ ap (with_front now.front) (run_over rest (no_digit rest left e)) ∙ front_over now.front rest, now.counted)

-- ---- digits that count no more

pub running_on : (text rest after : List ℕ) (byte : ℕ) → IsRunning is_ascii_digit text rest → one_of is_ascii_digit rest ≡ Ok (byte, after) → IsRunning is_ascii_digit text after
running_on text rest after byte now e =
    let first = first_digit rest after byte e in
    running_goes_on byte after now first.0 first.1

pub running_over : (text rest left : List ℕ) → IsRunning is_ascii_digit text rest → one_of is_ascii_digit rest ≡ Err left → ReadsFront (run_of is_ascii_digit text) text rest
running_over text rest left now e =
    (now.front, now.same ∙ ap (with_front now.front) (run_over rest (no_digit rest left e)) ∙ front_over now.front rest, now.parts)

-- ---- decimals

pub no_decimal : (text left : List ℕ) → one_of is_ascii_digit text ≡ Err left → Counts first_decimals (run_of is_ascii_digit text) 0 text
no_decimal text left e = ([], run_over text (no_digit text left e), refl)

run_behind : (text rest run end_ : List ℕ) (byte : ℕ) → one_of is_ascii_digit text ≡ Ok (byte, rest) → run_of is_ascii_digit rest ≡ Ok (run, end_) → run_of is_ascii_digit text ≡ Ok (byte ∷ run, end_)
run_behind text rest run end_ byte e more =
    let first = first_digit text rest byte e in
    ap (run_of is_ascii_digit) first.0 ∙ step byte rest first.1 ∙ ap (with_byte byte) more

pub one_decimal : (text rest left : List ℕ) (byte value : ℕ) → one_of is_ascii_digit text ≡ Ok (byte, rest) → one_of is_ascii_digit rest ≡ Err left → value ≡ 10 * (byte - 48)
    → Counts first_decimals (run_of is_ascii_digit text) value rest
one_decimal text rest left byte value e none is =
    let tenths : digit_value byte ≡ byte - 48 = digit_is byte (first_digit text rest byte e).1 in
    (byte ∷ [], run_behind text rest [] rest byte e (run_over rest (no_digit rest left none)), omega arith)

pub two_decimals : (text rest after end_ : List ℕ) (byte other value : ℕ) → one_of is_ascii_digit text ≡ Ok (byte, rest) → one_of is_ascii_digit rest ≡ Ok (other, after)
    → ReadsFront (run_of is_ascii_digit after) after end_ → value ≡ 10 * (byte - 48) + (other - 48) → Counts first_decimals (run_of is_ascii_digit text) value end_
two_decimals text rest after end_ byte other value e f read is =
    let tenths : digit_value byte ≡ byte - 48 = digit_is byte (first_digit text rest byte e).1 in
    let hundredths : digit_value other ≡ other - 48 = digit_is other (first_digit rest after other f).1 in
    (byte ∷ (other ∷ read.0), run_behind text rest (other ∷ read.0) end_ byte e (run_behind rest after read.0 end_ other f read.1), omega arith)

pub no_point : (text left : List ℕ) → strip (codes ".") text ≡ Err left → Counts first_decimals (decimals text) 0 text
unfolding decimals point
no_point text left e = ([], rw e refl, refl)

no_digit_read : (rest : List ℕ) → next_is is_ascii_digit rest ≡ false → can_read (one_of is_ascii_digit) rest ≡ false
unfolding one_of
no_digit_read [] e = refl
no_digit_read (byte ∷ after) e = rw e refl

digit_read : (rest : List ℕ) → next_is is_ascii_digit rest ≡ true → can_read (one_of is_ascii_digit) rest ≡ true
unfolding one_of
digit_read [] e = absurd cc
digit_read (byte ∷ after) e = rw e refl

pub point_alone : (text rest : List ℕ) → strip (codes ".") text ≡ Ok (tt, rest) → next_is is_ascii_digit rest ≡ false → Counts first_decimals (decimals text) 0 text
unfolding decimals point
point_alone text rest e none = ([], rw (e, no_digit_read rest none) refl, refl)

decimals_by : (text rest : List ℕ) → strip (codes ".") text ≡ Ok (tt, rest) → next_is is_ascii_digit rest ≡ true → decimals text ≡ run_of is_ascii_digit rest
unfolding decimals point
decimals_by text rest e some = rw (e, digit_read rest some) refl

pub point_and_digit : (text rest end_ : List ℕ) (value : ℕ) → strip (codes ".") text ≡ Ok (tt, rest) → next_is is_ascii_digit rest ≡ true
    → Counts first_decimals (run_of is_ascii_digit rest) value end_ → Counts first_decimals (decimals text) value end_
point_and_digit text rest end_ value e some read = (read.0, decimals_by text rest e some ∙ read.1, read.2)

-- ---- numbers

hundredths_by : (n whole part hundredths : ℕ) (t : Bool) → nat_lt n 10000000 ≡ t → whole ≡ min n 10000000 → hundredths ≡ cond (nat_lt whole 10000000) (whole * 100 + part) 999999999 → hundredths ≡ cond t (n * 100 + part) 999999999
hundredths_by n whole part hundredths true lt is e = grind arith
hundredths_by n whole part hundredths false lt is e = grind arith

pub number_by : (text r1 r2 r3 : List ℕ) (negative : Bool) (count part hundredths : ℕ) (n : ℤ) → sign text ≡ Ok (negative, r1)
    → Counts (λ digits. min (number_from 0 digits) 10000000) (run_of is_ascii_digit r1) count r2 → Counts first_decimals (decimals r2) part r3
    → hundredths ≡ cond (nat_lt count 10000000) (count * 100 + part) 999999999 → n ≡ signed negative hundredths → number text ≡ Ok (n, r3)
unfolding number
number_by text r1 r2 r3 negative count part hundredths n e whole decimal is value =
    let same : hundredths ≡ hundredths_of whole.0 decimal.0 =
    rw (← decimal.2) (hundredths_by (number_from 0 whole.0) count part hundredths (nat_lt (number_from 0 whole.0) 10000000) refl whole.2 is) in
    rw (e, whole.1, decimal.1, value, same) refl

-- ---- a number takes bytes where one can be read

decimals_by_point : (text : List ℕ) → can_read point text ≡ true → decimals text ≡ follow (strip (codes ".")) (λ u. run_of is_ascii_digit) text
unfolding decimals
decimals_by_point text e = rw e refl

decimals_strict : (text part rest : List ℕ) → can_read point text ≡ true → decimals text ≡ Ok (part, rest) → length rest < length text
decimals_strict text part rest e read =
    let b = bind_ok (strip (codes ".") text) (λ (x : ⊤ × List ℕ). run_of is_ascii_digit x.1) (part, rest) (sym (decimals_by_point text e) ∙ read) in
    omega (arith, strip_shortens (codes ".") text b.0.1 b.1, run_shorter is_ascii_digit b.0.1 part rest b.2)

strict_by : (text r1 r2 r3 digits part : List ℕ) (negative t : Bool) → next_is is_ascii_digit r1 ≡ t → sign text ≡ Ok (negative, r1) → run_of is_ascii_digit r1 ≡ Ok (digits, r2) → decimals r2 ≡ Ok (part, r3)
    → length r1 ≤ length text → length r2 ≤ length r1 → length r3 ≤ length r2 → number_ahead text ≡ true → length r3 < length text
strict_by text r1 r2 r3 digits part negative true some e f g a b c ahead = omega (arith, run_strict is_ascii_digit r1 digits r2 some f)
strict_by text r1 r2 r3 digits part negative false none e f g a b c ahead =
    let point_ : can_read point r1 ≡ true = sym (ahead_by_point text r1 negative e none) ∙ ahead in
    let same = same_answer {E = List ℕ} digits [] r2 r1 (sym f ∙ run_over r1 none) in
    let here : decimals r1 ≡ Ok (part, r3) = rw same.1 at g in
    omega (arith, decimals_strict r1 part r3 point_ here)

pub number_strict : (text r1 r2 r3 : List ℕ) (negative : Bool) (count part : ℕ) → sign text ≡ Ok (negative, r1) → Counts (λ digits. min (number_from 0 digits) 10000000) (run_of is_ascii_digit r1) count r2
    → Counts first_decimals (decimals r2) part r3 → length r1 ≤ length text → length r2 ≤ length r1 → length r3 ≤ length r2 → number_ahead text ≡ true → length r3 < length text
number_strict text r1 r2 r3 negative count part e f g a b c ahead = strict_by text r1 r2 r3 f.0 g.0 negative (next_is is_ascii_digit r1) refl e f.1 g.1 a b c ahead
