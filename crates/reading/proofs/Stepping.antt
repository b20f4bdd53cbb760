-- The readers one step at a time, as the loops of the code take them.
use Rattle.std.proofs.Common.{◌≡◌, ℕ, zero, suc, ◌+◌, ◌-◌, ◌*◌, ◌<◌, ◌≤◌, ◌^◌, Bool, true, false, cond, List, [], ◌∷◌, length, get_or, drop, Ok, Err, refl, sym, ap, ◌∙◌, arith, add-one}
use Rattle.std.specs.Char.{is_ascii_digit, to_ascii_lowercase}
use Rattle.std.proofs.lemmas.Bool.{eq-eqb, ne_eqb}
use Rattle.std.proofs.lemmas.List.{drop_all, drop_more}
use Rattle.std.proofs.Math.Nat.{pow-le-pow_right, pow-suc}
use Rattle.reading.specs.Readers.{Read, strip, strip_either_case, one_of}
use Rattle.reading.specs.Decimals.{more_digits}

-- ---- a fixed text

strip_same : (wanted byte : ℕ) (text after : List ℕ) → byte ≡ wanted → strip (wanted ∷ text) (byte ∷ after) ≡ strip text after
unfolding strip
strip_same wanted byte text after e = rw (eq-eqb byte wanted e) refl

strip_other : (wanted byte : ℕ) (text after : List ℕ) → (byte ≡ wanted → ⊥) → strip (wanted ∷ text) (byte ∷ after) ≡ Err (byte ∷ after)
unfolding strip
strip_other wanted byte text after n = rw (ne_eqb byte wanted n) refl

strip_none : (wanted : ℕ) (text : List ℕ) → strip (wanted ∷ text) [] ≡ Err []
unfolding strip
strip_none wanted text = refl

-- the text from a place within it on

pub strip_goes_on : (text bytes rest after : List ℕ) (i byte : ℕ) → i < length text → rest ≡ byte ∷ after → byte ≡ get_or text i 0
    → strip (drop i text) rest ≡ strip text bytes → strip (drop (i + 1) text) after ≡ strip text bytes
strip_goes_on text bytes rest after i byte lt first e so_far =
    let here : strip (drop i text) rest ≡ strip (drop (i + 1) text) after =
    rw (drop_more text i 0 lt, first) (strip_same (get_or text i 0) byte (drop (i + 1) text) after e) in
    sym here ∙ so_far

pub strip_differs : (text bytes rest after : List ℕ) (i byte : ℕ) → i < length text → rest ≡ byte ∷ after → (byte ≡ get_or text i 0 → ⊥)
    → strip (drop i text) rest ≡ strip text bytes → strip text bytes ≡ Err rest
strip_differs text bytes rest after i byte lt first n so_far =
    let here : strip (drop i text) rest ≡ Err rest =
    rw (drop_more text i 0 lt, first) (strip_other (get_or text i 0) byte (drop (i + 1) text) after n) in
    sym so_far ∙ here

pub strip_ends : (text bytes rest : List ℕ) (i : ℕ) → i < length text → rest ≡ [] → strip (drop i text) rest ≡ strip text bytes → strip text bytes ≡ Err rest
strip_ends text bytes rest i lt none so_far =
    let here : strip (drop i text) rest ≡ Err rest =
    rw (drop_more text i 0 lt, none) (strip_none (get_or text i 0) (drop (i + 1) text)) in
    sym so_far ∙ here

strip_nothing : (rest : List ℕ) → strip [] rest ≡ Ok (tt, rest)
unfolding strip
strip_nothing rest = refl

pub strip_is_done : (text bytes rest : List ℕ) (i : ℕ) → length text ≤ i → strip (drop i text) rest ≡ strip text bytes → strip text bytes ≡ Ok (tt, rest)
strip_is_done text bytes rest i le so_far =
    let none : drop i text ≡ [] = drop_all i text le in
    sym so_far ∙ ap (λ (t : List ℕ). strip t rest) none ∙ strip_nothing rest

-- ---- a text in either case

cased_same : (wanted byte : ℕ) (text after : List ℕ) → to_ascii_lowercase byte ≡ wanted → strip_either_case (wanted ∷ text) (byte ∷ after) ≡ strip_either_case text after
unfolding strip_either_case
cased_same wanted byte text after e = rw (eq-eqb (to_ascii_lowercase byte) wanted e) refl

cased_other : (wanted byte : ℕ) (text after : List ℕ) → (to_ascii_lowercase byte ≡ wanted → ⊥) → strip_either_case (wanted ∷ text) (byte ∷ after) ≡ Err (byte ∷ after)
unfolding strip_either_case
cased_other wanted byte text after n = rw (ne_eqb (to_ascii_lowercase byte) wanted n) refl

cased_none : (wanted : ℕ) (text : List ℕ) → strip_either_case (wanted ∷ text) [] ≡ Err []
unfolding strip_either_case
cased_none wanted text = refl

pub cased_goes_on : (text bytes rest after : List ℕ) (i byte : ℕ) → i < length text → rest ≡ byte ∷ after → to_ascii_lowercase byte ≡ get_or text i 0
    → strip_either_case (drop i text) rest ≡ strip_either_case text bytes → strip_either_case (drop (i + 1) text) after ≡ strip_either_case text bytes
cased_goes_on text bytes rest after i byte lt first e so_far =
    let here : strip_either_case (drop i text) rest ≡ strip_either_case (drop (i + 1) text) after =
    rw (drop_more text i 0 lt, first) (cased_same (get_or text i 0) byte (drop (i + 1) text) after e) in
    sym here ∙ so_far

pub cased_differs : (text bytes rest after : List ℕ) (i byte : ℕ) → i < length text → rest ≡ byte ∷ after → (to_ascii_lowercase byte ≡ get_or text i 0 → ⊥)
    → strip_either_case (drop i text) rest ≡ strip_either_case text bytes → strip_either_case text bytes ≡ Err rest
cased_differs text bytes rest after i byte lt first n so_far =
    let here : strip_either_case (drop i text) rest ≡ Err rest =
    rw (drop_more text i 0 lt, first) (cased_other (get_or text i 0) byte (drop (i + 1) text) after n) in
    sym so_far ∙ here

pub cased_ends : (text bytes rest : List ℕ) (i : ℕ) → i < length text → rest ≡ [] → strip_either_case (drop i text) rest ≡ strip_either_case text bytes → strip_either_case text bytes ≡ Err rest
cased_ends text bytes rest i lt none so_far =
    let here : strip_either_case (drop i text) rest ≡ Err rest =
    rw (drop_more text i 0 lt, none) (cased_none (get_or text i 0) (drop (i + 1) text)) in
    sym so_far ∙ here

cased_nothing : (rest : List ℕ) → strip_either_case [] rest ≡ Ok (tt, rest)
unfolding strip_either_case
cased_nothing rest = refl

pub cased_is_done : (text bytes rest : List ℕ) (i : ℕ) → length text ≤ i → strip_either_case (drop i text) rest ≡ strip_either_case text bytes → strip_either_case text bytes ≡ Ok (tt, rest)
cased_is_done text bytes rest i le so_far =
    let none : drop i text ≡ [] = drop_all i text le in
    sym so_far ∙ ap (λ (t : List ℕ). strip_either_case t rest) none ∙ cased_nothing rest

-- ---- digits

abbrev ok_byte : ℕ × List ℕ → Read ℕ
ok_byte x = Ok x

abbrev err_byte : List ℕ → Read ℕ
err_byte left = Err left

-- the test's answer apart
digit_by : (most high b byte : ℕ) (bs after : List ℕ) (t : Bool) → is_ascii_digit b ≡ t → cond t (Ok (b, bs)) (Err (b ∷ bs)) ≡ ok_byte (byte, after) → cond t (more_digits most (10 * high + (b - 48)) bs) (Ok (high, b ∷ bs)) ≡ more_digits most (10 * high + (byte - 48)) after
digit_by most high b byte bs after true test e =
    let pair : (b, bs) ≡ (byte, after) = cc in
    ap (λ (x : ℕ × List ℕ). more_digits most (10 * high + (x.0 - 48)) x.1) pair
digit_by most high b byte bs after false test e = absurd cc

no_digit_by : (most high b : ℕ) (bs left : List ℕ) (t : Bool) → is_ascii_digit b ≡ t → cond t (Ok (b, bs)) (Err (b ∷ bs)) ≡ err_byte left → cond t (more_digits most (10 * high + (b - 48)) bs) (Ok (high, b ∷ bs)) ≡ Ok (high, b ∷ bs)
no_digit_by most high b bs left true test e = absurd cc
no_digit_by most high b bs left false test e = refl

pub digit_goes_on : (most high byte : ℕ) (rest after : List ℕ) → one_of is_ascii_digit rest ≡ Ok (byte, after) → more_digits (suc most) high rest ≡ more_digits most (10 * high + (byte - 48)) after
unfolding more_digits one_of
digit_goes_on most high byte [] after e = absurd cc
digit_goes_on most high byte (b ∷ bs) after e = digit_by most high b byte bs after (is_ascii_digit b) refl e

pub digit_stops : (most high : ℕ) (rest left : List ℕ) → one_of is_ascii_digit rest ≡ Err left → more_digits most high rest ≡ Ok (high, rest)
unfolding more_digits one_of
digit_stops zero high rest left e = refl
digit_stops (suc most) high [] left e = refl
digit_stops (suc most) high (b ∷ bs) left e = no_digit_by most high b bs left (is_ascii_digit b) refl e

-- one digit more below a power of ten
pub one_more : (value digit count : ℕ) → value < 10 ^ count → digit < 10 → 10 * value + digit < 10 ^ (count + 1)
one_more value digit count lt d =
    let power : 10 ^ (count + 1) ≡ 10 ^ count * 10 = rw add-one (pow-suc 10 count) in
    omega (arith, power)

pub wider : (value count most : ℕ) → value < 10 ^ count → count ≤ most → value < 10 ^ most
wider value count most lt le =
    let power : 10 ^ count ≤ 10 ^ most = pow-le-pow_right (omega arith) le in
    omega (arith, power)

-- room for one digit more
pub has_room : (value count : ℕ) → value < 10 ^ count → count ≤ 8 → value < 100000000
has_room value count lt le =
    let power : 10 ^ count ≤ 10 ^ 8 = pow-le-pow_right (omega arith) le in
    omega (arith, power)

pub digits_go_on : (most counter value byte : ℕ) (rest after : List ℕ) (total : Read ℕ) → counter < most → one_of is_ascii_digit rest ≡ Ok (byte, after)
    → more_digits (most - counter) value rest ≡ total → more_digits (most - (counter + 1)) (10 * value + (byte - 48)) after ≡ total
digits_go_on most counter value byte rest after total lt here so_far =
    let left : most - counter ≡ suc (most - (counter + 1)) = omega arith in
    sym (rw left (digit_goes_on (most - (counter + 1)) value byte rest after here)) ∙ so_far

pub digits_stop : (most counter value : ℕ) (rest left : List ℕ) (total : Read ℕ) → one_of is_ascii_digit rest ≡ Err left
    → more_digits (most - counter) value rest ≡ total → total ≡ Ok (value, rest)
digits_stop most counter value rest left total here so_far = sym so_far ∙ digit_stops (most - counter) value rest left here

digits_none : (value : ℕ) (rest : List ℕ) → more_digits 0 value rest ≡ Ok (value, rest)
unfolding more_digits
digits_none value rest = refl

pub digits_are_done : (most counter value : ℕ) (rest : List ℕ) (total : Read ℕ) → most ≤ counter → more_digits (most - counter) value rest ≡ total → total ≡ Ok (value, rest)
digits_are_done most counter value rest total le so_far =
    let none : most - counter ≡ 0 = omega arith in
    sym so_far ∙ rw none (digits_none value rest)
