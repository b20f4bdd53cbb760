-- References: what is read is spelled so, and what is spelled so is read.
use Rattle.std.proofs.Common.{◌≡◌, inl, inr, ℕ, zero, suc, ◌+◌, ◌*◌, ◌<◌, ◌≤◌, Bool, true, false, cond, ltb, ◌&&◌, ◌||◌, List, [], ◌∷◌, ◌++◌, length, codes, Ok, refl, sym, ap, subst, ◌∙◌, append_assoc, arith}
use Rattle.std.specs.Prelude.{⊤, nat_lt, nat_le, fold}
use Rattle.std.specs.Char.{IsScalar, digit_value}
use Rattle.std.proofs.lemmas.Bool.{lt-ltb, le-leb, and_parts}
use Rattle.std.proofs.Math.Nat.{mul-le-mul_right}
use Rattle.std.proofs.Math.Utf8.{scalar, scalar_cases}
use Rattle.reading.specs.Readers.{◌>>=◌, give, refuse, mapped, strip, starts, one_of, next_is}
use Rattle.reading.specs.Grammars.{AllPass}
use Rattle.reading.specs.Spelling.{Anything, Spells}
use Rattle.reading.specs.Words.{all_differ, differs_from}
use Rattle.reading.proofs.SpellLaws.{ok, stop, bind_ok, same_answer, strip_takes, strip_again, strip_spells, one_of_spells, follow_spells, choice_spells}
use Rattle.reading.proofs.WordLaws.{one_word_spells, differ_stops, differs_in}
use Rattle.html_tokens.specs.Characters.{entities}
use Rattle.html_tokens.specs.Lexing.{may_follow, number_end, number_from, scalar_number, is_x, number_reference, reference}
use Rattle.html_tokens.specs.Grammar.{IsScalarNumber, IsNumberReference, IsReference}

-- ---- digits

abbrev pub step : ℕ → ℕ → ℕ → ℕ
step base value digit = base * value + digit_value digit

abbrev pub is_digit : ℕ → ℕ → Bool
is_digit base byte = nat_lt (digit_value byte) base

-- digits, `;`, and the number
pub record IsRest (base left value : ℕ) (bytes rest : List ℕ) (c : ℕ) : Type 0 where
  pub digits : List ℕ
  pub few : length digits ≤ left
  pub each : AllPass (is_digit base) digits
  pub number : c ≡ fold (step base) value digits
  pub scalar_is : IsScalar c
  pub parts : bytes ≡ digits ++ (codes ";" ++ rest)

end_by : (value c : ℕ) (bytes rest : List ℕ) (t : Bool) → scalar value ≡ t → cond t (mapped (λ u. value) (strip (codes ";")) bytes) (refuse bytes) ≡ ok (c, rest)
    → (c ≡ value) × IsScalar c × (bytes ≡ codes ";" ++ rest)
end_by value c bytes rest true is e =
    let a = bind_ok (strip (codes ";") bytes) (λ (x : ⊤ × List ℕ). give value x.1) (c, rest) e in
    let same = same_answer {E = List ℕ} value c a.0.1 rest a.2 in
    (sym same.0, subst (λ (v : ℕ). IsScalar v) same.0 is, strip_takes (codes ";") bytes a.0.1 a.0.0 a.1 ∙ ap (λ (r : List ℕ). codes ";" ++ r) same.1)
end_by value c bytes rest false is e = absurd cc

end_takes : (base left value c : ℕ) (bytes rest : List ℕ) → number_end value bytes ≡ ok (c, rest) → IsRest base left value bytes rest c
unfolding number_end
end_takes base left value c bytes rest e =
    let r = end_by value c bytes rest (scalar value) refl e in
    record { digits = []; few = omega arith; each = tt; number = r.0; scalar_is = r.1; parts = r.2 }

pub more_digits : (base left value c byte : ℕ) (bytes rest : List ℕ) → is_digit base byte ≡ true → IsRest base left (base * value + digit_value byte) bytes rest c → IsRest base (suc left) value (byte ∷ bytes) rest c
more_digits base left value c byte bytes rest is r = record {
  digits = byte ∷ r.digits;
  few = omega (arith, r.few);
  each = (is, r.each);
  number = r.number;
  scalar_is = r.scalar_is;
  parts = ap (λ (b : List ℕ). byte ∷ b) r.parts;
}

from_by : (base left value c byte : ℕ) (bytes rest : List ℕ) (t : Bool) → may_follow base left value byte ≡ t
    → (number_from base left (base * value + digit_value byte) bytes ≡ ok (c, rest) → IsRest base left (base * value + digit_value byte) bytes rest c)
    → cond t (number_from base left (base * value + digit_value byte) bytes) (number_end value (byte ∷ bytes)) ≡ ok (c, rest)
    → IsRest base (suc left) value (byte ∷ bytes) rest c
from_by base left value c byte bytes rest true is later e =
    let fits = and_parts (is_digit base byte && nat_le (base * value + digit_value byte) 0x10FFFF) (scalar (base * value + digit_value byte) || nat_lt 0 left) is in
    let digit = and_parts (is_digit base byte) (nat_le (base * value + digit_value byte) 0x10FFFF) fits.0 in
    more_digits base left value c byte bytes rest digit.0 (later e)
from_by base left value c byte bytes rest false is later e = end_takes base (suc left) value c (byte ∷ bytes) rest e

from_takes : (base left value c : ℕ) (bytes rest : List ℕ) → number_from base left value bytes ≡ ok (c, rest) → IsRest base left value bytes rest c
unfolding number_from one_of
from_takes base zero value c bytes rest e = end_takes base zero value c bytes rest e
from_takes base (suc left) value c [] rest e = end_takes base (suc left) value c [] rest e
from_takes base (suc left) value c (byte ∷ bytes) rest e =
    from_by base left value c byte bytes rest (may_follow base left value byte) refl (from_takes base left (base * value + digit_value byte) c bytes rest) e

-- ---- a number is read

grows_once : (base value digit : ℕ) → 1 ≤ base → value ≤ base * value + digit
grows_once base value digit le =
    let more : 1 * value ≤ base * value = mul-le-mul_right value le in
    omega (arith, more)

grows : (base value : ℕ) (digits : List ℕ) → 1 ≤ base → value ≤ fold (step base) value digits
grows base value [] le = omega arith
grows base value (digit ∷ digits) le =
    omega (arith, grows_once base value (digit_value digit) le, grows base (base * value + digit_value digit) digits le)

scalar_small : (c : ℕ) → IsScalar c → c ≤ 0x10FFFF
scalar_small c is = elim (scalar_cases c is) [
  | inl low ↦ omega (arith, low)
  | inr high ↦ omega (arith, high.1)
]

-- where the digits end, the number is a scalar value; before, more may follow
may_end : (base left value c : ℕ) (digits : List ℕ) → length digits ≤ left → c ≡ fold (step base) value digits → IsScalar c → (scalar value || nat_lt 0 left) ≡ true
may_end base left value c [] le number is =
    let here : scalar value ≡ true = subst (λ (v : ℕ). scalar v ≡ true) number is in
    rw here refl
may_end base left value c (digit ∷ digits) le number is =
    let some : ltb 0 left ≡ true = lt-ltb 0 left (omega (arith, le)) in
    rw some (grind arith)

follows : (base left value c digit : ℕ) (digits : List ℕ) → 1 ≤ base → is_digit base digit ≡ true → length digits ≤ left → c ≡ fold (step base) (base * value + digit_value digit) digits → IsScalar c
    → may_follow base left value digit ≡ true
follows base left value c digit digits one is le number s =
    let small : base * value + digit_value digit ≤ 0x10FFFF = omega (arith, number, grows base (base * value + digit_value digit) digits one, scalar_small c s) in
    rw (is, le-leb (base * value + digit_value digit) 0x10FFFF small, may_end base left (base * value + digit_value digit) c digits le number s) refl

end_again : (value : ℕ) (rest : List ℕ) → IsScalar value → number_end value (codes ";" ++ rest) ≡ Ok (value, rest)
unfolding number_end
end_again value rest is = rw (is, strip_again (codes ";") rest) refl

no_digit : (base left value : ℕ) → base ≤ 36 → may_follow base left value 59 ≡ false
no_digit base left value le =
    let none : ltb 36 base ≡ false = grind (arith, le) in
    rw none refl

from_again : (base left value c : ℕ) (digits rest : List ℕ) → 1 ≤ base → base ≤ 36 → length digits ≤ left → AllPass (is_digit base) digits → c ≡ fold (step base) value digits → IsScalar c
    → number_from base left value (digits ++ (codes ";" ++ rest)) ≡ Ok (c, rest)
unfolding number_from one_of
from_again base zero value c [] rest one most le each number is =
    let here : IsScalar value = subst (λ (v : ℕ). IsScalar v) number is in
    rw number (end_again value rest here)
from_again base (suc left) value c [] rest one most le each number is =
    let here : IsScalar value = subst (λ (v : ℕ). IsScalar v) number is in
    rw (no_digit base left value most, number) (end_again value rest here)
from_again base zero value c (digit ∷ digits) rest one most le each number is = absurd (omega (arith, le))
from_again base (suc left) value c (digit ∷ digits) rest one most le each number is =
    rw (follows base left value c digit digits one each.0 (omega (arith, le)) number is)
    (from_again base left (base * value + digit_value digit) c digits rest one most (omega (arith, le)) each.1 number is)

-- ---- scalar numbers

zero_times : (base digit : ℕ) → base * 0 + digit ≡ digit
zero_times base digit = grind arith

pub to_number : (base most left c byte : ℕ) (bytes rest : List ℕ) → most ≡ suc left → is_digit base byte ≡ true → IsRest base left (digit_value byte) bytes rest c
    → (text : List ℕ) × IsScalarNumber base most text c × (byte ∷ bytes ≡ text ++ rest)
to_number base most left c byte bytes rest room is r = (
  (byte ∷ r.digits) ++ codes ";",
  record {
    digits = byte ∷ r.digits;
    some = omega arith;
    few = omega (arith, r.few, room);
    each = (is, r.each);
    value = r.number ∙ ap (λ (v : ℕ). fold (step base) v r.digits) (sym (zero_times base (digit_value byte)));
    is_scalar = r.scalar_is;
    whole = refl;
  },
  ap (λ (b : List ℕ). byte ∷ b) (r.parts ∙ sym (append_assoc r.digits (codes ";") rest)),
)

number_by : (base left c byte : ℕ) (bytes rest : List ℕ) (t : Bool) → is_digit base byte ≡ t → (cond t (ok (byte, bytes)) (stop (byte ∷ bytes)) >>= λ (x : ℕ × List ℕ). number_from base left (digit_value x.0) x.1) ≡ ok (c, rest)
    → (text : List ℕ) × IsScalarNumber base (suc left) text c × (byte ∷ bytes ≡ text ++ rest)
number_by base left c byte bytes rest true is e = to_number base (suc left) left c byte bytes rest refl is (from_takes base left (digit_value byte) c bytes rest e)
number_by base left c byte bytes rest false is e = absurd cc

number_takes : (base most c : ℕ) (bytes rest : List ℕ) → scalar_number base most bytes ≡ ok (c, rest) → (text : List ℕ) × IsScalarNumber base most text c × (bytes ≡ text ++ rest)
unfolding scalar_number one_of
number_takes base zero c bytes rest e = absurd cc
number_takes base (suc left) c [] rest e = absurd cc
number_takes base (suc left) c (byte ∷ bytes) rest e = number_by base left c byte bytes rest (is_digit base byte) refl e

number_again : (base most c : ℕ) (digits rest : List ℕ) → 1 ≤ base → base ≤ 36 → 0 < length digits → length digits ≤ most → AllPass (is_digit base) digits → c ≡ fold (step base) 0 digits → IsScalar c
    → scalar_number base most (digits ++ (codes ";" ++ rest)) ≡ Ok (c, rest)
unfolding scalar_number one_of
number_again base most c [] rest one most_ some few each number is = absurd (omega (arith, some))
number_again base zero c (digit ∷ digits) rest one most_ some few each number is = absurd (omega (arith, few))
number_again base (suc left) c (digit ∷ digits) rest one most_ some few each number is =
    let here : c ≡ fold (step base) (digit_value digit) digits = number ∙ ap (λ (v : ℕ). fold (step base) v digits) (zero_times base (digit_value digit)) in
    rw each.0 (from_again base left (digit_value digit) c digits rest one most_ (omega (arith, few)) each.1 here is)

pub number_spells : (base most : ℕ) → 1 ≤ base → base ≤ 36 → Spells (scalar_number base most) (IsScalarNumber base most) Anything
number_spells base most one le = record {
  takes = λ bytes c rest e. number_takes base most c bytes rest e;
  again = λ text c rest r any.
      let whole : text ++ rest ≡ r.digits ++ (codes ";" ++ rest) = ap (λ (t : List ℕ). t ++ rest) r.whole ∙ append_assoc r.digits (codes ";") rest in
      ap (scalar_number base most) whole ∙ number_again base most c r.digits rest one le r.some r.few r.each r.value r.is_scalar;
}

-- ---- references

no_x : (byte : ℕ) → is_digit 10 byte ≡ true → is_x byte ≡ false
no_x byte is = grind arith

no_x_in : (digits text rest : List ℕ) → 0 < length digits → AllPass (is_digit 10) digits → text ≡ digits ++ codes ";" → next_is is_x (text ++ rest) ≡ false
no_x_in [] text rest some each whole = absurd (omega (arith, some))
no_x_in (digit ∷ digits) text rest some each whole = rw whole (no_x digit each.0)

number_reference_spells : Spells number_reference IsNumberReference Anything
unfolding number_reference
number_reference_spells =
    follow_spells (strip_spells (codes "#"))
    (λ u. choice_spells (next_is is_x)
    (follow_spells (one_of_spells is_x) (λ byte. number_spells 16 6 (omega arith) (omega arith)) (λ x y back rest s any. tt))
    (number_spells 10 7 (omega arith) (omega arith))
    (λ text c rest r any. rw (r.5, r.3.0) r.3.1)
    (λ text c rest r any. no_x_in r.digits text rest r.some r.each r.whole))
    (λ x y back rest s any. tt)

pub names_differ : all_differ entities ≡ true
unfolding entities
names_differ = refl

pub no_number : differs_from (codes "#") entities ≡ true
unfolding entities
no_number = refl

pub reference_spells : Spells reference IsReference Anything
unfolding reference starts strip
reference_spells =
    follow_spells (strip_spells (codes "&"))
    (λ u. choice_spells (starts (codes "#")) number_reference_spells (one_word_spells entities names_differ)
    (λ text c rest r any. ap (λ (t : List ℕ). starts (codes "#") (t ++ rest)) (r.5 ∙ ap (λ (s : List ℕ). s ++ r.2) r.3))
    (λ text c rest r any. differ_stops (codes "#") text rest (differs_in (codes "#") entities text c no_number r)))
    (λ x y back rest s any. tt)
