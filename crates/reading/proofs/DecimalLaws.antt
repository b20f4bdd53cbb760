-- Decimal numbers are read as they are spelled.
use Rattle.std.proofs.Common.{◌≡◌, ℕ, zero, suc, ◌+◌, ◌-◌, ◌*◌, ◌≤◌, Bool, true, false, cond, List, [], ◌∷◌, ◌++◌, length, Ok, refl, sym, ap, subst, ◌∙◌, append_assoc, arith}
use Rattle.std.specs.List.{AllByRecursion}
use Rattle.std.specs.Char.{IsAsciiDigit, is_ascii_digit}
use Rattle.std.proofs.lemmas.List.{append_cancel_right}
use Rattle.std.proofs.lemmas.List.Elements.{All-from_recursion, recursion_from_All}
use Rattle.std.proofs.lemmas.Bool.Decides.{nat_tests}
use Rattle.reading.specs.Grammars.{OneOf, Seq}
use Rattle.reading.specs.Decimals.{digits_from, IsDecimal, NoDigit, more_digits, number}
use Rattle.reading.specs.Spelling.{Spells}
use Rattle.reading.specs.Places.{SameNext, IsLocal, IsViable}
use Rattle.reading.proofs.SpellLaws.{ok, stop, same_answer, one_of_spells, follow_spells, spells_as}
use Rattle.reading.proofs.PlaceLaws.{no_end, follow_local, follow_viable, viable_as, one_of_local, one_of_viable}

digit_fact : (c : ℕ) → is_ascii_digit c ≡ true → IsAsciiDigit c
digit_fact c e = grind (arith, nat_tests)

digit_test : (c : ℕ) → IsAsciiDigit c → is_ascii_digit c ≡ true
digit_test c d = grind (arith, nat_tests)

-- at most `most` digits behind digits that stand for `high`
pub record AreMore (most high : ℕ) (text : List ℕ) (n : ℕ) : Type 0 where
  pub few : length text ≤ most
  pub digits : AllByRecursion IsAsciiDigit text
  pub value : n ≡ digits_from high text

more_by : (most high byte : ℕ) (bytes rest : List ℕ) (n : ℕ) (t : Bool) → is_ascii_digit byte ≡ t
    → (more_digits most (10 * high + (byte - 48)) bytes ≡ ok (n, rest) → (text : List ℕ) × AreMore most (10 * high + (byte - 48)) text n × (bytes ≡ text ++ rest))
    → cond t (more_digits most (10 * high + (byte - 48)) bytes) (ok (high, byte ∷ bytes)) ≡ ok (n, rest) → (text : List ℕ) × AreMore (suc most) high text n × (byte ∷ bytes ≡ text ++ rest)
more_by most high byte bytes rest n true test later e =
    let r = later e in
    (byte ∷ r.0, record { few = omega (arith, r.1.few); digits = (digit_fact byte test, r.1.digits); value = r.1.value }, ap (λ (s : List ℕ). byte ∷ s) r.2)
more_by most high byte bytes rest n false test later e =
    let same = same_answer high n (byte ∷ bytes) rest e in
    ([], record { few = omega arith; digits = tt; value = sym same.0 }, same.1)

more_takes : (most high : ℕ) (bytes : List ℕ) (n : ℕ) (rest : List ℕ) → more_digits most high bytes ≡ ok (n, rest) → (text : List ℕ) × AreMore most high text n × (bytes ≡ text ++ rest)
unfolding more_digits
more_takes zero high bytes n rest e =
    let same = same_answer high n bytes rest e in
    ([], record { few = omega arith; digits = tt; value = sym same.0 }, same.1)
more_takes (suc most) high [] n rest e =
    let same = same_answer high n [] rest e in
    ([], record { few = omega arith; digits = tt; value = sym same.0 }, same.1)
more_takes (suc most) high (byte ∷ bytes) n rest e =
    more_by most high byte bytes rest n (is_ascii_digit byte) refl (more_takes most (10 * high + (byte - 48)) bytes n rest) e

more_again : (most high : ℕ) (text : List ℕ) (n : ℕ) (rest : List ℕ) → AreMore most high text n → NoDigit rest → more_digits most high (text ++ rest) ≡ Ok (n, rest)
unfolding more_digits
more_again zero high [] n rest r ends = rw r.value refl
more_again zero high (c ∷ text) n rest r ends = absurd (omega (arith, r.few))
more_again (suc most) high [] n [] r ends = rw r.value refl
more_again (suc most) high [] n (b ∷ rest) r ends = rw (ends, r.value) refl
more_again (suc most) high (c ∷ text) n rest r ends =
    rw (digit_test c r.digits.0) (more_again most (10 * high + (c - 48)) text n rest (record { few = omega (arith, r.few); digits = r.digits.1; value = r.value }) ends)

pub more_spells : (most high : ℕ) → Spells (more_digits most high) (AreMore most high) NoDigit
more_spells most high = record {
  takes = λ bytes n rest e. more_takes most high bytes n rest e;
  again = λ text n rest r ends. more_again most high text n rest r ends;
}

plain : (byte : ℕ) → 0 + (byte - 48) ≡ byte - 48
plain byte = omega arith

-- a digit, and digits behind it
to_decimal : (most byte : ℕ) (back : List ℕ) (n : ℕ) → is_ascii_digit byte ≡ true → AreMore most (byte - 48) back n → IsDecimal (suc most) (byte ∷ back) n
to_decimal most byte back n test r = record {
  some = omega arith;
  few = omega (arith, r.few);
  digits = All-from_recursion IsAsciiDigit (byte ∷ back) (digit_fact byte test, r.digits);
  value = r.value ∙ ap (λ (high : ℕ). digits_from high back) (sym (plain byte));
}

from_decimal : (most : ℕ) (text : List ℕ) (n : ℕ) → IsDecimal (suc most) text n → Seq (OneOf is_ascii_digit) (λ digit. AreMore most (digit - 48)) text n
from_decimal most [] n r = absurd (omega (arith, r.some))
from_decimal most (byte ∷ back) n r =
    let each = recursion_from_All IsAsciiDigit (byte ∷ back) r.digits in
    (byte, byte ∷ [], back, (refl, digit_test byte each.0), record { few = omega (arith, r.few); digits = each.1; value = r.value ∙ ap (λ (high : ℕ). digits_from high back) (plain byte) }, refl)

none_read : (bytes : List ℕ) (n : ℕ) (rest : List ℕ) → number 0 bytes ≡ ok (n, rest) → (text : List ℕ) × IsDecimal 0 text n × (bytes ≡ text ++ rest)
unfolding number
none_read bytes n rest e = absurd cc

none_spelled : (text : List ℕ) (n : ℕ) (rest : List ℕ) → IsDecimal 0 text n → number 0 (text ++ rest) ≡ Ok (n, rest)
none_spelled text n rest r = absurd (omega (arith, r.some, r.few))

pub decimal_spells : (most : ℕ) → Spells (number most) (IsDecimal most) NoDigit
unfolding number
decimal_spells zero = record { takes = λ bytes n rest e. none_read bytes n rest e; again = λ text n rest r ends. none_spelled text n rest r }
decimal_spells (suc most) =
    spells_as (follow_spells (one_of_spells is_ascii_digit) (λ digit. more_spells most (digit - 48)) (λ digit n back rest r ends. tt))
    (λ text n r. subst (λ (t : List ℕ). IsDecimal (suc most) t n) (sym (r.5 ∙ ap (λ (s : List ℕ). s ++ r.2) r.3.0)) (to_decimal most r.0 r.2 n r.3.1 r.4))
    (λ text n r. from_decimal most text n r)

-- ---- where a number stops

never_by : (most high byte : ℕ) (bytes left : List ℕ) (t : Bool) → (more_digits most (10 * high + (byte - 48)) bytes ≡ stop left → ⊥) → cond t (more_digits most (10 * high + (byte - 48)) bytes) (ok (high, byte ∷ bytes)) ≡ stop left → ⊥
never_by most high byte bytes left true never e = never e
never_by most high byte bytes left false never e = absurd cc

more_never : (most high : ℕ) (bytes left : List ℕ) → more_digits most high bytes ≡ stop left → ⊥
unfolding more_digits
more_never zero high bytes left e = absurd cc
more_never (suc most) high [] left e = absurd cc
more_never (suc most) high (byte ∷ bytes) left e = never_by most high byte bytes left (is_ascii_digit byte) (more_never most (10 * high + (byte - 48)) bytes left) e

-- the digits behind a digit don't come to an end before it
not_before : (most high n c : ℕ) (behind : List ℕ) → more_digits most high behind ≡ ok (n, c ∷ behind) → ⊥
not_before most high n c behind e =
    let t = more_takes most high behind n (c ∷ behind) e in
    let longer : (t.0 ++ c ∷ []) ++ behind ≡ [] ++ behind = append_assoc t.0 (c ∷ []) behind ∙ sym t.2 in
    no_end t.0 c (append_cancel_right (t.0 ++ c ∷ []) [] behind longer)

more_at : (most high n c : ℕ) (behind more : List ℕ) (t : Bool) → cond t (more_digits most (10 * high + (c - 48)) behind) (ok (high, c ∷ behind)) ≡ ok (n, c ∷ behind)
    → cond t (more_digits most (10 * high + (c - 48)) more) (ok (high, c ∷ more)) ≡ ok (n, c ∷ more)
more_at most high n c behind more true e = absurd (not_before most (10 * high + (c - 48)) n c behind e)
more_at most high n c behind more false e =
    let same = (same_answer high n (c ∷ behind) (c ∷ behind) e).0 in
    rw same refl

more_within : (most high n b : ℕ) (text rest other : List ℕ) (t : Bool) → (more_digits most (10 * high + (b - 48)) (text ++ rest) ≡ ok (n, rest) → more_digits most (10 * high + (b - 48)) (text ++ other) ≡ ok (n, other))
    → cond t (more_digits most (10 * high + (b - 48)) (text ++ rest)) (ok (high, b ∷ (text ++ rest))) ≡ ok (n, rest)
    → cond t (more_digits most (10 * high + (b - 48)) (text ++ other)) (ok (high, b ∷ (text ++ other))) ≡ ok (n, other)
more_within most high n b text rest other true next e = next e
more_within most high n b text rest other false next e =
    let same : (b ∷ text) ++ rest ≡ [] ++ rest = (same_answer high n (b ∷ (text ++ rest)) rest e).1 in
    let none : b ∷ text ≡ [] = append_cancel_right (b ∷ text) [] rest same in
    absurd cc

more_ok : (most high : ℕ) (text rest other : List ℕ) (n : ℕ) → SameNext rest other → more_digits most high (text ++ rest) ≡ ok (n, rest) → more_digits most high (text ++ other) ≡ ok (n, other)
unfolding more_digits
more_ok zero high text rest other n s e =
    let same = same_answer high n (text ++ rest) rest e in
    let none : text ≡ [] = append_cancel_right text [] rest same.1 in
    rw (same.0, none) refl
more_ok (suc most) high [] rest other n s e =
    let at : more_digits (suc most) high (s.0 ∷ s.1) ≡ ok (n, s.0 ∷ s.1) = subst (λ (r : List ℕ). more_digits (suc most) high r ≡ ok (n, r)) s.3 e in
    subst (λ (r : List ℕ). more_digits (suc most) high r ≡ ok (n, r)) (sym s.4) (more_at most high n s.0 s.1 s.2 (is_ascii_digit s.0) at)
more_ok (suc most) high (b ∷ text) rest other n s e =
    more_within most high n b text rest other (is_ascii_digit b) (more_ok most (10 * high + (b - 48)) text rest other n s) e

more_local : (most high : ℕ) → IsLocal (more_digits most high)
more_local most high = record {
  front = λ bytes n rest e.
      let t = more_takes most high bytes n rest e in
      (t.0, t.2);
  stopped = λ bytes left e. absurd (more_never most high bytes left e);
  ok = λ text rest other n s e. more_ok most high text rest other n s e;
  err = λ text rest other s e. absurd (more_never most high (text ++ rest) rest e);
}

pub decimal_local : (most : ℕ) → IsLocal (number (suc most))
unfolding number
decimal_local most = follow_local (one_of_local is_ascii_digit) (λ digit. more_local most (digit - 48))

pub decimal_viable : (most : ℕ) → IsViable (number (suc most)) (IsDecimal (suc most))
unfolding number
decimal_viable most =
    viable_as (follow_viable (one_of_spells is_ascii_digit) (one_of_viable is_ascii_digit 48 refl)
    (λ digit. record { viable = λ bytes left e. absurd (more_never most (digit - 48) bytes left e) })
    (λ digit. record { more = []; value = digit - 48; is = record { few = omega arith; digits = tt; value = refl } }))
    (λ text n r. subst (λ (t : List ℕ). IsDecimal (suc most) t n) (sym (r.5 ∙ ap (λ (s : List ℕ). s ++ r.2) r.3.0)) (to_decimal most r.0 r.2 n r.3.1 r.4))
