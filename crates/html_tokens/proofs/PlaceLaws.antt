-- Where comments, the doctype, end tags and references stop: at the first byte with which none of them goes on.
use Rattle.std.proofs.Common.{◌≡◌, inl, inr, ℕ, zero, suc, ◌+◌, ◌*◌, ◌<◌, ◌≤◌, Bool, true, false, cond, eqb, is_ok, ◌&&◌, ◌||◌, List, [], ◌∷◌, ◌++◌, length, codes, map, refl, sym, ap, subst, ◌∙◌, arith}
use Rattle.std.specs.Prelude.{⊤, nat_lt, nat_le}
use Rattle.std.specs.Char.{IsScalar, digit_value, to_ascii_lowercase}
use Rattle.std.proofs.lemmas.Bool.{and_parts, ltb-true, leb-true}
use Rattle.std.proofs.lemmas.List.{append_cancel_right, append-nil}
use Rattle.std.proofs.Math.Utf8.{scalar, low_scalar}
use Rattle.reading.proofs.ClosingPlaces.{fixed_some}
use Rattle.reading.specs.Readers.{◌>>=◌, give, refuse, mapped, strip, starts, one_of, next_is, one_word}
use Rattle.reading.specs.Grammars.{Grammar, Fixed, EitherCase, Seq, Mapped, Either, OneWord}
use Rattle.reading.specs.Words.{all_differ}
use Rattle.reading.specs.Places.{SeesNext, IsLocal, GoesOnFrom, IsViable}
use Rattle.reading.proofs.SpellLaws.{ok, stop, strip_spells, one_of_spells}
use Rattle.reading.proofs.RunLaws.{either_case_spells}
use Rattle.reading.proofs.PlaceLaws.{strip_local, strip_viable, one_of_local, one_of_viable, follow_local, follow_viable, mapped_local, mapped_viable, after_local, after_viable, choice_local, choice_viable, next_is_sees}
use Rattle.reading.proofs.RunPlaces.{run_of_local, run_of_viable, either_case_local, either_case_viable}
use Rattle.reading.proofs.UpToPlaces.{skip_local, skip_viable, up_to_local, up_to_viable}
use Rattle.reading.proofs.WordPlaces.{one_word_local, one_word_viable}
use Rattle.html_tokens.specs.declared.raw_text.RawEnd.TheVariants as ends
use Rattle.reading.specs.White.{is_white, spaces, white}
use Rattle.reading.specs.Names.{lowered}
use Rattle.html_tokens.specs.Characters.{is_letter, is_name_byte, entities}
use Rattle.html_tokens.specs.Lexing.{name, raw, comment, doctype, end_name, may_follow, number_end, number_from, scalar_number, is_x, number_reference, reference}
use Rattle.html_tokens.specs.Grammar.{IsSpaces, IsWhite, IsName, IsRaw, IsComment, IsDoctype, IsEndName, IsScalarNumber, IsNumberReference, IsReference}
use Rattle.html_tokens.proofs.MiscLaws.{white_spells, spaces_spells, name_spells, raw_end_spells, raw_end_sees}
use Rattle.html_tokens.proofs.ReferenceLaws.{IsRest, is_digit, more_digits, to_number, names_differ}

-- ---- that there is a text

pub seq_some : {A B : Type 0} {R : Grammar A} {S : A → Grammar B} → GoesOnFrom R [] → ((x : A) → GoesOnFrom (S x) []) → GoesOnFrom (Seq R S) []
seq_some r s = record { more = r.more ++ (s r.value).more; value = (s r.value).value; is = (r.value, r.more, (s r.value).more, r.is, (s r.value).is, refl) }

pub cased_some : (word : List ℕ) → map to_ascii_lowercase word ≡ word → GoesOnFrom (EitherCase word) []
cased_some word small = record { more = word; value = tt; is = small }

pub spaces_some : GoesOnFrom IsSpaces []
spaces_some = record { more = []; value = tt; is = tt }

white_some : GoesOnFrom IsWhite []
white_some = record { more = 32 ∷ []; value = tt; is = (32, (refl, refl), refl) }

name_some : GoesOnFrom IsName []
name_some = record { more = 97 ∷ []; value = lowered (97 ∷ []); is = (97, 97 ∷ [], [], (refl, refl), ([], (refl, tt), refl), refl) }

either_some : {A : Type 0} {R S : Grammar A} → GoesOnFrom S [] → GoesOnFrom (Either R S) []
either_some s = record { more = s.more; value = s.value; is = inr s.is }

first_some : {A : Type 0} {R S : Grammar A} → GoesOnFrom R [] → GoesOnFrom (Either R S) []
first_some r = record { more = r.more; value = r.value; is = inl r.is }

-- ---- white space, names, end tags, the doctype

pub white_local : IsLocal white
unfolding white
white_local = mapped_local (λ (byte : ℕ). tt) (one_of_local is_white)

pub white_viable : IsViable white IsWhite
unfolding white
white_viable = mapped_viable (λ (byte : ℕ). tt) (one_of_viable is_white 32 refl)

pub spaces_local : IsLocal spaces
unfolding spaces
spaces_local = skip_local is_white

pub spaces_viable : IsViable spaces IsSpaces
unfolding spaces
spaces_viable = skip_viable is_white

pub name_local : IsLocal name
unfolding name
name_local = follow_local (one_of_local is_letter) (λ first. mapped_local (λ more. lowered (first ∷ more)) (run_of_local is_name_byte))

pub name_viable : IsViable name IsName
unfolding name
name_viable =
    follow_viable (one_of_spells is_letter) (one_of_viable is_letter 97 refl) (λ first. mapped_viable (λ more. lowered (first ∷ more)) (run_of_viable is_name_byte))
    (λ first. record { more = []; value = lowered (first ∷ []); is = ([], (refl, tt), refl) })

pub end_name_local : IsLocal end_name
unfolding end_name
end_name_local =
    follow_local (strip_local (codes "</")) (λ u. follow_local name_local (λ n. follow_local spaces_local (λ v. mapped_local (λ (u : ⊤). n) (strip_local (codes ">")))))

closed_some : (n : List ℕ) → GoesOnFrom (Mapped (λ (u : ⊤). n) (Fixed (codes ">"))) []
closed_some n = record { more = codes ">"; value = n; is = (tt, refl, refl) }

pub end_name_viable : IsViable end_name IsEndName
unfolding end_name
end_name_viable =
    follow_viable (strip_spells (codes "</")) (strip_viable (codes "</"))
    (λ u. follow_viable name_spells name_viable
    (λ n. follow_viable spaces_spells spaces_viable (λ v. mapped_viable (λ (u : ⊤). n) (strip_viable (codes ">"))) (λ v. closed_some n))
    (λ n. seq_some spaces_some (λ v. closed_some n)))
    (λ u. seq_some name_some (λ n. seq_some spaces_some (λ v. closed_some n)))

pub doctype_local : IsLocal doctype
unfolding doctype
doctype_local =
    follow_local (either_case_local (codes "<!doctype")) (λ u. follow_local white_local (λ u. follow_local spaces_local
    (λ u. follow_local (either_case_local (codes "html")) (λ u. follow_local spaces_local (λ u. strip_local (codes ">"))))))

pub doctype_viable : IsViable doctype IsDoctype
unfolding doctype
doctype_viable =
    follow_viable (either_case_spells (codes "<!doctype")) (either_case_viable (codes "<!doctype") refl)
    (λ u. follow_viable white_spells white_viable
    (λ u. follow_viable spaces_spells spaces_viable
    (λ u. follow_viable (either_case_spells (codes "html")) (either_case_viable (codes "html") refl)
    (λ u. follow_viable spaces_spells spaces_viable (λ u. strip_viable (codes ">")) (λ u. fixed_some (codes ">")))
    (λ u. seq_some spaces_some (λ u. fixed_some (codes ">"))))
    (λ u. seq_some (cased_some (codes "html") refl) (λ u. seq_some spaces_some (λ u. fixed_some (codes ">")))))
    (λ u. seq_some spaces_some (λ u. seq_some (cased_some (codes "html") refl) (λ u. seq_some spaces_some (λ u. fixed_some (codes ">"))))))
    (λ u. seq_some white_some (λ u. seq_some spaces_some (λ u. seq_some (cased_some (codes "html") refl) (λ u. seq_some spaces_some (λ u. fixed_some (codes ">"))))))

-- ---- comments

pub comment_local : IsLocal comment
unfolding comment raw
comment_local = after_local (codes "<!--") (mapped_local (λ (inside : List ℕ). tt) (up_to_local (raw_end_spells ends.Comment) (raw_end_sees ends.Comment)))

inside_some : GoesOnFrom (Mapped {B = ⊤} (λ (inside : List ℕ). tt) (IsRaw ends.Comment)) []
inside_some = record { more = codes "-->"; value = tt; is = ([], (tt, codes "-->", refl, tt, refl), refl) }

pub comment_viable : IsViable comment IsComment
unfolding comment raw
comment_viable =
    after_viable (codes "<!--") (mapped_viable (λ (inside : List ℕ). tt) (up_to_viable (raw_end_spells ends.Comment) (raw_end_sees ends.Comment) (codes "-->") tt refl)) inside_some

-- ---- references

refuse_local : {A : Type 0} → IsLocal (refuse {A = A})
refuse_local {A = A} = record {
  front = λ bytes x rest e. absurd cc;
  stopped = λ bytes left e. ([], cc);
  ok = λ text rest other x s e. absurd cc;
  err = λ text rest other s e.
      let same : text ++ rest ≡ [] ++ rest = cc in
      let none : text ≡ [] = append_cancel_right text [] rest same in
      rw none refl;
}

always_sees : (t : Bool) → SeesNext (λ (bytes : List ℕ). t)
always_sees t = record { sees = λ rest other s. refl }

number_end_local : (value : ℕ) → IsLocal (number_end value)
unfolding number_end
number_end_local value = choice_local (always_sees (scalar value)) (mapped_local (λ (u : ⊤). value) (strip_local (codes ";"))) refuse_local

number_from_local : (base left value : ℕ) → IsLocal (number_from base left value)
unfolding number_from
number_from_local base zero value = number_end_local value
number_from_local base (suc left) value =
    choice_local (next_is_sees (may_follow base left value)) (follow_local (one_of_local (λ (byte : ℕ). true)) (λ byte. number_from_local base left (base * value + digit_value byte))) (number_end_local value)

scalar_number_local : (base most : ℕ) → IsLocal (scalar_number base most)
unfolding scalar_number
scalar_number_local base zero = refuse_local
scalar_number_local base (suc left) = follow_local (one_of_local (is_digit base)) (λ byte. number_from_local base left (digit_value byte))

number_reference_local : IsLocal number_reference
unfolding number_reference
number_reference_local =
    follow_local (strip_local (codes "#")) (λ u. choice_local (next_is_sees is_x) (follow_local (one_of_local is_x) (λ byte. scalar_number_local 16 6)) (scalar_number_local 10 7))

starts_same_by : (byte : ℕ) (later more : List ℕ) (t : Bool) → is_ok (cond t (ok {A = ⊤} (tt, later)) (stop (byte ∷ later))) ≡ is_ok (cond t (ok {A = ⊤} (tt, more)) (stop (byte ∷ more)))
starts_same_by byte later more true = refl
starts_same_by byte later more false = refl

starts_same : (wanted byte : ℕ) (later more : List ℕ) → starts (wanted ∷ []) (byte ∷ later) ≡ starts (wanted ∷ []) (byte ∷ more)
unfolding starts strip
starts_same wanted byte later more = starts_same_by byte later more (eqb byte wanted)

-- the table, as it stands
entities_are : (words : List (List ℕ × ℕ)) → all_differ words ≡ true → 0 < length words → IsLocal (one_word words) × IsViable (one_word words) (OneWord words)
entities_are [] d some = absurd (omega (arith, some))
entities_are (word ∷ words) d some = (one_word_local word words d, one_word_viable word words)

entities_some : 0 < length entities
unfolding entities
entities_some = omega arith

entities_local : IsLocal (one_word entities)
entities_local = (entities_are entities names_differ entities_some).0

entities_viable : IsViable (one_word entities) (OneWord entities)
entities_viable = (entities_are entities names_differ entities_some).1

pub starts_sees : (wanted : ℕ) → SeesNext (starts (wanted ∷ []))
unfolding starts strip
starts_sees wanted = record { sees = λ rest other s. rw (s.3, s.4) (starts_same wanted s.0 s.1 s.2) }

pub reference_local : IsLocal reference
unfolding reference
reference_local = follow_local (strip_local (codes "&")) (λ u. choice_local (starts_sees 35) number_reference_local entities_local)

-- a number goes on from here
abbrev IsAlive : (left value : ℕ) → Type 0
IsAlive left value = (value ≤ 0x10FFFF) × ((scalar value || nat_lt 0 left) ≡ true)

abbrev Rest : (base left value : ℕ) → Grammar ℕ
Rest base left value text c = IsRest base left value text [] c

-- one more `0` makes a scalar value of a surrogate
abbrev pub ZeroMakesScalar : ℕ → Type 0
ZeroMakesScalar base = (value : ℕ) → value ≤ 0x10FFFF → scalar value ≡ false → IsScalar (base * value + digit_value 48)

zero_digit : (base : ℕ) → 1 ≤ base → is_digit base 48 ≡ true
zero_digit base le = grind (arith, le)

not_first : (b : Bool) → (false || b) ≡ true → b ≡ true
not_first b e = e

rest_by : (base left value : ℕ) (t : Bool) → scalar value ≡ t → 1 ≤ base → ZeroMakesScalar base → value ≤ 0x10FFFF → (t || nat_lt 0 left) ≡ true → GoesOnFrom (Rest base left value) []
rest_by base left value true is one zero_ small alive = record {
  more = codes ";";
  value = value;
  is = record { digits = []; few = omega arith; each = tt; number = refl; scalar_is = is; parts = refl };
}
rest_by base left value false is one zero_ small alive =
    let some : 0 < left = ltb-true 0 left (not_first (nat_lt 0 left) alive) in
    record {
      more = 48 ∷ codes ";";
      value = base * value + digit_value 48;
      is = record { digits = 48 ∷ []; few = omega (arith, some); each = (zero_digit base one, tt); number = refl; scalar_is = zero_ value small is; parts = refl };
    }

rest_some : (base left value : ℕ) → 1 ≤ base → ZeroMakesScalar base → IsAlive left value → GoesOnFrom (Rest base left value) []
rest_some base left value one zero_ alive = rest_by base left value (scalar value) refl one zero_ alive.0 alive.1

-- it stopped behind digits
record IsStopped (base left value : ℕ) (bytes left_ : List ℕ) : Type 0 where
  text : List ℕ
  goes_on : GoesOnFrom (Rest base left value) text
  parts : bytes ≡ text ++ left_

semicolon_by : (value byte : ℕ) (bytes left : List ℕ) (t : Bool) → (cond t (ok (tt, bytes)) (stop (byte ∷ bytes)) >>= λ (x : ⊤ × List ℕ). give value x.1) ≡ stop left → byte ∷ bytes ≡ left
semicolon_by value byte bytes left true e = absurd cc
semicolon_by value byte bytes left false e = cc

end_stops_by : (value : ℕ) (bytes left : List ℕ) (t : Bool) → cond t (mapped (λ u. value) (strip (codes ";")) bytes) (refuse bytes) ≡ stop left → bytes ≡ left
unfolding strip
end_stops_by value [] left true e = cc
end_stops_by value (byte ∷ bytes) left true e = semicolon_by value byte bytes left (eqb byte 59) e
end_stops_by value bytes left false e = cc

end_stops : (value : ℕ) (bytes left : List ℕ) → number_end value bytes ≡ stop left → bytes ≡ left
unfolding number_end
end_stops value bytes left e = end_stops_by value bytes left (scalar value) e

more_stopped : (base left value byte : ℕ) (bytes left_ : List ℕ) → is_digit base byte ≡ true → IsStopped base left (base * value + digit_value byte) bytes left_ → IsStopped base (suc left) value (byte ∷ bytes) left_
more_stopped base left value byte bytes left_ is s = record {
  text = byte ∷ s.text;
  goes_on = record { more = s.goes_on.more; value = s.goes_on.value; is = more_digits base left value s.goes_on.value byte (s.text ++ s.goes_on.more) [] is s.goes_on.is };
  parts = ap (λ (b : List ℕ). byte ∷ b) s.parts;
}

end_stopped : (base left value : ℕ) (bytes left_ : List ℕ) → 1 ≤ base → ZeroMakesScalar base → IsAlive left value → number_end value bytes ≡ stop left_ → IsStopped base left value bytes left_
end_stopped base left value bytes left_ one zero_ alive e = record { text = []; goes_on = rest_some base left value one zero_ alive; parts = end_stops value bytes left_ e }

alive_next : (base left value byte : ℕ) → may_follow base left value byte ≡ true → (is_digit base byte ≡ true) × IsAlive left (base * value + digit_value byte)
alive_next base left value byte is =
    let more = and_parts (is_digit base byte && nat_le (base * value + digit_value byte) 0x10FFFF) (scalar (base * value + digit_value byte) || nat_lt 0 left) is in
    let both = and_parts (is_digit base byte) (nat_le (base * value + digit_value byte) 0x10FFFF) more.0 in
    (both.0, (leb-true (base * value + digit_value byte) 0x10FFFF both.1, more.1))

from_stopped_by : (base left value byte : ℕ) (bytes left_ : List ℕ) (t : Bool) → may_follow base left value byte ≡ t → 1 ≤ base → ZeroMakesScalar base → IsAlive (suc left) value
    → (IsAlive left (base * value + digit_value byte) → number_from base left (base * value + digit_value byte) bytes ≡ stop left_ → IsStopped base left (base * value + digit_value byte) bytes left_)
    → cond t (number_from base left (base * value + digit_value byte) bytes) (number_end value (byte ∷ bytes)) ≡ stop left_ → IsStopped base (suc left) value (byte ∷ bytes) left_
from_stopped_by base left value byte bytes left_ true is one zero_ alive later e =
    let a = alive_next base left value byte is in
    more_stopped base left value byte bytes left_ a.0 (later a.1 e)
from_stopped_by base left value byte bytes left_ false is one zero_ alive later e = end_stopped base (suc left) value (byte ∷ bytes) left_ one zero_ alive e

from_stopped : (base left value : ℕ) (bytes left_ : List ℕ) → 1 ≤ base → ZeroMakesScalar base → IsAlive left value → number_from base left value bytes ≡ stop left_ → IsStopped base left value bytes left_
unfolding number_from one_of
from_stopped base zero value bytes left_ one zero_ alive e = end_stopped base zero value bytes left_ one zero_ alive e
from_stopped base (suc left) value [] left_ one zero_ alive e = end_stopped base (suc left) value [] left_ one zero_ alive e
from_stopped base (suc left) value (byte ∷ bytes) left_ one zero_ alive e =
    from_stopped_by base left value byte bytes left_ (may_follow base left value byte) refl one zero_ alive (λ a. from_stopped base left (base * value + digit_value byte) bytes left_ one zero_ a) e

-- a number of one digit at least
record IsNumberStopped (base most : ℕ) (bytes left_ : List ℕ) : Type 0 where
  text : List ℕ
  goes_on : GoesOnFrom (IsScalarNumber base most) text
  parts : bytes ≡ text ++ left_

number_goes : (base left byte : ℕ) (text more : List ℕ) (c : ℕ) → is_digit base byte ≡ true → IsRest base left (digit_value byte) (text ++ more) [] c → IsScalarNumber base (suc left) (byte ∷ (text ++ more)) c
number_goes base left byte text more c is r =
    let n = to_number base (suc left) left c byte (text ++ more) [] refl is r in
    subst (λ (t : List ℕ). IsScalarNumber base (suc left) t c) (sym (n.2 ∙ append-nil n.0)) n.1

zero_number : (base left : ℕ) → 1 ≤ base → GoesOnFrom (IsScalarNumber base (suc left)) []
zero_number base left one =
    let r : IsRest base left 0 (codes ";") [] 0 = record { digits = []; few = omega arith; each = tt; number = refl; scalar_is = refl; parts = refl } in
    record { more = 48 ∷ codes ";"; value = 0; is = number_goes base left 48 [] (codes ";") 0 (zero_digit base one) r }

digit_small : (base byte : ℕ) → is_digit base byte ≡ true → base ≤ 36 → digit_value byte < 36
digit_small base byte is le = omega (arith, ltb-true (digit_value byte) base is)

digit_alive : (base left byte : ℕ) → is_digit base byte ≡ true → base ≤ 36 → IsAlive left (digit_value byte)
digit_alive base left byte is le =
    let small = digit_small base byte is le in
    (omega (arith, small), rw (low_scalar (digit_value byte) (omega (arith, small))) refl)

number_stopped_by : (base left byte : ℕ) (bytes left_ : List ℕ) (t : Bool) → is_digit base byte ≡ t → 1 ≤ base → base ≤ 36 → ZeroMakesScalar base
    → (cond t (ok (byte, bytes)) (stop (byte ∷ bytes)) >>= λ (x : ℕ × List ℕ). number_from base left (digit_value x.0) x.1) ≡ stop left_ → IsNumberStopped base (suc left) (byte ∷ bytes) left_
number_stopped_by base left byte bytes left_ true is one le zero_ e =
    let s = from_stopped base left (digit_value byte) bytes left_ one zero_ (digit_alive base left byte is le) e in
    record {
      text = byte ∷ s.text;
      goes_on = record { more = s.goes_on.more; value = s.goes_on.value; is = number_goes base left byte s.text s.goes_on.more s.goes_on.value is s.goes_on.is };
      parts = ap (λ (b : List ℕ). byte ∷ b) s.parts;
    }
number_stopped_by base left byte bytes left_ false is one le zero_ e =
    let same : byte ∷ bytes ≡ left_ = cc in
    record { text = []; goes_on = zero_number base left one; parts = same }

number_stopped : (base left : ℕ) (bytes left_ : List ℕ) → 1 ≤ base → base ≤ 36 → ZeroMakesScalar base → scalar_number base (suc left) bytes ≡ stop left_ → IsNumberStopped base (suc left) bytes left_
unfolding scalar_number one_of
number_stopped base left [] left_ one le zero_ e =
    let same : [] ≡ left_ = cc in
    record { text = []; goes_on = zero_number base left one; parts = same }
number_stopped base left (byte ∷ bytes) left_ one le zero_ e = number_stopped_by base left byte bytes left_ (is_digit base byte) refl one le zero_ e

number_viable : (base left : ℕ) → 1 ≤ base → base ≤ 36 → ZeroMakesScalar base → IsViable (scalar_number base (suc left)) (IsScalarNumber base (suc left))
number_viable base left one le zero_ = record {
  viable = λ bytes left_ e.
      let s = number_stopped base left bytes left_ one le zero_ e in
      (s.text, s.goes_on, s.parts);
}

surrogate : (value : ℕ) → value ≤ 0x10FFFF → scalar value ≡ false → (55296 ≤ value) × (value < 57344)
surrogate value small is = (grind (arith, small, is), grind (arith, small, is))

high_scalar : (c : ℕ) → 57344 ≤ c → c < 1114112 → IsScalar c
high_scalar c low high = grind (arith, low, high)

zero_ten : ZeroMakesScalar 10
zero_ten value small is =
    let s = surrogate value small is in
    high_scalar (10 * value + digit_value 48) (omega (arith, s.0)) (omega (arith, s.1))

zero_sixteen : ZeroMakesScalar 16
zero_sixteen value small is =
    let s = surrogate value small is in
    high_scalar (16 * value + digit_value 48) (omega (arith, s.0)) (omega (arith, s.1))

hex_viable : IsViable (scalar_number 16 6) (IsScalarNumber 16 6)
hex_viable = number_viable 16 5 (omega arith) (omega arith) zero_sixteen

decimal_viable : IsViable (scalar_number 10 7) (IsScalarNumber 10 7)
decimal_viable = number_viable 10 6 (omega arith) (omega arith) zero_ten

number_reference_viable : IsViable number_reference IsNumberReference
unfolding number_reference
number_reference_viable =
    follow_viable (strip_spells (codes "#")) (strip_viable (codes "#"))
    (λ u. choice_viable (next_is is_x) (follow_viable (one_of_spells is_x) (one_of_viable is_x 120 refl) (λ byte. hex_viable) (λ byte. zero_number 16 5 (omega arith))) decimal_viable)
    (λ u. either_some (zero_number 10 6 (omega arith)))

pub reference_viable : IsViable reference IsReference
unfolding reference
reference_viable =
    follow_viable (strip_spells (codes "&")) (strip_viable (codes "&"))
    (λ u. choice_viable (starts (codes "#")) number_reference_viable entities_viable)
    (λ u. first_some (seq_some (fixed_some (codes "#")) (λ v. either_some (zero_number 10 6 (omega arith)))))
