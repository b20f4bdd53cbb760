-- Characters by their codes, and the other arguments of `metric`: what is spelled so is read, and what is read is spelled so.
use Rattle.std.proofs.Common.{◌≡◌, inl, inr, ℕ, ◌+◌, ◌*◌, ◌≤◌, Bool, true, false, cond, ◌&&◌, List, [], ◌∷◌, ◌++◌, codes, Ok, Err, refl, sym, ap, subst, ◌∙◌, arith}
use Rattle.std.specs.Prelude.{nat_le}
use Rattle.std.specs.Char.{IsScalar, digit_value}
use lib.Utf8.{scalar}
use Rattle.std.proofs.lemmas.Bool.{and_parts, le-leb, leb-true}
use Rattle.reading.specs.Readers.{Read, Reader, choice, follow, give, next_is, one_word, refuse}
use Rattle.reading.specs.Grammars.{AllPass, Either, Given, Grammar, Mapped, OneOf, OneWord, Seq}
use Rattle.reading.specs.Spelling.{Anything, Spells}
use Rattle.reading.specs.Words.{all_differ}
use Rattle.reading.proofs.SpellLaws.{after_spells, bind_ok, choice_spells, follow_spells, give_spells, mapped_spells, one_of_spells, same_answer, spells_as, spells_before}
use Rattle.reading.proofs.WordLaws.{one_word_spells}
use Rattle.html_tokens.specs.Characters.{in_repertoire}
use Rattle.edit_script.specs.Command.{character, four_digits, hexadecimal, hexadecimal_digit, is_hexadecimal, orientations}
use Rattle.edit_script.specs.Grammar.{IsCharacter, IsHexadecimal, IsOrientation}

abbrev good : {A : Type 0} → A × List ℕ → Read A
good x = Ok x

-- ---- a value that passes a test

unfoldable pub passing : {A : Type 0} → (A → Bool) → Reader A → Reader A
passing test f = follow f (λ x. choice (λ bytes. test x) (give x) refuse)

-- of the grammar, with a value that passes the test
abbrev pub Passing : {A : Type 0} → (A → Bool) → Grammar A → Grammar A
Passing test R text x = R text x × (test x ≡ true)

passes_by : {A : Type 0} (x y : A) (left rest : List ℕ) (t : Bool) → cond t (good (x, left)) (Err left) ≡ good (y, rest) → (t ≡ true) × (x ≡ y) × (left ≡ rest)
passes_by x y left rest true e =
    let same = same_answer {E = List ℕ} x y left rest e in
    (refl, same.0, same.1)
passes_by x y left rest false e = absurd cc

passing_takes : {A : Type 0} (test : A → Bool) (f : Reader A) (bytes rest : List ℕ) (x : A) → passing test f bytes ≡ good (x, rest) → (f bytes ≡ good (x, rest)) × (test x ≡ true)
unfolding passing
passing_takes {A = A} test f bytes rest x e =
    let a = bind_ok (f bytes) (λ (p : A × List ℕ). choice (λ b. test p.0) (give p.0) refuse p.1) (x, rest) e in
    let p = passes_by a.0.0 x a.0.1 rest (test a.0.0) a.2 in
    (a.1 ∙ ap (λ (z : A). good (z, a.0.1)) p.1 ∙ ap (λ (l : List ℕ). good (x, l)) p.2, ap test (sym p.1) ∙ p.0)

pub passing_spells : {A : Type 0} (test : A → Bool) {f : Reader A} {R : Grammar A} {Ends : List ℕ → Type 0} → Spells f R Ends → Spells (passing test f) (Passing test R) Ends
unfolding passing
passing_spells {A = A} test {f = f} p = record {
  takes = λ bytes x rest e.
      let t = passing_takes test f bytes rest x e in
      let s = p.takes bytes x rest t.0 in
      (s.0, (s.1, t.1), s.2);
  again = λ text x rest r ends. rw (p.again text x rest r.0 ends, r.1) refl;
}

-- ---- a number within bounds

unfoldable pub is_within : (least most n : ℕ) → Bool
is_within least most n = nat_le least n && nat_le n most

pub to_within : (least most n : ℕ) → is_within least most n ≡ true → (least ≤ n) × (n ≤ most)
unfolding is_within
to_within least most n is =
    let both = and_parts (nat_le least n) (nat_le n most) is in
    (leb-true least n both.0, leb-true n most both.1)

pub from_within : (least most n : ℕ) → least ≤ n → n ≤ most → is_within least most n ≡ true
unfolding is_within
from_within least most n low high = rw (le-leb least n low, le-leb n most high) refl

-- ---- hexadecimal digits

IsDigit : Grammar ℕ
IsDigit = Mapped (λ byte. digit_value byte) (OneOf is_hexadecimal)

digit_spells : Spells hexadecimal_digit IsDigit Anything
unfolding hexadecimal_digit IsDigit
digit_spells = mapped_spells (λ byte. digit_value byte) (one_of_spells is_hexadecimal)

AreFour : Grammar ℕ
AreFour = Seq IsDigit (λ a. Seq IsDigit (λ b. Seq IsDigit (λ c. Mapped (λ d. 16 * (16 * (16 * a + b) + c) + d) IsDigit)))

four_spell : Spells four_digits AreFour Anything
unfolding four_digits AreFour
four_spell =
    follow_spells digit_spells
    (λ a. follow_spells digit_spells
    (λ b. follow_spells digit_spells (λ c. mapped_spells (λ d. 16 * (16 * (16 * a + b) + c) + d) digit_spells) (λ x y back rest r ends. tt))
    (λ x y back rest r ends. tt))
    (λ x y back rest r ends. tt)

-- no digit more stands there
abbrev pub NoHexadecimal : List ℕ → Type 0
NoHexadecimal rest = next_is is_hexadecimal rest ≡ false

AreFourOrFive : Grammar ℕ
AreFourOrFive = Seq AreFour (λ code. Either (Mapped (λ digit. 16 * code + digit) IsDigit) (Given code))

digit_comes : (text rest : List ℕ) (n : ℕ) → IsDigit text n → next_is is_hexadecimal (text ++ rest) ≡ true
unfolding IsDigit
digit_comes text rest n d = subst (λ (t : List ℕ). next_is is_hexadecimal (t ++ rest) ≡ true) (sym d.1.0) d.1.1

four_or_five_spell : Spells hexadecimal AreFourOrFive NoHexadecimal
unfolding hexadecimal AreFourOrFive
four_or_five_spell =
    follow_spells four_spell
    (λ code. choice_spells (next_is is_hexadecimal) (spells_before (mapped_spells (λ digit. 16 * code + digit) digit_spells) (λ rest ends. tt)) (spells_before (give_spells code) (λ rest ends. tt))
    (λ text x rest r ends. digit_comes text rest r.0 r.1)
    (λ text x rest r ends. subst (λ (t : List ℕ). NoHexadecimal (t ++ rest)) (sym r.0) ends))
    (λ x y back rest r ends. tt)

-- the digits one by one
record Four (text : List ℕ) (code : ℕ) : Type 0 where
  a : ℕ
  b : ℕ
  c : ℕ
  d : ℕ
  whole : text ≡ a ∷ b ∷ c ∷ d ∷ []
  each : AllPass is_hexadecimal (a ∷ b ∷ c ∷ d ∷ [])
  value : code ≡ 16 * (16 * (16 * digit_value a + digit_value b) + digit_value c) + digit_value d

are_four : (text : List ℕ) (code : ℕ) → AreFour text code → Four text code
unfolding AreFour IsDigit
are_four text code (va, fa, ra, (a, (ta, ha), ea), (vb, fb, rb, (b, (tb, hb), eb), (vc, fc, rc, (c, (tc, hc), ec), (vd, (d, (td, hd), ed), ve), wc), wb), wa) = record {
  a = a;
  b = b;
  c = c;
  d = d;
  whole = rw (wa, ta, wb, tb, wc, tc, td) refl;
  each = (ha, (hb, (hc, (hd, tt))));
  value = rw (ve, ea, eb, ec, ed) refl;
}

to_hexadecimal : (text : List ℕ) (n : ℕ) → AreFourOrFive text n → IsHexadecimal text n
unfolding AreFourOrFive IsDigit
to_hexadecimal text n (code, front, back, four, inl (value, (e, (te, he), ee), same), whole) =
    let f = are_four front code four in
    let is : text ≡ f.a ∷ f.b ∷ f.c ∷ f.d ∷ e ∷ [] = whole ∙ ap (λ (b : List ℕ). front ++ b) te ∙ ap (λ (t : List ℕ). t ++ (e ∷ [])) f.whole in
    rw is
    (record {
      digits = (f.each.0, (f.each.1.0, (f.each.1.1.0, (f.each.1.1.1.0, (he, tt)))));
      four_or_five = inr refl;
      value = omega (arith, same, f.value, ee);
    })
to_hexadecimal text n (code, front, back, four, inr (none, same), whole) =
    let f = are_four front code four in
    let is : text ≡ f.a ∷ f.b ∷ f.c ∷ f.d ∷ [] = whole ∙ ap (λ (b : List ℕ). front ++ b) none ∙ ap (λ (t : List ℕ). t ++ []) f.whole in
    rw is
    (record {
      digits = f.each;
      four_or_five = inl refl;
      value = omega (arith, same, f.value);
    })

a_digit : (byte : ℕ) → is_hexadecimal byte ≡ true → IsDigit (byte ∷ []) (digit_value byte)
unfolding IsDigit
a_digit byte is = (byte, (refl, is), refl)

four_again : (a b c d : ℕ) → AllPass is_hexadecimal (a ∷ b ∷ c ∷ d ∷ []) → AreFour (a ∷ b ∷ c ∷ d ∷ []) (16 * (16 * (16 * digit_value a + digit_value b) + digit_value c) + digit_value d)
unfolding AreFour
four_again a b c d (ha, (hb, (hc, (hd, u)))) = (
  digit_value a,
  a ∷ [],
  b ∷ c ∷ d ∷ [],
  a_digit a ha,
  (
    digit_value b,
    b ∷ [],
    c ∷ d ∷ [],
    a_digit b hb,
    (digit_value c, c ∷ [], d ∷ [], a_digit c hc, (digit_value d, a_digit d hd, refl), refl),
    refl,
  ),
  refl,
)

from_hexadecimal : (text : List ℕ) (n : ℕ) → IsHexadecimal text n → AreFourOrFive text n
unfolding AreFourOrFive
from_hexadecimal [] n is = absurd (elim is.four_or_five [ inl l ↦ omega (arith, l) | inr l ↦ omega (arith, l) ])
from_hexadecimal (a ∷ []) n is = absurd (elim is.four_or_five [ inl l ↦ omega (arith, l) | inr l ↦ omega (arith, l) ])
from_hexadecimal (a ∷ b ∷ []) n is = absurd (elim is.four_or_five [ inl l ↦ omega (arith, l) | inr l ↦ omega (arith, l) ])
from_hexadecimal (a ∷ b ∷ c ∷ []) n is = absurd (elim is.four_or_five [ inl l ↦ omega (arith, l) | inr l ↦ omega (arith, l) ])
from_hexadecimal (a ∷ b ∷ c ∷ d ∷ []) n is =
    let value = is.value in (
      16 * (16 * (16 * digit_value a + digit_value b) + digit_value c) + digit_value d,
      a ∷ b ∷ c ∷ d ∷ [],
      [],
      four_again a b c d is.digits,
      inr (refl, omega (arith, value)),
      refl,
    )
from_hexadecimal (a ∷ b ∷ c ∷ d ∷ e ∷ []) n is =
    let value = is.value in
    let each = is.digits in (
      16 * (16 * (16 * digit_value a + digit_value b) + digit_value c) + digit_value d,
      a ∷ b ∷ c ∷ d ∷ [],
      e ∷ [],
      four_again a b c d (each.0, (each.1.0, (each.1.1.0, (each.1.1.1.0, tt)))),
      inl (digit_value e, a_digit e each.1.1.1.1.0, omega (arith, value)),
      refl,
    )
from_hexadecimal (a ∷ b ∷ c ∷ d ∷ e ∷ f ∷ text) n is = absurd (elim is.four_or_five [ inl l ↦ omega (arith, l) | inr l ↦ omega (arith, l) ])

hexadecimal_spells : Spells hexadecimal IsHexadecimal NoHexadecimal
hexadecimal_spells = spells_as four_or_five_spell to_hexadecimal from_hexadecimal

-- ---- characters

is_known : ℕ → Bool
is_known c = scalar c && in_repertoire c

to_known : (text : List ℕ) (c : ℕ) → Passing is_known IsHexadecimal text c → IsHexadecimal text c × IsScalar c × (in_repertoire c ≡ true)
unfolding is_known
to_known text c is =
    let both = and_parts (scalar c) (in_repertoire c) is.1 in
    (is.0, both.0, both.1)

from_known : (text : List ℕ) (c : ℕ) → IsHexadecimal text c × IsScalar c × (in_repertoire c ≡ true) → Passing is_known IsHexadecimal text c
unfolding is_known
from_known text c is = (is.0, rw (is.1, is.2) refl)

pub character_spells : Spells character IsCharacter NoHexadecimal
unfolding character passing is_known
character_spells = after_spells (codes " U+") (spells_as (passing_spells is_known hexadecimal_spells) to_known from_known)

-- ---- orientations

orientations_differ : all_differ orientations ≡ true
unfolding orientations
orientations_differ = refl

to_orientation : (text : List ℕ) (upright : Bool) → OneWord orientations text upright → IsOrientation text upright
unfolding orientations
to_orientation text true (inl r) = absurd (cc r.1)
to_orientation text true (inr (inl r)) = r.0
to_orientation text true (inr (inr none)) = absurd none
to_orientation text false (inl r) = r.0
to_orientation text false (inr (inl r)) = absurd (cc r.1)
to_orientation text false (inr (inr none)) = absurd none

from_orientation : (text : List ℕ) (upright : Bool) → IsOrientation text upright → OneWord orientations text upright
unfolding orientations
from_orientation text true is = inr (inl (is, refl))
from_orientation text false is = inl (is, refl)

pub orientation_spells : Spells (one_word orientations) IsOrientation Anything
orientation_spells = spells_as (one_word_spells orientations orientations_differ) to_orientation from_orientation

-- an orientation begins with a space, which is no digit
pub orientation_no_digit : (text front more behind : List ℕ) (upright : Bool) → IsOrientation front upright → text ≡ front ++ more → NoHexadecimal (text ++ behind)
orientation_no_digit text front more behind true is whole = rw (whole, is) refl
orientation_no_digit text front more behind false is whole = rw (whole, is) refl
