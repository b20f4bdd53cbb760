-- What the letters of a gap are, and how many.
use Rattle.std.proofs.Common.{◌≡◌, ◌⊎◌, inl, inr, ℕ, ◌+◌, ◌≤◌, ◌&&◌, Bool, true, List, [], ◌∷◌, ◌++◌, length, length-append, codes, refl, sym, ap, subst, ◌∙◌, arith, append-nil}
use Rattle.std.specs.Prelude.{⊤, nat_le}
use Rattle.std.specs.List.{concat}
use Rattle.std.proofs.lemmas.Bool.{and_parts, leb-true}
use Rattle.std.specs.Char.{IsScalar, encode_utf8}
use Rattle.std.specs.Str.{chars}
use Rattle.std.proofs.lemmas.Str.{chars-encodes, encodes-append, len_utf8_bounds, length-encode}
use Rattle.std.proofs.Math.Utf8.{scalar, scalars, encodes}
use Rattle.reading.specs.Grammars.{AllPass, Each, Either, Mapped, OneWord}
use Rattle.html_tokens.specs.Characters.{entities, in_repertoire}
use Rattle.html_tokens.specs.Grammar.{IsCharacter, IsComment, IsGap, IsLetter, IsNumberReference, IsReference, IsScalarNumber}
use Rattle.html_tokens.specs.Text.{IsOfRepertoire}

-- ---- references

-- a character, by a text that is at least as long
record IsMeant (text : List ℕ) (c : ℕ) : Type 0 where
  is_scalar : IsScalar c
  short : length (encode_utf8 c) ≤ length text

-- a word of a reference has three bytes at least, with the `;`
abbrev are_meant : List (List ℕ × ℕ) → Bool
are_meant [] = true
are_meant (row ∷ rows) = (scalar row.1 && nat_le 3 (length row.0)) && are_meant rows

entities_are_meant : are_meant entities ≡ true
unfolding entities
entities_are_meant = refl

record IsLong (least : ℕ) (text : List ℕ) (c : ℕ) : Type 0 where
  is_scalar : IsScalar c
  long : least ≤ length text

word_long : (rows : List (List ℕ × ℕ)) (text : List ℕ) (c : ℕ) → are_meant rows ≡ true → OneWord rows text c → IsLong 3 text c
word_long [] text c known is = absurd is
word_long (row ∷ rows) text c known (inl is) =
    let both = and_parts (scalar row.1 && nat_le 3 (length row.0)) (are_meant rows) known in
    let here = and_parts (scalar row.1) (nat_le 3 (length row.0)) both.0 in
    let size : length text ≡ length row.0 = ap length is.0 in
    record { is_scalar = rw is.1 here.0; long = omega (arith, size, leb-true 3 (length row.0) here.1) }
word_long (row ∷ rows) text c known (inr is) = word_long rows text c (and_parts (scalar row.1 && nat_le 3 (length row.0)) (are_meant rows) known).1 is

digits_long : (base most : ℕ) (text : List ℕ) (c : ℕ) → IsScalarNumber base most text c → IsLong 2 text c
digits_long base most text c is =
    let size : length text ≡ length is.digits + 1 = ap length is.whole ∙ length-append is.digits (codes ";") in
    record { is_scalar = is.is_scalar; long = omega (arith, size, is.some) }

-- behind a text that is read first
longer : (least : ℕ) (text front back : List ℕ) (c : ℕ) → text ≡ front ++ back → IsLong least back c → IsLong (length front + least) text c
longer least text front back c parts is =
    let size : length text ≡ length front + length back = ap length parts ∙ length-append front back in
    record { is_scalar = is.is_scalar; long = omega (arith, size, is.long) }

at_least : (more least : ℕ) (text : List ℕ) (c : ℕ) → least ≤ more → IsLong more text c → IsLong least text c
at_least more least text c le is = record { is_scalar = is.is_scalar; long = omega (arith, le, is.long) }

number_long : (text : List ℕ) (c : ℕ) → IsNumberReference text c → IsLong 3 text c
number_long text c (u, front, back, first, inl (byte, x, digits, is_x, is, parts), whole) =
    let size : length front ≡ 1 = ap length first in
    at_least (length front + (length x + 2)) 3 text c (omega (arith, size)) (longer (length x + 2) text front back c whole (longer 2 back x digits c parts (digits_long 16 6 digits c is)))
number_long text c (u, front, back, first, inr is, whole) =
    let size : length front ≡ 1 = ap length first in
    at_least (length front + 2) 3 text c (omega (arith, size)) (longer 2 text front back c whole (digits_long 10 7 back c is))

behind_amp : (back : List ℕ) (c : ℕ) → IsNumberReference back c ⊎ OneWord entities back c → IsLong 3 back c
behind_amp back c (inl is) = number_long back c is
behind_amp back c (inr is) = word_long entities back c entities_are_meant is

reference_meant : (text : List ℕ) (c : ℕ) → IsReference text c → IsMeant text c
reference_meant text c is =
    let amp : length is.1 ≡ 1 = ap length is.3 in
    let long = longer 3 text is.1 is.2 c is.5 (behind_amp is.2 c is.4) in
    record { is_scalar = long.is_scalar; short = omega (arith, amp, long.long, (len_utf8_bounds c).1, length-encode c) }

character_meant : (text : List ℕ) (c : ℕ) → IsCharacter text c → IsMeant text c
character_meant text c is = record { is_scalar = is.1; short = omega (arith, ap length is.0) }

-- ---- pieces

-- letters that characters of the repertoire spell, not longer than a text
record AreSpelled (text letters : List ℕ) : Type 0 where
  spelled : List ℕ
  are_scalars : scalars spelled ≡ true
  each : AllPass in_repertoire spelled
  letters_are : letters ≡ encodes spelled
  short : length letters ≤ length text

letter_spelled : (text letters : List ℕ) (c : ℕ) → IsMeant text c → in_repertoire c ≡ true → letters ≡ encode_utf8 c → AreSpelled text letters
letter_spelled text letters c is known e = record {
  spelled = c ∷ [];
  are_scalars = rw is.is_scalar refl;
  each = (known, tt);
  letters_are = e ∙ sym (append-nil (encode_utf8 c));
  short = omega (arith, ap length e, is.short);
}

piece_spelled : (text letters : List ℕ) → Either (Mapped (λ (u : ⊤). []) IsComment) IsLetter text letters → AreSpelled text letters
piece_spelled text letters (inl is) = record { spelled = []; are_scalars = refl; each = tt; letters_are = is.2; short = omega (arith, ap length is.2) }
piece_spelled text letters (inr (c, inl is, known, e)) = letter_spelled text letters c (reference_meant text c is) known e
piece_spelled text letters (inr (c, inr is, known, e)) = letter_spelled text letters c (character_meant text c is.0) known e

pass_both : (test : ℕ → Bool) (xs ys : List ℕ) → AllPass test xs → AllPass test ys → AllPass test (xs ++ ys)
pass_both test [] ys p q = q
pass_both test (x ∷ xs) ys p q = (p.0, pass_both test xs ys p.1 q)

scalars_both : (xs ys : List ℕ) → scalars xs ≡ true → scalars ys ≡ true → scalars (xs ++ ys) ≡ true
scalars_both [] ys p q = q
scalars_both (x ∷ xs) ys p q =
    let both = and_parts (scalar x) (scalars xs) p in
    rw (both.0, scalars_both xs ys both.1 q) refl

joined_spelled : (text front back letters others : List ℕ) → text ≡ front ++ back → AreSpelled front letters → AreSpelled back others → AreSpelled text (letters ++ others)
joined_spelled text front back letters others parts a b = record {
  spelled = a.spelled ++ b.spelled;
  are_scalars = scalars_both a.spelled b.spelled a.are_scalars b.are_scalars;
  each = pass_both in_repertoire a.spelled b.spelled a.each b.each;
  letters_are = ap (λ (l : List ℕ). l ++ others) a.letters_are ∙ ap (λ (l : List ℕ). encodes a.spelled ++ l) b.letters_are ∙ sym (encodes-append a.spelled b.spelled);
  short = omega (arith, a.short, b.short, ap length parts, length-append front back, length-append letters others);
}

pieces_spelled : (pieces : List (List ℕ)) (text : List ℕ) → Each (Either (Mapped (λ (u : ⊤). []) IsComment) IsLetter) text pieces → AreSpelled text (concat pieces)
pieces_spelled [] text is = record { spelled = []; are_scalars = refl; each = tt; letters_are = refl; short = omega arith }
pieces_spelled (piece ∷ pieces) text (front, back, first, others, parts) =
    joined_spelled text front back piece (concat pieces) parts (piece_spelled front piece first) (pieces_spelled pieces back others)

-- ---- gaps

gap_spelled : (text letters : List ℕ) → IsGap text letters → AreSpelled text letters
gap_spelled text letters is = subst (λ (l : List ℕ). AreSpelled text l) (sym is.2) (pieces_spelled is.0 text is.1)

pub gap_shorter : (text letters : List ℕ) → IsGap text letters → length letters ≤ length text
gap_shorter text letters is = (gap_spelled text letters is).short

pub gap_of_repertoire : (text letters : List ℕ) → IsGap text letters → IsOfRepertoire letters
gap_of_repertoire text letters is =
    let s = gap_spelled text letters is in
    let same : chars letters ≡ s.spelled = ap chars s.letters_are ∙ chars-encodes s.spelled s.are_scalars in
    subst (λ (l : List ℕ). AllPass in_repertoire l) (sym same) s.each
