-- Values of attributes: what is read is spelled so, and what is spelled so is read.
use Rattle.std.proofs.Common.{◌≡◌, inl, inr, ℕ, ◌<◌, true, false, not, eqb, List, [], ◌∷◌, ◌++◌, length, codes, is_ok, refl, sym, ap, subst, ◌∙◌, append_assoc, arith}
use Rattle.std.specs.Prelude.{⊤}
use Rattle.std.specs.Char.{encode_utf8}
use Rattle.std.proofs.lemmas.Bool.{and_parts, not-true}
use Rattle.reading.specs.Readers.{Read, strip, starts, can_read}
use Rattle.reading.specs.Grammars.{AllPass, OneOf, Seq}
use Rattle.reading.specs.Spelling.{Anything, Spells, IsTestOf}
use Rattle.reading.proofs.SpellLaws.{give_spells, strip_spells, one_of_spells, follow_spells, mapped_spells, choice_spells, spells_before}
use Rattle.reading.proofs.ManyLaws.{joined_spells}
use Rattle.reading.proofs.PlacedLaws.{follow_spells_where, skip_again}
use Rattle.reading.specs.White.{is_white, spaces}
use Rattle.html_tokens.specs.Lexing.{is_quote, is_plain, in_value, value_piece, value_in, quoted, equals, value}
use Rattle.html_tokens.specs.Grammar.{IsSpaces, IsReference, IsValuePiece, IsQuoted, IsEquals, IsValue}
use Rattle.html_tokens.proofs.MiscLaws.{NoWhite, NoNameByte, spaces_spells, blank_ends_name}
use Rattle.html_tokens.proofs.ReferenceLaws.{reference_spells}

-- ---- what stands in a value

pub reference_begins : (text rest : List ℕ) (c : ℕ) → IsReference text c → (more : List ℕ) × (text ++ rest ≡ 38 ∷ more)
reference_begins text rest c r = (r.2 ++ rest, rw (r.5, r.3) refl)

plain_parts : (quote byte : ℕ) → is_plain quote byte ≡ true → (eqb byte quote ≡ false) × (eqb byte 38 ≡ false)
plain_parts quote byte is =
    let both = and_parts (not (eqb byte quote)) (not (eqb byte 38)) is in
    (not-true (eqb byte quote) both.0, not-true (eqb byte 38) both.1)

pub value_piece_spells : (quote : ℕ) → Spells (value_piece quote) (IsValuePiece quote) Anything
unfolding value_piece starts strip
value_piece_spells quote =
    choice_spells (starts (codes "&")) (mapped_spells (λ c. encode_utf8 c) reference_spells) (mapped_spells (λ (byte : ℕ). byte ∷ []) (one_of_spells (is_plain quote)))
    (λ text x rest r any. ap (starts (codes "&")) (reference_begins text rest r.0 r.1).1)
    (λ text x rest r any. rw (r.1.0, (plain_parts quote r.0 r.1.1).1) refl)

quote_not_and : (quote : ℕ) → is_quote quote ≡ true → eqb 38 quote ≡ false
quote_not_and quote is = grind arith

pub piece_some : (quote : ℕ) (text x : List ℕ) → IsValuePiece quote text x → 0 < length text
piece_some quote text x (inl r) =
    let b = reference_begins text [] r.0 r.1 in
    rw (r.1.5, r.1.3) (omega arith)
piece_some quote text x (inr r) = rw r.1.0 (omega arith)

piece_begins : (quote : ℕ) (text x rest : List ℕ) → is_quote quote ≡ true → IsValuePiece quote text x → in_value quote (text ++ rest) ≡ true
piece_begins quote text x rest is (inl r) = ap (in_value quote) (reference_begins text rest r.0 r.1).1 ∙ ap not (quote_not_and quote is)
piece_begins quote text x rest is (inr r) = rw (r.1.0, (plain_parts quote r.0 r.1.1).0) refl

abbrev pub AtQuote : ℕ → List ℕ → Type 0
AtQuote quote rest = in_value quote rest ≡ false

pub value_test : (quote : ℕ) → is_quote quote ≡ true → IsTestOf (in_value quote) (IsValuePiece quote) Anything (AtQuote quote)
value_test quote is = record {
  some = λ text x r. piece_some quote text x r;
  begins = λ text x rest r any. piece_begins quote text x rest is r;
  next = λ rest e. tt;
  last = λ rest more. tt;
  ends = λ rest more. more;
}

at_quote : (quote byte : ℕ) (text rest : List ℕ) → OneOf (λ (byte : ℕ). eqb byte quote) text byte → AtQuote quote (text ++ rest)
at_quote quote byte text rest r = rw (r.0, r.1) refl

pub quoted_spells : Spells quoted IsQuoted Anything
unfolding quoted value_in
quoted_spells =
    follow_spells_where (λ (quote : ℕ). is_quote quote ≡ true) (one_of_spells is_quote) (λ text quote r. r.1)
    (λ quote is. follow_spells (joined_spells (value_piece_spells quote) (value_test quote is))
    (λ value. mapped_spells (λ (byte : ℕ). value) (one_of_spells (λ (byte : ℕ). eqb byte quote)))
    (λ x y back rest r any. at_quote quote r.0 back rest r.1))
    (λ x y back rest is r any. tt)

-- ---- values

pub equals_spells : Spells equals IsEquals Anything
unfolding equals
equals_spells = follow_spells spaces_spells (λ u. strip_spells (codes "=")) (λ x y back rest r any. rw r refl)

quote_not_white : (byte : ℕ) → is_quote byte ≡ true → is_white byte ≡ false
quote_not_white byte is = grind arith

quoted_begins : (text x rest : List ℕ) → IsQuoted text x → NoWhite (text ++ rest)
quoted_begins text x rest r = rw (r.5, r.3.0) (quote_not_white r.0 r.3.1)

-- no `=` comes, be it behind white space
abbrev pub NoEquals : List ℕ → Type 0
NoEquals rest = can_read equals rest ≡ false

equals_ahead : (text rest : List ℕ) (x : List ℕ) → Seq IsEquals (λ u. Seq IsSpaces (λ u. IsQuoted)) text x → can_read equals (text ++ rest) ≡ true
equals_ahead text rest x r =
    let whole : text ++ rest ≡ r.1 ++ (r.2 ++ rest) = ap (λ (t : List ℕ). t ++ rest) r.5 ∙ append_assoc r.1 r.2 rest in
    ap (can_read equals) whole ∙ ap (λ (t : Read ⊤). is_ok t) (equals_spells.again r.1 r.0 (r.2 ++ rest) r.3 tt)

pub value_spells : Spells value IsValue NoEquals
unfolding value
value_spells =
    choice_spells (can_read equals)
    (spells_before (follow_spells equals_spells (λ u. follow_spells spaces_spells (λ v. quoted_spells) (λ x y back rest r any. quoted_begins back y rest r)) (λ x y back rest r any. tt)) (λ rest ends. tt))
    (spells_before (give_spells []) (λ rest ends. tt))
    (λ text x rest r ends. equals_ahead text rest x r)
    (λ text x rest r ends. rw r.0 ends)

-- what stands behind a name
pub value_ends_name : (text x rest : List ℕ) → IsValue text x → NoNameByte rest → NoNameByte (text ++ rest)
value_ends_name text x rest (inl r) ends =
    let blank = r.3.1 in
    let whole : text ++ rest ≡ blank ++ (codes "=" ++ (r.2 ++ rest)) =
    ap (λ (t : List ℕ). t ++ rest) (r.5 ∙ ap (λ (t : List ℕ). t ++ r.2) (r.3.5 ∙ ap (λ (t : List ℕ). blank ++ t) r.3.4))
    ∙ append_assoc (blank ++ codes "=") r.2 rest ∙ append_assoc blank (codes "=") (r.2 ++ rest) in
    subst (λ (t : List ℕ). NoNameByte t) (sym whole) (blank_ends_name blank (codes "=" ++ (r.2 ++ rest)) r.3.3 refl)
value_ends_name text x rest (inr r) ends = rw r.0 ends

-- no `=` comes where another byte stands behind the white space
pub no_equals : (blank more : List ℕ) (byte : ℕ) → AllPass is_white blank → is_white byte ≡ false → eqb byte 61 ≡ false → NoEquals (blank ++ byte ∷ more)
unfolding equals spaces strip
no_equals blank more byte pass stops other = rw (skip_again is_white blank (byte ∷ more) pass stops, other) refl
