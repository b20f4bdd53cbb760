-- Strings: what is read is spelled so, and what is spelled so is read.
use Rattle.std.proofs.Common.{◌≡◌, inl, inr, ℕ, ◌<◌, Bool, true, false, not, cond, eqb, List, [], ◌∷◌, ◌++◌, length, codes, refl, sym, ap, ◌∙◌, arith}
use Rattle.std.proofs.lemmas.Bool.{not-true}
use Rattle.reading.specs.Readers.{Reader, ReaderOr, follow, mapped, refuse, choice, strip, starts, one_of, joined}
use Rattle.reading.specs.Grammars.{Grammar, Joined, OneOf, Mapped}
use Rattle.reading.specs.Spelling.{Anything, Spells, IsTestOf}
use Rattle.reading.proofs.SpellLaws.{ok, strip_spells, one_of_spells, mapped_spells, follow_spells}
use Rattle.reading.proofs.ManyLaws.{joined_spells}
use Rattle.reading.proofs.PlacedLaws.{follow_spells_where}
use Rattle.css_tokens.specs.Characters.{is_quote, is_line_break}
use Rattle.css_tokens.specs.Lexing.{in_string, string_piece, string}
use Rattle.css_tokens.specs.Grammar.{IsEscaped, IsStringPiece, IsString, stands_for_itself}
use Rattle.reading.proofs.TurnLaws.{repeat_same}
use Rattle.css_tokens.proofs.NameLaws.{guarded}

-- a reader that reads like another
spells_alike : {E A : Type 0} {f g : ReaderOr E A} {R : Grammar A} {Ends : List ℕ → Type 0} → ((bytes : List ℕ) → f bytes ≡ g bytes) → Spells g R Ends → Spells f R Ends
spells_alike same p = record {
  takes = λ bytes x rest e. p.takes bytes x rest (sym (same bytes) ∙ e);
  again = λ text x rest r ends. same (text ++ rest) ∙ p.again text x rest r ends;
}

-- ---- one piece

abbrev escaped : Reader (List ℕ)
escaped = follow (strip (codes "\\")) (λ u. mapped (λ byte. 92 ∷ byte ∷ []) (one_of (λ byte. true)))

abbrev plain : Reader (List ℕ)
plain = mapped (λ byte. byte ∷ []) (one_of (λ byte. not (is_line_break byte)))

escaped_spells : Spells escaped IsEscaped Anything
escaped_spells = follow_spells (strip_spells (codes "\\")) (λ u. mapped_spells (λ (byte : ℕ). 92 ∷ byte ∷ []) (one_of_spells (λ byte. true))) (λ u y back rest r any. tt)

plain_spells : Spells plain (Mapped (λ byte. byte ∷ []) (OneOf (λ byte. not (is_line_break byte)))) Anything
plain_spells = mapped_spells (λ (byte : ℕ). byte ∷ []) (one_of_spells (λ byte. not (is_line_break byte)))

backslash_by : (byte : ℕ) (rest : List ℕ) (t : Bool) → eqb byte 92 ≡ t → starts (codes "\\") (byte ∷ rest) ≡ t
unfolding starts strip
backslash_by byte rest true e = rw e refl
backslash_by byte rest false e = rw e refl

-- whether a backslash comes
backslash : (byte : ℕ) (rest : List ℕ) → starts (codes "\\") (byte ∷ rest) ≡ eqb byte 92
backslash byte rest = backslash_by byte rest (eqb byte 92) refl

piece_by : (quote : ℕ) (bytes x rest : List ℕ) (t : Bool) → starts (codes "\\") bytes ≡ t → in_string quote bytes ≡ true → cond t (escaped bytes) (plain bytes) ≡ ok (x, rest)
    → (text : List ℕ) × IsStringPiece quote text x × (bytes ≡ text ++ rest)
piece_by quote bytes x rest true is inside e =
    let t = escaped_spells.takes bytes x rest e in
    (t.0, inl t.1, t.2)
piece_by quote bytes x rest false is inside e =
    let t = plain_spells.takes bytes x rest e in
    let byte = t.1.0 in
    let first : bytes ≡ byte ∷ rest = t.2 ∙ ap (λ (s : List ℕ). s ++ rest) t.1.1.0 in
    let no_quote : eqb byte quote ≡ false = not-true (eqb byte quote) (ap (in_string quote) (sym first) ∙ inside) in
    let no_backslash : eqb byte 92 ≡ false = sym (backslash byte rest) ∙ ap (starts (codes "\\")) (sym first) ∙ is in
    let no_break : is_line_break byte ≡ false = not-true (is_line_break byte) t.1.1.1 in
    let own : stands_for_itself quote byte ≡ true = rw (no_quote, no_backslash, no_break) refl in
    (t.0, inr (byte, (t.1.1.0, own), t.1.2), t.2)

quote_not_backslash : (quote : ℕ) → is_quote quote ≡ true → eqb 92 quote ≡ false
quote_not_backslash quote is = grind arith

-- what a byte that stands for itself is not
pub record IsOwn (quote byte : ℕ) : Type 0 where
  pub no_quote : eqb byte quote ≡ false
  pub no_backslash : eqb byte 92 ≡ false
  pub no_break : is_line_break byte ≡ false

own_by : (quote byte : ℕ) (a b c : Bool) → eqb byte quote ≡ a → eqb byte 92 ≡ b → is_line_break byte ≡ c → stands_for_itself quote byte ≡ true → IsOwn quote byte
own_by quote byte true b c e f g own =
    let clash : stands_for_itself quote byte ≡ false = rw e refl in
    absurd (cc (sym own ∙ clash))
own_by quote byte false true c e f g own =
    let clash : stands_for_itself quote byte ≡ false = rw (e, f) refl in
    absurd (cc (sym own ∙ clash))
own_by quote byte false false true e f g own =
    let clash : stands_for_itself quote byte ≡ false = rw (e, f, g) refl in
    absurd (cc (sym own ∙ clash))
own_by quote byte false false false e f g own = record { no_quote = e; no_backslash = f; no_break = g }

own_is : (quote byte : ℕ) → stands_for_itself quote byte ≡ true → IsOwn quote byte
own_is quote byte own = own_by quote byte (eqb byte quote) (eqb byte 92) (is_line_break byte) refl refl refl own

piece_some : (quote : ℕ) (text x : List ℕ) → IsStringPiece quote text x → 0 < length text
piece_some quote text x (inl r) = rw (r.5, r.3) (omega arith)
piece_some quote text x (inr r) = rw r.1.0 (omega arith)

piece_begins : (quote : ℕ) (text x rest : List ℕ) → is_quote quote ≡ true → IsStringPiece quote text x → in_string quote (text ++ rest) ≡ true
piece_begins quote text x rest is (inl r) =
    let first : text ++ rest ≡ 92 ∷ (r.2 ++ rest) = rw (r.5, r.3) refl in
    ap (in_string quote) first ∙ ap not (quote_not_backslash quote is)
piece_begins quote text x rest is (inr r) = ap (λ (t : List ℕ). in_string quote (t ++ rest)) r.1.0 ∙ ap not (own_is quote r.0 r.1.1).no_quote

piece_again : (quote : ℕ) (text x rest : List ℕ) → IsStringPiece quote text x → string_piece (text ++ rest) ≡ ok (x, rest)
unfolding string_piece
piece_again quote text x rest (inl r) =
    let first : text ++ rest ≡ 92 ∷ (r.2 ++ rest) = rw (r.5, r.3) refl in
    let begins : starts (codes "\\") (text ++ rest) ≡ true = ap (starts (codes "\\")) first ∙ backslash 92 (r.2 ++ rest) in
    rw begins (escaped_spells.again text x rest r tt)
piece_again quote text x rest (inr r) =
    let own = own_is quote r.0 r.1.1 in
    let first : text ++ rest ≡ r.0 ∷ rest = ap (λ (t : List ℕ). t ++ rest) r.1.0 in
    let begins : starts (codes "\\") (text ++ rest) ≡ false = ap (starts (codes "\\")) first ∙ backslash r.0 rest ∙ own.no_backslash in
    rw begins (plain_spells.again text x rest (r.0, (r.1.0, ap not own.no_break), r.2) tt)

-- a piece where no quote comes
abbrev piece_in : ℕ → Reader (List ℕ)
piece_in quote = choice (in_string quote) string_piece refuse

piece_takes : (quote : ℕ) (bytes x rest : List ℕ) → in_string quote bytes ≡ true → string_piece bytes ≡ ok (x, rest) → (text : List ℕ) × IsStringPiece quote text x × (bytes ≡ text ++ rest)
unfolding string_piece
piece_takes quote bytes x rest inside e = piece_by quote bytes x rest (starts (codes "\\") bytes) refl inside e

piece_spells : (quote : ℕ) → is_quote quote ≡ true → Spells (piece_in quote) (IsStringPiece quote) Anything
piece_spells quote is = record {
  takes = λ bytes x rest e.
      let g = guarded (in_string quote) string_piece bytes (x, rest) e in
      piece_takes quote bytes x rest g.0 g.1;
  again = λ text x rest r any. rw (piece_begins quote text x rest is r) (piece_again quote text x rest r);
}

-- ---- what stands between the quotes

abbrev AtQuote : ℕ → List ℕ → Type 0
AtQuote quote rest = in_string quote rest ≡ false

string_test : (quote : ℕ) → is_quote quote ≡ true → IsTestOf (in_string quote) (IsStringPiece quote) Anything (AtQuote quote)
string_test quote is = record {
  some = λ text x r. piece_some quote text x r;
  begins = λ text x rest r any. piece_begins quote text x rest is r;
  next = λ rest e. tt;
  last = λ rest more. tt;
  ends = λ rest more. more;
}

inside_alike : (quote : ℕ) (bytes : List ℕ) → joined {E = List ℕ} (in_string quote) string_piece bytes ≡ joined (in_string quote) (piece_in quote) bytes
unfolding joined
inside_alike quote bytes =
    repeat_same (λ (text : List ℕ) b. in_string quote b) (λ text. mapped (λ piece. text ++ piece) string_piece) (λ text. mapped (λ piece. text ++ piece) (piece_in quote)) (λ text b g. rw g refl) [] bytes

inside_spells : (quote : ℕ) → is_quote quote ≡ true → Spells {E = List ℕ} (joined (in_string quote) string_piece) (Joined (IsStringPiece quote)) (AtQuote quote)
inside_spells quote is = spells_alike (inside_alike quote) (joined_spells (piece_spells quote is) (string_test quote is))

-- ---- strings

pub string_spells : Spells string IsString Anything
unfolding string
string_spells =
    follow_spells_where (λ quote. is_quote quote ≡ true) (one_of_spells is_quote) (λ text quote r. r.1)
    (λ quote is. follow_spells (inside_spells quote is) (λ inside. mapped_spells (λ (byte : ℕ). inside) (one_of_spells (λ byte. eqb byte quote)))
    (λ inside y back rest r any. ap (λ (t : List ℕ). in_string quote (t ++ rest)) r.1.0 ∙ ap not r.1.1))
    (λ quote y back rest is r any. tt)
