-- Text with comments in it: what is read is spelled so, and what is spelled so is read.
use Rattle.std.proofs.Common.{◌≡◌, ◌⊎◌, inl, inr, ℕ, ◌<◌, Bool, true, false, cond, eqb, List, [], ◌∷◌, ◌++◌, length, codes, Ok, Err, refl, sym, ap, subst, ◌∙◌, arith}
use Rattle.std.specs.Prelude.{⊤}
use Rattle.std.specs.Char.{encode_utf8}
use Rattle.std.proofs.Math.Utf8.{encode}
use Rattle.std.proofs.lemmas.Bool.{ne_eqb, eqb-true, eq-eqb}
use Rattle.reading.specs.Readers.{ReadOr, Reader, ◌>>=◌, mapped, strip, starts}
use Rattle.reading.specs.Grammars.{Grammar, Mapped}
use Rattle.reading.specs.Spelling.{Anything, Spells, IsTestOf}
use Rattle.reading.proofs.SpellLaws.{bind_ok, mapped_spells, telling_spells, starts_not}
use Rattle.reading.proofs.ManyLaws.{joined_spells}
use Rattle.html_tokens.specs.declared.error.Refusal.TheVariants.{Character}
use Rattle.html_tokens.specs.Characters.{in_repertoire}
use Rattle.html_tokens.specs.Error.{Fault, syntax, spelled}
use Rattle.html_tokens.specs.Lexing.{comment, reference, character}
use Rattle.html_tokens.specs.Text.{in_text, checked, text_piece, gap}
use Rattle.html_tokens.specs.Grammar.{IsComment, IsCharacter, IsLetter, IsGap}
use Rattle.html_tokens.proofs.MiscLaws.{comment_spells}
use Rattle.html_tokens.proofs.CharacterLaws.{IsLed, led, character_spells}
use Rattle.html_tokens.proofs.ReferenceLaws.{reference_spells}
use Rattle.html_tokens.proofs.ValueLaws.{reference_begins}

-- answers of readers that judge
abbrev pub good : {A : Type 0} → A × List ℕ → ReadOr Fault A
good x = Ok x

-- ---- characters of the repertoire

abbrev Checked : Grammar ℕ → Grammar (List ℕ)
Checked R text letters = (c : ℕ) × R text c × (in_repertoire c ≡ true) × (letters ≡ encode_utf8 c)

checked_by : (c : ℕ) (back bytes rest letters : List ℕ) (t : Bool) → in_repertoire c ≡ t → cond t (good (encode_utf8 c, back)) (Err (Character, bytes)) ≡ good (letters, rest)
    → (in_repertoire c ≡ true) × (letters ≡ encode_utf8 c) × (back ≡ rest)
checked_by c back bytes rest letters true is e =
    let pair : (encode_utf8 c, back) ≡ (letters, rest) = cc in
    (is, sym (ap (λ (p : List ℕ × List ℕ). p.0) pair), ap (λ (p : List ℕ × List ℕ). p.1) pair)
checked_by c back bytes rest letters false is e = absurd cc

checked_spells : {f : Reader ℕ} {R : Grammar ℕ} → Spells f R Anything → Spells (checked f) (Checked R) Anything
unfolding checked
checked_spells {f = f} {R = R} p = record {
  takes = λ bytes letters rest e.
      let q = telling_spells syntax p in
      let a = bind_ok (spelled f bytes) (λ (c : ℕ × List ℕ). cond (in_repertoire c.0) (good (encode_utf8 c.0, c.1)) (Err (Character, bytes))) (letters, rest) e in
      let t = q.takes bytes a.0.0 a.0.1 a.1 in
      let c = checked_by a.0.0 a.0.1 bytes rest letters (in_repertoire a.0.0) refl a.2 in
      (t.0, (a.0.0, t.1, c.0, c.1), t.2 ∙ ap (λ (s : List ℕ). t.0 ++ s) c.2);
  again = λ text letters rest r ends.
      let q = telling_spells syntax p in
      let first : spelled f (text ++ rest) ≡ good (r.0, rest) = q.again text r.0 rest r.1 tt in
      let last : cond (in_repertoire r.0) (good (encode_utf8 r.0, rest)) (Err (Character, text ++ rest)) ≡ good (letters, rest) = rw (r.2, r.3) refl in
      ap (λ (s : ReadOr Fault ℕ). s >>= λ (c : ℕ × List ℕ). cond (in_repertoire c.0) (good (encode_utf8 c.0, c.1)) (Err (Character, text ++ rest))) first ∙ last;
}

-- ---- by the first byte

-- another character's first byte
led_other : (c wanted : ℕ) (text : List ℕ) → wanted < 128 → eqb c wanted ≡ false → (l : IsLed c text) → eqb l.byte wanted ≡ false
led_other c wanted text small other l = ne_eqb l.byte wanted (λ same.
    let lt : l.byte < 128 = subst (λ (b : ℕ). b < 128) (sym same) small in
    let e : c ≡ wanted = sym (l.small lt) ∙ same in
    let clash : true ≡ false = sym (eq-eqb c wanted e) ∙ other in
    absurd cc)

starts_here : (wanted : ℕ) (more : List ℕ) → eqb wanted wanted ≡ true → starts (wanted ∷ []) (wanted ∷ more) ≡ true
unfolding starts strip
starts_here wanted more e = rw e refl

character_not : (c wanted : ℕ) (text rest : List ℕ) → wanted < 128 → eqb c wanted ≡ false → IsCharacter text c → starts (wanted ∷ []) (text ++ rest) ≡ false
character_not c wanted text rest small other is =
    let l = led c is.1 in
    let first : text ++ rest ≡ l.byte ∷ (l.more ++ rest) = rw (is.0, l.parts) refl in
    ap (starts (wanted ∷ [])) first ∙ starts_not wanted l.byte (l.more ++ rest) (led_other c wanted (encode_utf8 c) small other l)

-- what was read as a character isn't one that begins something else
mark_alone : (c : ℕ) (text rest : List ℕ) → c ≡ 60 → text ≡ encode_utf8 c → text ++ rest ≡ 60 ∷ rest
unfolding encode
mark_alone c text rest e is = rw (is, e) refl

and_alone : (c : ℕ) (text rest : List ℕ) → c ≡ 38 → text ≡ encode_utf8 c → text ++ rest ≡ 38 ∷ rest
unfolding encode
and_alone c text rest e is = rw (is, e) refl

no_mark : (c : ℕ) (bytes text rest : List ℕ) (t : Bool) → eqb c 60 ≡ t → starts (codes "<") bytes ≡ false → bytes ≡ text ++ rest → text ≡ encode_utf8 c → eqb c 60 ≡ false
no_mark c bytes text rest true e s parts is =
    let whole : bytes ≡ 60 ∷ rest = parts ∙ mark_alone c text rest (eqb-true c 60 e) is in
    let clash : true ≡ false = sym (starts_here 60 rest refl) ∙ ap (starts (codes "<")) (sym whole) ∙ s in
    absurd cc
no_mark c bytes text rest false e s parts is = e

no_and : (c : ℕ) (bytes text rest : List ℕ) (t : Bool) → eqb c 38 ≡ t → starts (codes "&") bytes ≡ false → bytes ≡ text ++ rest → text ≡ encode_utf8 c → eqb c 38 ≡ false
no_and c bytes text rest true e s parts is =
    let whole : bytes ≡ 38 ∷ rest = parts ∙ and_alone c text rest (eqb-true c 38 e) is in
    let clash : true ≡ false = sym (starts_here 38 rest refl) ∙ ap (starts (codes "&")) (sym whole) ∙ s in
    absurd cc
no_and c bytes text rest false e s parts is = e

-- ---- a piece of text

abbrev IsPiece : Grammar (List ℕ)
IsPiece text letters = Mapped (λ u. []) IsComment text letters ⊎ IsLetter text letters

comment_piece : Spells {A = List ℕ} (spelled (mapped (λ u. []) comment)) (Mapped (λ (u : ⊤). []) IsComment) Anything
comment_piece = telling_spells syntax (mapped_spells (λ (u : ⊤). []) comment_spells)

letter_by : (bytes rest letters : List ℕ) (t : Bool) → starts (codes "&") bytes ≡ t → starts (codes "<") bytes ≡ false → cond t (checked reference bytes) (checked character bytes) ≡ good (letters, rest)
    → (text : List ℕ) × IsPiece text letters × (bytes ≡ text ++ rest)
letter_by bytes rest letters true is mark e =
    let t = (checked_spells reference_spells).takes bytes letters rest e in
    (t.0, inr (t.1.0, inl t.1.1, t.1.2, t.1.3), t.2)
letter_by bytes rest letters false is mark e =
    let t = (checked_spells character_spells).takes bytes letters rest e in
    let c = t.1.0 in
    let code = t.1.1.0 in
    (t.0, inr (c, inr (t.1.1, no_mark c bytes t.0 rest (eqb c 60) refl mark t.2 code, no_and c bytes t.0 rest (eqb c 38) refl is t.2 code), t.1.2, t.1.3), t.2)

piece_by : (bytes rest letters : List ℕ) (t : Bool) → starts (codes "<") bytes ≡ t
    → cond t (spelled (mapped (λ u. []) comment) bytes) (cond (starts (codes "&") bytes) (checked reference bytes) (checked character bytes)) ≡ good (letters, rest)
    → (text : List ℕ) × IsPiece text letters × (bytes ≡ text ++ rest)
piece_by bytes rest letters true is e =
    let t = comment_piece.takes bytes letters rest e in
    (t.0, inl t.1, t.2)
piece_by bytes rest letters false is e = letter_by bytes rest letters (starts (codes "&") bytes) refl is e

piece_again : (text letters rest : List ℕ) → IsPiece text letters → text_piece (text ++ rest) ≡ good (letters, rest)
unfolding text_piece
piece_again text letters rest (inl r) =
    let first : text ++ rest ≡ 60 ∷ 33 ∷ 45 ∷ 45 ∷ (r.1.0 ++ rest) = ap (λ (s : List ℕ). s ++ rest) r.1.2 in
    let begins : starts (codes "<") (text ++ rest) ≡ true = ap (starts (codes "<")) first ∙ starts_here 60 (33 ∷ 45 ∷ 45 ∷ (r.1.0 ++ rest)) refl in
    rw begins (comment_piece.again text letters rest r tt)
piece_again text letters rest (inr (c, inl r, known, made)) =
    let b = reference_begins text rest c r in
    let mark : starts (codes "<") (text ++ rest) ≡ false = ap (starts (codes "<")) b.1 ∙ starts_not 60 38 b.0 refl in
    let and_ : starts (codes "&") (text ++ rest) ≡ true = ap (starts (codes "&")) b.1 ∙ starts_here 38 b.0 refl in
    rw (mark, and_) ((checked_spells reference_spells).again text letters rest (c, r, known, made) tt)
piece_again text letters rest (inr (c, inr r, known, made)) =
    let mark : starts (codes "<") (text ++ rest) ≡ false = character_not c 60 text rest (omega arith) r.1 r.0 in
    let and_ : starts (codes "&") (text ++ rest) ≡ false = character_not c 38 text rest (omega arith) r.2 r.0 in
    rw (mark, and_) ((checked_spells character_spells).again text letters rest (c, r.0, known, made) tt)

pub text_piece_spells : Spells text_piece IsPiece Anything
unfolding text_piece
text_piece_spells = record {
  takes = λ bytes letters rest e. piece_by bytes rest letters (starts (codes "<") bytes) refl e;
  again = λ text letters rest r ends. piece_again text letters rest r;
}

-- ---- the text up to the next tag

abbrev pub NoText : List ℕ → Type 0
NoText rest = in_text rest ≡ false

-- a first byte other than `<`
abbrev OtherFirst : List ℕ → Type 0
OtherFirst text = (byte : ℕ) × (more : List ℕ) × (text ≡ byte ∷ more) × (eqb byte 60 ≡ false)

letter_first : (text letters : List ℕ) → IsLetter text letters → OtherFirst text
letter_first text letters (c, inl r, known, made) = (38, r.2, rw (r.5, r.3) refl, refl)
letter_first text letters (c, inr r, known, made) =
    let l = led c r.0.1 in
    (l.byte, l.more, r.0.0 ∙ l.parts, led_other c 60 (encode_utf8 c) (omega arith) r.1 l)

comment_in_text : (more : List ℕ) → in_text (60 ∷ 33 ∷ more) ≡ true
unfolding starts strip
comment_in_text more = refl

piece_some : (text letters : List ℕ) → IsPiece text letters → 0 < length text
piece_some text letters (inl r) = rw r.1.2 (omega arith)
piece_some text letters (inr r) =
    let f = letter_first text letters r in
    rw f.2 (omega arith)

piece_in_text : (text letters rest : List ℕ) → IsPiece text letters → in_text (text ++ rest) ≡ true
piece_in_text text letters rest (inl r) = ap (λ (s : List ℕ). in_text (s ++ rest)) r.1.2 ∙ comment_in_text (45 ∷ 45 ∷ (r.1.0 ++ rest))
piece_in_text text letters rest (inr r) =
    let f = letter_first text letters r in
    rw (f.2, f.3) refl

text_test : IsTestOf in_text IsPiece Anything NoText
text_test = record {
  some = λ text letters r. piece_some text letters r;
  begins = λ text letters rest r any. piece_in_text text letters rest r;
  next = λ rest e. tt;
  last = λ rest more. tt;
  ends = λ rest more. more;
}

pub gap_spells : Spells gap IsGap NoText
unfolding gap
gap_spells = joined_spells text_piece_spells text_test
