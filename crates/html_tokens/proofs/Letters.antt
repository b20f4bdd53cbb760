-- Texts, piece by piece.
use Rattle.std.proofs.Common.{◌≡◌, ◌⊎◌, inl, inr, ℕ, ◌<◌, true, false, cond, eqb, List, [], ◌∷◌, ◌++◌, length, Ok, Err, refl, sym, ap, subst, ◌∙◌, length-append, arith}
use Rattle.std.specs.Prelude.{Bool, not, is_ok, IfOk, Result, ⊤}
use denote.Bor.{Bor}
use Rattle.std.specs.Char.{IsScalar, encode_utf8}
use Rattle.std.proofs.lemmas.List.{append-nil}
use Rattle.reading.specs.Readers.{ReadOr, mapped, joined, starts, strip}
use Rattle.reading.proofs.SpellLaws.{ok, stop, strip_again}
use Rattle.std.proofs.lemmas.Str.{length-encode, len_utf8_bounds}
use Rattle.std.proofs.lemmas.Bool.{and_parts, not-true}
use Rattle.html_tokens.specs.Error.{Stop}
use Rattle.reading.specs.declared.stop.Stop.TheVariants as stops
use Rattle.html_tokens.specs.declared.error.Refusal.TheVariants.{Character}
use Rattle.html_tokens.specs.Characters.{in_repertoire}
use Rattle.html_tokens.specs.Error.{Fault, spelled}
use Rattle.reading.specs.Stop.{Stops}
use Rattle.html_tokens.specs.Lexing.{comment, reference, character}
use Rattle.html_tokens.specs.Pieces.{IsJoining, Joins, JoinsRun, PutsPiece, is_letter_next}
use Rattle.html_tokens.specs.Text.{in_text, text_piece, checked, gap}
use Rattle.html_tokens.proofs.CharacterLaws.{first_is}
use Rattle.html_tokens.proofs.Joining.{puts_ok, puts_err, run_starts, run_goes_on, joining_starts, joining_ends, joining_stops}

-- ---- comments and references

comment_piece : (text : List ℕ) (r : ReadOr Fault (List ℕ)) → starts (60 ∷ []) text ≡ true → spelled (mapped (λ u. []) comment) text ≡ r → text_piece text ≡ r
unfolding text_piece
comment_piece text r e f = rw e f

pub comment_put : (old text : List ℕ) (result : Result (Bor (List ℕ)) Stop) → in_text text ≡ true → starts (60 ∷ []) text ≡ true → PutsPiece (spelled (mapped (λ u. []) comment)) [] [] text result
    → IfOk result (λ rest. length rest.now < length text) → Joins in_text text_piece old old text result
comment_put old text (Ok rest) goes e puts lt =
    let none : puts.0 ≡ [] = sym puts.2 in
    puts_ok in_text text_piece old old text [] rest.now goes (comment_piece text (Ok ([], rest.now)) e (puts.1 ∙ ap (λ (p : List ℕ). Ok (p, rest.now)) none)) (sym (append-nil old)) lt
comment_put old text (Err (stops.Refused kind left)) goes e f lt = puts_err in_text text_piece old text (stops.Refused kind left) goes (comment_piece text (Err (kind, left.now)) e f)
comment_put old text (Err stops.Memory) goes e f lt = λ total now. tt

reference_piece : (text : List ℕ) (r : ReadOr Fault (List ℕ)) → starts (60 ∷ []) text ≡ false → starts (38 ∷ []) text ≡ true → checked reference text ≡ r → text_piece text ≡ r
unfolding text_piece
reference_piece text r n e f = rw (n, e) f

pub reference_put : (old new text : List ℕ) (result : Result (Bor (List ℕ)) Stop) → in_text text ≡ true → starts (60 ∷ []) text ≡ false → starts (38 ∷ []) text ≡ true
    → PutsPiece (checked reference) old new text result → IfOk result (λ rest. length rest.now < length text) → Joins in_text text_piece old new text result
reference_put old new text (Ok rest) goes n e puts lt =
    puts_ok in_text text_piece old new text puts.0 rest.now goes (reference_piece text (Ok (puts.0, rest.now)) n e puts.1) puts.2 lt
reference_put old new text (Err (stops.Refused kind left)) goes n e f lt = puts_err in_text text_piece old text (stops.Refused kind left) goes (reference_piece text (Err (kind, left.now)) n e f)
reference_put old new text (Err stops.Memory) goes n e f lt = λ total now. tt

-- ---- characters

no_byte : (byte wanted : ℕ) (after : List ℕ) (t : Bool) → eqb byte wanted ≡ t → t ≡ false → starts (wanted ∷ []) (byte ∷ after) ≡ false
unfolding starts strip
no_byte byte wanted after t e f = rw (e ∙ f) refl

no_yes : (byte wanted : ℕ) (after : List ℕ) → eqb byte wanted ≡ true → starts (wanted ∷ []) (byte ∷ after) ≡ false → ⊥
unfolding starts strip
no_yes byte wanted after e f =
    let yes : is_ok (cond (eqb byte wanted) (ok {E = List ℕ} {A = ⊤} (tt, after)) (stop (byte ∷ after))) ≡ true = rw e refl in
    absurd (cc (sym yes ∙ f))

other : (byte wanted : ℕ) (after : List ℕ) (t : Bool) → eqb byte wanted ≡ t → starts (wanted ∷ []) (byte ∷ after) ≡ false → t ≡ false
unfolding starts strip
other byte wanted after true e f = absurd (no_yes byte wanted after e f)
other byte wanted after false e f = refl

pub letter_next : (text : List ℕ) → in_text text ≡ true → starts (60 ∷ []) text ≡ false → starts (38 ∷ []) text ≡ false → is_letter_next text ≡ true
letter_next [] goes m n = absurd cc
letter_next (byte ∷ after) goes m n = rw (other byte 60 after (eqb byte 60) refl m, other byte 38 after (eqb byte 38) refl n) refl

letter_goes : (text : List ℕ) → is_letter_next text ≡ true → in_text text ≡ true
letter_goes [] e = absurd cc
letter_goes (byte ∷ after) e = rw (not-true (eqb byte 60) (and_parts (not (eqb byte 60)) (not (eqb byte 38)) e).0) refl

letter_piece : (text : List ℕ) → is_letter_next text ≡ true → text_piece text ≡ checked character text
unfolding text_piece
letter_piece [] e = absurd cc
letter_piece (byte ∷ after) e =
    rw (no_byte byte 60 after (eqb byte 60) refl (not-true (eqb byte 60) (and_parts (not (eqb byte 60)) (not (eqb byte 38)) e).0), no_byte byte 38 after (eqb byte 38) refl (not-true (eqb byte 38) (and_parts (not (eqb byte 60)) (not (eqb byte 38)) e).1)) refl

read_char : (c : ℕ) (rest : List ℕ) → IsScalar c → character (encode_utf8 c ++ rest) ≡ Ok (c, rest)
unfolding character
read_char c rest is = rw (first_is c rest is, is, strip_again (encode_utf8 c) rest) refl

check_ok : (text rest : List ℕ) (c : ℕ) → character text ≡ Ok (c, rest) → in_repertoire c ≡ true → checked character text ≡ Ok (encode_utf8 c, rest)
unfolding checked
check_ok text rest c e f = rw (e, f) refl

check_err : (text rest : List ℕ) (c : ℕ) → character text ≡ Ok (c, rest) → in_repertoire c ≡ false → checked character text ≡ Err (Character, text)
unfolding checked
check_err text rest c e f = rw (e, f) refl

some_bytes : (c : ℕ) → IsScalar c → 0 < length (encode_utf8 c)
some_bytes c is = omega (arith, length-encode c, (len_utf8_bounds c).0)

pub letter_ok : (text rest : List ℕ) (c : ℕ) → is_letter_next text ≡ true → text ≡ encode_utf8 c ++ rest → IsScalar c → in_repertoire c ≡ true
    → (piece : List ℕ) × (text_piece text ≡ Ok (piece, rest)) × (text ≡ piece ++ rest) × (0 < length piece)
letter_ok text rest c next parts is there =
    let read : character text ≡ Ok (c, rest) = ap character parts ∙ read_char c rest is in
    (encode_utf8 c, letter_piece text next ∙ check_ok text rest c read there, parts, some_bytes c is)

pub letter_err : (text rest bytes : List ℕ) (c : ℕ) → is_letter_next text ≡ true → text ≡ encode_utf8 c ++ rest → IsScalar c → in_repertoire c ≡ false → bytes ≡ text → text_piece text ≡ Err (Character, bytes)
letter_err text rest bytes c next parts is none same =
    let read : character text ≡ Ok (c, rest) = ap character parts ∙ read_char c rest is in
    rw same (letter_piece text next ∙ check_err text rest c read none)

-- ---- runs of characters

pub letters_start : (text : List ℕ) → JoinsRun in_text text_piece text text
letters_start text = run_starts in_text text_piece text

pub letters_go_on : (text rest after : List ℕ) → JoinsRun in_text text_piece text rest → is_letter_next rest ≡ true
    → (piece : List ℕ) × (text_piece rest ≡ Ok (piece, after)) × (rest ≡ piece ++ after) × (0 < length piece) → JoinsRun in_text text_piece text after
letters_go_on text rest after run next p = run_goes_on in_text text_piece text rest p.0 after run p.2 p.3 (letter_goes rest next) p.1

pub letters_shorten : (text rest after : List ℕ) → (rest ≡ text) ⊎ (length rest < length text)
    → (piece : List ℕ) × (text_piece rest ≡ Ok (piece, after)) × (rest ≡ piece ++ after) × (0 < length piece) → length after < length text
letters_shorten text rest after (inl same) p = omega (arith, ap length same, ap length p.2, length-append p.0 after, p.3)
letters_shorten text rest after (inr lt) p = omega (arith, lt, ap length p.2, length-append p.0 after, p.3)

pub letter_shorter : (rest after : List ℕ) → (piece : List ℕ) × (text_piece rest ≡ Ok (piece, after)) × (rest ≡ piece ++ after) × (0 < length piece) → length after < length rest
letter_shorter rest after p = omega (arith, ap length p.2, length-append p.0 after, p.3)

pub letters_are_some : (text rest : List ℕ) → is_letter_next text ≡ true → is_letter_next rest ≡ false → (rest ≡ text) ⊎ (length rest < length text) → length rest < length text
letters_are_some text rest next none (inl same) =
    let no : is_letter_next text ≡ false = subst (λ (r : List ℕ). is_letter_next r ≡ false) same none in
    absurd (cc (sym next ∙ no))
letters_are_some text rest next none (inr lt) = lt

pub letters_stop : (text rest : List ℕ) (stop_ : Stop) → JoinsRun in_text text_piece text rest → is_letter_next rest ≡ true → Stops stop_ (text_piece rest)
    → (total : ReadOr Fault (List ℕ)) (so_far : List ℕ) → IsJoining in_text text_piece total so_far text → Stops stop_ total
letters_stop text rest (stops.Refused kind left) run next e total so_far now =
    joining_stops in_text text_piece total (so_far ++ run.0) rest (kind, left.now) (run.2 total so_far now) (letter_goes rest next) e
letters_stop text rest stops.Memory run next e total so_far now = tt

-- ---- the whole gap

pub gap_starts : (text letters : List ℕ) → letters ≡ [] → IsJoining in_text text_piece (joined in_text text_piece text) letters text
gap_starts text letters none = subst (λ (l : List ℕ). IsJoining in_text text_piece (joined in_text text_piece text) l text) (sym none) (joining_starts in_text text_piece text)

pub gap_ends : (text letters rest : List ℕ) → IsJoining in_text text_piece (joined in_text text_piece text) letters rest → in_text rest ≡ false → gap text ≡ Ok (letters, rest)
unfolding gap
gap_ends text letters rest now none = joining_ends in_text text_piece (joined in_text text_piece text) letters rest now none
