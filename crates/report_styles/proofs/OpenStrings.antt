-- Strings that aren't closed: their reading stops before a line break, or at the end of the text.
use Rattle.std.proofs.Common.{◌≡◌, ◌<◌, ℕ, suc, Bool, true, false, cond, eqb, List, [], ◌∷◌, ◌++◌, length, Ok, Err, refl, sym, ap, ◌∙◌, append_assoc, length-append, arith, not, ◌||◌}
use Rattle.std.proofs.lemmas.Bool.{eqb-true}
use Rattle.std.proofs.lemmas.List.{append-nil}
use Rattle.std.specs.Prelude.{⊤}
use Rattle.reading.specs.Cuts.{EndsWith}
use Rattle.reading.specs.Readers.{Read, follow, mapped, give, joined, next_is, one_of, repeat, starts, strip}
use Rattle.reading.proofs.SpellLaws.{ok, stop, bind_ok, bind_err, same_answer, Stopped, at_first, at_second, same_stop}
use Rattle.reading.proofs.StopPlaces.{repeat_ends}
use Rattle.reading.proofs.Turns.{turns_stop_back}
use Rattle.css_tokens.specs.Characters.{is_line_break, is_quote}
use Rattle.css_tokens.specs.Cuts.{BeginsInAscii}
use Rattle.css_tokens.specs.Lexing.{in_string, name_ahead, string, string_piece, token}
use Rattle.css_tokens.specs.Numbers.{sign, point, number_ahead}
use Rattle.css_tokens.specs.Tokens as tokens
use Rattle.css_tokens.specs.Tokens.{Lexeme}

abbrev EndsLine : List ℕ → Type 0
EndsLine [] = ⊤
EndsLine (byte ∷ bytes) = is_line_break byte ≡ true

-- the text ends so, and what is left begins with a line break or is nothing
abbrev StopsAt : (left text : List ℕ) → Type 0
StopsAt left text = EndsWith text left × EndsLine left

no_stop : {A : Type 0} {left : List ℕ} {x : A × List ℕ} → ok x ≡ stop left → ⊥
no_stop e = absurd cc

at_end : (left text : List ℕ) → [] ≡ left → StopsAt left text
at_end left text e = rw (← e) ((text, sym (append-nil text)), tt)

-- ---- one piece

escaped : List ℕ → Read (List ℕ)
escaped [] = Err []
escaped (byte ∷ bytes) = Ok (92 ∷ byte ∷ [], bytes)

plain : (byte : ℕ) → List ℕ → Read (List ℕ)
plain byte bytes = cond (is_line_break byte) (Err (byte ∷ bytes)) (Ok (byte ∷ [], bytes))

none_is : string_piece [] ≡ Err []
unfolding string_piece starts strip one_of
none_is = refl

escaped_is : (byte : ℕ) (bytes : List ℕ) → eqb byte 92 ≡ true → string_piece (byte ∷ bytes) ≡ escaped bytes
unfolding string_piece starts strip one_of escaped
escaped_is byte [] e = rw e refl
escaped_is byte (next ∷ bytes) e = rw e refl

plain_by : (byte : ℕ) (bytes : List ℕ) (t : Bool) → eqb byte 92 ≡ false → is_line_break byte ≡ t → string_piece (byte ∷ bytes) ≡ plain byte bytes
unfolding string_piece starts strip one_of plain
plain_by byte bytes true e line = rw (e, line) refl
plain_by byte bytes false e line = rw (e, line) refl

escaped_stops : (byte : ℕ) (bytes left : List ℕ) → escaped bytes ≡ Err left → StopsAt left (byte ∷ bytes)
unfolding escaped
escaped_stops byte [] left e = at_end left (byte ∷ []) (same_stop [] left e)
escaped_stops byte (next ∷ bytes) left e = absurd (no_stop e)

plain_stops : (byte : ℕ) (bytes left : List ℕ) (t : Bool) → is_line_break byte ≡ t → cond t (stop (byte ∷ bytes)) (ok (byte ∷ [], bytes)) ≡ Err left → StopsAt left (byte ∷ bytes)
plain_stops byte bytes left true line e = rw (← same_stop (byte ∷ bytes) left e) (([], refl), line)
plain_stops byte bytes left false line e = absurd (no_stop e)

stops_by : (byte : ℕ) (bytes left : List ℕ) (t : Bool) → eqb byte 92 ≡ t → string_piece (byte ∷ bytes) ≡ Err left → StopsAt left (byte ∷ bytes)
unfolding plain
stops_by byte bytes left true is e = escaped_stops byte bytes left (sym (escaped_is byte bytes is) ∙ e)
stops_by byte bytes left false is e = plain_stops byte bytes left (is_line_break byte) refl (sym (plain_by byte bytes (is_line_break byte) is refl) ∙ e)

piece_stops : (bytes left : List ℕ) → string_piece bytes ≡ Err left → StopsAt left bytes
piece_stops [] left e = at_end left [] (same_stop [] left (sym none_is ∙ e))
piece_stops (byte ∷ bytes) left e = stops_by byte bytes left (eqb byte 92) refl e

-- what stands before the rest, a byte at least
abbrev IsFront : (text rest : List ℕ) → Type 0
IsFront text rest = (front : List ℕ) × (text ≡ front ++ rest) × (0 < length front)

same_rest : (x y a b : List ℕ) → ok {E = List ℕ} (x, a) ≡ ok (y, b) → a ≡ b
same_rest x y a b e = (same_answer {E = List ℕ} x y a b e).1

escaped_goes : (byte : ℕ) (bytes piece rest : List ℕ) → escaped bytes ≡ Ok (piece, rest) → IsFront (byte ∷ bytes) rest
unfolding escaped
escaped_goes byte [] piece rest e = absurd (no_stop (sym e))
escaped_goes byte (next ∷ bytes) piece rest e = (byte ∷ next ∷ [], ap (λ (r : List ℕ). byte ∷ next ∷ r) (same_rest (92 ∷ next ∷ []) piece bytes rest e), omega arith)

plain_goes : (byte : ℕ) (bytes piece rest : List ℕ) (t : Bool) → cond t (stop (byte ∷ bytes)) (ok (byte ∷ [], bytes)) ≡ Ok (piece, rest) → IsFront (byte ∷ bytes) rest
plain_goes byte bytes piece rest true e = absurd (no_stop (sym e))
plain_goes byte bytes piece rest false e = (byte ∷ [], ap (λ (r : List ℕ). byte ∷ r) (same_rest (byte ∷ []) piece bytes rest e), omega arith)

goes_by : (byte : ℕ) (bytes piece rest : List ℕ) (t : Bool) → eqb byte 92 ≡ t → string_piece (byte ∷ bytes) ≡ Ok (piece, rest) → IsFront (byte ∷ bytes) rest
unfolding plain
goes_by byte bytes piece rest true is e = escaped_goes byte bytes piece rest (sym (escaped_is byte bytes is) ∙ e)
goes_by byte bytes piece rest false is e = plain_goes byte bytes piece rest (is_line_break byte) (sym (plain_by byte bytes (is_line_break byte) is refl) ∙ e)

piece_goes : (bytes piece rest : List ℕ) → string_piece bytes ≡ Ok (piece, rest) → IsFront bytes rest
piece_goes [] piece rest e = absurd (no_stop (sym e ∙ none_is))
piece_goes (byte ∷ bytes) piece rest e = goes_by byte bytes piece rest (eqb byte 92) refl e

-- ---- what stands behind the quote

abbrev turn : List ℕ → List ℕ → Read (List ℕ)
turn so_far = mapped (λ piece. so_far ++ piece) string_piece

turn_stops_by : (so_far bytes left : List ℕ) → Stopped (string_piece bytes) (λ (x : List ℕ × List ℕ). give (so_far ++ x.0) x.1) left → StopsAt left bytes
turn_stops_by so_far bytes left (at_first e) = piece_stops bytes left e
turn_stops_by so_far bytes left (at_second x e f) = absurd (no_stop f)

turn_stops : (so_far bytes left : List ℕ) → turn so_far bytes ≡ stop left → StopsAt left bytes
turn_stops so_far bytes left e = turn_stops_by so_far bytes left (bind_err (string_piece bytes) (λ (x : List ℕ × List ℕ). give (so_far ++ x.0) x.1) left e)

turn_goes : (so_far later bytes rest : List ℕ) → turn so_far bytes ≡ ok (later, rest) → IsFront bytes rest
turn_goes so_far later bytes rest e =
    let a = bind_ok (string_piece bytes) (λ (x : List ℕ × List ℕ). give (so_far ++ x.0) x.1) (later, rest) e in
    let same : a.0.1 ≡ rest = same_rest (so_far ++ a.0.0) later a.0.1 rest a.2 in
    rw (← same) (piece_goes bytes a.0.0 a.0.1 a.1)

stops_further : (left bytes rest : List ℕ) → IsFront bytes rest → StopsAt left rest → StopsAt left bytes
stops_further left bytes rest front at =
    ((front.0 ++ at.0.0, front.1 ∙ ap (λ (r : List ℕ). front.0 ++ r) at.0.1 ∙ sym (append_assoc front.0 at.0.0 left)), at.1)

front_shortens : (bytes rest : List ℕ) → IsFront bytes rest → length rest < length bytes
front_shortens bytes rest front = omega (arith, ap length front.1, length-append front.0 rest, front.2)

inside_stops : (quote : ℕ) (bytes left : List ℕ) → joined {E = List ℕ} (in_string quote) string_piece bytes ≡ stop left → StopsAt left bytes
unfolding joined repeat
inside_stops quote bytes left e =
    turns_stop_back (λ (so_far : List ℕ) b. in_string quote b) turn (λ (so_far : List ℕ) b. StopsAt left b) left (λ so_far x goes stopped. turn_stops so_far x left stopped)
    (λ so_far later x y goes turned at. stops_further left x y (turn_goes so_far later x y turned) at) (suc (length bytes)) [] bytes e

inside_ends : (quote : ℕ) (bytes inside rest : List ℕ) → joined {E = List ℕ} (in_string quote) string_piece bytes ≡ ok (inside, rest) → in_string quote rest ≡ false
unfolding joined
inside_ends quote bytes inside rest e =
    repeat_ends (λ (so_far : List ℕ) b. in_string quote b) turn [] inside bytes rest (λ so_far later x y turned. front_shortens x y (turn_goes so_far later x y turned)) e

-- ---- a string, and a token

closing_is : (quote byte : ℕ) (inside rest : List ℕ) → eqb byte quote ≡ true → mapped {E = List ℕ} (λ byte. inside) (one_of (λ byte. eqb byte quote)) (byte ∷ rest) ≡ ok (inside, rest)
unfolding one_of
closing_is quote byte inside rest is = rw is refl

closing_by : (quote byte : ℕ) (inside rest left : List ℕ) (t : Bool) → eqb byte quote ≡ t → in_string quote (byte ∷ rest) ≡ false
    → mapped {E = List ℕ} (λ byte. inside) (one_of (λ byte. eqb byte quote)) (byte ∷ rest) ≡ stop left → ⊥
closing_by quote byte inside rest left true is ends e = no_stop (sym (closing_is quote byte inside rest is) ∙ e)
closing_by quote byte inside rest left false is ends e =
    let clash : true ≡ false = sym (ap not is) ∙ ends in
    absurd cc

-- where the inside ends, its quote can be read
closing : (quote : ℕ) (inside rest left : List ℕ) → in_string quote rest ≡ false → mapped {E = List ℕ} (λ byte. inside) (one_of (λ byte. eqb byte quote)) rest ≡ stop left → ⊥
closing quote inside [] left ends e = absurd cc
closing quote inside (byte ∷ rest) left ends e = closing_by quote byte inside rest left (eqb byte quote) refl ends e

abbrev behind_quote : ℕ → List ℕ → Read (List ℕ)
behind_quote quote = follow (joined (in_string quote) string_piece) (λ inside. mapped (λ byte. inside) (one_of (λ byte. eqb byte quote)))

string_is : (quote : ℕ) (rest : List ℕ) → is_quote quote ≡ true → string (quote ∷ rest) ≡ behind_quote quote rest
unfolding string one_of
string_is quote rest is = rw is refl

string_by : (quote : ℕ) (rest left : List ℕ) → Stopped (joined (in_string quote) string_piece rest) (λ (x : List ℕ × List ℕ). mapped (λ byte. x.0) (one_of (λ byte. eqb byte quote)) x.1) left → StopsAt left rest
string_by quote rest left (at_first e) = inside_stops quote rest left e
string_by quote rest left (at_second x e f) = absurd (closing quote x.0 x.1 left (inside_ends quote rest x.0 x.1 e) f)

string_stops : (quote : ℕ) (rest left : List ℕ) → is_quote quote ≡ true → string (quote ∷ rest) ≡ stop left → StopsAt left rest
string_stops quote rest left is e =
    string_by quote rest left (bind_err (joined (in_string quote) string_piece rest) (λ (x : List ℕ × List ℕ). mapped (λ byte. x.0) (one_of (λ byte. eqb byte quote)) x.1) left (sym (string_is quote rest is) ∙ e))

abbrev quoted : List ℕ → Read Lexeme
quoted = mapped (λ inside. tokens.quoted inside) string

token_by : (quote : ℕ) (rest : List ℕ) (t : Bool) → eqb quote 34 ≡ t → is_quote quote ≡ true → token (quote ∷ rest) ≡ quoted (quote ∷ rest)
unfolding token name_ahead number_ahead sign point strip one_of starts
token_by quote rest true is q =
    let same : quote ≡ 34 = eqb-true quote 34 is in
    rw same refl
token_by quote rest false is q =
    let other : eqb quote 39 ≡ true = sym (ap (λ (b : Bool). b || eqb quote 39) is) ∙ q in
    let same : quote ≡ 39 = eqb-true quote 39 other in
    rw same refl

token_is : (quote : ℕ) (rest : List ℕ) → is_quote quote ≡ true → token (quote ∷ rest) ≡ quoted (quote ∷ rest)
token_is quote rest q = token_by quote rest (eqb quote 34) refl q

quoted_by : (text left : List ℕ) → Stopped (string text) (λ (x : List ℕ × List ℕ). give (tokens.quoted x.0) x.1) left → string text ≡ stop left
quoted_by text left (at_first e) = e
quoted_by text left (at_second x e f) = absurd (no_stop f)

quoted_stops : (quote : ℕ) (rest left : List ℕ) → is_quote quote ≡ true → token (quote ∷ rest) ≡ stop left → StopsAt left rest
quoted_stops quote rest left is e =
    string_stops quote rest left is (quoted_by (quote ∷ rest) left (bind_err (string (quote ∷ rest)) (λ (x : List ℕ × List ℕ). give (tokens.quoted x.0) x.1) left (sym (token_is quote rest is) ∙ e)))

ascii_by : (left : List ℕ) → EndsLine left → BeginsInAscii left
ascii_by [] is = tt
ascii_by (byte ∷ left) is = grind arith

-- what is left of a text where a string in it isn't closed
pub record IsOpen (text left : List ℕ) : Type 0 where
  pub ends : EndsWith text left
  pub ascii : BeginsInAscii left
  pub shorter : length left < length text

open_by : (quote : ℕ) (rest left : List ℕ) → StopsAt left rest → IsOpen (quote ∷ rest) left
open_by quote rest left at = record {
  ends = (quote ∷ at.0.0, ap (λ (r : List ℕ). quote ∷ r) at.0.1);
  ascii = ascii_by left at.1;
  shorter = omega (arith, ap length at.0.1, length-append at.0.0 left);
}

string_is_open : (text left : List ℕ) → next_is is_quote text ≡ true → token text ≡ Err left → IsOpen text left
string_is_open [] left is e = absurd cc
string_is_open (quote ∷ rest) left is e = open_by quote rest left (quoted_stops quote rest left is e)

pub open_string_ends : (text left : List ℕ) → next_is is_quote text ≡ true → token text ≡ Err left → EndsWith text left
open_string_ends text left is e = (string_is_open text left is e).ends

pub open_string_in_ascii : (text left : List ℕ) → next_is is_quote text ≡ true → token text ≡ Err left → BeginsInAscii left
open_string_in_ascii text left is e = (string_is_open text left is e).ascii

pub open_string_shorter : (text left : List ℕ) → next_is is_quote text ≡ true → token text ≡ Err left → length left < length text
open_string_shorter text left is e = (string_is_open text left is e).shorter
