-- Strings, piece by piece.
use Rattle.std.proofs.Common.{◌≡◌, ℕ, ◌<◌, true, false, eqb, List, [], ◌∷◌, ◌++◌, length, Ok, Err, refl, sym, ap, ◌∙◌, append_assoc, length-append, arith}
use Rattle.std.proofs.lemmas.Bool.{ne_eqb, eq-eqb}
use Rattle.std.proofs.lemmas.List.{append_cancel_right}
use Rattle.reading.specs.Readers.{Read, ◌>>=◌, give, joined, mapped, one_of, strip, starts}
use Rattle.reading.proofs.Turns.{IsTurning, turning_starts, turning_goes_on, turning_stops, turning_ends}
use Rattle.css_tokens.specs.Characters.{is_line_break, is_quote}
use Rattle.css_tokens.specs.Lexing.{in_string, string_piece, string}

-- a piece was read: what stands before the rest
abbrev pub IsPiece : (text rest : List ℕ) → Type 0
IsPiece text rest = (piece : List ℕ) × (string_piece text ≡ Ok (piece, rest)) × (text ≡ piece ++ rest) × (0 < length piece)

escaped : (other : ℕ) (after : List ℕ) → string_piece (92 ∷ (other ∷ after)) ≡ Ok (92 ∷ (other ∷ []), after)
unfolding string_piece starts strip one_of
escaped other after = refl

pub escaped_piece : (bytes rest after : List ℕ) (byte other : ℕ) → bytes ≡ byte ∷ rest → byte ≡ 92 → rest ≡ other ∷ after → IsPiece bytes after
escaped_piece bytes rest after byte other first e second = rw (first, e, second) (92 ∷ (other ∷ []), escaped other after, refl, omega arith)

open_ : string_piece (92 ∷ []) ≡ Err []
unfolding string_piece starts strip one_of
open_ = refl

open_by : (rest : List ℕ) → length rest ≡ 0 → string_piece (92 ∷ rest) ≡ Err rest
open_by [] none = open_
open_by (other ∷ rest) none = absurd (omega arith)

pub open_piece : (bytes rest : List ℕ) (byte : ℕ) → bytes ≡ byte ∷ rest → byte ≡ 92 → length rest ≡ 0 → string_piece bytes ≡ Err rest
open_piece bytes rest byte first e none = rw (first, e) (open_by rest none)

plain_by : (byte : ℕ) (after : List ℕ) → eqb byte 92 ≡ false → is_line_break byte ≡ false → string_piece (byte ∷ after) ≡ Ok (byte ∷ [], after)
unfolding string_piece starts strip one_of
plain_by byte after e line = rw (e, line) refl

pub plain_piece : (bytes rest : List ℕ) (byte : ℕ) → bytes ≡ byte ∷ rest → (byte ≡ 92 → ⊥) → is_line_break byte ≡ false → IsPiece bytes rest
plain_piece bytes rest byte first n line = rw first (byte ∷ [], plain_by byte rest (ne_eqb byte 92 n) line, refl, omega arith)

broken_by : (byte : ℕ) (after : List ℕ) → eqb byte 92 ≡ false → is_line_break byte ≡ true → string_piece (byte ∷ after) ≡ Err (byte ∷ after)
unfolding string_piece starts strip one_of
broken_by byte after e line = rw (e, line) refl

pub broken_piece : (bytes rest : List ℕ) (byte : ℕ) → bytes ≡ byte ∷ rest → (byte ≡ 92 → ⊥) → is_line_break byte ≡ true → string_piece bytes ≡ Err bytes
broken_piece bytes rest byte first n line = rw first (broken_by byte rest (ne_eqb byte 92 n) line)

nothing : string_piece [] ≡ Err []
unfolding string_piece starts strip one_of
nothing = refl

pub no_piece : (bytes : List ℕ) → length bytes ≡ 0 → string_piece bytes ≡ Err bytes
no_piece [] none = nothing
no_piece (byte ∷ bytes) none = absurd (omega arith)

-- ---- the loop

-- the pieces so far
pub record IsIn (quote : ℕ) (text rest : List ℕ) : Type 0 where
  pub front : List ℕ
  pub parts : text ≡ front ++ rest
  pub turning : IsTurning (λ (so_far : List ℕ) bytes. in_string quote bytes) (λ so_far. mapped (λ piece. so_far ++ piece) string_piece) (joined (in_string quote) string_piece text) front rest

pub in_starts : (quote : ℕ) (text : List ℕ) → IsIn quote text text
unfolding joined
in_starts quote text = record {
  front = [];
  parts = refl;
  turning = turning_starts (λ (so_far : List ℕ) bytes. in_string quote bytes) (λ so_far. mapped (λ piece. so_far ++ piece) string_piece) [] text;
}

pub in_goes_on : (quote : ℕ) (text rest after : List ℕ) → IsIn quote text rest → in_string quote rest ≡ true → IsPiece rest after → IsIn quote text after
in_goes_on quote text rest after now goes read =
    let shorter : length after < length rest = omega (arith, ap length read.2, length-append read.0 after, read.3) in
    record {
      front = now.front ++ read.0;
      parts = now.parts ∙ ap (λ (r : List ℕ). now.front ++ r) read.2 ∙ sym (append_assoc now.front read.0 after);
      turning = turning_goes_on (now.front ++ read.0) after now.turning goes (ap (λ (r : Read (List ℕ)). r >>= λ x. give (now.front ++ x.0) x.1) read.1) shorter;
    }

pub in_stops : (quote : ℕ) (text rest left : List ℕ) → IsIn quote text rest → in_string quote rest ≡ true → string_piece rest ≡ Err left → joined (in_string quote) string_piece text ≡ Err left
in_stops quote text rest left now goes e = turning_stops left now.turning goes (ap (λ (r : Read (List ℕ)). r >>= λ x. give (now.front ++ x.0) x.1) e)

pub in_ends : (quote : ℕ) (text rest : List ℕ) → IsIn quote text rest → in_string quote rest ≡ false
    → (inside : List ℕ) × (joined (in_string quote) string_piece text ≡ Ok (inside, rest)) × (text ≡ inside ++ rest) × (in_string quote rest ≡ false)
in_ends quote text rest now ends = (now.front, turning_ends now.turning ends, now.parts, ends)

-- ---- where a string ends

string_by : (quote : ℕ) (text inside after : List ℕ) → is_quote quote ≡ true → joined (in_string quote) string_piece text ≡ Ok (inside, quote ∷ after) → string (quote ∷ text) ≡ Ok (inside, after)
unfolding string one_of
string_by quote text inside after q e = rw (q, e, eq-eqb quote quote refl) refl

-- what stands before the quote is the string
pub string_read : (quote : ℕ) (text bytes front rest end_ after : List ℕ) → is_quote quote ≡ true → bytes ≡ text
    → (inside : List ℕ) × (joined (in_string quote) string_piece bytes ≡ Ok (inside, end_)) × (bytes ≡ inside ++ end_) × (in_string quote end_ ≡ false)
    → text ≡ front ++ rest → rest ≡ end_ → rest ≡ quote ∷ after → string (quote ∷ text) ≡ Ok (front, after)
string_read quote text bytes front rest end_ after q texts read parts is next =
    let same : front ≡ read.0 = append_cancel_right front read.0 rest (sym parts ∙ sym texts ∙ read.2 ∙ ap (λ (r : List ℕ). read.0 ++ r) (sym is)) in
    rw (same, ← texts) (string_by quote bytes read.0 after q (read.1 ∙ ap (λ (r : List ℕ). Ok (read.0, r)) (sym is ∙ next)))

stops_by : (quote : ℕ) (text left : List ℕ) → is_quote quote ≡ true → joined (in_string quote) string_piece text ≡ Err left → string (quote ∷ text) ≡ Err left
unfolding string one_of
stops_by quote text left q e = rw (q, e) refl

pub string_stops : (quote : ℕ) (text bytes left : List ℕ) → is_quote quote ≡ true → bytes ≡ text → joined (in_string quote) string_piece bytes ≡ Err left → string (quote ∷ text) ≡ Err left
string_stops quote text bytes left q texts e = rw (← texts) (stops_by quote bytes left q e)
