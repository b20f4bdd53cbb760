-- White space and comments, piece by piece.
use Rattle.std.proofs.Common.{◌≡◌, ℕ, ◌<◌, ◌≤◌, Bool, true, false, List, length, codes, Ok, Err, refl, arith}
use Rattle.std.specs.Prelude.{IfOk, Result}
use denote.Bor.{Bor}
use Rattle.reading.specs.Readers.{strip, up_to}
use Rattle.reading.proofs.Shorter.{strip_shortens}
use Rattle.reading.proofs.Turns.{IsTurning, turning_starts, turning_goes_on, turning_stops, turning_ends}
use Rattle.css_tokens.specs.Lexing.{in_gap, gap_piece, gap, comment_end}

-- whether there was white space, and what is left
abbrev pub IsSkipping : (text : List ℕ) → (was_white : Bool) → (rest : List ℕ) → Type 0
IsSkipping text was_white rest = IsTurning (λ (w : Bool) bytes. in_gap bytes) gap_piece (gap text) was_white rest

pub skipping_starts : (text : List ℕ) → IsSkipping text false text
unfolding gap
skipping_starts text = turning_starts (λ (w : Bool) bytes. in_gap bytes) gap_piece false text

pub skipping_goes_on : (text rest after : List ℕ) (was_white is_white : Bool) → IsSkipping text was_white rest → in_gap rest ≡ true → gap_piece was_white rest ≡ Ok (is_white, after) → length after < length rest → IsSkipping text is_white after
skipping_goes_on text rest after was_white is_white now g e lt = turning_goes_on is_white after now g e lt

pub skipping_stops : (text rest left : List ℕ) (was_white : Bool) → IsSkipping text was_white rest → in_gap rest ≡ true → gap_piece was_white rest ≡ Err left → gap text ≡ Err left
skipping_stops text rest left was_white now g e = turning_stops left now g e

pub skipping_ends : (text rest : List ℕ) (was_white : Bool) → IsSkipping text was_white rest → in_gap rest ≡ false → gap text ≡ Ok (was_white, rest)
skipping_ends text rest was_white now g = turning_ends now g

pub comment_shorter : (text inside : List ℕ) (result : Result (Bor (List ℕ)) (Bor (List ℕ))) → strip (codes "/*") text ≡ Ok (tt, inside) → IfOk result (λ rest. length rest.now ≤ length inside)
    → IfOk result (λ rest. length rest.now < length text)
comment_shorter text inside (Ok rest) e le = omega (arith, le, strip_shortens (codes "/*") text inside e)
comment_shorter text inside (Err left) e le = tt

pub comment_ends : (text : List ℕ) (r : List ℕ × List ℕ) → up_to (strip (codes "*/")) text ≡ Ok (r.0, r.1) → comment_end text ≡ Ok (tt, r.1)
comment_ends text r e = rw e refl

pub comment_open : (text left : List ℕ) → up_to (strip (codes "*/")) text ≡ Err left → comment_end text ≡ Err left
comment_open text left e = rw e refl
