-- White space and comments, piece by piece.
use Rattle.std.proofs.Common.{◌≡◌, ℕ, ◌<◌, true, false, List, [], ◌++◌, length, Ok, Err, refl, ap}
use Rattle.reading.specs.Readers.{Read, ◌>>=◌, give, mapped, joined}
use Rattle.reading.proofs.Turns.{IsTurning, turning_starts, turning_goes_on, turning_stops, turning_ends}
use Rattle.html_tokens.specs.Lexing.{in_misc, misc_piece, misc}

abbrev pub IsSkipping : (mark text rest : List ℕ) → Type 0
IsSkipping mark text rest = IsTurning (λ (so_far : List ℕ) bytes. in_misc mark bytes) (λ so_far. mapped (λ piece. so_far ++ piece) misc_piece) (joined (in_misc mark) misc_piece text) [] rest

pub skipping_starts : (mark text : List ℕ) → IsSkipping mark text text
unfolding joined
skipping_starts mark text = turning_starts (λ (so_far : List ℕ) bytes. in_misc mark bytes) (λ so_far. mapped (λ piece. so_far ++ piece) misc_piece) [] text

pub skipping_goes_on : (mark text rest after : List ℕ) → IsSkipping mark text rest → in_misc mark rest ≡ true → misc_piece rest ≡ Ok ([], after) → length after < length rest → IsSkipping mark text after
skipping_goes_on mark text rest after now g e lt = turning_goes_on [] after now g (ap (λ (r : Read (List ℕ)). r >>= λ x. give ([] ++ x.0) x.1) e) lt

misc_err : (mark text left : List ℕ) → joined (in_misc mark) misc_piece text ≡ Err left → misc mark text ≡ Err left
unfolding misc
misc_err mark text left e = rw e refl

misc_ok : (mark text run rest : List ℕ) → joined (in_misc mark) misc_piece text ≡ Ok (run, rest) → misc mark text ≡ Ok (tt, rest)
unfolding misc
misc_ok mark text run rest e = rw e refl

pub skipping_stops : (mark text rest left : List ℕ) → IsSkipping mark text rest → in_misc mark rest ≡ true → misc_piece rest ≡ Err left → misc mark text ≡ Err left
skipping_stops mark text rest left now g e = misc_err mark text left (turning_stops left now g (ap (λ (r : Read (List ℕ)). r >>= λ x. give ([] ++ x.0) x.1) e))

pub skipping_ends : (mark text rest : List ℕ) → IsSkipping mark text rest → in_misc mark rest ≡ false → misc mark text ≡ Ok (tt, rest)
skipping_ends mark text rest now g = misc_ok mark text [] rest (turning_ends now g)
