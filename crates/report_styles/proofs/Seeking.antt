-- The search for an end, piece by piece.
use Rattle.std.proofs.Common.{◌≡◌, ◌<◌, ◌≤◌, ℕ, zero, suc, Bool, true, false, List, length, Ok, Err, refl, sym, ap, ◌∙◌, arith}
use Rattle.std.specs.Prelude.{Option, Some, None}
use Rattle.reading.specs.Readers.{Read}
use Rattle.report_styles.specs.declared.going_on.Piece.{Piece}
use Rattle.report_styles.specs.declared.going_on.Piece.TheVariants as pieces
use Rattle.report_styles.specs.declared.going_on.Passed.{Passed}
use Rattle.report_styles.specs.declared.going_on.Passed.TheVariants as passing
use Rattle.report_styles.specs.declared.going_on.End.{End}
use Rattle.report_styles.specs.declared.going_on.End.TheVariants as ends
use Rattle.report_styles.specs.GoingOn.{at_end, at_piece, behind, deeper, ends_at, only_if, piece, seek, IsBehind}

-- what is still to be searched gives what the whole gives
pub record IsSeeking (passed : Passed) (total : Option (List ℕ)) (depth : ℕ) (rest : List ℕ) : Type 0 where
  pub left : ℕ
  pub enough : length rest < left
  pub same : seek left passed depth rest ≡ total

seek_once : (fuel : ℕ) (passed : Passed) (depth : ℕ) (rest : List ℕ) (r : Read Piece) → piece rest ≡ r → seek (suc fuel) passed depth rest ≡ at_piece (seek fuel passed) passed depth rest r
unfolding seek
seek_once fuel passed depth rest r e = rw e refl

-- a piece with the answer whether it ends there
seek_at : (fuel : ℕ) (passed : Passed) (depth : ℕ) (rest after : List ℕ) (p : Piece) (e : Option End) → piece rest ≡ Ok (p, after) → ends_at passed depth p ≡ e
    → seek (suc fuel) passed depth rest ≡ at_end (seek fuel passed (deeper depth p)) e rest after
seek_at fuel passed depth rest after p e read is =
    seek_once fuel passed depth rest (Ok (p, after)) read ∙ ap (λ (o : Option End). at_end (seek fuel passed (deeper depth p)) o rest after) is

goes_on_by : (passed : Passed) (total : Option (List ℕ)) (depth : ℕ) (rest after : List ℕ) (p : Piece) (left : ℕ) → piece rest ≡ Ok (p, after) → ends_at passed depth p ≡ None → length after < length rest
    → length rest < left → seek left passed depth rest ≡ total → IsSeeking passed total (deeper depth p) after
goes_on_by passed total depth rest after p zero read is lt enough same = absurd (omega arith)
goes_on_by passed total depth rest after p (suc left) read is lt enough same =
    record { left = left; enough = omega arith; same = sym (seek_at left passed depth rest after p None read is) ∙ same }

pub seeking_goes_on : (passed : Passed) (total : Option (List ℕ)) (depth : ℕ) (rest after : List ℕ) (p : Piece) → IsSeeking passed total depth rest → piece rest ≡ Ok (p, after) → ends_at passed depth p ≡ None
    → length after < length rest → IsSeeking passed total (deeper depth p) after
seeking_goes_on passed total depth rest after p now read is lt = goes_on_by passed total depth rest after p now.left read is lt now.enough now.same

ends_by : (passed : Passed) (total : Option (List ℕ)) (depth : ℕ) (rest after : List ℕ) (p : Piece) (e : End) (found : List ℕ) (left : ℕ) → piece rest ≡ Ok (p, after) → ends_at passed depth p ≡ Some e
    → ((later : List ℕ → Option (List ℕ)) → at_end later (Some e) rest after ≡ Some found)
    → length rest < left → seek left passed depth rest ≡ total → total ≡ Some found
ends_by passed total depth rest after p e found zero read is at enough same = absurd (omega arith)
ends_by passed total depth rest after p e found (suc left) read is at enough same =
    sym same ∙ seek_at left passed depth rest after p (Some e) read is ∙ at (seek left passed (deeper depth p))

pub seeking_ends_before : (passed : Passed) (total : Option (List ℕ)) (depth : ℕ) (rest after : List ℕ) (p : Piece) → IsSeeking passed total depth rest → piece rest ≡ Ok (p, after)
    → ends_at passed depth p ≡ Some ends.Before → total ≡ Some rest
seeking_ends_before passed total depth rest after p now read is = ends_by passed total depth rest after p ends.Before rest now.left read is (λ later. refl) now.enough now.same

pub seeking_ends_behind : (passed : Passed) (total : Option (List ℕ)) (depth : ℕ) (rest after : List ℕ) (p : Piece) → IsSeeking passed total depth rest → piece rest ≡ Ok (p, after)
    → ends_at passed depth p ≡ Some ends.Behind → total ≡ Some after
seeking_ends_behind passed total depth rest after p now read is = ends_by passed total depth rest after p ends.Behind after now.left read is (λ later. refl) now.enough now.same

fails_by : (passed : Passed) (total : Option (List ℕ)) (depth : ℕ) (rest stopped : List ℕ) (left : ℕ) → piece rest ≡ Err stopped → length rest < left → seek left passed depth rest ≡ total → total ≡ None
fails_by passed total depth rest stopped zero read enough same = absurd (omega arith)
fails_by passed total depth rest stopped (suc left) read enough same = sym same ∙ seek_once left passed depth rest (Err stopped) read

pub seeking_fails : (passed : Passed) (total : Option (List ℕ)) (depth : ℕ) (rest stopped : List ℕ) → IsSeeking passed total depth rest → piece rest ≡ Err stopped → total ≡ None
seeking_fails passed total depth rest stopped now read = fails_by passed total depth rest stopped now.left read now.enough now.same

-- ---- where it ends

never_before : (holds : Bool) → only_if holds ends.Behind ≡ Some ends.Before → ⊥
never_before true e = absurd cc
never_before false e = absurd cc

no_end : {e : End} → None ≡ Some e → ⊥
no_end same = absurd cc
