-- The end of a comment: where it can't be read.
use Rattle.std.specs.Prelude.{◌≡◌, ℕ, false, ◌==◌, if◌then◌else◌, is_ok, List, [], ◌∷◌, codes, Err, refl}
use Rattle.std.proofs.Common.{ap}
use Rattle.reading.specs.Readers.{can_read, strip}

pub begins_with_a_star : (byte : ℕ) (after : List ℕ) → (byte == 42) ≡ false → can_read (strip (codes "*/")) (byte ∷ after) ≡ false
unfolding strip
begins_with_a_star byte after other = ap (λ same. is_ok (if same then strip (codes "/") after else Err (byte ∷ after))) other

pub is_some : can_read (strip (codes "*/")) [] ≡ false
unfolding strip
is_some = refl
