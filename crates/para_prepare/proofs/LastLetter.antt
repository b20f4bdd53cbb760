-- The last of some characters.
use Rattle.std.proofs.Common.{◌≡◌, refl, suc, ◌-◌, ◌<◌, List, [], ◌∷◌, length, get_or, Some, arith}
use Rattle.para_prepare.specs.declared.letter.Letter.{Letter}
use Rattle.para_prepare.specs.Glyph.{last_letter}

pub last_is : (letters : List Letter) (d : Letter) → 0 < length letters → last_letter letters ≡ Some (get_or letters (length letters - 1) d)
last_is [] d h = absurd (omega arith)
last_is (l ∷ []) d h = refl
last_is (l ∷ (m ∷ letters)) d h =
    let last : length (l ∷ (m ∷ letters)) - 1 ≡ suc (length (m ∷ letters) - 1) = omega arith in
    rw last (last_is (m ∷ letters) d (omega arith))
