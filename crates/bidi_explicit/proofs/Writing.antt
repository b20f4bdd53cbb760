-- Lists that are written from the front.
use Rattle.std.proofs.Common.{◌≡◌, ℕ, ◌+◌, ◌<◌, List, [], ◌∷◌, ◌++◌, append_assoc, length, take, set}
use Rattle.std.proofs.lemmas.List.{take_more_set}

pub written_more : {X : Type 0} (xs : List X) (i : ℕ) (v : X) (rest : List X) → i < length xs → take (i + 1) (set xs i v) ++ rest ≡ take i xs ++ v ∷ rest
written_more xs i v rest lt = rw (take_more_set xs i v lt) (append_assoc (take i xs) (v ∷ []) rest)
