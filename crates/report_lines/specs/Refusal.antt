-- The line of a refusal.
use Rattle.std.specs.Prelude.{ℕ, List, ◌++◌, codes}
use Rattle.std.specs.Fmt.{decimal}

abbrev pub refused_line : (word : List ℕ) → (place : ℕ) → List ℕ
refused_line word place = codes "refused " ++ word ++ codes " " ++ decimal place ++ codes "\n"
