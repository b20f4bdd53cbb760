-- A list cut into runs.
use Rattle.std.specs.Prelude.{Bool, ◌&&◌, if◌then◌else◌, List, [], ◌∷◌, Some, unwrap_or}
use Rattle.std.specs.List.{last_or}

-- a list that isn't empty
pub record Run (X : Type 0) : Type 0 where
  pub first : X
  pub others : List X

abbrev pub items : {X : Type 0} → Run X → List X
items run = run.first ∷ run.others

abbrev pub last : {X : Type 0} → Run X → X
last run = unwrap_or (last_or (Some run.first) run.others) run.first

-- the runs, with one more item in front: it joins the first run where both join
abbrev pub with_front : {X : Type 0} → (X → Bool) → X → List (Run X) → List (Run X)
with_front joins x [] = (record { first = x; others = [] }) ∷ []
with_front joins x (run ∷ runs) =
    if joins x && joins run.first
    then (record { first = x; others = items run }) ∷ runs
    else (record { first = x; others = [] }) ∷ run ∷ runs

-- the list, cut between each two neighbours of which not both join
abbrev pub runs_of : {X : Type 0} → (X → Bool) → List X → List (Run X)
runs_of joins [] = []
runs_of joins (x ∷ xs) = with_front joins x (runs_of joins xs)
