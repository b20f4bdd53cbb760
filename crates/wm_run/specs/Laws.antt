-- Something is due for all words and every input, and nothing else is; so for what is owed.
use Rattle.std.specs.Prelude.{◌≡◌, ℕ, List, Option}
use Rattle.face_api.specs.Table.{Table}
use Rattle.edit_job.specs.Owed.{Owed}
use Rattle.wm_run.specs.Job.{IsDue}
use Rattle.wm_run.specs.Owed.{IsOwed}
use Rattle.wm_run.specs.declared.status.Status.{Status}

-- whatever words and bytes come, one status and one text are due for them
pub record HaveOneResult : Type 0 where
  pub some : (faces : List (Option Table)) (words : List (List ℕ)) (input : List ℕ) → (status : Status) × (due : List ℕ) × IsDue faces words input status due
  pub only : (faces : List (Option Table)) (words : List (List ℕ)) (input : List ℕ) (status other : Status) (due more : List ℕ)
      → IsDue faces words input status due → IsDue faces words input other more → (other ≡ status) × (more ≡ due)

-- whatever words and bytes come, something is owed to the pages of the job, and no other amount
pub record OweOnce : Type 0 where
  pub some : (faces : List (Option Table)) (words : List (List ℕ)) (input : List ℕ) → (owed : Owed) × IsOwed faces words input owed
  pub only : (faces : List (Option Table)) (words : List (List ℕ)) (input : List ℕ) (one other : Owed)
      → IsOwed faces words input one → IsOwed faces words input other → other ≡ one
