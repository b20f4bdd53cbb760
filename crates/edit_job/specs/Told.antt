-- What steps come to over a session.
use Rattle.std.specs.Prelude.{◌≡◌, ℕ, ◌+◌, ◌≤◌, List, Option}
use Rattle.std.specs.Io.KnownBytes.{Appends}
use Rattle.face_api.specs.Table.{Table}
use Rattle.io_edge.specs.Edge.{AppendsFront}
use Rattle.edit_script.specs.Fitting.{bytes_in, bytes_of}
use Rattle.edit_script.specs.Meaning.{Step}
use Rattle.edit_script.specs.Script.{StepAt}
use Rattle.session.specs.declared.session.Session.{Session}
use Rattle.session.specs.Document.{most_bytes}
use Rattle.session.specs.History.{Opened}
use Rattle.session.specs.State.{Holds}
use Rattle.edit_job.specs.Owed.{IsPaid, Logged, OwesStepIn, Owing, logged_in}
use Rattle.edit_job.specs.Steps.{AreStepsFrom, IsStep}

module _ {I : Type 0} {D : I → Type 0} where
  -- from this document, with its history, the step leads to the one that the session holds, and what is due for it was appended; texts hold no
  -- more bytes than so many with those that the step brings
  pub record GoesFrom (behind : List (Option Table)) (old new : Session I D) (what : Step) (line : ℕ) (was is : Option (List ℕ)) (most : ℕ) (opened : Opened) : Type 0 where
    pub next : Opened
    pub due : List ℕ
    pub much : ℕ
    pub step : IsStep old.view opened what line next due
    pub room : much ≤ most + bytes_in what
    pub holds : Holds behind much new next
    pub appended : Appends was is due

  -- so from whatever document it held
  abbrev pub Goes : (before behind : List (Option Table)) → (old new : Session I D) → Step → (line : ℕ) → (was is : Option (List ℕ)) → Type 0
  Goes before behind old new what line was is = (most : ℕ) (opened : Opened) → Holds before most old opened → GoesFrom behind old new what line was is most opened

  -- whatever document it held, a front of what is due for the step was appended
  abbrev pub Begins : (before : List (Option Table)) → (old : Session I D) → Step → (line : ℕ) → (was is : Option (List ℕ)) → Type 0
  Begins before old what line was is = (most : ℕ) (opened next : Opened) (due : List ℕ) → Holds before most old opened → IsStep old.view opened what line next due → AppendsFront was is due

  -- it holds a document, with its history, whose texts with those that steps bring hold at most so many bytes as a document's may
  abbrev pub HasRoom : (faces : List (Option Table)) → Session I D → List StepAt → Type 0
  HasRoom faces session steps = (most : ℕ) × (opened : Opened) × Holds faces most session opened × (most + bytes_of steps ≤ most_bytes)

  -- from this document, with its history, the steps lead to the one that the session holds, and what is due for them was appended
  pub record GoThrough (behind : List (Option Table)) (old new : Session I D) (steps : List StepAt) (was is : Option (List ℕ)) (opened : Opened) : Type 0 where
    pub last : Opened
    pub due : List ℕ
    pub much : ℕ
    pub steps_are : AreStepsFrom old.view opened steps last due
    pub holds : Holds behind much new last
    pub appended : Appends was is due

  -- it has for its next page all that isn't owed to it after the step
  pub record Pays (before behind : List (Option Table)) (old new : Session I D) (what : Step) : Type 0 where
    pub leads : (owing more : Owing) (next : Logged) → OwesStepIn before old owing what next more → next ≡ logged_in behind new
    pub paid : (owing more : Owing) (next : Logged) → IsPaid old owing → OwesStepIn before old owing what next more → IsPaid new more
