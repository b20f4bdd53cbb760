-- Both halves of the step of an edit can be done, also where later edits have drawn more numbers.
use Rattle.std.specs.Prelude.{◌≤◌, ℕ}
use Rattle.dom_store.specs.State.{State}
use Rattle.dom_store.specs.Building.{with_next}
use Rattle.dom_store.specs.Edits.{EditOf, after}
use Rattle.dom_store.specs.Exactly.{CanBeDone}
use Rattle.dom_store.specs.Steps.{step_of}
use Rattle.tree_laws.specs.Held.{AreHeld}
use Rattle.tree_laws.specs.Stepped.{CanStep}

-- an edit can be taken back in the state after it
abbrev pub StepsCanBeTakenBack : Type 0
StepsCanBeTakenBack = (state : State) (edit : EditOf) → CanStep state edit → AreHeld state → (next : ℕ) → (after state edit).next ≤ next → CanBeDone (with_next next (after state edit)) (step_of state edit).back

-- and done again in the state before it
abbrev pub StepsCanBeDoneAgain : Type 0
StepsCanBeDoneAgain = (state : State) (edit : EditOf) → CanStep state edit → (next : ℕ) → (after state edit).next ≤ next → CanBeDone (with_next next state) (step_of state edit).again
