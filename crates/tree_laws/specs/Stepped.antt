-- Steps of edits lead back, and there again. The next number stays as it is.
use Rattle.std.specs.Prelude.{◌≡◌, None}
use Rattle.dom_store.specs.State.{IsRooted, State}
use Rattle.dom_store.specs.Building.{with_next}
use Rattle.dom_store.specs.Edits.{EditOf, after}
use Rattle.dom_store.specs.Edited.{IsFitting}
use Rattle.dom_store.specs.Exact.{exactly}
use Rattle.dom_store.specs.Refusals.{refusal}
use Rattle.dom_store.specs.Steps.{step_of}
use Rattle.tree_laws.specs.Reached.{IsReached}
use Rattle.tree_laws.specs.Wholeness.{IsWhole}

-- a document in which an edit isn't refused
pub record CanStep (state : State) (edit : EditOf) : Type 0 where
  pub fitting : IsFitting edit
  pub rooted : IsRooted state
  pub whole : IsWhole state
  pub reached : IsReached state
  pub unrefused : refusal state edit ≡ None

-- an edit that is taken back leaves the state before it
abbrev pub StepsLeadBack : Type 0
StepsLeadBack = (state : State) (edit : EditOf) → CanStep state edit → exactly (after state edit) (step_of state edit).back ≡ with_next (after state edit).next state

-- and from there it leads to the state after it again
abbrev pub StepsLeadThere : Type 0
StepsLeadThere = (state : State) (edit : EditOf) → CanStep state edit → exactly (with_next (after state edit).next state) (step_of state edit).again ≡ after state edit
