-- A history in whole states, as an editor's user has it in mind, and the logs of steps that stand for it.
use Rattle.std.specs.Prelude.{◌≡◌, ◌≤◌, ℕ, List, [], ◌∷◌, Option, ⊤}
use Rattle.css_types.specs.Rule.{Ruling}
use Rattle.dom_store.specs.State.{Entry}
use Rattle.face_api.specs.Table.{Table}
use Rattle.edits.specs.State.{State}
use Rattle.edits.specs.Exact.{CanBeDone, ExactChange, StepOf, exactly}
use Rattle.undo_log.specs.Log.{Log}

-- all that stands in a state: what stands under each number, the author's rules, the tables of the faces
pub record Standing : Type 0 where
  pub node_at : ℕ → Option Entry
  pub rules : List Ruling
  pub faces : List (Option Table)

abbrev pub standing_of : State → Standing
standing_of state = record { node_at = state.tree.node_at; rules = state.rules; faces = state.faces }

-- a state is that, and the number that is given next
abbrev pub state_with : (next : ℕ) → Standing → State
state_with next standing = record { tree = record { node_at = standing.node_at; next = next }; rules = standing.rules; faces = standing.faces }

-- An exact edit can be done, and leads from the one to the other, whichever number is given next, if it is no less than
-- `drawn`. That number stays as it is.
pub record Leads (drawn : ℕ) (from : Standing) (edit : ExactChange) (to : Standing) : Type 0 where
  pub can : (next : ℕ) → drawn ≤ next → CanBeDone (state_with next from) edit
  pub leads : (next : ℕ) → drawn ≤ next → exactly (state_with next from) edit ≡ state_with next to

-- the step's one half leads back from what stands after it to what stood before, its other half leads there again
pub record LeadsBothWays (drawn : ℕ) (before : Standing) (step : StepOf) (later : Standing) : Type 0 where
  pub back : Leads drawn later step.back before
  pub again : Leads drawn before step.again later

-- the first of these states, or else the one that stands now
abbrev pub first_or : (now : Standing) → List Standing → Standing
first_or now [] = now
first_or now (first ∷ states) = first

-- from each of these states its step leads to the next one, and from the last one to what stands now
abbrev pub LeadUpTo : (drawn : ℕ) → (now : Standing) → List StepOf → List Standing → Type 0
LeadUpTo drawn now [] [] = ⊤
LeadUpTo drawn now [] (before ∷ states) = ⊥
LeadUpTo drawn now (step ∷ steps) [] = ⊥
LeadUpTo drawn now (step ∷ steps) (before ∷ states) = LeadsBothWays drawn before step (first_or now states) × LeadUpTo drawn now steps states

-- the first step leads from what stands now to the first of these states, and each other one from there to the next
abbrev pub LeadOnFrom : (drawn : ℕ) → (now : Standing) → List StepOf → List Standing → Type 0
LeadOnFrom drawn now [] [] = ⊤
LeadOnFrom drawn now [] (later ∷ states) = ⊥
LeadOnFrom drawn now (step ∷ steps) [] = ⊥
LeadOnFrom drawn now (step ∷ steps) (later ∷ states) = LeadsBothWays drawn now step later × LeadOnFrom drawn later steps states

-- the log has a step for each state that stood before now, and for each that stood until it was taken back
pub record StandsFor (drawn : ℕ) (log : Log StepOf) (states : Log Standing) (now : Standing) : Type 0 where
  pub past : LeadUpTo drawn now log.past states.past
  pub future : LeadOnFrom drawn now log.future states.future
