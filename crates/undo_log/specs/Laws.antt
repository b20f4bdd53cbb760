-- What holds of logs.
use Rattle.std.specs.Prelude.{◌≡◌, ◌<◌, ◌≤◌, ℕ, List, [], ◌∷◌, ◌++◌, length, None, Some}
use Rattle.dom_store.specs.State as dom
use Rattle.dom_store.specs.State.{IsRooted, IsSaidState, What, tree_of}
use Rattle.dom_store.specs.Building.{with_next}
use Rattle.dom_store.specs.Standing.{live_count}
use Rattle.tree_laws.specs.Held.{AreHeld}
use Rattle.tree_laws.specs.Reached.{IsReached}
use Rattle.tree_laws.specs.Weight.{total}
use Rattle.tree_laws.specs.Wholeness.{IsWhole}
use Rattle.edits.specs.State.{State}
use Rattle.edits.specs.Change.{Change, IsFitting}
use Rattle.edits.specs.Edited.{after, refusal}
use Rattle.edits.specs.Exact.{StepOf, step_of}
use Rattle.undo_log.specs.Log.{IsFew, Log, empty, gone_down, gone_up, next_ahead, next_back, recorded}
use Rattle.undo_log.specs.History.{Leads, LeadsBothWays, Standing, StandsFor, standing_of}

-- ---- steps

-- down and up again, and up and down again, is where it began
pub record ComeBack : Type 0 where
  pub down_first : (log : Log StepOf) → 0 < length log.past → gone_up (gone_down log) ≡ log
  pub up_first : (log : Log StepOf) → 0 < length log.future → gone_down (gone_up log) ≡ log

-- what is recorded is taken back next, and nothing is taken again
pub record ComeLast : Type 0 where
  pub is_last : (step : StepOf) (log : Log StepOf) → next_back (recorded step log) ≡ Some step
  pub none_ahead : (step : StepOf) (log : Log StepOf) → (recorded step log).future ≡ []

pub record StayFew : Type 0 where
  pub after_record : (step : StepOf) (log : Log StepOf) → IsFew (recorded step log)
  pub after_down : (log : Log StepOf) → IsFew log → IsFew (gone_down log)
  pub after_up : (log : Log StepOf) → IsFew log → IsFew (gone_up log)

-- ---- whole states

-- the step that is taken back next can be done, and leads back to this state
pub record IsBefore (drawn : ℕ) (earlier : Standing) (log : Log StepOf) (now : Standing) : Type 0 where
  pub step : StepOf
  pub is : next_back log ≡ Some step
  pub leads : Leads drawn now step.back earlier

-- the step that is taken again next can be done, and leads to this state
pub record IsAfter (drawn : ℕ) (later : Standing) (log : Log StepOf) (now : Standing) : Type 0 where
  pub step : StepOf
  pub is : next_ahead log ≡ Some step
  pub leads : Leads drawn now step.again later

-- The state before an edit comes last in the past, of which the last ones are kept, and nothing is ahead. To take back is
-- to put the past's last state, and what stood goes to the front of the future; to take again is the contrary. Where more
-- numbers were drawn since, the log stands for the states as before.
pub record StandForStates : Type 0 where
  pub begun : (drawn : ℕ) (now : Standing) → StandsFor drawn empty empty now
  pub edited : (drawn : ℕ) (log : Log StepOf) (states : Log Standing) (now later : Standing) (step : StepOf) → StandsFor drawn log states now → LeadsBothWays drawn now step later
      → StandsFor drawn (recorded step log) (recorded now states) later
  pub back : (drawn : ℕ) (log : Log StepOf) (past future : List Standing) (earlier now : Standing) → StandsFor drawn log (record { past = past ++ earlier ∷ []; future = future }) now
      → IsBefore drawn earlier log now × StandsFor drawn (gone_down log) (record { past = past; future = now ∷ future }) earlier
  pub ahead : (drawn : ℕ) (log : Log StepOf) (past future : List Standing) (later now : Standing) → StandsFor drawn log (record { past = past; future = later ∷ future }) now
      → IsAfter drawn later log now × StandsFor drawn (gone_up log) (record { past = past ++ now ∷ []; future = future }) later
  pub more : (drawn more : ℕ) (log : Log StepOf) (states : Log Standing) (now : Standing) → drawn ≤ more → StandsFor drawn log states now → StandsFor more log states now
  pub counts : (drawn : ℕ) (log : Log StepOf) (states : Log Standing) (now : Standing) → StandsFor drawn log states now
      → (length log.past ≡ length states.past) × (length log.future ≡ length states.future)

-- ---- documents

-- a document in which an edit isn't refused
pub record CanStep (state : State) (change : Change) : Type 0 where
  pub fitting : IsFitting change
  pub rooted : IsRooted state.tree
  pub whole : IsWhole state.tree
  pub reached : IsReached state.tree
  pub held : AreHeld state.tree
  pub unrefused : refusal state change ≡ None

-- the step of an edit that isn't refused leads back from the state after it to the one before, and there again
abbrev pub StepsOfEditsLeadBothWays : Type 0
StepsOfEditsLeadBothWays = (state : State) (change : Change) (step : StepOf) → CanStep state change → step_of state change ≡ Some step
    → LeadsBothWays (after state change).tree.next (standing_of state) step (standing_of (after state change))

-- what holds of a document whatever is drawn later
pub record StaysWhereMoreAreDrawn (state : dom.State) (next : ℕ) : Type 0 where
  pub rooted : IsRooted state → IsRooted (with_next next state)
  pub whole : IsWhole state → IsWhole (with_next next state)
  pub reached : IsReached state → IsReached (with_next next state)
  pub held : AreHeld state → AreHeld (with_next next state)
  pub said : IsSaidState state → IsSaidState (with_next next state)
  pub tree : tree_of (with_next next state) ≡ tree_of state
  pub count : IsWhole state → live_count (with_next next state) ≡ live_count state
  pub weight : (weight : What → ℕ) → IsWhole state → total weight (with_next next state) ≡ total weight state

abbrev pub DocumentsStayWhereMoreAreDrawn : Type 0
DocumentsStayWhereMoreAreDrawn = (state : dom.State) (next : ℕ) → state.next ≤ next → StaysWhereMoreAreDrawn state next
