-- The history of a document that is open, in whole states, as an editor's user has it in mind: what stood before each edit, and what stood until
-- it was taken back.
use Rattle.std.specs.Prelude.{ℕ, ◌-◌, List, [], ◌∷◌, ◌++◌, length, take, drop, slice_get, Option, option_map}
use Rattle.std.specs.List.{All}
use Rattle.circular_buffer.specs.Buffer.{last_item}
use Rattle.edits.specs.Change.{Change, of_tree, metric, retire, rule, unrule}
use Rattle.edits.specs.Edited.{after}
use Rattle.edits.specs.Exact.{StepOf}
use Rattle.edits.specs.State.{State}
use Rattle.undo_log.specs.History.{Standing, StandsFor, standing_of, state_with}
use Rattle.undo_log.specs.Log.{Log, empty, recorded}
use Rattle.session.specs.Document.{CanBeOpen}

-- a document that is open, with its history
pub record Opened : Type 0 where
  pub state : State
  pub history : Log Standing

-- nothing stood before it, nor behind it
abbrev pub unedited : State → Opened
unedited state = record { state = state; history = empty }

-- a state of a history can be open, where so many numbers were drawn
abbrev pub CanStand : (drawn most : ℕ) → Standing → Type 0
CanStand drawn most standing = CanBeOpen most (state_with drawn standing)

-- a log stands for these states before and behind what stands now; each of these, and what stands now, can be open
pub record IsHistory (drawn most : ℕ) (log : Log StepOf) (history : Log Standing) (now : Standing) : Type 0 where
  pub stands : StandsFor drawn log history now
  pub here : CanStand drawn most now
  pub past : All (CanStand drawn most) history.past
  pub future : All (CanStand drawn most) history.future

-- An edit of the tree or of the rules puts what stood before it last in the past, of which the last 64 are kept, and nothing is ahead any more.
-- After one of a face there is no history: a face that is given up doesn't come back.
abbrev pub history_after : State → Change → Log Standing → Log Standing
history_after state (of_tree edit) history = recorded (standing_of state) history
history_after state (metric face c upright value) history = empty
history_after state (retire face) history = empty
history_after state (rule rules) history = recorded (standing_of state) history
history_after state (unrule index) history = recorded (standing_of state) history

abbrev pub opened_after : Opened → Change → Opened
opened_after opened change = record { state = after opened.state change; history = history_after opened.state change opened.history }

-- ---- back and ahead: the number that is given next stays as it is

-- without its last one
abbrev pub but_last : {X : Type 0} → List X → List X
but_last items = take (length items - 1) items

-- the past's last state stands, and what stood goes to the front of the future
abbrev pub back_to : Opened → Standing → Opened
back_to opened earlier = record {
  state = state_with opened.state.tree.next earlier;
  history = record { past = but_last opened.history.past; future = standing_of opened.state ∷ opened.history.future };
}

-- none where the past is empty
abbrev pub undone : Opened → Option Opened
undone opened = option_map (back_to opened) (last_item opened.history.past)

-- the future's first state stands, and what stood goes to the end of the past
abbrev pub ahead_to : Opened → Standing → Opened
ahead_to opened later = record {
  state = state_with opened.state.tree.next later;
  history = record { past = opened.history.past ++ standing_of opened.state ∷ []; future = drop 1 opened.history.future };
}

-- none where the future is empty
abbrev pub redone : Opened → Option Opened
redone opened = option_map (ahead_to opened) (slice_get opened.history.future 0)
