-- What an edit of an open document leads to.
use Rattle.std.specs.Prelude.{◌≡◌, ◌⊎◌, ℕ, ◌+◌, ◌≤◌, List, Option, Some, None, Result, Ok, Err, ⊤}
use Rattle.face_api.specs.Table.{Table}
use Rattle.face_api.specs.declared.error.FacesError.{FacesError}
use Rattle.face_api.specs.declared.error.FacesError.TheVariants as faces_errors
use Rattle.dom_store.specs.declared.error.EditError.{EditError}
use Rattle.dom_store.specs.declared.error.EditError.TheVariants as refusals
use Rattle.dom_store.specs.Edits.{EditOf, remove}
use Rattle.dom_store.specs.Steps.{step_of}
use Rattle.edits.specs.Change.{Change, of_tree, metric, retire, rule, unrule, bytes_brought}
use Rattle.edits.specs.Edited.{after, by_tree, fixed, full, no_face, no_rule, refusal, too_many_rules}
use Rattle.edits.specs.State.{State}
use Rattle.tree_laws.specs.Weight.{bytes, total}
use Rattle.edits.specs.Exact.{StepOf, of_tree_step, rule_step, unrule_step}
use Rattle.undo_log.specs.History.{Standing}
use Rattle.undo_log.specs.Log.{Log, empty, recorded}
use Rattle.style_types.specs.Tree.{Nodes}
use Rattle.box_gen.specs.Limit.{IsWithinLimits, Passes}
use Rattle.box_limits.specs.declared.error.LimitError.{LimitError}
use Rattle.box_limits.specs.declared.error.LimitError.TheVariants as limits
use Rattle.session.specs.declared.error.ApplyError.{ApplyError}
use Rattle.session.specs.declared.error.ApplyError.TheVariants.{Document, NoFace, Fixed, Full, TooManyRules, NoRule, Limit, Memory}
use Rattle.session.specs.declared.session.Session.{Session}
use Rattle.session.specs.History.{history_after}
use Rattle.session.specs.Document.{styled_of}
use Rattle.session.specs.State.{HasHistory, state_in}

-- want of memory is no refusal
abbrev pub of_refusal : EditError → ApplyError
of_refusal refusals.Memory = Memory
of_refusal other = Document other

abbrev pub of_faces_error : FacesError → ApplyError
of_faces_error faces_errors.NoFace = NoFace
of_faces_error faces_errors.Fixed = Fixed
of_faces_error faces_errors.Full = Full
of_faces_error faces_errors.Memory = Memory

abbrev pub of_limit_error : LimitError → ApplyError
of_limit_error (limits.Limit limit) = Limit limit
of_limit_error limits.Memory = Memory

-- a removal can't be taken back
abbrev pub CanBeTakenBack : EditOf → Type 0
CanBeTakenBack (remove number) = ⊥
CanBeTakenBack other = ⊤

-- it may want memory: to give a face up takes none
abbrev pub MayWantMemory : Change → Type 0
MayWantMemory (retire face) = ⊥
MayWantMemory other = ⊤

-- the state after the edit as a styled tree
abbrev pub styled_after : State → Change → Nodes
styled_after state change = styled_of (after state change)

-- it can be applied: it isn't refused, and the boxes of the next state can stand
pub record CanApply (state : State) (change : Change) : Type 0 where
  pub taken : refusal state change ≡ None
  pub within : IsWithinLimits (styled_after state change)

-- it can't, for this reason: that of the edit comes first, then that of boxes
abbrev pub IsRefusedEdit : State → Change → ApplyError → Type 0
IsRefusedEdit state change (Document error) = refusal state change ≡ Some (by_tree error)
IsRefusedEdit state change NoFace = refusal state change ≡ Some no_face
IsRefusedEdit state change Fixed = refusal state change ≡ Some fixed
IsRefusedEdit state change Full = refusal state change ≡ Some full
IsRefusedEdit state change TooManyRules = refusal state change ≡ Some too_many_rules
IsRefusedEdit state change NoRule = refusal state change ≡ Some no_rule
IsRefusedEdit state change (Limit limit) = (refusal state change ≡ None) × Passes (styled_after state change) limit
IsRefusedEdit state change Memory = ⊥

-- an edit can be applied, or is refused, and for one reason alone
pub record HasOneOutcome : Type 0 where
  pub some : (state : State) (change : Change) → CanApply state change ⊎ ((error : ApplyError) × IsRefusedEdit state change error)
  pub only : (state : State) (change : Change) (error : ApplyError) → IsRefusedEdit state change error
      → (CanApply state change → ⊥) × ((other : ApplyError) → IsRefusedEdit state change other → other ≡ error)

-- after an edit that isn't refused the texts hold no more bytes than before it with those that it brings
abbrev pub BringNoMore : Type 0
BringNoMore = (state : State) (change : Change) → refusal state change ≡ None → total bytes (after state change).tree ≤ total bytes state.tree + bytes_brought change

-- what is logged of an edit that is done: its step; after one of a face the log is empty
abbrev pub log_after : State → Change → Log StepOf → Log StepOf
log_after state (of_tree edit) log = recorded (of_tree_step (step_of state.tree edit)) log
log_after state (metric face c upright value) log = empty
log_after state (retire face) log = empty
log_after state (rule rules) log = recorded (rule_step state.rules rules) log
log_after state (unrule index) log = recorded (unrule_step state.rules index) log

module _ {I : Type 0} {D : I → Type 0} where
  -- It is done whole, with its step logged, or refused; then all that pages hang on is as it was, with the log, and nothing that is kept of them
  -- is lost. The tables of the faces are these before it and those after it.
  abbrev pub Applies : (before behind : List (Option Table)) → (old new : Session I D) → Change → Result ⊤ ApplyError → Type 0
  Applies before behind old new change (Ok done) = CanApply (state_in before old) change × (state_in behind new ≡ after (state_in before old) change)
      × (new.log ≡ log_after (state_in before old) change old.log)
  Applies before behind old new change (Err error) = ((error ≡ Memory) ⊎ IsRefusedEdit (state_in before old) change error)
      × (state_in behind new ≡ state_in before old) × (new.boxes ≡ old.boxes) × (new.log ≡ old.log)

  -- in whole states: what stood before it is the last state of the past; no texts hold more bytes than before with those that it brings
  abbrev pub KeepsHistory : (before behind : List (Option Table)) → (old new : Session I D) → Change → Type 0
  KeepsHistory before behind old new change = (most : ℕ) (history : Log Standing) → HasHistory before most old history
      → HasHistory behind (most + bytes_brought change) new (history_after (state_in before old) change history)
