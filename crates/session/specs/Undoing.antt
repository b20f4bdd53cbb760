-- What undo and redo answer, and what they leave of the index of the rules and of boxes.
use Rattle.std.specs.Prelude.{◌≡◌, ℕ, Bool, List, [], Option, None, Some, IsTrue, Result, Ok, Err, ⊤}
use Rattle.face_api.specs.Table.{Table}
use Rattle.css_types.specs.Rule.{Ruling}
use Rattle.cascade.specs.declared.index.RuleIndex.{RuleIndex}
use Rattle.dom_store.specs.State as dom
use Rattle.dom_store.specs.Exact as tree
use Rattle.edits.specs.Exact.{ExactChange, exact_tree, put_rules, take_rules, StepOf, exactly}
use Rattle.edits.specs.State.{State}
use Rattle.undo_log.specs.Log.{Log, gone_down, gone_up, next_ahead, next_back}
use Rattle.session.specs.declared.error.UndoError.{UndoError}
use Rattle.session.specs.declared.error.UndoError.TheVariants.{NoUndo, NoRedo, Memory}
use Rattle.session.specs.declared.keeping.KeptBoxes.{KeptBoxes}
use Rattle.session.specs.declared.session.Session.{Session}
use Rattle.session.specs.Found.{GoOn}
use Rattle.session.specs.History.{Opened, redone, undone}
use Rattle.session.specs.Setting.{CanSetExactly}
use Rattle.session.specs.State.{Holds, state_in}

-- a document and its rules by themselves, with no faces
abbrev pub bare : dom.State → List Ruling → State
bare tree rules = record { tree = tree; rules = rules; faces = [] }

-- an exact edit of the tree leaves the index of the rules
abbrev pub IndexStays : Option RuleIndex → ExactChange → Option RuleIndex → Type 0
IndexStays index (exact_tree edit) left = left ≡ index
IndexStays index (put_rules at rules) left = left ≡ None
IndexStays index (take_rules at count) left = left ≡ None

-- and what is kept of boxes goes on; where `alike` it gives a text letters that are white space alone exactly where its old ones are
abbrev pub BoxesGoOn : (alike : Bool) → Option KeptBoxes → ExactChange → Option KeptBoxes → Type 0
BoxesGoOn alike boxes (exact_tree edit) left = GoOn (λ state. IsTrue alike → CanSetExactly state edit) (λ state. tree.exactly state edit) boxes left
BoxesGoOn alike boxes (put_rules at rules) left = left ≡ None
BoxesGoOn alike boxes (take_rules at count) left = left ≡ None

module _ {I : Type 0} {D : I → Type 0} where
  -- all that pages hang on is as it was, with the log, and nothing that is kept of boxes is lost
  pub record IsUnchanged (before behind : List (Option Table)) (old new : Session I D) : Type 0 where
    pub state : state_in behind new ≡ state_in before old
    pub log : new.log ≡ old.log
    pub boxes : new.boxes ≡ old.boxes

  -- in whole states: it leads to this one, wherever the session came from
  abbrev pub LeadsTo : (Opened → Option Opened) → (before behind : List (Option Table)) → (old new : Session I D) → Type 0
  LeadsTo goes before behind old new = (most : ℕ) (opened : Opened) → Holds before most old opened → (next : Opened) × (goes opened ≡ Some next) × Holds behind most new next

  -- there is none
  abbrev pub LeadsNowhere : (Opened → Option Opened) → (before : List (Option Table)) → (old : Session I D) → Type 0
  LeadsNowhere goes before old = (most : ℕ) (opened : Opened) → Holds before most old opened → goes opened ≡ None

  -- it goes back to the past's last state; refused is it exactly where there is none
  abbrev pub TakesBack : (before behind : List (Option Table)) → (old new : Session I D) → Result ⊤ UndoError → Type 0
  TakesBack before behind old new (Ok done) = LeadsTo undone before behind old new
  TakesBack before behind old new (Err NoUndo) = LeadsNowhere undone before old × IsUnchanged before behind old new
  TakesBack before behind old new (Err NoRedo) = ⊥
  TakesBack before behind old new (Err Memory) = IsUnchanged before behind old new

  -- it goes ahead to the future's first state
  abbrev pub DoesAgain : (before behind : List (Option Table)) → (old new : Session I D) → Result ⊤ UndoError → Type 0
  DoesAgain before behind old new (Ok done) = LeadsTo redone before behind old new
  DoesAgain before behind old new (Err NoUndo) = ⊥
  DoesAgain before behind old new (Err NoRedo) = LeadsNowhere redone before old × IsUnchanged before behind old new
  DoesAgain before behind old new (Err Memory) = IsUnchanged before behind old new

  -- by its steps: an exact edit of this one was done, and the log is this one
  pub record IsDoneBy (before behind : List (Option Table)) (old new : Session I D) (edit : ExactChange) (left : Log StepOf) : Type 0 where
    pub state : state_in behind new ≡ exactly (state_in before old) edit
    pub log : new.log ≡ left

  abbrev pub IsStepDown : (before behind : List (Option Table)) → (old new : Session I D) → Type 0
  IsStepDown before behind old new = (step : StepOf) × (next_back old.log ≡ Some step) × IsDoneBy before behind old new step.back (gone_down old.log)

  abbrev pub IsStepUp : (before behind : List (Option Table)) → (old new : Session I D) → Type 0
  IsStepUp before behind old new = (step : StepOf) × (next_ahead old.log ≡ Some step) × IsDoneBy before behind old new step.again (gone_up old.log)
