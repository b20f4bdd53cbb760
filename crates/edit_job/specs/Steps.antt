-- What the steps of a script lead to over a document: its last state with its history, and the bytes that are due.
use Rattle.std.specs.Prelude.{◌≡◌, ◌⊎◌, ℕ, List, [], ◌∷◌, ◌++◌, Option, None, Some}
use Rattle.face_api.specs.Table.{Table}
use Rattle.wm_units.specs.declared.view.View.{View}
use Rattle.edits.specs.State.{State}
use Rattle.edit_script.specs.Meaning.{Step, show, edit, undo, redo}
use Rattle.edit_script.specs.Script.{StepAt}
use Rattle.listing.specs.Listing.{listing}
use Rattle.page_modes.specs.Pages.{page_of}
use Rattle.session.specs.declared.error.ApplyError.{ApplyError}
use Rattle.session.specs.declared.error.UndoError.{UndoError}
use Rattle.session.specs.declared.error.UndoError.TheVariants.{NoRedo, NoUndo}
use Rattle.session.specs.declared.session.Session.{Session}
use Rattle.session.specs.Document.{styled_of}
use Rattle.session.specs.Editing.{CanApply, IsRefusedEdit}
use Rattle.session.specs.Error.{apply_word, undo_word}
use Rattle.session.specs.History.{Opened, opened_after, redone, undone, unedited}
use Rattle.session.specs.State.{state_in}
use Rattle.edit_job.specs.Refusal.{refusal}

-- another document of the history stands, and nothing is due; where there is none its refusal is due, and the document stays as it is
abbrev pub Moves : Opened → (to : Option Opened) → UndoError → (line : ℕ) → (next : Opened) → (due : List ℕ) → Type 0
Moves opened (Some to) error line next due = (next ≡ to) × (due ≡ [])
Moves opened None error line next due = (next ≡ opened) × (due ≡ refusal (undo_word error) line)

module _ (view : View) where
  -- A step with the number of its line: a page is listed; an edit is done and nothing is due, or its refusal is due and the document stays as it
  -- is, with its history; the last edit is taken back, or the one that was taken back last is done again.
  abbrev pub IsStep : Opened → Step → (line : ℕ) → (next : Opened) → (due : List ℕ) → Type 0
  IsStep opened show line next due = (next ≡ opened) × (due ≡ listing (page_of opened.state.faces view (styled_of opened.state)))
  IsStep opened (edit change) line next due = (CanApply opened.state change × (next ≡ opened_after opened change) × (due ≡ []))
      ⊎ ((error : ApplyError) × IsRefusedEdit opened.state change error × (next ≡ opened) × (due ≡ refusal (apply_word error) line))
  IsStep opened undo line next due = Moves opened (undone opened) NoUndo line next due
  IsStep opened redo line next due = Moves opened (redone opened) NoRedo line next due

  -- steps one after the other
  abbrev pub AreStepsFrom : Opened → List StepAt → (last : Opened) → (due : List ℕ) → Type 0
  AreStepsFrom opened [] last due = (last ≡ opened) × (due ≡ [])
  AreStepsFrom opened (s ∷ others) last due =
      (next : Opened) × (first rest : List ℕ) × IsStep opened s.what s.line next first × AreStepsFrom next others last rest × (due ≡ first ++ rest)

  -- the steps of a script begin with a document that has no history
  abbrev pub AreSteps : State → List StepAt → (last : Opened) → (due : List ℕ) → Type 0
  AreSteps state steps last due = AreStepsFrom (unedited state) steps last due

module _ {I : Type 0} {D : I → Type 0} where
  -- so over the document of a session, with the tables of its faces
  abbrev pub AreStepsIn : (faces : List (Option Table)) → Session I D → List StepAt → (last : Opened) → (due : List ℕ) → Type 0
  AreStepsIn faces session steps last due = AreSteps session.view (state_in faces session) steps last due

-- steps lead to one end, and what is due is one
abbrev pub HaveOneEnd : Type 0
HaveOneEnd = (view : View) (opened : Opened) (steps : List StepAt) (one other : Opened) (due more : List ℕ)
    → AreStepsFrom view opened steps one due → AreStepsFrom view opened steps other more → (other ≡ one) × (more ≡ due)

-- steps have an end, whatever they are
abbrev pub HaveAnEnd : Type 0
HaveAnEnd = (view : View) (opened : Opened) (steps : List StepAt) → (last : Opened) × (due : List ℕ) × AreStepsFrom view opened steps last due
