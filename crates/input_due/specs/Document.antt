-- What stands behind a document that was read, and how much of it there is; what comes of it.
use Rattle.dom_store.specs.State.{state_of}
use Rattle.style_modes.specs.Tying.{first_of, tying_places}
use Rattle.std.specs.Prelude.{◌≡◌, ◌≤◌, ℕ, List, Option, Some, None, Result, Ok, Err, ⊤}
use Rattle.wm_units.specs.declared.view.View.{View}
use Rattle.face_api.specs.Faces.{faces_of}
use Rattle.face_api.specs.declared.face.Face.{Ghosts}
use Rattle.html_read.specs.declared.node.ReadDocument.{ReadDocument}
use Rattle.html_read.specs.Shape.{IsInDocumentOrder, IsShaped, text_bytes}
use Rattle.html_read.specs.Values.{nodes_of}
use Rattle.edits.specs.State.{State}
use Rattle.edit_script.specs.declared.error.ScriptError.{ScriptError}
use Rattle.edit_script.specs.declared.error.ScriptError.TheVariants as script_errors
use Rattle.edit_script.specs.Views.{steps_of}
use Rattle.hit_caret.specs.declared.error.ProbeError.{ProbeError}
use Rattle.hit_caret.specs.declared.error.ProbeError.TheVariants as probe_errors
use Rattle.input_due.specs.declared.due.Cause.TheVariants as causes
use Rattle.input_due.specs.declared.due.Due.{Due}
use Rattle.input_due.specs.declared.due.Due.TheVariants as dues
use Rattle.input_due.specs.declared.lines.Behind.{Behind}
use Rattle.input_due.specs.declared.lines.Halt.{Halt}
use Rattle.input_due.specs.declared.lines.Halt.TheVariants as halts
use Rattle.input_due.specs.declared.lines.Lines as code_lines
use Rattle.input_due.specs.declared.lines.Lines.TheVariants as code
use Rattle.input_due.specs.Asked.{Asked, AskedOr, steps, probes, asked_at, modes}
use Rattle.input_due.specs.Due.{cause_word}
use Rattle.session.specs.State.{state_in, rules_in}
use Rattle.session.specs.declared.session.Session.{Session}

-- what every document that was read has, with at most so many bytes of text
pub record IsReadBefore (read : ReadDocument) (most : ℕ) : Type 0 where
  pub shaped : IsShaped (nodes_of read.nodes.items)
  pub ordered : IsInDocumentOrder (nodes_of read.nodes.items)
  pub bytes : text_bytes (nodes_of read.nodes.items) ≤ most

-- what is asked there, or what is wrong with it and where
abbrev pub asked_in : Behind → AskedOr
asked_in behind = asked_at behind.follows behind.start behind.text.now

-- what lines ask that were read
abbrev pub asked_of : code_lines.Lines → Asked
asked_of (code.Steps script) = steps (steps_of script.items)
asked_of (code.Probes asked) = probes asked.items
asked_of code.Modes = modes

-- why they were not read
abbrev pub of_script_error : ScriptError → Halt
of_script_error (script_errors.Refused kind place) = halts.Refused (causes.Script kind) place
of_script_error script_errors.Memory = halts.Memory

abbrev pub of_probe_error : ProbeError → Halt
of_probe_error (probe_errors.Refused kind place) = halts.Refused (causes.Probe kind) place
of_probe_error probe_errors.Memory = halts.Memory

-- the lines were read, or the refusal is theirs, unless memory ran out
abbrev pub ReadsLines : Result code_lines.Lines Halt → AskedOr → Type 0
ReadsLines (Ok lines) read = read ≡ Ok (asked_of lines)
ReadsLines (Err (halts.Refused cause place)) read = read ≡ Err (cause_word cause, place)
ReadsLines (Err halts.Memory) read = ⊤

module _ {I : Type 0} {D : I → Type 0} where
  -- its page in each mode is due where no declaration ties it to one, by the place of the first that does
  abbrev pub due_by_tie : Session I D → (tied : Option ℕ) → Due I D
  due_by_tie session None = dues.Pages session
  due_by_tie session (Some place) = dues.Refused causes.NotTurnable place

  -- what is due for them over a session
  abbrev pub due_over : Session I D → code_lines.Lines → Due I D
  due_over session (code.Steps script) = dues.Steps session script
  due_over session (code.Probes asked) = dues.Answers session asked
  due_over session code.Modes = due_by_tie session (first_of (tying_places (rules_in session) (state_of session.document)))

-- ---- what comes of a document

-- it is open as this state, with this asked of it, or refused by a word with a place
pub data Outcome : Type 0 where
  opens : State → Asked → Outcome
  refuses : (word : List ℕ) → (place : ℕ) → Outcome

abbrev pub IsOpening : State → Asked → Outcome → Type 0
IsOpening state asked outcome = outcome ≡ opens state asked

abbrev pub IsRefusing : (word : List ℕ) → (place : ℕ) → Outcome → Type 0
IsRefusing word place outcome = outcome ≡ refuses word place

module _ {I : Type 0} {D : I → Type 0} (members : (x : I) → Ghosts (D x)) where
  -- the outcome for which this is due
  abbrev pub outcome_of : Due I D → Outcome
  outcome_of (dues.Steps session script) = opens (state_in (faces_of members session.faces) session) (steps (steps_of script.items))
  outcome_of (dues.Answers session asked) = opens (state_in (faces_of members session.faces) session) (probes asked.items)
  outcome_of (dues.Pages session) = opens (state_in (faces_of members session.faces) session) modes
  outcome_of (dues.Refused cause place) = refuses (cause_word cause) place

  -- an open document is seen in this view
  abbrev pub IsSeenIn : View → Due I D → Type 0
  IsSeenIn view (dues.Steps session script) = session.view ≡ view
  IsSeenIn view (dues.Answers session asked) = session.view ≡ view
  IsSeenIn view (dues.Pages session) = session.view ≡ view
  IsSeenIn view (dues.Refused cause place) = ⊤

  -- this is due for what comes of it, where the other says which outcomes come
  pub record IsDueAs (Comes : Outcome → Type 0) (view : View) (due : Due I D) : Type 0 where
    pub comes : Comes (outcome_of due)
    pub seen : IsSeenIn view due
