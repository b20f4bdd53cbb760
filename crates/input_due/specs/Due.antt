-- What is due for an input, as its end and the bytes to be written.
use Rattle.std.specs.Prelude.{◌≡◌, ◌↔◌, ℕ, List, codes, Option, option_map, unwrap_or, ⊤}
use Rattle.face_api.specs.Faces.{faces_of}
use Rattle.face_api.specs.Table.{Table}
use Rattle.face_api.specs.declared.face.Face.{Ghosts}
use Rattle.css_values.specs.Error.{kind_word as style_word}
use Rattle.html_tokens.specs.Error.{kind_word}
use Rattle.dom_store.specs.State.{state_of}
use Rattle.style_modes.specs.Turnable.{IsTurnable}
use Rattle.modes_job.specs.Telling.{modes_of}
use Rattle.edit_script.specs.Error.{kind_word as script_word}
use Rattle.edit_script.specs.Fitting.{AllFit}
use Rattle.edit_script.specs.Script.{StepAt}
use Rattle.edit_script.specs.Views.{steps_of}
use Rattle.session.specs.declared.error.OpenError.{OpenError}
use Rattle.session.specs.declared.session.Session.{Session}
use Rattle.session.specs.Error.{open_node, open_word}
use Rattle.session.specs.History.{Opened}
use Rattle.session.specs.State.{IsSound, IsUnedited, page_in, rules_in}
use Rattle.edit_job.specs.Refusal.{refusal}
use Rattle.edit_job.specs.Steps.{AreStepsIn}
use Rattle.edit_job.specs.Told.{HasRoom}
use Rattle.hit_caret.specs.Error.{kind_word as probe_word}
use Rattle.probe_job.specs.Answers.{answers}
use Rattle.input_due.specs.declared.due.Due.{Due}
use Rattle.input_due.specs.declared.due.Due.TheVariants as dues
use Rattle.input_due.specs.declared.due.Cause.{Cause}
use Rattle.input_due.specs.declared.due.Cause.TheVariants as causes

-- how an input ends: it is gone through, or refused
pub data End : Type 0 where
  Done : End
  Refused : End

-- the number of the node that is told of it; no refusal comes of want of memory
abbrev pub node_of : OpenError → ℕ
node_of error = unwrap_or (open_node error) 0

-- the word of why an input is refused
unfoldable pub cause_word : Cause → List ℕ
cause_word causes.TooLong = codes "TooLong"
cause_word (causes.Document kind) = kind_word kind
cause_word (causes.Style kind) = style_word kind
cause_word (causes.Script kind) = script_word kind
cause_word (causes.Probe kind) = probe_word kind
cause_word (causes.Opening error) = open_word error
cause_word causes.NotTurnable = codes "NotTurnable"

module _ {I : Type 0} {D : I → Type 0} where
  abbrev pub not_opened : OpenError → Option (Due I D)
  not_opened error = option_map (λ node. dues.Refused (causes.Opening error) node) (open_node error)

  -- its document is open, and no refusal is due
  abbrev pub IsOpen : Due I D → Type 0
  IsOpen (dues.Steps session script) = ⊤
  IsOpen (dues.Answers session probes) = ⊤
  IsOpen (dues.Pages session) = ⊤
  IsOpen (dues.Refused cause place) = ⊥

  -- steps can be gone through over a session
  pub record AreReady (faces : List (Option Table)) (session : Session I D) (steps : List StepAt) : Type 0 where
    pub sound : IsSound faces session
    pub unedited : IsUnedited faces session
    pub fit : AllFit steps
    pub room : HasRoom faces session steps

module _ {I : Type 0} {D : I → Type 0} (members : (x : I) → Ghosts (D x)) where
  -- these bytes are those of what is due, with its end
  abbrev pub IsOf : Due I D → End → (due : List ℕ) → Type 0
  IsOf (dues.Steps session script) end_ due = (end_ ≡ Done) × (last : Opened) × AreStepsIn (faces_of members session.faces) session (steps_of script.items) last due
  IsOf (dues.Answers session probes) end_ due = (end_ ≡ Done) × (due ≡ answers (page_in (faces_of members session.faces) session) probes.items)
  IsOf (dues.Pages session) end_ due = (end_ ≡ Done) × (due ≡ modes_of (faces_of members session.faces) session.view (rules_in session) (state_of session.document))
  IsOf (dues.Refused cause place) end_ due = (end_ ≡ Refused) × (due ≡ refusal (cause_word cause) place)

  -- what is due can be told
  abbrev pub IsReady : Due I D → Type 0
  IsReady (dues.Steps session script) = AreReady (faces_of members session.faces) session (steps_of script.items)
  IsReady (dues.Answers session probes) = IsSound (faces_of members session.faces) session
  IsReady (dues.Pages session) = IsSound (faces_of members session.faces) session × IsTurnable (rules_in session) (state_of session.document)
  IsReady (dues.Refused cause place) = ⊤

  -- what is due is this, where the other says which bytes are due with which end
  abbrev pub IsDueBy : (End → List ℕ → Type 0) → Due I D → Type 0
  IsDueBy IsDueWith due = (end_ : End) (bytes : List ℕ) → IsDueWith end_ bytes ↔ IsOf due end_ bytes
