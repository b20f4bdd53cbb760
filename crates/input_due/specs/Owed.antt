-- How much is owed to the pages of an input: how often a text is prepared for them, and a content arranged.
use Rattle.std.specs.Prelude.{◌≡◌, ◌↔◌, ℕ, List, Option}
use Rattle.wm_units.specs.declared.view.View.{View}
use Rattle.face_api.specs.Faces.{faces_of}
use Rattle.face_api.specs.Table.{Table}
use Rattle.face_api.specs.declared.face.Face.{Ghosts}
use Rattle.edits.specs.State.{State}
use Rattle.edit_script.specs.Views.{steps_of}
use Rattle.session.specs.State.{state_in}
use Rattle.edit_job.specs.Owed.{Owed, OweSteps, Owing, after_page, at_first}
use Rattle.input_due.specs.declared.due.Due.{Due}
use Rattle.input_due.specs.declared.due.Due.TheVariants as dues
use Rattle.input_due.specs.declared.follows.Follows.{Follows}
use Rattle.input_due.specs.Asked.{Asked, steps, probes, modes}
use Rattle.input_due.specs.Input.{ComesOfDocument, ComesOfInput}

abbrev pub nothing_owed : Owed
nothing_owed = record { prepared = 0; arranged = 0 }

-- how much was owed to the pages so far
abbrev pub owed_so_far : Owing → Owed
owed_so_far owing = record { prepared = owing.prepared; arranged = owing.arranged }

-- over a document that is open the steps owe to their pages, or the lines of a probe to the one page that answers them, or the modes to the one flow
abbrev pub OwesOver : View → State → Asked → Owed → Type 0
OwesOver view state (steps said) owed = (last : Owing) × OweSteps view state (at_first state) said last × (owed ≡ owed_so_far last)
OwesOver view state (probes asked) owed = owed ≡ owed_so_far (after_page view state (at_first state))
OwesOver view state modes owed = owed ≡ owed_so_far (after_page view state (at_first state))

-- a refusal has no page
abbrev pub OwesNothing : (word : List ℕ) → (place : ℕ) → Owed → Type 0
OwesNothing word place owed = owed ≡ nothing_owed

module _ (faces : List (Option Table)) (view : View) where
  -- for an input that isn't too long
  abbrev pub IsOwedByDocument : Follows → List ℕ → Owed → Type 0
  IsOwedByDocument follows bytes owed = ComesOfDocument (OwesOver view) OwesNothing faces follows bytes owed

  -- for an input
  abbrev pub IsOwedByInput : Follows → List ℕ → Owed → Type 0
  IsOwedByInput follows input owed = ComesOfInput (OwesOver view) OwesNothing faces follows input owed

-- ---- for what is due

module _ {I : Type 0} {D : I → Type 0} (members : (x : I) → Ghosts (D x)) where
  -- so much is owed for what is due
  abbrev pub IsOwedFor : Due I D → Owed → Type 0
  IsOwedFor (dues.Steps session script) owed = OwesOver session.view (state_in (faces_of members session.faces) session) (steps (steps_of script.items)) owed
  IsOwedFor (dues.Answers session asked) owed = OwesOver session.view (state_in (faces_of members session.faces) session) (probes asked.items) owed
  IsOwedFor (dues.Pages session) owed = OwesOver session.view (state_in (faces_of members session.faces) session) modes owed
  IsOwedFor (dues.Refused cause place) owed = owed ≡ nothing_owed

  -- what is owed for it is this, where the other says how much is owed
  abbrev pub IsOwedBy : (Owed → Type 0) → Due I D → Type 0
  IsOwedBy IsOwed due = (owed : Owed) → IsOwed owed ↔ IsOwedFor due owed
