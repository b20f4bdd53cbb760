-- Something is due for every input, and nothing else is; so for what is owed to its pages.
use Rattle.std.specs.Prelude.{◌≡◌, ℕ, List, Option}
use Rattle.face_api.specs.Table.{Table}
use Rattle.wm_units.specs.declared.view.View.{View}
use Rattle.edit_job.specs.Owed.{Owed}
use Rattle.input_due.specs.declared.follows.Follows.{Follows}
use Rattle.input_due.specs.Due.{End}
use Rattle.input_due.specs.Input.{IsDueOfDocument, IsDueOfInput}
use Rattle.input_due.specs.Owed.{IsOwedByDocument, IsOwedByInput}

-- whatever bytes come, they have one end, and one text is due for them: as an input, and as a document whatever its length
pub record HaveOneDue : Type 0 where
  pub document_some : (faces : List (Option Table)) (view : View) (follows : Follows) (bytes : List ℕ) → (end_ : End) × (due : List ℕ) × IsDueOfDocument faces view follows bytes end_ due
  pub document_only : (faces : List (Option Table)) (view : View) (follows : Follows) (bytes : List ℕ) (end_ other : End) (due more : List ℕ)
      → IsDueOfDocument faces view follows bytes end_ due → IsDueOfDocument faces view follows bytes other more → (other ≡ end_) × (more ≡ due)
  pub some : (faces : List (Option Table)) (view : View) (follows : Follows) (input : List ℕ) → (end_ : End) × (due : List ℕ) × IsDueOfInput faces view follows input end_ due
  pub only : (faces : List (Option Table)) (view : View) (follows : Follows) (input : List ℕ) (end_ other : End) (due more : List ℕ)
      → IsDueOfInput faces view follows input end_ due → IsDueOfInput faces view follows input other more → (other ≡ end_) × (more ≡ due)

-- whatever bytes come, something is owed to their pages, and no other amount
pub record OweOnce : Type 0 where
  pub document_some : (faces : List (Option Table)) (view : View) (follows : Follows) (bytes : List ℕ) → (owed : Owed) × IsOwedByDocument faces view follows bytes owed
  pub document_only : (faces : List (Option Table)) (view : View) (follows : Follows) (bytes : List ℕ) (one other : Owed)
      → IsOwedByDocument faces view follows bytes one → IsOwedByDocument faces view follows bytes other → other ≡ one
  pub some : (faces : List (Option Table)) (view : View) (follows : Follows) (input : List ℕ) → (owed : Owed) × IsOwedByInput faces view follows input owed
  pub only : (faces : List (Option Table)) (view : View) (follows : Follows) (input : List ℕ) (one other : Owed)
      → IsOwedByInput faces view follows input one → IsOwedByInput faces view follows input other → other ≡ one
