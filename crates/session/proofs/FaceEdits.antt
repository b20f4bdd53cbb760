-- What an edit of a face leads to, by what its table answers.
use Rattle.std.proofs.Common.{◌≡◌, ◌⊎◌, ◌∙◌, refl, inl, inr, ap, sym, subst, ℕ, nat_lt, Bool, true, false, ◌||◌, if◌then◌else◌, List, length, Option, Some, None, is_some, IsSomeAnd}
use Rattle.face_api.specs.Living.{living}
use Rattle.face_api.specs.Table.{IsFull, TakesRow, Table, row_for}
use Rattle.face_api.specs.declared.error.FacesError.{FacesError}
use Rattle.face_api.specs.declared.error.FacesError.TheVariants as faces_errors
use Rattle.box_gen.specs.Limit.{IsWithinLimits}
use Rattle.edits.specs.Change.{metric, retire}
use Rattle.edits.specs.State.{State}
use Rattle.session.specs.declared.error.ApplyError.TheVariants as applying
use Rattle.session.specs.Editing.{CanApply, IsRefusedEdit, of_faces_error}
use Rattle.session.specs.Document.{styled_of}
use Rattle.edits.specs.Edited.{fixed, full, has_room, metric_reason, no_face, retire_reason}

-- ---- an advance

module _ (c : ℕ) (upright : Bool) where
  pub takes : (face : Option Table) → IsSomeAnd face (λ table. TakesRow table c upright) → metric_reason face c upright ≡ None
  takes None is = absurd is
  takes (Some table) is =
      ap (λ (b : Bool). if b then Some fixed else (if has_room table c upright then None else Some full)) is.editable ∙ ap (λ (b : Bool). if b then None else Some full) is.room

  pub gone : (face : Option Table) → face ≡ None → metric_reason face c upright ≡ Some no_face
  gone face is = ap (λ (f : Option Table). metric_reason f c upright) is

  pub is_fixed : (face : Option Table) → IsSomeAnd face (λ table. table.fixed ≡ true) → metric_reason face c upright ≡ Some fixed
  is_fixed None is = absurd is
  is_fixed (Some table) is = ap (λ (b : Bool). if b then Some fixed else (if has_room table c upright then None else Some full)) is

  no_room : (table : Table) → length table.rows ≡ 4096 → row_for table.rows c upright ≡ None → has_room table c upright ≡ false
  no_room table most missing = ap (λ (n : ℕ). nat_lt n 4096 || is_some (row_for table.rows c upright)) most ∙ ap is_some missing

  pub is_full : (face : Option Table) → IsSomeAnd face (λ table. IsFull table c upright) → metric_reason face c upright ≡ Some full
  is_full None is = absurd is
  is_full (Some table) is =
      ap (λ (b : Bool). if b then Some fixed else (if has_room table c upright then None else Some full)) is.editable
      ∙ ap (λ (b : Bool). if b then None else Some full) (no_room table is.crowded.most is.crowded.missing)

-- ---- a face that is given up

pub lives : (face : Option Table) → (face ≡ None → ⊥) → retire_reason face ≡ None
lives None is = absurd (is refl)
lives (Some table) is = refl

pub retired_before : (face : Option Table) → face ≡ None → retire_reason face ≡ Some no_face
retired_before face is = ap retire_reason is

-- ---- what a session answers

module _ (state : State) (face : ℕ) where
  module _ (c : ℕ) (upright : Bool) (value : ℕ) where
    pub set_refused : (error : FacesError) → (error ≡ faces_errors.NoFace → living state.faces face ≡ None) → (error ≡ faces_errors.Fixed → IsSomeAnd (living state.faces face) (λ table. table.fixed ≡ true))
        → (error ≡ faces_errors.Full → IsSomeAnd (living state.faces face) (λ table. IsFull table c upright)) → (of_faces_error error ≡ applying.Memory) ⊎ IsRefusedEdit state (metric face c upright value) (of_faces_error error)
    set_refused faces_errors.NoFace none is fills = inr (gone c upright (living state.faces face) (none refl))
    set_refused faces_errors.Fixed none is fills = inr (is_fixed c upright (living state.faces face) (is refl))
    set_refused faces_errors.Full none is fills = inr (is_full c upright (living state.faces face) (fills refl))
    set_refused faces_errors.Memory none is fills = inl refl

    pub can_set : IsSomeAnd (living state.faces face) (λ table. TakesRow table c upright) → IsWithinLimits (styled_of state) → CanApply state (metric face c upright value)
    can_set room within = record { taken = takes c upright (living state.faces face) room; within = within }

  pub retire_refused : (error : FacesError) → error ≡ faces_errors.NoFace → living state.faces face ≡ None → (of_faces_error error ≡ applying.Memory) ⊎ IsRefusedEdit state (retire face) (of_faces_error error)
  retire_refused error is none = subst (λ (e : FacesError). (of_faces_error e ≡ applying.Memory) ⊎ IsRefusedEdit state (retire face) (of_faces_error e)) (sym is) (inr (retired_before (living state.faces face) none))

  pub can_retire : (living state.faces face ≡ None → ⊥) → IsWithinLimits (styled_of state) → CanApply state (retire face)
  can_retire there within = record { taken = lives (living state.faces face) there; within = within }

-- all of a document with these tables
abbrev pub with_faces : State → List (Option Table) → State
with_faces state faces = record state { faces = faces }
