-- What stands after a run, from what was written.
use Rattle.std.proofs.Common.{◌≡◌, sym, subst, ◌⊎◌, inl, inr, ℕ, List, Option, Ok, Err}
use Rattle.std.specs.Prelude.{◌↔◌, OnOk, Result, ⊤}
use Rattle.std.specs.Io.KnownBytes.{Appends}
use Rattle.std.proofs.KnownBytes.{Keeps-refl}
use Rattle.io_edge.specs.Edge.{AppendsFront}
use Rattle.io_edge.specs.declared.error.WriteError.{WriteError}
use Rattle.io_edge.specs.declared.error.WriteError.TheVariants as write_errors
use Rattle.io_edge.proofs.Growth.{front_of_kept}
use Rattle.input_due.specs.Due.{End}
use Rattle.input_due.specs.Due as ends
use Rattle.wm_run.specs.Job.{with_status}
use Rattle.wm_run.specs.Standing.{Gives, IsBroken, IsSettled, Stands, ended}
use Rattle.wm_run.specs.declared.status.Status.{Status}
use Rattle.wm_run.specs.declared.status.Status.TheVariants.{Done, Usage, Refused, Memory, ReadFault, WriteFault}

-- where nothing was written, a front of anything was
pub nothing_written : (D : Status → List ℕ → Type 0) (sink : Option (List ℕ)) → Stands D sink sink Memory
nothing_written D sink status due d = front_of_kept sink sink due (Keeps-refl sink)

-- ---- one line

-- a line is due with a status, and nothing else is due
pub record IsOnly (IsDueWith : Status → List ℕ → Type 0) (status : Status) (line : List ℕ) : Type 0 where
  pub is : IsDueWith status line
  pub only : (other : Status) (bytes : List ℕ) → IsDueWith other bytes → bytes ≡ line

module _ (status : Status) (line : List ℕ) (old new : Option (List ℕ)) where
  -- a status that is no broken one is that of the line
  whole_line : (result : Status) → Gives status line old new result → (IsBroken result → ⊥) → (result ≡ status) × Appends old new line
  whole_line result (inl g) b = g
  whole_line result (inr g) b = absurd (b g.0)

  broken_line : (result : Status) → Gives status line old new result → (result ≡ status → ⊥) → AppendsFront old new line
  broken_line result (inl g) n = absurd (n g.0)
  broken_line result (inr g) n = g.1

  -- a run that told a line stands, where the line alone is due
  pub stands_only : (D : Status → List ℕ → Type 0) (result : Status) → IsSettled status → IsOnly D status line → Gives status line old new result → Stands D old new result
  stands_only D Done w o g = let a = whole_line Done g (λ b. b) in (line, subst (λ (s : Status). D s line) (sym a.0) o.is, a.1)
  stands_only D Usage w o g = let a = whole_line Usage g (λ b. b) in (line, subst (λ (s : Status). D s line) (sym a.0) o.is, a.1)
  stands_only D Refused w o g = let a = whole_line Refused g (λ b. b) in (line, subst (λ (s : Status). D s line) (sym a.0) o.is, a.1)
  stands_only D ReadFault w o g = absurd (subst IsSettled (sym (whole_line ReadFault g (λ b. b)).0) w)
  stands_only D WriteFault w o g = λ s d q. subst (λ (l : List ℕ). AppendsFront old new l) (sym (o.only s d q)) (broken_line WriteFault g (λ e. subst IsSettled (sym e) w))
  stands_only D Memory w o g = λ s d q. subst (λ (l : List ℕ). AppendsFront old new l) (sym (o.only s d q)) (broken_line Memory g (λ e. subst IsSettled (sym e) w))

  -- a run that ends with the status wrote the line
  pub line_given : (result : Status) → IsSettled status → result ≡ status → Gives status line old new result → Appends old new line
  line_given result w e (inl g) = g.1
  line_given result w e (inr g) = absurd (unbroken status w (subst IsBroken e g.0)) where
    unbroken : (s : Status) → IsSettled s → IsBroken s → ⊥
    unbroken Done w b = b
    unbroken Usage w b = b
    unbroken Refused w b = b
    unbroken Memory w b = w
    unbroken ReadFault w b = w
    unbroken WriteFault w b = w

  -- and with no other but a broken one
  pub line_ends : (result : Status) → Gives status line old new result → (result ≡ status) ⊎ IsBroken result
  line_ends result (inl g) = inl g.0
  line_ends result (inr g) = inr g.0

-- ---- the same due by other words

pub stands_by : (D E : Status → List ℕ → Type 0) (old new : Option (List ℕ)) (result : Status) → ((status : Status) (due : List ℕ) → D status due ↔ E status due) → Stands D old new result → Stands E old new result
stands_by D E old new Done same s = (s.0, (same Done s.0).0 s.1, s.2)
stands_by D E old new Usage same s = (s.0, (same Usage s.0).0 s.1, s.2)
stands_by D E old new Refused same s = (s.0, (same Refused s.0).0 s.1, s.2)
stands_by D E old new ReadFault same s = s
stands_by D E old new WriteFault same s = λ status due e. s status due ((same status due).1 e)
stands_by D E old new Memory same s = λ status due e. s status due ((same status due).1 e)

-- the same with each end of an input
pub same_with : (D E : End → List ℕ → Type 0) → ((end_ : End) (due : List ℕ) → D end_ due ↔ E end_ due) → (status : Status) (due : List ℕ) → with_status D status due ↔ with_status E status due
same_with D E same Done due = same ends.Done due
same_with D E same Refused due = same ends.Refused due
same_with D E same Usage due = ((λ none. none), (λ none. none))
same_with D E same Memory due = ((λ none. none), (λ none. none))
same_with D E same ReadFault due = ((λ none. none), (λ none. none))
same_with D E same WriteFault due = ((λ none. none), (λ none. none))

-- ---- steps

module _ (D : End → List ℕ → Type 0) (old new : Option (List ℕ)) (front : (end_ : End) (due : List ℕ) → D end_ due → AppendsFront old new due) where
  fronts : (status : Status) (due : List ℕ) → with_status D status due → AppendsFront old new due
  fronts Done due d = front ends.Done due d
  fronts Refused due d = front ends.Refused due d
  fronts Usage due d = absurd d
  fronts Memory due d = absurd d
  fronts ReadFault due d = absurd d
  fronts WriteFault due d = absurd d

  -- a run that went through steps stands
  pub stands_told : (written : Result ⊤ WriteError) → OnOk written ((due : List ℕ) × D ends.Done due × Appends old new due) → Stands (with_status D) old new (ended written Done)
  stands_told (Ok done) whole = whole
  stands_told (Err write_errors.WriteFault) whole = fronts
  stands_told (Err write_errors.Memory) whole = fronts

-- a run that ended with Done or Refused wrote what is due with that end
pub settled_text : (D : End → List ℕ → Type 0) (old new : Option (List ℕ)) (result : Status) → (result ≡ Done) ⊎ (result ≡ Refused) → Stands (with_status D) old new result
    → (end_ : End) × (due : List ℕ) × D end_ due × Appends old new due
settled_text D old new result (inl is) stands = let told = subst (Stands (with_status D) old new) is stands in (ends.Done, told.0, told.1, told.2)
settled_text D old new result (inr is) stands = let told = subst (Stands (with_status D) old new) is stands in (ends.Refused, told.0, told.1, told.2)

pub on_ok : {A B : Type 0} (written : Result ⊤ WriteError) → OnOk written A → (A → B) → OnOk written B
on_ok (Ok done) a f = f a
on_ok (Err error) a f = tt
