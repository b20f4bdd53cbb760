-- What is due for words and an input, from what is due for its parts.
use Rattle.std.proofs.Common.{◌≡◌, ◌∙◌, refl, sym, ap, subst, inl, inr, ℕ, List, Option}
use Rattle.std.specs.Prelude.{◌↔◌, OnOk, Result, ⊤}
use Rattle.std.specs.Global.{Vec}
use Rattle.std.specs.Io.KnownBytes.{Appends}
use Rattle.io_edge.specs.Edge.{AppendsFront}
use Rattle.io_edge.specs.declared.error.WriteError.{WriteError}
use Rattle.face_api.specs.Table.{Table}
use Rattle.face_api.specs.Faces.{faces_of}
use Rattle.face_api.specs.declared.face.Face.{Ghosts}
use Rattle.wm_units.specs.declared.view.View.{View}
use Rattle.dom_store.specs.State.{state_of}
use Rattle.modes_job.specs.Telling.{modes_of}
use Rattle.hit_caret.specs.declared.probes.Probe.{Probe}
use Rattle.probe_job.specs.Answers.{answers}
use Rattle.session.specs.History.{Opened, unedited}
use Rattle.session.specs.State.{Holds, IsUnedited, page_in, rules_in, state_in}
use Rattle.tree_laws.specs.Weight.{bytes, total}
use Rattle.edit_script.specs.declared.step.ScriptLine.{ScriptLine}
use Rattle.edit_script.specs.Views.{steps_of}
use Rattle.edit_job.specs.Steps.{AreStepsFrom, AreStepsIn, HaveOneEnd}
use Rattle.edit_job.specs.Told.{GoThrough}
use Rattle.generator.specs.Generator.{gen_input}
use Rattle.input_due.specs.declared.follows.Follows.TheVariants.{Script}
use Rattle.input_due.specs.Due.{End, IsDueBy, IsOf}
use Rattle.input_due.specs.Input.{IsDueOfDocument}
use Rattle.input_due.specs.declared.due.Due.{Due}
use Rattle.input_due.specs.declared.due.Due.TheVariants as dues
use Rattle.command_line.specs.Command.{IsJob}
use Rattle.command_line.specs.declared.job.Job.{Job}
use Rattle.wm_run.specs.Job.{IsDue, IsDueOfGenerated, IsDueOfJob, IsNoJob, counted, usage_line, with_status}
use Rattle.wm_run.specs.Standing.{Stands, ended}
use Rattle.session.specs.declared.session.Session.{Session}
use Rattle.wm_run.specs.declared.status.Status.{Status}
use Rattle.wm_run.specs.declared.status.Status.TheVariants.{Done, Usage}
use Rattle.wm_run.proofs.StandingLaws.{IsOnly, on_ok, stands_told}

-- ---- the generated input

module _ {I : Type 0} {D : I → Type 0} (members : (x : I) → Ghosts (D x)) where
  -- what is due is one text
  pub one_text : HaveOneEnd → (due : Due I D) (end_ other_end : End) (one other : List ℕ) → IsOf members due end_ one → IsOf members due other_end other → other ≡ one
  one_text ends (dues.Steps session script) end_ other_end one other (is, last, steps) (is', last', steps') =
      (ends session.view (unedited (state_in (faces_of members session.faces) session)) (steps_of script.items) last last' one other steps steps').1
  one_text ends (dues.Answers session probes) end_ other_end one other (is, d) (is', d') = d' ∙ sym d
  one_text ends (dues.Pages session) end_ other_end one other (is, d) (is', d') = d' ∙ sym d
  one_text ends (dues.Refused cause place) end_ other_end one other (is, d) (is', d') = d' ∙ sym d

  -- what was told of it is that
  pub told_text : HaveOneEnd → (IsDueWith : End → List ℕ → Type 0) (due : Due I D) (end_ : End) (told : List ℕ) → IsDueBy members IsDueWith due → IsOf members due end_ told
      → (other_end : End) (other : List ℕ) → IsDueWith other_end other → other ≡ told
  told_text ends IsDueWith due end_ told by is other_end other also = one_text ends due end_ other_end told other is ((by other_end other).0 also)

  -- a run that went through steps stands
  pub stands_steps : (due : Due I D) (session after_ : Session I D) (behind : List (Option Table)) (script : Vec ScriptLine) (lines : List ScriptLine) (old new : Option (List ℕ)) (written : Result ⊤ WriteError)
      → due ≡ dues.Steps session script → lines ≡ script.items → IsUnedited (faces_of members session.faces) session
      → OnOk written ((most : ℕ) (opened : Opened) → Holds (faces_of members session.faces) most session opened → GoThrough behind session after_ (steps_of lines) old new opened)
      → ((most : ℕ) (opened last : Opened) (told : List ℕ) → Holds (faces_of members session.faces) most session opened → AreStepsFrom session.view opened (steps_of lines) last told → AppendsFront old new told)
      → Stands (with_status (IsOf members due)) old new (ended written Done)
  stands_steps due session after_ behind script lines old new written is same begun whole front =
      let faces = faces_of members session.faces in
      let most = total bytes (state_of session.document) in
      let opened = unedited (state_in faces session) in
      subst (λ (d : Due I D). Stands (with_status (IsOf members d)) old new (ended written Done)) (sym is)
      (stands_told (IsOf members (dues.Steps session script)) old new
      (λ end_ told q. front most opened q.1 told begun.holds (subst (λ (l : List ScriptLine). AreStepsIn faces session (steps_of l) q.1 told) (sym same) q.2)) written
      (on_ok written whole (λ goes.
      let w = goes most opened begun.holds in
      (w.due, (refl, w.last, subst (λ (l : List ScriptLine). AreStepsIn faces session (steps_of l) w.last w.due) same w.steps_are), w.appended))))

  -- a run that answered a probe stands
  pub stands_answers : (due : Due I D) (session : Session I D) (asked : Vec Probe) (lines : List Probe) (old new : Option (List ℕ)) (written : Result ⊤ WriteError)
      → due ≡ dues.Answers session asked → lines ≡ asked.items
      → OnOk written (Appends old new (answers (page_in (faces_of members session.faces) session) lines)) → AppendsFront old new (answers (page_in (faces_of members session.faces) session) lines)
      → Stands (with_status (IsOf members due)) old new (ended written Done)
  stands_answers due session asked lines old new written is same whole front =
      let text = answers (page_in (faces_of members session.faces) session) in
      let told : text lines ≡ text asked.items = ap text same in
      subst (λ (d : Due I D). Stands (with_status (IsOf members d)) old new (ended written Done)) (sym is)
      (stands_told (IsOf members (dues.Answers session asked)) old new
      (λ end_ bytes q. subst (λ (b : List ℕ). AppendsFront old new b) (told ∙ sym q.1) front) written
      (on_ok written whole (λ w. (text lines, (refl, told), w))))

  -- a run that listed the pages in each mode stands
  pub stands_pages : (due : Due I D) (session : Session I D) (old new : Option (List ℕ)) (written : Result ⊤ WriteError)
      → due ≡ dues.Pages session
      → OnOk written (Appends old new (modes_of (faces_of members session.faces) session.view (rules_in session) (state_of session.document)))
      → AppendsFront old new (modes_of (faces_of members session.faces) session.view (rules_in session) (state_of session.document))
      → Stands (with_status (IsOf members due)) old new (ended written Done)
  stands_pages due session old new written is whole front =
      let text = modes_of (faces_of members session.faces) session.view (rules_in session) (state_of session.document) in
      subst (λ (d : Due I D). Stands (with_status (IsOf members d)) old new (ended written Done)) (sym is)
      (stands_told (IsOf members (dues.Pages session)) old new
      (λ end_ bytes q. subst (λ (b : List ℕ). AppendsFront old new b) (sym q.1) front) written
      (on_ok written whole (λ w. (text, (refl, refl), w))))

-- the line of counts
pub only_counted : (faces : List (Option Table)) (view : View) (count : ℕ) (written line : List ℕ) → (end_ : End) × IsDueOfDocument faces view Script (gen_input count) end_ written
    → ((end_ : End) (other : List ℕ) → IsDueOfDocument faces view Script (gen_input count) end_ other → other ≡ written) → line ≡ counted count written → IsOnly (IsDueOfGenerated faces view count) Done line
only_counted faces view count written line is one same = record { is = (refl, is.0, written, is.1, same); only = only } where
  only : (s : Status) (d : List ℕ) → IsDueOfGenerated faces view count s d → d ≡ line
  only s d q = q.4 ∙ ap (counted count) (one q.1 q.2 q.3) ∙ sym same

-- ---- the words

-- words that give no job give the usage line
pub only_usage : (faces : List (Option Table)) (words : List (List ℕ)) (input : List ℕ) → IsNoJob words → IsOnly (IsDue faces words input) Usage usage_line
only_usage faces words input never = record { is = inl (never, refl, refl); only = only } where
  only : (s : Status) (d : List ℕ) → IsDue faces words input s d → d ≡ usage_line
  only s d (inl q) = q.2
  only s d (inr q) = absurd (never q.0 q.1)

-- for words that give a job what is due is what is due for that
pub same_job : (faces : List (Option Table)) (words : List (List ℕ)) (job : Job) (input : List ℕ) → IsJob words job → ((other : Job) → IsJob words other → other ≡ job)
    → (status : Status) (due : List ℕ) → IsDueOfJob faces job input status due ↔ IsDue faces words input status due
same_job faces words job input is only status due = ((λ d. inr (job, is, d)), back) where
  back : IsDue faces words input status due → IsDueOfJob faces job input status due
  back (inl q) = absurd (q.0 job is)
  back (inr q) = subst (λ (j : Job). IsDueOfJob faces j input status due) (only q.0 q.1) q.2
