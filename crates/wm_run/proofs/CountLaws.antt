-- What a run counts: no more than what is owed.
use Rattle.std.proofs.Common.{◌≡◌, sym, subst, arith, inl, inr, ℕ, List, Option}
use Rattle.std.specs.Global.{Vec}
use Rattle.face_api.specs.Faces.{faces_of}
use Rattle.face_api.specs.Table.{Table}
use Rattle.face_api.specs.declared.face.Face.{Ghosts}
use Rattle.edits.specs.Exact.{StepOf}
use Rattle.edits.specs.State.{State}
use Rattle.undo_log.specs.Log.{Log}
use Rattle.hit_caret.specs.declared.probes.Probe.{Probe}
use Rattle.edit_script.specs.declared.step.ScriptLine.{ScriptLine}
use Rattle.edit_script.specs.Views.{steps_of}
use Rattle.session.specs.Found.{ArrangesFor, PreparesFor}
use Rattle.session.specs.State.{IsSound, state_in}
use Rattle.session.specs.declared.session.Session.{Session}
use Rattle.edit_job.specs.Owed.{AllAreOwedAtFirst, IsPaid, OweStepsFrom, OweStepsIn, Owed, Owing, RiseBy, RiseTo, after_page_in, at_first, logged_in}
use Rattle.edit_job.proofs.OwedLaws.{page_costs, paid_at_first}
use Rattle.input_due.specs.Due.{IsReady}
use Rattle.input_due.specs.Owed.{IsOwedFor, owed_so_far}
use Rattle.input_due.specs.declared.due.Due.{Due}
use Rattle.input_due.specs.declared.due.Due.TheVariants as dues
use Rattle.command_line.specs.Command.{IsJob}
use Rattle.command_line.specs.declared.job.Job.{Job}
use Rattle.wm_run.specs.Owed.{IsOwed, IsOwedByJob}

-- what counts nothing keeps within whatever is owed
pub none_counted : (owed : Owed) (prepared arranged : ℕ) → RiseBy owed prepared prepared arranged arranged
none_counted owed prepared arranged = record { prepared = omega arith; arranged = omega arith }

-- what is owed from the first page on is what was owed so far
rise_from_first : (state : State) (last : Owing) (p q a b : ℕ) → RiseTo (at_first state) last p q a b → RiseBy (owed_so_far last) p q a b
rise_from_first state last p q a b rise =
    let texts = rise.prepared in
    let contents = rise.arranged in
    record { prepared = omega (arith, texts); arranged = omega (arith, contents) }

module _ {I : Type 0} {D : I → Type 0} (members : (x : I) → Ghosts (D x)) where
  -- the one page of a session that is opened counts what it owes
  pub page_counts : AllAreOwedAtFirst → (session : Session I D) (p q a b : ℕ) → IsSound (faces_of members session.faces) session
      → PreparesFor session p q → ArrangesFor (faces_of members session.faces) session a b
      → RiseBy (owed_so_far (after_page_in (faces_of members session.faces) session (at_first (state_in (faces_of members session.faces) session)))) p q a b
  page_counts all session p q a b sound prepares arranges =
      let faces = faces_of members session.faces in
      let first = at_first (state_in faces session) in
      rise_from_first (state_in faces session) (after_page_in faces session first) p q a b
      (page_costs faces session first p q a b (paid_at_first faces all session sound) prepares arranges)

  -- a run that went through steps counts what they owe
  pub steps_count : AllAreOwedAtFirst → (due : Due I D) (session : Session I D) (script : Vec ScriptLine) (lines : List ScriptLine) (p q a b : ℕ) → due ≡ dues.Steps session script → lines ≡ script.items
      → IsReady members due
      → ((owing last : Owing) → IsPaid session owing → OweStepsFrom session.view (logged_in (faces_of members session.faces) session) owing (steps_of lines) last → RiseTo owing last p q a b)
      → (owed : Owed) → IsOwedFor members due owed → RiseBy owed p q a b
  steps_count all due session script lines p q a b is same ready costs owed owes = by (subst (λ (d : Due I D). IsOwedFor members d owed) is owes) where
    by : IsOwedFor members (dues.Steps session script) owed → RiseBy owed p q a b
    by (last, over, sum) =
        let faces = faces_of members session.faces in
        let first = at_first (state_in faces session) in
        let own = subst (λ (d : Due I D). IsReady members d) is ready in
        let sound = own.sound in
        let script_ = subst (λ (l : List ScriptLine). OweStepsIn faces session first (steps_of l) last) (sym same) over in
        let steps = subst (λ (log : Log StepOf). OweStepsFrom session.view (record { state = state_in faces session; log = log }) first (steps_of lines) last) (sym own.unedited.log) script_ in
        subst (λ (o : Owed). RiseBy o p q a b) (sym sum) (rise_from_first (state_in faces session) last p q a b (costs first last (paid_at_first faces all session sound) steps))

  -- a run that answered a probe counts what its page owes
  pub answers_count : (due : Due I D) (session : Session I D) (asked : Vec Probe) (p q a b : ℕ) → due ≡ dues.Answers session asked
      → RiseBy (owed_so_far (after_page_in (faces_of members session.faces) session (at_first (state_in (faces_of members session.faces) session)))) p q a b
      → (owed : Owed) → IsOwedFor members due owed → RiseBy owed p q a b
  answers_count due session asked p q a b is rise owed owes = subst (λ (o : Owed). RiseBy o p q a b) (sym (subst (λ (d : Due I D). IsOwedFor members d owed) is owes)) rise

  -- a run that listed the pages in each mode counts what their flow owes
  pub pages_count : (due : Due I D) (session : Session I D) (p q a b : ℕ) → due ≡ dues.Pages session
      → RiseBy (owed_so_far (after_page_in (faces_of members session.faces) session (at_first (state_in (faces_of members session.faces) session)))) p q a b
      → (owed : Owed) → IsOwedFor members due owed → RiseBy owed p q a b
  pages_count due session p q a b is rise owed owes = subst (λ (o : Owed). RiseBy o p q a b) (sym (subst (λ (d : Due I D). IsOwedFor members d owed) is owes)) rise

-- for words that give a job what is owed is what that owes
pub owed_by_job : (faces : List (Option Table)) (words : List (List ℕ)) (job : Job) (input : List ℕ) (owed : Owed) → IsJob words job → ((other : Job) → IsJob words other → other ≡ job)
    → IsOwed faces words input owed → IsOwedByJob faces job input owed
owed_by_job faces words job input owed is only (inl q) = absurd (q.0 job is)
owed_by_job faces words job input owed is only (inr q) = subst (λ (j : Job). IsOwedByJob faces j input owed) (only q.0 q.1) q.2
