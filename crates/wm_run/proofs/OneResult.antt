-- Something is due for all words and every input, and nothing else is; so for what is owed.
use Rattle.std.proofs.Common.{◌≡◌, ◌⊎◌, ◌∙◌, refl, sym, ap, subst, inl, inr, ℕ, List, Option, Some, None}
use Rattle.std.proofs.lemmas.Option.{same_Some}
use Rattle.face_api.specs.Table.{Table}
use Rattle.wm_units.specs.declared.view.View.{View}
use Rattle.command_line.specs.Command.{IsJob}
use Rattle.command_line.specs.Laws.{IsReadAsSpelled}
use Rattle.command_line.specs.Reading.{job_of}
use Rattle.command_line.specs.declared.job.Command.{Command}
use Rattle.command_line.specs.declared.job.Command.TheVariants.{Layout, Edit, Modes, Gen, Probe}
use Rattle.command_line.specs.declared.job.Job.{Job}
use Rattle.generator.specs.Generator.{gen_input}
use Rattle.input_due.specs.declared.follows.Follows.TheVariants.{Nothing, Script, Probe as Points, Modes as InModes}
use Rattle.input_due.specs.Due.{End}
use Rattle.input_due.specs.Due as ends
use Rattle.input_due.specs.Input.{IsDueOfInput}
use Rattle.edit_job.specs.Owed.{Owed}
use Rattle.input_due.specs.Laws.{HaveOneDue}
use Rattle.input_due.specs.Laws as inputs
use Rattle.input_due.specs.Owed.{nothing_owed}
use Rattle.wm_run.specs.Job.{IsDue, IsDueOfCommand, IsDueOfJob, IsNoJob, counted, usage_line, with_status}
use Rattle.wm_run.specs.Laws.{HaveOneResult, OweOnce}
use Rattle.wm_run.specs.Owed.{IsOwed, IsOwedByCommand, IsOwedByJob}
use Rattle.wm_run.specs.declared.status.Status.{Status}
use Rattle.wm_run.specs.declared.status.Status.TheVariants.{Done, Usage, Refused, Memory, ReadFault, WriteFault}

-- ---- with the status of a run

with_end : (IsDueWith : End → List ℕ → Type 0) (end_ : End) (due : List ℕ) → IsDueWith end_ due → (status : Status) × (bytes : List ℕ) × with_status IsDueWith status bytes
with_end IsDueWith ends.Done due is = (Done, due, is)
with_end IsDueWith ends.Refused due is = (Refused, due, is)

module _ (IsDueWith : End → List ℕ → Type 0) (one : (end_ other : End) (due more : List ℕ) → IsDueWith end_ due → IsDueWith other more → (other ≡ end_) × (more ≡ due)) where
  no_other : ends.Done ≡ ends.Refused → ⊥
  no_other is = absurd (cc)

  one_status : (status other : Status) (due more : List ℕ) → with_status IsDueWith status due → with_status IsDueWith other more → (other ≡ status) × (more ≡ due)
  one_status Done Done due more is also = (refl, (one ends.Done ends.Done due more is also).1)
  one_status Done Refused due more is also = absurd (no_other (sym (one ends.Done ends.Refused due more is also).0))
  one_status Refused Done due more is also = absurd (no_other (one ends.Refused ends.Done due more is also).0)
  one_status Refused Refused due more is also = (refl, (one ends.Refused ends.Refused due more is also).1)
  one_status Done Usage due more is also = absurd also
  one_status Done Memory due more is also = absurd also
  one_status Done ReadFault due more is also = absurd also
  one_status Done WriteFault due more is also = absurd also
  one_status Refused Usage due more is also = absurd also
  one_status Refused Memory due more is also = absurd also
  one_status Refused ReadFault due more is also = absurd also
  one_status Refused WriteFault due more is also = absurd also
  one_status Usage other due more is also = absurd is
  one_status Memory other due more is also = absurd is
  one_status ReadFault other due more is also = absurd is
  one_status WriteFault other due more is also = absurd is

module _ (one : HaveOneDue) (faces : List (Option Table)) (view : View) (count : ℕ) (input : List ℕ) where
  command_some : (command : Command) → (status : Status) × (due : List ℕ) × IsDueOfCommand command faces view count input status due
  command_some Layout = let some = one.some faces view Nothing input in with_end (IsDueOfInput faces view Nothing input) some.0 some.1 some.2
  command_some Edit = let some = one.some faces view Script input in with_end (IsDueOfInput faces view Script input) some.0 some.1 some.2
  command_some Modes = let some = one.some faces view InModes input in with_end (IsDueOfInput faces view InModes input) some.0 some.1 some.2
  command_some Probe = let some = one.some faces view Points input in with_end (IsDueOfInput faces view Points input) some.0 some.1 some.2
  command_some Gen = let some = one.document_some faces view Script (gen_input count) in (Done, counted count some.1, (refl, some.0, some.1, some.2, refl))

  command_only : (command : Command) (status other : Status) (due more : List ℕ) → IsDueOfCommand command faces view count input status due → IsDueOfCommand command faces view count input other more → (other ≡ status) × (more ≡ due)
  command_only Layout status other due more is also = one_status (IsDueOfInput faces view Nothing input) (one.only faces view Nothing input) status other due more is also
  command_only Edit status other due more is also = one_status (IsDueOfInput faces view Script input) (one.only faces view Script input) status other due more is also
  command_only Modes status other due more is also = one_status (IsDueOfInput faces view InModes input) (one.only faces view InModes input) status other due more is also
  command_only Probe status other due more is also = one_status (IsDueOfInput faces view Points input) (one.only faces view Points input) status other due more is also
  command_only Gen status other due more (is, end_, written, of, d) (is', end_', written', of', d') =
      (is' ∙ sym is, d' ∙ ap (counted count) (one.document_only faces view Script (gen_input count) end_ end_' written written' of of').1 ∙ sym d)

-- ---- the words

module _ (spelled : IsReadAsSpelled) (words : List (List ℕ)) where
  one_job : (job other : Job) → IsJob words job → IsJob words other → other ≡ job
  one_job job other is also = sym (same_Some job other (sym ((spelled words job).0 is) ∙ (spelled words other).0 also))

  job_or_none : IsNoJob words ⊎ ((job : Job) × IsJob words job)
  job_or_none = by (job_of words) refl
    where
      by : (read : Option Job) → job_of words ≡ read → IsNoJob words ⊎ ((job : Job) × IsJob words job)
      by (Some job) is = inr (job, (spelled words job).1 is)
      by None is = inl (λ job found. let both : None ≡ Some job = sym is ∙ (spelled words job).0 found in absurd (cc))

module _ (spelled : IsReadAsSpelled) (one : HaveOneDue) (faces : List (Option Table)) (words : List (List ℕ)) (input : List ℕ) where
  some_due : IsNoJob words ⊎ ((job : Job) × IsJob words job) → (status : Status) × (due : List ℕ) × IsDue faces words input status due
  some_due (inl none) = (Usage, usage_line, inl (none, refl, refl))
  some_due (inr (job, is)) = let some = command_some one faces job.view job.count input job.command in (some.0, some.1, inr (job, is, some.2))

  only_due : (status other : Status) (due more : List ℕ) → IsDue faces words input status due → IsDue faces words input other more → (other ≡ status) × (more ≡ due)
  only_due status other due more (inl (none, is, d)) (inl (none', is', d')) = (is' ∙ sym is, d' ∙ sym d)
  only_due status other due more (inl (none, is, d)) (inr (job, found, of)) = absurd (none job found)
  only_due status other due more (inr (job, found, of)) (inl (none, is, d)) = absurd (none job found)
  only_due status other due more (inr (job, found, of)) (inr (job', found', of')) =
      command_only one faces job.view job.count input job.command status other due more of
      (subst (λ (j : Job). IsDueOfJob faces j input other more) (one_job spelled words job job' found found') of')

pub one_result : IsReadAsSpelled → HaveOneDue → HaveOneResult
one_result spelled one = record {
  some = λ faces words input. some_due spelled one faces words input (job_or_none spelled words);
  only = λ faces words input. only_due spelled one faces words input;
}

-- ---- what is owed

module _ (once : inputs.OweOnce) (faces : List (Option Table)) (view : View) (count : ℕ) (input : List ℕ) where
  command_owes : (command : Command) → (owed : Owed) × IsOwedByCommand command faces view count input owed
  command_owes Layout = once.some faces view Nothing input
  command_owes Edit = once.some faces view Script input
  command_owes Modes = once.some faces view InModes input
  command_owes Probe = once.some faces view Points input
  command_owes Gen = once.document_some faces view Script (gen_input count)

  command_owes_once : (command : Command) (owed other : Owed) → IsOwedByCommand command faces view count input owed → IsOwedByCommand command faces view count input other → other ≡ owed
  command_owes_once Layout owed other is also = once.only faces view Nothing input owed other is also
  command_owes_once Edit owed other is also = once.only faces view Script input owed other is also
  command_owes_once Modes owed other is also = once.only faces view InModes input owed other is also
  command_owes_once Probe owed other is also = once.only faces view Points input owed other is also
  command_owes_once Gen owed other is also = once.document_only faces view Script (gen_input count) owed other is also

module _ (spelled : IsReadAsSpelled) (once : inputs.OweOnce) (faces : List (Option Table)) (words : List (List ℕ)) (input : List ℕ) where
  some_owed : IsNoJob words ⊎ ((job : Job) × IsJob words job) → (owed : Owed) × IsOwed faces words input owed
  some_owed (inl none) = (nothing_owed, inl (none, refl))
  some_owed (inr (job, is)) = let some = command_owes once faces job.view job.count input job.command in (some.0, inr (job, is, some.1))

  only_owed : (owed other : Owed) → IsOwed faces words input owed → IsOwed faces words input other → other ≡ owed
  only_owed owed other (inl (none, is)) (inl (none', is')) = is' ∙ sym is
  only_owed owed other (inl (none, is)) (inr (job, found, of)) = absurd (none job found)
  only_owed owed other (inr (job, found, of)) (inl (none, is)) = absurd (none job found)
  only_owed owed other (inr (job, found, of)) (inr (job', found', of')) =
      command_owes_once once faces job.view job.count input job.command owed other of (subst (λ (j : Job). IsOwedByJob faces j input other) (one_job spelled words job job' found found') of')

pub owe_once : IsReadAsSpelled → inputs.OweOnce → OweOnce
owe_once spelled once = record {
  some = λ faces words input. some_owed spelled once faces words input (job_or_none spelled words);
  only = λ faces words input. only_owed spelled once faces words input;
}
