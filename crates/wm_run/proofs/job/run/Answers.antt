use Rattle.std.proofs.Common.{refl, sym, ap, subst, List, Option, Err}
use Rattle.face_api.specs.Faces.{all_living, faces_of}
use Rattle.face_api.specs.Table.{Table}
use Rattle.command_line.specs.declared.error.WordsError.{WordsError}
use Rattle.command_line.specs.declared.job.Job.{Job}
use Rattle.wm_run.specs.Job.{IsDue, IsDueOfGenerated, IsDueOfJob, Reads, usage_line}
use Rattle.wm_run.specs.Owed.{IsOwedByGenerated, IsOwedByJob}
use Rattle.wm_run.specs.Standing.{Stands}
use Rattle.wm_run.specs.declared.status.Status.TheVariants.{Usage}
use Rattle.wm_run.proofs.CountLaws.{none_counted, owed_by_job}
use Rattle.wm_run.proofs.JobLaws.{only_usage, same_job}
use Rattle.wm_run.proofs.StandingLaws.{line_given, nothing_written, stands_by, stands_only}
use Rattle.wm_run.proofs.job.run.Goals as goal

pub returns-in_default-clause-job : goal.returns-in_default-clause-job
returns-in_default-clause-job g c = λ input told. nothing_written (IsDue (all_living (λ vtable. (g.dyn-1.0.entry vtable).1) c.args.faces.items) c.args.words.now input) (g.K.Sink.held c.args.sink.now)

pub returns-in-Ok-read_words-clause-job : goal.returns-in-Ok-read_words-clause-job
returns-in-Ok-read_words-clause-job g c = λ input told.
    let faces = all_living (λ vtable. (g.dyn-1.0.entry vtable).1) c.args.faces.items in
    let job = c.in-Ok-read_words.job in
    let words = c.in-Ok-read_words.ensures in
    let P : List (Option Table) → Type 0 = λ own. Stands (IsDueOfJob own job input) (g.K.Sink.held c.args.sink.now) (g.K.Sink.held c.tell_job.new.sink) c.tell_job.result in
    stands_by (IsDueOfJob faces job input) (IsDue faces c.args.words.now input) (g.K.Sink.held c.args.sink.now) (g.K.Sink.held c.tell_job.new.sink) c.tell_job.result
    (same_job faces c.args.words.now job input words.read words.only) (subst P c.in-Ok.ensures (c.tell_job.ensures.stands input told))

pub returns-in-Ok-read_words-clause-done : goal.returns-in-Ok-read_words-clause-done
returns-in-Ok-read_words-clause-done g c = λ job is reads done.
    c.tell_job.ensures.done (subst (λ (j : Job). Reads j.command) (c.in-Ok-read_words.ensures.only job is) reads) done

pub returns-in-Ok-read_words-clause-untouched : goal.returns-in-Ok-read_words-clause-untouched
returns-in-Ok-read_words-clause-untouched g c = λ job is none.
    c.tell_job.ensures.untouched (λ reads. none (subst (λ (j : Job). Reads j.command) (sym (c.in-Ok-read_words.ensures.only job is)) reads))

pub returns-in-Err-Usage-clause-job : goal.returns-in-Err-Usage-clause-job
returns-in-Err-Usage-clause-job g c = λ input told.
    let faces = all_living (λ vtable. (g.dyn-1.0.entry vtable).1) c.args.faces.items in
    let never = c.in-Err-Usage.ensures.usage (ap (λ (e : WordsError). Err e) c.in-Err-Usage.field-0-is) in
    stands_only Usage usage_line (g.K.Sink.held c.args.sink.now) (g.K.Sink.held c.tell_usage.new.sink) (IsDue faces c.args.words.now input) c.tell_usage.result tt
    (only_usage faces c.args.words.now input never) c.tell_usage.ensures.gives

pub returns-in-Err-Usage-clause-usage : goal.returns-in-Err-Usage-clause-usage
returns-in-Err-Usage-clause-usage g c = λ e.
    let never = c.in-Err-Usage.ensures.usage (ap (λ (e : WordsError). Err e) c.in-Err-Usage.field-0-is) in
    (never, line_given Usage usage_line (g.K.Sink.held c.args.sink.now) (g.K.Sink.held c.tell_usage.new.sink) c.tell_usage.result tt e c.tell_usage.ensures.gives, refl)

pub returns-clause-job : goal.returns-clause-job
returns-clause-job g c = λ input told. nothing_written (IsDue (all_living (λ vtable. (g.dyn-1.0.entry vtable).1) c.args.faces.items) c.args.words.now input) (g.K.Sink.held c.args.sink.now)

pub returns-in_default-clause-generated : goal.returns-in_default-clause-generated
returns-in_default-clause-generated g c = λ job is none. nothing_written (IsDueOfGenerated (all_living (λ vtable. (g.dyn-1.0.entry vtable).1) c.args.faces.items) job.view job.count) (g.K.Sink.held c.args.sink.now)

pub returns-in-Ok-read_words-clause-generated : goal.returns-in-Ok-read_words-clause-generated
returns-in-Ok-read_words-clause-generated g c = λ job is none.
    let own = c.in-Ok-read_words.ensures.only job is in
    let P : List (Option Table) → Type 0 = λ tables. Stands (IsDueOfGenerated tables job.view job.count) (g.K.Sink.held c.args.sink.now) (g.K.Sink.held c.tell_job.new.sink) c.tell_job.result in
    let Q : Job → Type 0 = λ (j : Job). Stands (IsDueOfGenerated (faces_of (λ vtable. (g.dyn-1.0.entry vtable).1) c.in-Ok.faces) j.view j.count) (g.K.Sink.held c.args.sink.now) (g.K.Sink.held c.tell_job.new.sink) c.tell_job.result in
    subst P c.in-Ok.ensures (subst Q (sym own) (c.tell_job.ensures.generated (λ reads. none (subst (λ (j : Job). Reads j.command) (sym own) reads))))

pub returns-in-Err-Usage-clause-generated : goal.returns-in-Err-Usage-clause-generated
returns-in-Err-Usage-clause-generated g c = λ job is none. absurd (c.in-Err-Usage.ensures.usage (ap (λ (e : WordsError). Err e) c.in-Err-Usage.field-0-is) job is)

pub returns-clause-generated : goal.returns-clause-generated
returns-clause-generated g c = λ job is none. nothing_written (IsDueOfGenerated (all_living (λ vtable. (g.dyn-1.0.entry vtable).1) c.args.faces.items) job.view job.count) (g.K.Sink.held c.args.sink.now)

pub returns-in_default-clause-counts : goal.returns-in_default-clause-counts
returns-in_default-clause-counts g c = λ input owed told owes. none_counted owed c.args.prepared.now c.args.arranged.now

pub returns-in-Ok-read_words-clause-counts : goal.returns-in-Ok-read_words-clause-counts
returns-in-Ok-read_words-clause-counts g c = λ input owed told owes.
    let words = c.in-Ok-read_words.ensures in
    let P : List (Option Table) → Type 0 = λ own. IsOwedByJob own c.in-Ok-read_words.job input owed in
    c.tell_job.ensures.counts input owed told
    (subst P (sym c.in-Ok.ensures) (owed_by_job (all_living (λ vtable. (g.dyn-1.0.entry vtable).1) c.args.faces.items) c.args.words.now c.in-Ok-read_words.job input owed words.read words.only owes))

pub returns-in-Err-Usage-clause-counts : goal.returns-in-Err-Usage-clause-counts
returns-in-Err-Usage-clause-counts g c = λ input owed told owes. none_counted owed c.args.prepared.now c.args.arranged.now

pub returns-clause-counts : goal.returns-clause-counts
returns-clause-counts g c = λ input owed told owes. none_counted owed c.args.prepared.now c.args.arranged.now

pub returns-in_default-clause-generated_counts : goal.returns-in_default-clause-generated_counts
returns-in_default-clause-generated_counts g c = λ job owed is none owes. none_counted owed c.args.prepared.now c.args.arranged.now

pub returns-in-Ok-read_words-clause-generated_counts : goal.returns-in-Ok-read_words-clause-generated_counts
returns-in-Ok-read_words-clause-generated_counts g c = λ job owed is none owes.
    let own = c.in-Ok-read_words.ensures.only job is in
    let P : List (Option Table) → Type 0 = λ tables. IsOwedByGenerated tables job.view job.count owed in
    let Q : Job → Type 0 = λ (j : Job). IsOwedByGenerated (faces_of (λ vtable. (g.dyn-1.0.entry vtable).1) c.in-Ok.faces) j.view j.count owed in
    c.tell_job.ensures.generated_counts (λ reads. none (subst (λ (j : Job). Reads j.command) (sym own) reads)) owed (subst Q own (subst P (sym c.in-Ok.ensures) owes))

pub returns-in-Err-Usage-clause-generated_counts : goal.returns-in-Err-Usage-clause-generated_counts
returns-in-Err-Usage-clause-generated_counts g c = λ job owed is none owes. none_counted owed c.args.prepared.now c.args.arranged.now

pub returns-clause-generated_counts : goal.returns-clause-generated_counts
returns-clause-generated_counts g c = λ job owed is none owes. none_counted owed c.args.prepared.now c.args.arranged.now
