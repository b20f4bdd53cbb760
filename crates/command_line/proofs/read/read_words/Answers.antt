use Rattle.std.proofs.Common.{rules, ◌≡◌, sym, ap, ◌∙◌, subst, map, Some, None}
use Rattle.std.specs.Prelude.{string_bytes}
use Rattle.clap.specs.Words.{found_of, matches_of, rows_of}
use Rattle.command_line.specs.Command.{IsJob}
use Rattle.command_line.specs.Reading.{command_line, job_in}
use Rattle.command_line.proofs.JobLaws.{job_count, job_is_none, job_is_read, job_view, one_job, none_with_fault}
use Rattle.command_line.proofs.read.read_words.Goals as goal

pub returns-in_err-matches-clause-usage : goal.returns-in_err-matches-clause-usage
returns-in_err-matches-clause-usage c usage job is =
    let words : map string_bytes c.as_slice.result.now ≡ c.args.words.now = c.as_slice.ensures in
    none_with_fault (map string_bytes c.as_slice.result.now) job (search rules) (subst (λ w. IsJob w job) (sym words) is)

pub returns-in-Some : goal.returns-in-Some
returns-in-Some c =
    let words : map string_bytes c.as_slice.result.now ≡ c.args.words.now = c.as_slice.ensures in
    let some : job_in (rows_of (found_of c.in_ok-matches.matches)) ≡ Some c.in-Some.job = sym c.job_in.ensures ∙ c.in-Some.is in
    let read : job_in (matches_of command_line (map string_bytes c.as_slice.result.now)) ≡ Some c.in-Some.job = ap job_in (sym c.in_ok-matches.ensures.rows) ∙ some in
    let is = subst (λ w. IsJob w c.in-Some.job) words (job_is_read (map string_bytes c.as_slice.result.now) c.in-Some.job c.in_ok-matches.ensures.fits read) in
    record {
      read = is;
      only = λ other also. one_job c.args.words.now c.in-Some.job other is also;
      view = job_view c.args.words.now c.in-Some.job is;
      count = job_count c.args.words.now c.in-Some.job is;
      usage = search rules;
    }

pub returns-clause-usage : goal.returns-clause-usage
returns-clause-usage c usage job is =
    let words : map string_bytes c.as_slice.result.now ≡ c.args.words.now = c.as_slice.ensures in
    let none : job_in (rows_of (found_of c.in_ok-matches.matches)) ≡ None = sym c.job_in.ensures ∙ c.in-None.is in
    let read : job_in (matches_of command_line (map string_bytes c.as_slice.result.now)) ≡ None = ap job_in (sym c.in_ok-matches.ensures.rows) ∙ none in
    job_is_none (map string_bytes c.as_slice.result.now) job c.in_ok-matches.ensures.fits read (subst (λ w. IsJob w job) (sym words) is)
