use Rattle.std.proofs.Common.{sym, ◌∙◌}
use Rattle.reading.specs.Readers.{run_of}
use Rattle.html_tokens.specs.Characters.{is_name_byte}
use Rattle.reading.proofs.Running.{ends_behind}
use Rattle.html_tokens.proofs.Runs.{name_read}
use Rattle.html_tokens.proofs.lexing.name.Goals as goal

pub front_of-requires : goal.front_of-requires
front_of-requires c =
    ends_behind c.args.text.now c.in-Some.after.now c.name_end-rest.result.now c.in-Some.byte (run_of is_name_byte c.in-Some.after.now) c.in-Some.ensures.0 c.name_end-rest.ensures

pub returns-clause-read : goal.returns-clause-read
returns-clause-read c =
    name_read c.args.text.now c.in-Some.after.now c.front_of.result.now c.name_end-rest.result.now c.in-Some.byte c.in-Some.ensures.0
    (sym c.is_ascii_alphabetic.ensures.value ∙ c.if-not-is_ascii_alphabetic.false) c.name_end-rest.ensures c.front_of.ensures
