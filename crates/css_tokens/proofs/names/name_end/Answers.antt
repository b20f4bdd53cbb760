use Rattle.std.proofs.Common.{sym, ◌∙◌}
use Rattle.css_tokens.specs.Characters.{is_name_byte}
use Rattle.reading.proofs.Running.{running_starts, running_goes_on, running_stops}
use Rattle.reading.proofs.Running.{running_to_end}
use Rattle.css_tokens.proofs.names.name_end.Goals as goal

pub loop-byte-init : goal.loop-byte-init
loop-byte-init c = running_starts is_name_byte c.args.bytes.now

pub loop-byte-preserved : goal.loop-byte-preserved
loop-byte-preserved c =
    running_goes_on c.in-Some.byte.now c.in-Some.after.now c.loop-byte.invariant c.in-Some.ensures.cases.0 (sym c.is_name_byte.ensures ∙ c.if-not-is_name_byte.false)

pub returns-then-not-is_name_byte-clause-read : goal.returns-then-not-is_name_byte-clause-read
returns-then-not-is_name_byte-clause-read c =
    running_stops c.in-Some.byte.now c.in-Some.after.now c.loop-byte.invariant c.in-Some.ensures.cases.0 (sym c.is_name_byte.ensures ∙ c.if-not-is_name_byte.true)

pub returns-in_default-clause-read : goal.returns-in_default-clause-read
returns-in_default-clause-read c = running_to_end c.loop-byte.invariant c.in_default.ensures.cases
