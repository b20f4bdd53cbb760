use Rattle.std.proofs.Common.{sym, ◌∙◌}
use Rattle.reading.proofs.Running.{running_stops}
use Rattle.html_tokens.proofs.lexing.name_end.Goals as goal

pub returns-then-not-is_name_byte : goal.returns-then-not-is_name_byte
returns-then-not-is_name_byte c =
    running_stops c.in-Some.byte c.in-Some.after.now c.loop-byte.invariant.1 c.in-Some.ensures.0 (sym c.is_name_byte.ensures ∙ c.if-not-is_name_byte.true)
