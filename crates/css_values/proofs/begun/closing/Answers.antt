use Rattle.css_values.proofs.Openings.{closed_here, not_closed}
use Rattle.css_values.proofs.begun.closing.Goals as goal

pub returns-in-Ok : goal.returns-in-Ok
returns-in-Ok c = closed_here c.args.brackets.now c.in_ok-innermost.field-0-1.now c.in_ok-innermost.innermost.now c.closer.result.now c.args.text.now c.in-Ok.rest.now c.in_ok-innermost.ensures.cases.0 c.closer.ensures c.in-Ok.ensures.read

pub returns-in-Err : goal.returns-in-Err
returns-in-Err c = not_closed c.args.brackets.now c.in_ok-innermost.field-0-1.now c.in_ok-innermost.innermost.now c.closer.result.now c.args.text.now c.in-Err.field-0.now c.in_ok-innermost.ensures.cases.0 c.closer.ensures c.in-Err.ensures.read
