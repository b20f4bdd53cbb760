use Rattle.std.specs.Prelude.{[]}
use Rattle.edit_script.specs.Views.{command_of}
use Rattle.edit_script.proofs.FittingLaws.{command_fits}
use Rattle.edit_script.proofs.script.read_line.Goals as goal

pub returns-clause-fit : goal.returns-clause-fit
returns-clause-fit c = c.put_step.ensures.fit (command_fits c.without_cr-line.result.now [] (command_of c.in_ok-command.command) c.in_ok-command.ensures)
