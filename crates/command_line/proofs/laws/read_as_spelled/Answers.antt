use Rattle.command_line.proofs.JobLaws.{read_again, read_takes}
use Rattle.command_line.proofs.laws.read_as_spelled.Goals as goal

pub returns : goal.returns
returns c words job = (read_again words job, read_takes words job)
