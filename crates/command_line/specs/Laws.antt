-- The definition of a command line and its reading agree.
use Rattle.std.specs.Prelude.{◌≡◌, ◌↔◌, ℕ, List, Some}
use Rattle.command_line.specs.declared.job.Job.{Job}
use Rattle.command_line.specs.Command.{IsJob}
use Rattle.command_line.specs.Reading.{job_of}

abbrev pub IsReadAsSpelled : Type 0
IsReadAsSpelled = (words : List (List ℕ)) (job : Job) → IsJob words job ↔ job_of words ≡ Some job
