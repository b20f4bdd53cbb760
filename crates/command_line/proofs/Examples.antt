-- Command lines, with the job that each gives.
use Rattle.std.proofs.Common.{◌≡◌, refl, ℕ, [], ◌∷◌, codes, pos, Some, None}
use Rattle.clap.proofs.OnLiterals.{clap_on_literals}
use Rattle.reading.specs.Readers.{one_of}
use Rattle.reading.specs.Decimals.{number, more_digits}
use Rattle.command_line.specs.declared.job.Command.{Command}
use Rattle.command_line.specs.declared.job.Command.TheVariants.{Layout, Edit, Modes, Gen, Probe}
use Rattle.command_line.specs.declared.job.Job.{Job}
use Rattle.command_line.specs.Reading.{job_of}

abbrev job : Command → (inline block count : ℕ) → Job
job command inline block count = record { command = command; view = record { inline = pos inline; block = pos block }; count = count }

alone : job_of (codes "layout" ∷ []) ≡ Some (job Layout 51200 38400 100)
unfolding clap_on_literals one_of number more_digits
alone = refl

sizes_in_two_words : job_of (codes "layout" ∷ codes "--view-inline" ∷ codes "7" ∷ codes "--view-block" ∷ codes "00009" ∷ []) ≡ Some (job Layout 448 576 100)
unfolding clap_on_literals one_of number more_digits
sizes_in_two_words = refl

all_in_one_word : job_of (codes "--view-inline=1" ∷ codes "--view-block=16384" ∷ codes "--count=1000" ∷ codes "gen" ∷ []) ≡ Some (job Gen 64 1048576 1000)
unfolding clap_on_literals one_of number more_digits
all_in_one_word = refl

ending_before_the_command : job_of (codes "--count" ∷ codes "5" ∷ codes "--" ∷ codes "gen" ∷ []) ≡ Some (job Gen 51200 38400 5)
unfolding clap_on_literals one_of number more_digits
ending_before_the_command = refl

ending_behind_the_command : job_of (codes "edit" ∷ codes "--view-block=1" ∷ codes "--" ∷ []) ≡ Some (job Edit 51200 64 100)
unfolding clap_on_literals one_of number more_digits
ending_behind_the_command = refl

points : job_of (codes "--view-inline=200" ∷ codes "probe" ∷ []) ≡ Some (job Probe 12800 38400 100)
unfolding clap_on_literals one_of number more_digits
points = refl

nothing : job_of ([]) ≡ None
unfolding clap_on_literals one_of number more_digits
nothing = refl

all_modes : job_of (codes "modes" ∷ []) ≡ Some (job Modes 51200 38400 100)
unfolding clap_on_literals one_of number more_digits
all_modes = refl

unknown_command : job_of (codes "mode" ∷ []) ≡ None
unfolding clap_on_literals one_of number more_digits
unknown_command = refl

two_commands : job_of (codes "layout" ∷ codes "edit" ∷ []) ≡ None
unfolding clap_on_literals one_of number more_digits
two_commands = refl

ending_twice : job_of (codes "--" ∷ codes "layout" ∷ codes "--" ∷ []) ≡ None
unfolding clap_on_literals one_of number more_digits
ending_twice = refl

option_behind_ending : job_of (codes "--" ∷ codes "layout" ∷ codes "--count=3" ∷ []) ≡ None
unfolding clap_on_literals one_of number more_digits
option_behind_ending = refl

option_twice : job_of (codes "layout" ∷ codes "--count" ∷ codes "1" ∷ codes "--count=1" ∷ []) ≡ None
unfolding clap_on_literals one_of number more_digits
option_twice = refl

option_without_value : job_of (codes "layout" ∷ codes "--view-inline" ∷ []) ≡ None
unfolding clap_on_literals one_of number more_digits
option_without_value = refl

ending_for_a_value : job_of (codes "--count" ∷ codes "--" ∷ codes "layout" ∷ []) ≡ None
unfolding clap_on_literals one_of number more_digits
ending_for_a_value = refl

front_of_a_name : job_of (codes "layout" ∷ codes "--cou=5" ∷ []) ≡ None
unfolding clap_on_literals one_of number more_digits
front_of_a_name = refl

no_count : job_of (codes "gen" ∷ codes "--count=0" ∷ []) ≡ None
unfolding clap_on_literals one_of number more_digits
no_count = refl

too_many : job_of (codes "gen" ∷ codes "--count=1001" ∷ []) ≡ None
unfolding clap_on_literals one_of number more_digits
too_many = refl

sixth_digit : job_of (codes "layout" ∷ codes "--view-inline=000007" ∷ []) ≡ None
unfolding clap_on_literals one_of number more_digits
sixth_digit = refl

too_wide : job_of (codes "layout" ∷ codes "--view-inline=16385" ∷ []) ≡ None
unfolding clap_on_literals one_of number more_digits
too_wide = refl

signed : job_of (codes "layout" ∷ codes "--count" ∷ codes "+5" ∷ []) ≡ None
unfolding clap_on_literals one_of number more_digits
signed = refl

help : job_of (codes "layout" ∷ codes "--help" ∷ []) ≡ None
unfolding clap_on_literals one_of number more_digits
help = refl
