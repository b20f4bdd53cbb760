-- The words of a command line as they are read: by the kit's `clap`, whose function of the words is
-- `fault_of` and `matches_of`, and then text by text, with a function here for each of the code.
use Rattle.std.specs.Prelude.{ℕ, ◌==◌, ◌&&◌, true, nat_le, length, if◌then◌else◌, List, [], ◌∷◌, codes, ℤ, Option, Some, None, option_map, option_and_then, Ok, Err, bytes_eq, find}
use Rattle.std.specs.Borrow.{Bor}
use denote.Bor as borrowed
use Rattle.clap.specs.Words.{App, Row, Rule, fault_of, first_of, matches_of, new_app, new_rule, with_rule}
use Rattle.clap.specs.Simple.{new_shape}
use Rattle.reading.specs.Readers.{Read}
use Rattle.reading.specs.Decimals.{number}
use Rattle.command_line.specs.declared.job.Command.{Command}
use Rattle.command_line.specs.declared.values.TheConstants.{COMMANDS}
use Rattle.command_line.specs.declared.job.Job.{Job}
use Rattle.command_line.specs.Command.{px}

-- ---- the command as `clap` has it

abbrev pub option_rule : List ℕ → Rule
option_rule name = record (new_rule name) { long = Some name }

abbrev pub without_rules : App
without_rules = record (new_app (codes "wm_layout")) {
  top = record (new_shape (codes "wm_layout")) { no_binary_name = true; disable_help_flag = true; disable_version_flag = true };
}

abbrev pub command_line : App
command_line = with_rule (with_rule (with_rule (with_rule without_rules
    (record (new_rule (codes "command")) { required = true }))
    (option_rule (codes "view-inline"))) (option_rule (codes "view-block"))) (option_rule (codes "count"))

-- ---- texts

-- the command of the row that has this word
abbrev pub command_in : List (borrowed.Bor (List ℕ) × Command) → List ℕ → Option Command
command_in table name = option_map (λ row. row.1) (find (λ row. bytes_eq row.0.now name) table)

-- the command of the row of the code's table that has this word
abbrev pub command_of : List ℕ → Option Command
command_of name = option_map (λ row. row.1) (find (λ row. bytes_eq row.0.now name) COMMANDS)

-- a number with nothing behind it
abbrev pub within : (most number : ℕ) → List ℕ → Option ℕ
within most number [] = if nat_le 1 number && nat_le number most then Some number else None
within most number (byte ∷ bytes) = None

abbrev pub number_read : ℕ → Read ℕ → Option ℕ
number_read most (Ok x) = within most x.0 x.1
number_read most (Err left) = None

abbrev pub number_to : ℕ → List ℕ → Option ℕ
number_to most text = number_read most (number 5 text)

abbrev pub size_of : List ℕ → Option ℤ
size_of text = option_map px (number_to 16384 text)

-- the text behind a reference, where there is one
abbrev pub text_of : Option (Bor (List ℕ)) → Option (List ℕ)
text_of = option_map (λ text. text.now)

abbrev pub named : Option (List ℕ) → Option Command
named = option_and_then command_of

-- the value of an option, or its default
abbrev pub value_or : {X : Type 0} → (List ℕ → Option X) → X → Option (List ℕ) → Option X
value_or read default None = Some default
value_or read default (Some text) = read text

abbrev pub inline_of : Option (List ℕ) → Option ℤ
inline_of = value_or size_of (px 800)

abbrev pub block_of : Option (List ℕ) → Option ℤ
block_of = value_or size_of (px 600)

abbrev pub count_of : Option (List ℕ) → Option ℕ
count_of = value_or (number_to 1000) 100

-- ---- the line

-- a job of its values
abbrev pub job_with : Option Command → (inline block : Option ℤ) → (count : Option ℕ) → Option Job
job_with command inline block count = option_and_then (λ c. option_and_then (λ i. option_and_then (λ b.
    option_map (λ n. record { command = c; view = record { inline = i; block = b }; count = n }) count) block) inline) command

abbrev pub job_in : List Row → Option Job
job_in rows = job_with (named (first_of (codes "command") rows))
    (inline_of (first_of (codes "view-inline") rows))
    (block_of (first_of (codes "view-block") rows))
    (count_of (first_of (codes "count") rows))

abbrev pub job_of : List (List ℕ) → Option Job
job_of words = if length (fault_of command_line words) == 0 then job_in (matches_of command_line words) else None
