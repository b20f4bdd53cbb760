-- The job: which bytes are due for words and an input, and with which status.
use Rattle.std.specs.Prelude.{◌≡◌, ◌⊎◌, ◌==◌, ℕ, List, ◌++◌, length, count_by, codes, decimal, Option, ⊤}
use Rattle.wm_units.specs.declared.view.View.{View}
use Rattle.face_api.specs.Table.{Table}
use Rattle.generator.specs.Generator.{gen_input}
use Rattle.command_line.specs.Command.{IsJob}
use Rattle.command_line.specs.declared.job.Command.{Command}
use Rattle.command_line.specs.declared.job.Command.TheVariants.{Layout, Edit, Modes, Gen, Probe}
use Rattle.command_line.specs.declared.job.Job.{Job}
use Rattle.input_due.specs.declared.follows.Follows.TheVariants.{Nothing, Script, Probe as Points, Modes as InModes}
use Rattle.input_due.specs.Due.{End}
use Rattle.input_due.specs.Due as ends
use Rattle.input_due.specs.Input.{IsDueOfDocument, IsDueOfInput}
use Rattle.wm_run.specs.declared.status.Status.{Status}
use Rattle.wm_run.specs.declared.status.Status.TheVariants.{Done, Usage, Refused, Memory, ReadFault, WriteFault}

-- the line that tells of the commands
unfoldable pub usage_line : List ℕ
usage_line = codes "usage: wm_layout layout|edit|modes|gen|probe [--view-inline N] [--view-block N] [--count N]\n"

-- ---- an input

-- the end of an input is the status of a run
abbrev pub with_status : (End → List ℕ → Type 0) → Status → List ℕ → Type 0
with_status IsDueWith Done due = IsDueWith ends.Done due
with_status IsDueWith Refused due = IsDueWith ends.Refused due
with_status IsDueWith Usage due = ⊥
with_status IsDueWith Memory due = ⊥
with_status IsDueWith ReadFault due = ⊥
with_status IsDueWith WriteFault due = ⊥

-- ---- the generated input

-- the line that counts what was written for it
unfoldable pub counted : (count : ℕ) → (written : List ℕ) → List ℕ
counted count written = codes "gen " ++ decimal count ++ codes " bytes " ++ decimal (length written) ++ codes " lines " ++ decimal (count_by (λ byte. byte == 10) written) ++ codes "\n"

-- what is due for the generated input is counted
abbrev pub IsDueOfGenerated : (faces : List (Option Table)) → View → (count : ℕ) → Status → List ℕ → Type 0
IsDueOfGenerated faces view count status due = (status ≡ Done) × (end_ : End) × (written : List ℕ) × IsDueOfDocument faces view Script (gen_input count) end_ written × (due ≡ counted count written)

-- ---- a command

-- it reads an input
abbrev pub Reads : Command → Type 0
Reads Layout = ⊤
Reads Edit = ⊤
Reads Modes = ⊤
Reads Gen = ⊥
Reads Probe = ⊤

-- `layout` lists the page of a document, `edit` goes through the script that stands behind it, `modes` lists its flow and its page in
-- each mode, `probe` answers over its page the lines that stand there
abbrev pub IsDueOfCommand : Command → (faces : List (Option Table)) → View → (count : ℕ) → (input : List ℕ) → Status → List ℕ → Type 0
IsDueOfCommand Layout faces view count input status due = with_status (IsDueOfInput faces view Nothing input) status due
IsDueOfCommand Edit faces view count input status due = with_status (IsDueOfInput faces view Script input) status due
IsDueOfCommand Modes faces view count input status due = with_status (IsDueOfInput faces view InModes input) status due
IsDueOfCommand Gen faces view count input status due = IsDueOfGenerated faces view count status due
IsDueOfCommand Probe faces view count input status due = with_status (IsDueOfInput faces view Points input) status due

abbrev pub IsDueOfJob : (faces : List (Option Table)) → Job → (input : List ℕ) → Status → List ℕ → Type 0
IsDueOfJob faces job input status due = IsDueOfCommand job.command faces job.view job.count input status due

-- the words give no job
abbrev pub IsNoJob : List (List ℕ) → Type 0
IsNoJob words = (job : Job) → IsJob words job → ⊥

-- for words and an input: words that give no job give the usage line
abbrev pub IsDue : (faces : List (Option Table)) → (words : List (List ℕ)) → (input : List ℕ) → Status → List ℕ → Type 0
IsDue faces words input status due = (IsNoJob words × (status ≡ Usage) × (due ≡ usage_line))
    ⊎ ((job : Job) × IsJob words job × IsDueOfJob faces job input status due)
