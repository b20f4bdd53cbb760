-- How much a job owes to its pages: how often a text is prepared for them, and a content arranged.
use Rattle.std.specs.Prelude.{◌≡◌, ◌⊎◌, ℕ, List, Option}
use Rattle.wm_units.specs.declared.view.View.{View}
use Rattle.face_api.specs.Table.{Table}
use Rattle.edit_job.specs.Owed.{Owed}
use Rattle.generator.specs.Generator.{gen_input}
use Rattle.command_line.specs.Command.{IsJob}
use Rattle.command_line.specs.declared.job.Command.{Command}
use Rattle.command_line.specs.declared.job.Command.TheVariants.{Layout, Edit, Modes, Gen, Probe}
use Rattle.command_line.specs.declared.job.Job.{Job}
use Rattle.input_due.specs.declared.follows.Follows.TheVariants.{Nothing, Script, Probe as Points, Modes as InModes}
use Rattle.input_due.specs.Owed.{IsOwedByDocument, IsOwedByInput, nothing_owed}
use Rattle.wm_run.specs.Job.{IsNoJob}

-- the generated input owes what the steps of its script do
abbrev pub IsOwedByGenerated : (faces : List (Option Table)) → View → (count : ℕ) → Owed → Type 0
IsOwedByGenerated faces view count owed = IsOwedByDocument faces view Script (gen_input count) owed

-- `layout` owes the page of a document, `edit` what the script that stands behind it owes, `modes` the one flow that is turned, `probe`
-- the one page over which lines are answered
abbrev pub IsOwedByCommand : Command → (faces : List (Option Table)) → View → (count : ℕ) → (input : List ℕ) → Owed → Type 0
IsOwedByCommand Layout faces view count input owed = IsOwedByInput faces view Nothing input owed
IsOwedByCommand Edit faces view count input owed = IsOwedByInput faces view Script input owed
IsOwedByCommand Modes faces view count input owed = IsOwedByInput faces view InModes input owed
IsOwedByCommand Gen faces view count input owed = IsOwedByGenerated faces view count owed
IsOwedByCommand Probe faces view count input owed = IsOwedByInput faces view Points input owed

abbrev pub IsOwedByJob : (faces : List (Option Table)) → Job → (input : List ℕ) → Owed → Type 0
IsOwedByJob faces job input owed = IsOwedByCommand job.command faces job.view job.count input owed

-- for words and an input: words that give no job owe nothing
abbrev pub IsOwed : (faces : List (Option Table)) → (words : List (List ℕ)) → (input : List ℕ) → Owed → Type 0
IsOwed faces words input owed = (IsNoJob words × (owed ≡ nothing_owed)) ⊎ ((job : Job) × IsJob words job × IsOwedByJob faces job input owed)
