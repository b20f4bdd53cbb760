-- What the code has, without where it lies in memory.
use Rattle.std.specs.Prelude.{◌≡◌, ◌⊎◌, ℕ, false, List, [], ◌∷◌, ◌++◌, map}
use Rattle.std.specs.List.{All}
use Rattle.edits.specs.Change.{change_of}
use Rattle.html_read.specs.Values.{Node, nodes_of}
use Rattle.css_types.specs.declared.value.Declaration.{Declaration}
use Rattle.edit_script.specs.declared.step.ScriptStep as code_step
use Rattle.edit_script.specs.declared.step.ScriptStep.TheVariants as steps
use Rattle.edit_script.specs.declared.step.ScriptLine as code_line
use Rattle.edit_script.specs.declared.command.Command as code_command
use Rattle.edit_script.specs.declared.command.Command.TheVariants as commands
use Rattle.edit_script.specs.Command.{Command}
use Rattle.edit_script.specs.Command as words
use Rattle.edit_script.specs.Meaning.{Step, show, edit, undo, redo}
use Rattle.edit_script.specs.declared.script.Begun as code_begun
use Rattle.dom_store.specs.declared.edit.NewNodes as code_new
use Rattle.edit_script.specs.Script.{Begun, StepAt, is_lf}

abbrev pub new_of : code_new.NewNodes → List Node × List (List Declaration)
new_of new = (nodes_of new.read.items, map (λ own. own.items) new.styles.items)

abbrev pub step_of : code_step.ScriptStep → Step
step_of steps.Show = show
step_of (steps.Edit change) = edit (change_of change)
step_of steps.Undo = undo
step_of steps.Redo = redo

abbrev pub step_at : code_line.ScriptLine → StepAt
step_at l = record { line = l.line; what = step_of l.what }

abbrev pub steps_of : List code_line.ScriptLine → List StepAt
steps_of = map step_at

abbrev pub command_of : code_command.Command → Command
command_of (commands.Text node rest) = words.text node rest.now
command_of (commands.Style node rest) = words.style node rest.now
command_of (commands.Class node rest) = words.class node rest.now
command_of (commands.Insert parent index rest) = words.insert parent index rest.now
command_of (commands.Remove node) = words.remove node
command_of (commands.Move node parent index) = words.move node parent index
command_of (commands.Metric face c upright value) = words.metric face c upright value
command_of (commands.Retire face) = words.retire face
command_of (commands.Rule rest) = words.rule rest.now
command_of (commands.Unrule index) = words.unrule index
command_of commands.Undo = words.undo
command_of commands.Redo = words.redo
command_of commands.Show = words.show

abbrev pub begun_of : code_begun.Begun → Begun
begun_of b = record { said = steps_of b.said.items; lines = b.lines; edits = b.edits; shows = b.shows }

-- the first line of a text, and what stands behind the LF at its end
abbrev pub IsFirstLine : (bytes line after : List ℕ) → Type 0
IsFirstLine bytes line after = All (λ byte. is_lf byte ≡ false) line × ((bytes ≡ line ++ 10 ∷ after) ⊎ ((bytes ≡ line) × (after ≡ [])))
