-- What a script brings to a document: edits that fit, and no more text than it has.
use Rattle.std.specs.Prelude.{ℕ, ◌+◌, ◌≤◌, List, [], ◌∷◌, length, ⊤}
use Rattle.std.specs.List.{All}
use Rattle.edits.specs.Change.{IsFitting, IsSaid, bytes_brought}
use Rattle.edit_script.specs.Command.{Command}
use Rattle.edit_script.specs.Command as commands
use Rattle.edit_script.specs.Grammar.{IsScript}
use Rattle.edit_script.specs.Meaning.{Step, show, edit, undo, redo}
use Rattle.edit_script.specs.Script.{StepAt}

-- an edit has the nodes of a fragment, each with its own declarations; numbers of declarations, in rules too, are such as a
-- style sheet can say; an advance is at most 10,000, and face 0 isn't retired
abbrev pub Fits : Step → Type 0
Fits show = ⊤
Fits (edit change) = IsFitting change × IsSaid change
Fits undo = ⊤
Fits redo = ⊤

-- the words of a line bring no greater advance, and don't retire face 0
abbrev pub HasFitting : Command → Type 0
HasFitting (commands.metric face c upright value) = value ≤ 10000
HasFitting (commands.retire face) = 1 ≤ face
HasFitting other = ⊤

abbrev pub AllFit : List StepAt → Type 0
AllFit said = All (λ s. Fits s.what) said

-- how many bytes of text there are
abbrev pub bytes_in : Step → ℕ
bytes_in show = 0
bytes_in (edit change) = bytes_brought change
bytes_in undo = 0
bytes_in redo = 0

abbrev pub bytes_of : List StepAt → ℕ
bytes_of [] = 0
bytes_of (s ∷ others) = bytes_in s.what + bytes_of others

-- no reference stands for more bytes than it has
abbrev pub BringNoMore : Type 0
BringNoMore = (text : List ℕ) (said : List StepAt) → IsScript text said → bytes_of said ≤ length text
