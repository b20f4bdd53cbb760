-- Reading a script, line by line.
use Rattle.std.specs.Prelude.{ℕ, ◌+◌, ◌==◌, nat_lt, Bool, true, false, List, [], ◌∷◌, ◌++◌, length, Result, Ok, Err, if◌then◌else◌}
use Rattle.std.specs.List.{slice_split}
use Rattle.std.specs.Str.Lines.{strip_carriage_return}
use Rattle.reading.specs.Readers.{Read}
use Rattle.edit_script.specs.declared.error.Refusal.{Refusal}
use Rattle.edit_script.specs.declared.error.Refusal.TheVariants.{ScriptSyntax, TooManyEdits, TooManyShows}
use Rattle.edit_script.specs.Command.{Command, command}
use Rattle.edit_script.specs.Command as commands
use Rattle.edit_script.specs.Meaning.{Said, Step, and_then, meaning}

-- what a line says, and the line's number
pub record StepAt : Type 0 where
  pub line : ℕ
  pub what : Step

-- what is read so far, and what is counted: lines, edits, and listed pages
pub record Begun : Type 0 where
  pub said : List StepAt
  pub lines : ℕ
  pub edits : ℕ
  pub shows : ℕ

abbrev pub empty : Begun
empty = record { said = []; lines = 0; edits = 0; shows = 0 }

abbrev pub is_lf : ℕ → Bool
is_lf byte = byte == 10

-- a line that says nothing
abbrev pub is_blank : List ℕ → Bool
is_blank [] = true
is_blank (byte ∷ bytes) = byte == 35

-- a line more
abbrev pub passed : Begun → Begun
passed b = record { said = b.said; lines = b.lines + 1; edits = b.edits; shows = b.shows }

-- an edit or a page more, unless the limit is reached
abbrev pub counted_edit : Begun → Said Begun
counted_edit b = if nat_lt b.edits 10000 then Ok (record { said = b.said; lines = b.lines; edits = b.edits + 1; shows = b.shows }) else Err TooManyEdits

abbrev pub counted_show : Begun → Said Begun
counted_show b = if nat_lt b.shows 64 then Ok (record { said = b.said; lines = b.lines; edits = b.edits; shows = b.shows + 1 }) else Err TooManyShows

abbrev pub counted : Command → Begun → Said Begun
counted commands.show b = counted_show b
counted (commands.text node rest) b = counted_edit b
counted (commands.style node rest) b = counted_edit b
counted (commands.class node rest) b = counted_edit b
counted (commands.insert parent index rest) b = counted_edit b
counted (commands.remove node) b = counted_edit b
counted (commands.move node parent index) b = counted_edit b
counted (commands.metric face c upright value) b = counted_edit b
counted (commands.retire face) b = counted_edit b
counted (commands.rule rest) b = counted_edit b
counted (commands.unrule index) b = counted_edit b
counted commands.undo b = counted_edit b
counted commands.redo b = counted_edit b

abbrev pub with_step : Begun → Step → Begun
with_step b what = record { said = b.said ++ record { line = b.lines; what = what } ∷ []; lines = b.lines; edits = b.edits; shows = b.shows }

-- the words come first, then the counts, then what stands behind the words
abbrev pub with_command : Command → Begun → Said Begun
with_command c b = and_then (counted c b) (λ next. and_then (meaning c) (λ what. Ok (with_step next what)))

abbrev pub judged : Read Command → Begun → Said Begun
judged (Ok read) b = with_command read.0 b
judged (Err left) b = Err ScriptSyntax

abbrev pub unless_blank : Bool → List ℕ → Begun → Said Begun
unless_blank true line b = Ok b
unless_blank false line b = judged (command line) b

-- with what a line says, of which one CR at its end is cut
unfoldable pub with_line : Begun → (line : List ℕ) → Said Begun
with_line b line = unless_blank (is_blank (strip_carriage_return line)) (strip_carriage_return line) (passed b)

-- a refusal has the place of the line's first byte
abbrev pub at_place : {A : Type 0} → (place : ℕ) → Said Begun → (Begun → Result A (Refusal × ℕ)) → Result A (Refusal × ℕ)
at_place place (Ok b) others = others b
at_place place (Err kind) others = Err (kind, place)

-- lines from this place on, each with the LF behind it
unfoldable pub lines_from : (place : ℕ) → Begun → List (List ℕ) → Result (List StepAt) (Refusal × ℕ)
lines_from place b [] = Ok b.said
lines_from place b (line ∷ others) = at_place place (with_line b line) (λ next. lines_from (place + length line + 1) next others)

unfoldable pub script : List ℕ → Result (List StepAt) (Refusal × ℕ)
script text = lines_from 0 empty (slice_split is_lf text)
