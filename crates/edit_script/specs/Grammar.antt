-- Which texts are scripts, and what they say (docs/PROFILE/scripts.md).
--
--   script    = line (LF line)*
--   line      = "" | "#" bytes | command
--   command   = "text" argument rest | "style" argument rest | "class" argument rest
--             | "insert" argument argument rest | "remove" argument | "move" argument argument argument
--             | "metric" argument character (" h" | " u") argument | "retire" argument | "rule" rest | "unrule" argument
--             | "undo" | "redo" | "show"
--   argument  = " " 1 to 7 decimal digits
--   character = " U+" 4 or 5 hexadecimal digits
--   rest      = (" " bytes)?
--
-- The faces of `metric` are 0 to 7, those of `retire` 1 to 7, an advance is at most 10,000, and the character is one of the
-- repertoire.
-- One CR at the end of a line is cut; no other line end stands within a line.
use Rattle.std.specs.Prelude.{◌≡◌, ◌⊎◌, ℕ, ◌+◌, ◌≤◌, Bool, true, false, List, [], ◌∷◌, length, codes, Option, Some, None}
use Rattle.std.specs.Char.{IsScalar}
use Rattle.std.specs.List.{list_any, slice_split}
use Rattle.std.specs.Str.Lines.{strip_carriage_return}
use Rattle.reading.specs.Decimals.{IsDecimal}
use Rattle.reading.specs.Grammars.{After, AllPass, Given, Grammar, Mapped, OneWord, Seq}
use Rattle.reading.specs.Stop.{end_of}
use Rattle.css_types.specs.declared.value.Declaration.{Declaration}
use Rattle.html_tokens.specs.Characters.{in_repertoire}
use Rattle.html_tokens.specs.Grammar.{IsGap, number_of}
use Rattle.html_read.specs.Grammar.{IsFragment}
use Rattle.html_read.specs.Judging as judging
use Rattle.html_read.specs.Values.{Node}
use Rattle.css_values.specs.declared.within.Within.TheVariants.{Attribute}
use Rattle.css_values.specs.Grammar.{AreDeclarations}
use Rattle.css_sheet.specs.Answered.{AreEach, IsWholeSheet}
use Rattle.css_sheet.specs.Sheet.{Sheet}
use Rattle.dom_store.specs.Edits.{set_text, set_style, set_class, insert, remove, move_to}
use Rattle.edits.specs.Change.{of_tree, metric, retire, rule, unrule}
use Rattle.edit_script.specs.declared.command.Word.{Word}
use Rattle.edit_script.specs.declared.command.Word.TheVariants as words_
use Rattle.edit_script.specs.Command.{Command, is_hexadecimal, words}
use Rattle.edit_script.specs.Command as commands
use Rattle.edit_script.specs.Meaning.{Step, is_less, show, edit, undo, redo}
use Rattle.edit_script.specs.Script.{StepAt, is_blank, is_lf}

-- ---- the words of a line

abbrev pub IsArgument : Grammar ℕ
IsArgument = After (codes " ") (IsDecimal 7)

abbrev pub IsArgumentWithin : (least most : ℕ) → Grammar ℕ
IsArgumentWithin least most text_ n = IsArgument text_ n × (least ≤ n) × (n ≤ most)

-- four or five hexadecimal digits, and the number that they stand for
pub record IsHexadecimal (text_ : List ℕ) (c : ℕ) : Type 0 where
  pub digits : AllPass is_hexadecimal text_
  pub four_or_five : (length text_ ≡ 4) ⊎ (length text_ ≡ 5)
  pub value : c ≡ number_of 16 text_

-- a character of the repertoire, by its code
abbrev pub IsCharacter : Grammar ℕ
IsCharacter = After (codes " U+") (λ digits c. IsHexadecimal digits c × IsScalar c × (in_repertoire c ≡ true))

-- whether it is set upright
abbrev pub IsOrientation : Grammar Bool
IsOrientation text_ true = text_ ≡ codes " u"
IsOrientation text_ false = text_ ≡ codes " h"

abbrev pub IsRest : Grammar (List ℕ)
IsRest text_ rest = (text_ ≡ 32 ∷ rest) ⊎ ((text_ ≡ []) × (rest ≡ []))

abbrev pub IsNodeAndRest : Grammar (ℕ × List ℕ)
IsNodeAndRest = Seq IsArgument (λ node. Mapped (λ behind. (node, behind)) IsRest)

abbrev pub IsMetric : Grammar Command
IsMetric = Seq (IsArgumentWithin 0 7) (λ face. Seq IsCharacter (λ c. Seq IsOrientation (λ upright. Mapped (λ value. commands.metric face c upright value) (IsArgumentWithin 0 10000))))

abbrev pub AreArguments : Word → Grammar Command
AreArguments words_.Text = Mapped (λ r. commands.text r.0 r.1) IsNodeAndRest
AreArguments words_.Style = Mapped (λ r. commands.style r.0 r.1) IsNodeAndRest
AreArguments words_.Class = Mapped (λ r. commands.class r.0 r.1) IsNodeAndRest
AreArguments words_.Insert = Seq IsArgument (λ parent. Seq IsArgument (λ index. Mapped (λ behind. commands.insert parent index behind) IsRest))
AreArguments words_.Remove = Mapped (λ node. commands.remove node) IsArgument
AreArguments words_.Move = Seq IsArgument (λ node. Seq IsArgument (λ parent. Mapped (λ index. commands.move node parent index) IsArgument))
AreArguments words_.Metric = IsMetric
AreArguments words_.Retire = Mapped (λ face. commands.retire face) (IsArgumentWithin 1 7)
AreArguments words_.Rule = Mapped (λ behind. commands.rule behind) IsRest
AreArguments words_.Unrule = Mapped (λ index. commands.unrule index) IsArgument
AreArguments words_.Undo = Given commands.undo
AreArguments words_.Redo = Given commands.redo
AreArguments words_.Show = Given commands.show

abbrev pub IsCommand : Grammar Command
IsCommand = Seq (OneWord words) AreArguments

-- ---- what stands behind them

-- text without tags and comments: no `<` stands in it
abbrev pub IsText : Grammar (List ℕ)
IsText rest letters = IsGap rest letters × (list_any is_less rest ≡ false)

-- The places of declarations are counted from the first byte of the text, and those of style attributes from the
-- first byte of the fragment. Rules are a sheet of their own.
abbrev pub Means : Command → Step → Type 0
Means (commands.text node rest) what = (letters : List ℕ) × IsText rest letters × (what ≡ edit (of_tree (set_text node letters)))
Means (commands.style node rest) what = (own : List Declaration) × AreDeclarations Attribute (end_of 0 rest) rest [] own × (what ≡ edit (of_tree (set_style node own)))
Means (commands.class node rest) what = what ≡ edit (of_tree (set_class node (judging.words rest)))
Means (commands.insert parent index rest) what = (nodes : List Node) × (own : List (List Declaration)) × IsFragment rest nodes × AreEach nodes own
    × (what ≡ edit (of_tree (insert parent index nodes own)))
Means (commands.remove node) what = what ≡ edit (of_tree (remove node))
Means (commands.move node parent index) what = what ≡ edit (of_tree (move_to node parent index))
Means (commands.metric face c upright value) what = what ≡ edit (metric face c upright value)
Means (commands.retire face) what = what ≡ edit (retire face)
Means (commands.rule rest) what = (all : Sheet) × IsWholeSheet 0 rest all × (what ≡ edit (rule all.rules))
Means (commands.unrule index) what = what ≡ edit (unrule index)
Means commands.undo what = what ≡ undo
Means commands.redo what = what ≡ redo
Means commands.show what = what ≡ show

-- ---- lines

-- what a line says, if anything
abbrev pub Says : List ℕ → Option Step → Type 0
Says line None = is_blank line ≡ true
Says line (Some what) = (is_blank line ≡ false) × (c : Command) × IsCommand line c × Means c what

abbrev pub numbered : (number : ℕ) → Option Step → List StepAt → List StepAt
numbered number None more = more
numbered number (Some what) more = record { line = number; what = what } ∷ more

-- what lines say, of which the first one has this number
abbrev pub AreLines : (number : ℕ) → List (List ℕ) → List StepAt → Type 0
AreLines number [] said = said ≡ []
AreLines number (line ∷ others) said = (first : Option Step) × (more : List StepAt)
    × Says (strip_carriage_return line) first × AreLines (number + 1) others more × (said ≡ numbered number first more)

-- how many edits there are, those that are taken back or done again too, and how often pages are listed
abbrev pub edits_in : Step → ℕ
edits_in show = 0
edits_in (edit change) = 1
edits_in undo = 1
edits_in redo = 1

abbrev pub shows_in : Step → ℕ
shows_in show = 1
shows_in (edit change) = 0
shows_in undo = 0
shows_in redo = 0

abbrev pub edits_of : List StepAt → ℕ
edits_of [] = 0
edits_of (s ∷ others) = edits_in s.what + edits_of others

abbrev pub shows_of : List StepAt → ℕ
shows_of [] = 0
shows_of (s ∷ others) = shows_in s.what + shows_of others

-- a text is cut at each LF
pub record IsScript (text_ : List ℕ) (said : List StepAt) : Type 0 where
  pub are_lines : AreLines 1 (slice_split is_lf text_) said
  pub few_edits : edits_of said ≤ 10000
  pub few_shows : shows_of said ≤ 64
