-- Reading the words of a line, from its first byte to its last.
use Rattle.std.specs.Prelude.{ℕ, ◌+◌, ◌*◌, nat_le, nat_lt, ◌==◌, Bool, ◌&&◌, List, [], ◌∷◌, length, map, codes, Ok, Err, ⊤}
use Rattle.std.specs.Char.{digit_value}
use lib.Utf8.{scalar}
use Rattle.reading.specs.Readers.{Reader, after, choice, follow, give, mapped, next_is, one_of, one_word, refuse}
use Rattle.reading.specs.Decimals.{number}
use Rattle.html_tokens.specs.Characters.{in_repertoire}
use Rattle.edit_script.specs.declared.command.TheConstants.{ORIENTATIONS, WORDS}
use Rattle.edit_script.specs.declared.command.Word.{Word}
use Rattle.edit_script.specs.declared.command.Word.TheVariants as words_

-- what the words of a line say; `rest` is all that stands behind them
pub data Command : Type 0 where
  text : (node : ℕ) (rest : List ℕ) → Command
  style : (node : ℕ) (rest : List ℕ) → Command
  class : (node : ℕ) (rest : List ℕ) → Command
  insert : (parent index : ℕ) (rest : List ℕ) → Command
  remove : (node : ℕ) → Command
  move : (node parent index : ℕ) → Command
  metric : (face c : ℕ) (upright : Bool) (value : ℕ) → Command
  retire : (face : ℕ) → Command
  rule : (rest : List ℕ) → Command
  unrule : (index : ℕ) → Command
  undo : Command
  redo : Command
  show : Command

unfoldable pub words : List (List ℕ × Word)
words = map (λ row. (row.0.now, row.1)) WORDS

-- a space, and a number of one to seven digits
unfoldable pub argument : Reader ℕ
argument = after (codes " ") (number 7)

-- an argument from `least` to `most`; another is refused behind it
unfoldable pub argument_within : (least most : ℕ) → Reader ℕ
argument_within least most = follow argument (λ n. choice (λ bytes. nat_le least n && nat_le n most) (give n) refuse)

abbrev pub all : Reader (List ℕ)
all bytes = Ok (bytes, [])

abbrev pub is_end : List ℕ → Bool
is_end bytes = length bytes == 0

-- all that stands behind a space; where nothing stands there, the space may be missing
unfoldable pub rest : Reader (List ℕ)
rest = choice is_end (give []) (after (codes " ") all)

unfoldable pub node_and_rest : Reader (ℕ × List ℕ)
node_and_rest = follow argument (λ node. mapped (λ behind. (node, behind)) rest)

unfoldable pub insert_arguments : Reader Command
insert_arguments = follow argument (λ parent. follow argument (λ index. mapped (λ behind. insert parent index behind) rest))

unfoldable pub move_arguments : Reader Command
move_arguments = follow argument (λ node. follow argument (λ parent. mapped (λ index. move node parent index) argument))

-- ---- characters by their codes

abbrev pub is_hexadecimal : ℕ → Bool
is_hexadecimal byte = nat_lt (digit_value byte) 16

unfoldable pub hexadecimal_digit : Reader ℕ
hexadecimal_digit = mapped (λ byte. digit_value byte) (one_of is_hexadecimal)

unfoldable pub four_digits : Reader ℕ
four_digits = follow hexadecimal_digit (λ a. follow hexadecimal_digit (λ b. follow hexadecimal_digit (λ c. mapped (λ d. 16 * (16 * (16 * a + b) + c) + d) hexadecimal_digit)))

-- four digits, and a fifth where one stands there
unfoldable pub hexadecimal : Reader ℕ
hexadecimal = follow four_digits (λ code. choice (next_is is_hexadecimal) (mapped (λ digit. 16 * code + digit) hexadecimal_digit) (give code))

-- a character of the repertoire by its code; another code is refused behind it
unfoldable pub character : Reader ℕ
character = after (codes " U+") (follow hexadecimal (λ c. choice (λ bytes. scalar c && in_repertoire c) (give c) refuse))

-- ---- the arguments of `metric`

unfoldable pub orientations : List (List ℕ × Bool)
orientations = map (λ row. (row.0.now, row.1)) ORIENTATIONS

unfoldable pub metric_arguments : Reader Command
metric_arguments = follow (argument_within 0 7) (λ face. follow character (λ c. follow (one_word orientations) (λ upright. mapped (λ value. metric face c upright value) (argument_within 0 10000))))

-- what stands behind each word
unfoldable pub arguments : Word → Reader Command
arguments words_.Text = mapped (λ r. text r.0 r.1) node_and_rest
arguments words_.Style = mapped (λ r. style r.0 r.1) node_and_rest
arguments words_.Class = mapped (λ r. class r.0 r.1) node_and_rest
arguments words_.Insert = insert_arguments
arguments words_.Remove = mapped (λ node. remove node) argument
arguments words_.Move = move_arguments
arguments words_.Metric = metric_arguments
arguments words_.Retire = mapped (λ face. retire face) (argument_within 1 7)
arguments words_.Rule = mapped (λ behind. rule behind) rest
arguments words_.Unrule = mapped (λ index. unrule index) argument
arguments words_.Undo = give undo
arguments words_.Redo = give redo
arguments words_.Show = give show

-- the end of the line
abbrev pub nothing : Reader ⊤
nothing [] = Ok (tt, [])
nothing (byte ∷ bytes) = Err (byte ∷ bytes)

unfoldable pub command : Reader Command
command = follow (one_word words) (λ word. follow (arguments word) (λ c. mapped (λ u. c) nothing))
