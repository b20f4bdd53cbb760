-- Where reading goes on behind what is refused: behind a declaration, or behind a rule. CSS Syntax 3, 2.2 and 5.4.
-- Here, other than there, any closing bracket closes any bracket, and outside of rules a `}` that closes nothing ends a
-- rule.
use Rattle.std.specs.Prelude.{◌≤◌, ◌<◌, ℕ, zero, suc, ◌+◌, ◌-◌, ◌^◌, min, nat_le, Bool, true, false, ◌&&◌, ◌||◌, ◌==◌, if◌then◌else◌, List, length, codes, Option, Some, None, Ok, Err}
use Rattle.std.specs.Char.{is_ascii}
use Rattle.reading.specs.Readers.{Read, Reader, mapped, choice, starts, next_is, one_of}
use Rattle.css_tokens.specs.Characters.{is_quote}
use Rattle.css_tokens.specs.Lexing.{comment, token}
use Rattle.css_tokens.specs.Tokens as tokens
use Rattle.css_tokens.specs.Tokens.{Lexeme}
use Rattle.report_styles.specs.declared.going_on.Piece.{Piece}
use Rattle.report_styles.specs.declared.going_on.Piece.TheVariants as pieces
use Rattle.report_styles.specs.declared.going_on.Passed.{Passed}
use Rattle.report_styles.specs.declared.going_on.Passed.TheVariants as passing
use Rattle.report_styles.specs.declared.going_on.End.{End}
use Rattle.report_styles.specs.declared.going_on.End.TheVariants as ends

-- ---- the pieces of a text: its comments and tokens, strings that aren't closed, and each other byte

abbrev pub piece_of : (lexeme : Lexeme) → Piece
piece_of (tokens.function name) = pieces.Opening
piece_of tokens.round = pieces.Opening
piece_of tokens.square = pieces.Opening
piece_of (tokens.sign byte) = if byte == 59 then pieces.Semicolon else pieces.Other
piece_of lexeme = pieces.Other

-- ) and ], { and }
abbrev pub sign : (byte : ℕ) → Piece
sign byte = if byte == 41 || byte == 93 then pieces.Closing else (if byte == 123 then pieces.BlockBegin else (if byte == 125 then pieces.BlockEnd else pieces.Other))

abbrev pub lone_sign : Reader Piece
lone_sign = mapped sign (one_of is_ascii)

-- a string that isn't closed goes up to where its reading stops: before a line break, or at the end
abbrev pub no_token : (text left : List ℕ) → Read Piece
no_token text left = if next_is is_quote text then Ok (pieces.Other, left) else lone_sign text

abbrev pub token_piece : (text : List ℕ) → (read : Read Lexeme) → Read Piece
token_piece text (Ok t) = Ok (piece_of t.0, t.1)
token_piece text (Err left) = no_token text left

unfoldable pub piece : Reader Piece
piece = choice (starts (codes "/*")) (mapped (λ u. pieces.Other) comment) (λ text. token_piece text (token text))

-- ---- how they nest

-- how many brackets and blocks are open behind a piece, held at the last number of usize
abbrev pub deeper : (depth : ℕ) → (piece : Piece) → ℕ
deeper depth pieces.Opening = min (depth + 1) (2 ^ 64 - 1)
deeper depth pieces.BlockBegin = min (depth + 1) (2 ^ 64 - 1)
deeper depth pieces.Closing = depth - 1
deeper depth pieces.BlockEnd = depth - 1
deeper depth at_level = depth

abbrev pub only_if : (holds : Bool) → (end_ : End) → Option End
only_if holds end_ = if holds then Some end_ else None

-- whether a rule ends at a `}`: behind that of its block, or before that of the rule in which it stands
abbrev pub block_end : (in_rule : Bool) → (depth : ℕ) → Option End
block_end in_rule depth = if in_rule && depth == 0 then Some ends.Before else only_if (nat_le depth 1) ends.Behind

-- whether it ends at a piece, before which `depth` of them are open: a declaration and an at-rule behind a `;`, a
-- declaration in a rule also before the rule's `}`
abbrev pub ends_at : (passed : Passed) → (depth : ℕ) → (piece : Piece) → Option End
ends_at (passing.Declaration in_rule) depth pieces.Semicolon = only_if (depth == 0) ends.Behind
ends_at (passing.Declaration in_rule) depth pieces.BlockEnd = only_if (in_rule && depth == 0) ends.Before
ends_at (passing.AtRule in_rule) depth pieces.Semicolon = only_if (depth == 0) ends.Behind
ends_at (passing.AtRule in_rule) depth pieces.BlockEnd = block_end in_rule depth
ends_at passing.StyleRule depth pieces.BlockEnd = block_end false depth
ends_at passed depth within = None

-- ---- piece by piece up to the first end; none where the text ends before

abbrev pub at_end : (later : List ℕ → Option (List ℕ)) → (ending : Option End) → (here behind : List ℕ) → Option (List ℕ)
at_end later (Some ends.Before) here behind = Some here
at_end later (Some ends.Behind) here behind = Some behind
at_end later None here behind = later behind

abbrev pub at_piece : (later : ℕ → List ℕ → Option (List ℕ)) → (passed : Passed) → (depth : ℕ) → (here : List ℕ) → (read : Read Piece) → Option (List ℕ)
at_piece later passed depth here (Ok p) = at_end (later (deeper depth p.0)) (ends_at passed depth p.0) here p.1
at_piece later passed depth here (Err left) = None

unfoldable pub seek : (fuel : ℕ) → (passed : Passed) → (depth : ℕ) → (text : List ℕ) → Option (List ℕ)
seek zero passed depth text = None
seek (suc fuel) passed depth text = at_piece (seek fuel passed) passed depth text (piece text)

abbrev pub behind : (passed : Passed) → (depth : ℕ) → (text : List ℕ) → Option (List ℕ)
behind passed depth text = seek (suc (length text)) passed depth text

-- ---- what begins there

abbrev pub among_declarations : (in_rule : Bool) → (text : List ℕ) → Passed
among_declarations in_rule text = if starts (codes "@") text then passing.AtRule in_rule else passing.Declaration in_rule

abbrev pub among_rules : (text : List ℕ) → Passed
among_rules text = if starts (codes "@") text then passing.AtRule false else passing.StyleRule

-- what stands among declarations has a piece at least, whatever it is
abbrev pub behind_first : (passed : Passed) → (read : Read Piece) → Option (List ℕ)
behind_first passed (Ok p) = behind passed (deeper 0 p.0) p.1
behind_first passed (Err left) = None

unfoldable pub behind_declaration : (in_rule : Bool) → (text : List ℕ) → Option (List ℕ)
behind_declaration in_rule text = behind_first (among_declarations in_rule text) (piece text)

unfoldable pub behind_rule : (text : List ℕ) → Option (List ℕ)
behind_rule text = behind (among_rules text) 0 text

-- the search ends behind a rule, and behind what stands among declarations or where it begins
abbrev pub IsBehind : (passed : Passed) → (rest text : List ℕ) → Type 0
IsBehind (passing.Declaration in_rule) rest text = length rest ≤ length text
IsBehind (passing.AtRule true) rest text = length rest ≤ length text
IsBehind (passing.AtRule false) rest text = length rest < length text
IsBehind passing.StyleRule rest text = length rest < length text
