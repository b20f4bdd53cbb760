-- Which white space of a paragraph is kept (CSS Text 3, 4.1): stated by the neighbours in the whole content.
use Rattle.std.specs.Prelude.{ℕ, ◌+◌, Bool, true, false, ◌&&◌, ◌||◌, ◌==◌, if◌then◌else◌, List, [], ◌∷◌, ◌++◌, map}
use Rattle.std.specs.Str.{chars}
use Rattle.fragment_types.specs.Item.{Entry, text, begins, ends, atom, line_break}
use Rattle.cluster_units.specs.Cluster.{is_control}
use Rattle.para_prepare.specs.declared.letter.Letter.{Letter}

-- tab, line feed, form feed, carriage return, space
abbrev pub is_white : ℕ → Bool
is_white c = ((c == 0x20) || (c == 0x0A)) || ((c == 0x09) || ((c == 0x0C) || (c == 0x0D)))

-- what a piece of content means for white space beside it
pub data Sign : Type 0 where
  white : Sign
  solid : Sign
  passed : Sign
  broken : Sign

-- a character: white space, a bidi control, which is passed over, or another
abbrev pub sign_of : ℕ → Sign
sign_of c = if is_white c then white else (if is_control c then passed else solid)

-- an inline box's ends are passed over, an inline-block is as a character, a line break is an end
abbrev pub signs_in : Entry → List Sign
signs_in (text node letters style) = map sign_of (chars letters)
signs_in (begins node style edges) = passed ∷ []
signs_in (ends node edges) = passed ∷ []
signs_in (atom name) = solid ∷ []
signs_in (line_break node) = broken ∷ []

abbrev pub signs : List Entry → List Sign
signs [] = []
signs (entry ∷ entries) = signs_in entry ++ signs entries

-- whether what stands directly before, the nearest first, is a character or an inline-block that isn't white
abbrev pub follows : (before : List Sign) → Bool
follows [] = false
follows (white ∷ before) = false
follows (solid ∷ before) = true
follows (passed ∷ before) = follows before
follows (broken ∷ before) = false

-- whether the first content behind the run of white space is one
abbrev pub leads : (after : List Sign) → Bool
leads [] = false
leads (white ∷ after) = leads after
leads (solid ∷ after) = true
leads (passed ∷ after) = leads after
leads (broken ∷ after) = false

-- white space is kept where it directly follows content and content comes after it; all else is kept
abbrev pub is_kept : (before : List Sign) → Sign → (after : List Sign) → Bool
is_kept before white after = follows before && leads after
is_kept before _ after = true

abbrev pub marks_from : (before after : List Sign) → List Bool
marks_from before [] = []
marks_from before (sign ∷ after) = is_kept before sign after ∷ marks_from (sign ∷ before) after

-- for each sign of the content, whether it is kept
unfoldable pub marks : List Entry → List Bool
marks entries = marks_from [] (signs entries)

-- white space that is kept is U+0020
abbrev pub as_kept : ℕ → ℕ
as_kept c = if is_white c then 0x20 else c

abbrev pub letter : (place c : ℕ) → Letter
letter place c = record { place = place; char = as_kept c }

-- the characters that are kept, each with its place in the node's whole text
abbrev pub chosen : (place : ℕ) → (chars : List ℕ) → (marks : List Bool) → List Letter
chosen place (c ∷ chars) (true ∷ marks) = letter place c ∷ chosen (place + 1) chars marks
chosen place (c ∷ chars) (false ∷ marks) = chosen (place + 1) chars marks
chosen place _ _ = []
