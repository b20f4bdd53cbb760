-- The marks of what is left of the content, where it is known whether content that isn't white stands directly before it.
use Rattle.std.specs.Prelude.{ℕ, Bool, true, false, ◌&&◌, ◌||◌, ◌==◌, not, nat_le, cond, List, [], ◌∷◌, Option, Some, None}
use Rattle.std.specs.List.{list_any}
use Rattle.std.specs.Str.{chars}
use Rattle.fragment_types.specs.Item.{Entry, text, begins, ends, atom, line_break}
use Rattle.para_prepare.specs.declared.letter.Letter.{Letter}
use Rattle.para_prepare.specs.White.{Sign, white, solid, passed, broken, is_white, leads}

-- the bidi controls of the repertoire (UAX 9, 2)
abbrev pub is_bidi_control : ℕ → Bool
is_bidi_control c =
    (c == 0x61C)
    || ((nat_le 0x200E c && nat_le c 0x200F) || ((nat_le 0x202A c && nat_le c 0x202E) || (nat_le 0x2066 c && nat_le c 0x2069)))

-- a character that is neither white space nor a bidi control
abbrev pub is_content : ℕ → Bool
is_content c = not (is_white c) && not (is_bidi_control c)

-- whether content comes first in what stands from an entry on, where the entry tells it by itself
abbrev pub tells : Entry → Option Bool
tells (text node bytes style) = cond (list_any is_content (chars bytes)) (Some true) None
tells (begins node style edges) = None
tells (ends node edges) = None
tells (atom name) = Some true
tells (line_break node) = Some false

-- whether content stands directly before what comes behind this sign
abbrev pub follows_at : Sign → (before : Bool) → Bool
follows_at white before = false
follows_at solid before = true
follows_at passed before = before
follows_at broken before = false

abbrev pub follows_all : List Sign → (before : Bool) → Bool
follows_all [] before = before
follows_all (sign ∷ after) before = follows_all after (follows_at sign before)

abbrev pub is_kept_with : Sign → (before behind : Bool) → Bool
is_kept_with white before behind = before && behind
is_kept_with _ before behind = true

abbrev pub marks_with : List Sign → (before : Bool) → List Bool
marks_with [] before = []
marks_with (sign ∷ after) before = is_kept_with sign before (leads after) ∷ marks_with after (follows_at sign before)

-- white space at a place, if it is kept
abbrev pub space_if : Bool → (place : ℕ) → List Letter
space_if true place = (record { place = place; char = 0x20 }) ∷ []
space_if false place = []
