-- What a paragraph may have: how long its texts are, and how great their characters.
use Rattle.std.specs.Prelude.{ℕ, ◌+◌, ⊤, List, [], ◌∷◌, length, pos, ◌≤ℤ◌}
use Rattle.style_types.specs.declared.style.Style.{Style}
use Rattle.fragment_types.specs.Item.{Entry, text, begins, ends, atom, line_break}

abbrev pub bytes_in : Entry → ℕ
bytes_in (text node bytes style) = length bytes
bytes_in (begins node style edges) = 0
bytes_in (ends node edges) = 0
bytes_in (atom name) = 0
bytes_in (line_break node) = 0

-- the bytes of all texts together
abbrev pub text_bytes : List Entry → ℕ
text_bytes [] = 0
text_bytes (entry ∷ entries) = bytes_in entry + text_bytes entries

-- a font size from 0 to 65,536
pub record IsFontSize (style : Style) : Type 0 where
  pub low : pos 0 ≤ℤ style.font_size
  pub high : style.font_size ≤ℤ pos 65536

-- that of a text's style is one
abbrev pub HasFontSize : Entry → Type 0
HasFontSize (text node bytes style) = IsFontSize style
HasFontSize _ = ⊤
