-- How numbers, names and code points are written (docs/PROFILE/listing.md). Each word but the first of a line stands behind a
-- space.
use Rattle.std.specs.Prelude.{ℕ, ◌-◌, ◌/◌, ◌%◌, nat_le, true, List, [], ◌∷◌, ◌++◌, length, replicate, ℤ, codes, decimal, if◌then◌else◌}
use Rattle.std.specs.Fmt.{digit_glyph, digits, signed_decimal}
use Rattle.wm_modes.specs.declared.rects.Rect.{Rect}
use Rattle.fragment_types.specs.declared.item.BoxName.{BoxName}

-- a length
unfoldable pub word : ℤ → List ℕ
word number = codes " " ++ signed_decimal number

-- a number from 0
unfoldable pub count : ℕ → List ℕ
count number = codes " " ++ decimal number

-- two lengths
unfoldable pub pair : ℤ → ℤ → List ℕ
pair first second = word first ++ word second

-- left and top edge, width and height
unfoldable pub rect_words : Rect → List ℕ
rect_words rect = pair rect.x rect.y ++ pair rect.w rect.h

-- the node, and which of its boxes
unfoldable pub name_words : BoxName → List ℕ
name_words name = count name.node ++ count name.ordinal

-- a code point: hexadecimal in upper case, by four digits at least
unfoldable pub code_point : ℕ → List ℕ
code_point c = replicate (4 - length (digits 16 true c)) 48 ++ digits 16 true c

-- the last digit of a number; the digit of a place that it reaches; its last four
abbrev pub digit : ℕ → ℕ
digit number = digit_glyph true (number % 16)

abbrev pub high_digit : (place c : ℕ) → List ℕ
high_digit place c = if nat_le place c then digit (c / place) ∷ [] else []

abbrev pub four_digits : ℕ → List ℕ
four_digits c = digit (c / 4096) ∷ digit (c / 256) ∷ digit (c / 16) ∷ digit c ∷ []
