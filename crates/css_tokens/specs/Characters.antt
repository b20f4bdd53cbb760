-- Which bytes names are made of. CSS Syntax 3, 4.2; every byte of a character from U+0080 on counts as a letter.
use Rattle.std.specs.Prelude.{ℕ, nat_le, Bool, ◌||◌, ◌==◌}
use Rattle.std.specs.Char.{is_ascii_alphabetic, is_ascii_digit}

-- a name begins with a letter, `_` or `-`, and goes on with these and digits
abbrev pub is_name_start : ℕ → Bool
is_name_start byte = is_ascii_alphabetic byte || byte == 95 || byte == 45 || nat_le 128 byte

abbrev pub is_name_byte : ℕ → Bool
is_name_byte byte = is_name_start byte || is_ascii_digit byte

-- `+` and `-`
abbrev pub is_plus_or_minus : ℕ → Bool
is_plus_or_minus byte = byte == 43 || byte == 45

abbrev pub is_quote : ℕ → Bool
is_quote byte = byte == 34 || byte == 39

-- a line break: LF, FF and CR
abbrev pub is_line_break : ℕ → Bool
is_line_break byte = byte == 10 || byte == 12 || byte == 13

-- the signs that are no tokens, but open or close something or take away a meaning: ( ) [ \ ] { }
abbrev pub is_reserved : ℕ → Bool
is_reserved byte = byte == 40 || byte == 41 || byte == 91 || byte == 92 || byte == 93 || byte == 123 || byte == 125
