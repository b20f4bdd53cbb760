-- The readers below the tags: they refuse by Syntax alone. Each function of the code that reads has one of these.
use Rattle.std.specs.Prelude.{ℕ, zero, suc, ◌+◌, ◌*◌, nat_lt, nat_le, Bool, true, ◌&&◌, ◌||◌, not, ◌==◌, List, [], ◌∷◌, ◌++◌, codes, ⊤}
use Rattle.std.specs.Char.{encode_utf8, digit_value}
use lib.Utf8.{scalar}
use Rattle.reading.specs.Readers.{Reader, give, refuse, follow, mapped, choice, strip, strip_either_case, starts, one_of, next_is, run_of, up_to, can_read, one_word, after, repeat, joined}
use Rattle.html_tokens.specs.declared.raw_text.RawEnd.{RawEnd}
use Rattle.html_tokens.specs.declared.raw_text.RawEnd.TheVariants as ends
use Rattle.reading.specs.White.{is_white, spaces, white}
use Rattle.reading.specs.Names.{lowered}
use Rattle.html_tokens.specs.Characters.{is_letter, is_name_byte, entities, first_code}
use Rattle.html_tokens.specs.Written.{Attribute}

-- ---- names and comments

-- a name, in small letters
unfoldable pub name : Reader (List ℕ)
name = follow (one_of is_letter) (λ first. mapped (λ more. lowered (first ∷ more)) (run_of is_name_byte))

-- the end tag of this name
unfoldable pub end_of : List ℕ → Reader ⊤
end_of word = follow (strip (codes "</")) (λ u. follow (strip_either_case word) (λ u. follow spaces (λ u. strip (codes ">"))))

-- what ends characters that may be any: they run to the first place where it can be read
abbrev pub raw_end : RawEnd → Reader ⊤
raw_end ends.Comment = strip (codes "-->")
raw_end ends.Title = end_of (codes "title")
raw_end ends.Style = end_of (codes "style")

-- the byte with which it begins
abbrev pub raw_mark : RawEnd → ℕ
raw_mark ends.Comment = 45
raw_mark ends.Title = 60
raw_mark ends.Style = 60

unfoldable pub raw : RawEnd → Reader (List ℕ)
raw end_ = up_to (raw_end end_)

unfoldable pub comment : Reader ⊤
comment = after (codes "<!--") (mapped (λ inside. tt) (raw ends.Comment))

-- white space and comments; a comment begins where the bytes begin with `mark`
abbrev pub in_misc : (mark : List ℕ) → List ℕ → Bool
in_misc mark bytes = next_is is_white bytes || starts mark bytes

unfoldable pub misc_piece : Reader (List ℕ)
misc_piece = choice (next_is is_white) (mapped (λ u. []) white) (mapped (λ u. []) comment)

unfoldable pub misc : (mark : List ℕ) → Reader ⊤
misc mark = mapped (λ text. tt) (joined (in_misc mark) misc_piece)

unfoldable pub doctype : Reader ⊤
doctype = follow (strip_either_case (codes "<!doctype")) (λ u. follow white (λ u. follow spaces (λ u.
    follow (strip_either_case (codes "html")) (λ u. follow spaces (λ u. strip (codes ">"))))))

-- ---- references

-- a digit goes on, where `left` more may follow it, if a number that is a Unicode scalar value begins so
abbrev pub may_follow : (base left value byte : ℕ) → Bool
may_follow base left value byte =
    nat_lt (digit_value byte) base && nat_le (base * value + digit_value byte) 0x10FFFF
    && (scalar (base * value + digit_value byte) || nat_lt 0 left)

-- the `;` behind a number that is a scalar value
unfoldable pub number_end : (value : ℕ) → Reader ℕ
number_end value = choice (λ bytes. scalar value) (mapped (λ u. value) (strip (codes ";"))) refuse

-- at most `left` digits more, and the `;`
unfoldable pub number_from : (base left value : ℕ) → Reader ℕ
number_from base zero value = number_end value
number_from base (suc left) value = choice (next_is (may_follow base left value))
    (follow (one_of (λ byte. true)) (λ byte. number_from base left (base * value + digit_value byte)))
    (number_end value)

-- one to `most` digits of this base, and the `;`
unfoldable pub scalar_number : (base most : ℕ) → Reader ℕ
scalar_number base zero = refuse
scalar_number base (suc left) = follow (one_of (λ byte. nat_lt (digit_value byte) base)) (λ byte. number_from base left (digit_value byte))

abbrev pub is_x : ℕ → Bool
is_x byte = byte == 120 || byte == 88

unfoldable pub number_reference : Reader ℕ
number_reference = follow (strip (codes "#")) (λ u. choice (next_is is_x) (follow (one_of is_x) (λ byte. scalar_number 16 6)) (scalar_number 10 7))

-- a reference, as the character that it means
unfoldable pub reference : Reader ℕ
reference = follow (strip (codes "&")) (λ u. choice (starts (codes "#")) number_reference (one_word entities))

-- ---- attributes

abbrev pub is_quote : ℕ → Bool
is_quote byte = byte == 34 || byte == 39

-- a byte of a value that stands for itself
abbrev pub is_plain : (quote byte : ℕ) → Bool
is_plain quote byte = not (byte == quote) && not (byte == 38)

abbrev pub in_value : (quote : ℕ) → List ℕ → Bool
in_value quote bytes = not (next_is (λ byte. byte == quote) bytes)

unfoldable pub value_piece : (quote : ℕ) → Reader (List ℕ)
value_piece quote = choice (starts (codes "&")) (mapped (λ c. encode_utf8 c) reference) (mapped (λ byte. byte ∷ []) (one_of (is_plain quote)))

unfoldable pub value_in : (quote : ℕ) → Reader (List ℕ)
value_in quote = follow (joined (in_value quote) (value_piece quote)) (λ value. mapped (λ byte. value) (one_of (λ byte. byte == quote)))

unfoldable pub quoted : Reader (List ℕ)
quoted = follow (one_of is_quote) (λ quote. value_in quote)

unfoldable pub equals : Reader ⊤
equals = follow spaces (λ u. strip (codes "="))

-- the value of an attribute; without one it is the empty text
unfoldable pub value : Reader (List ℕ)
value = choice (can_read equals) (follow equals (λ u. follow spaces (λ u. quoted))) (give [])

-- an attribute and what stands from its name on
unfoldable pub attribute : Reader Attribute
attribute bytes = follow name (λ n. mapped (λ v. record { name = n; value = v; left = bytes }) value) bytes

-- white space and the first letter of a name
unfoldable pub name_ahead : Reader ℕ
name_ahead = follow white (λ u. follow spaces (λ u. one_of is_letter))

unfoldable pub next_attribute : List Attribute → Reader (List Attribute)
next_attribute so_far = follow spaces (λ u. mapped (λ a. so_far ++ a ∷ []) attribute)

unfoldable pub attributes : Reader (List Attribute)
attributes = follow (repeat (λ so_far bytes. can_read name_ahead bytes) next_attribute []) (λ all. mapped (λ u. all) spaces)

-- the end of a start tag; where `slash` says so a `/` may stand before the `>`
unfoldable pub tag_end : (slash : Bool) → Reader ⊤
tag_end slash = choice (λ bytes. slash && starts (codes "/") bytes) (strip (codes "/>")) (strip (codes ">"))

-- ---- end tags and characters

-- an end tag, as its name
unfoldable pub end_name : Reader (List ℕ)
end_name = follow (strip (codes "</")) (λ u. follow name (λ n. follow spaces (λ u. mapped (λ u. n) (strip (codes ">")))))

-- the character with whose bytes the bytes begin
unfoldable pub character : Reader ℕ
character bytes = choice (λ bytes. scalar (first_code bytes)) (mapped (λ u. first_code bytes) (strip (encode_utf8 (first_code bytes)))) refuse bytes
