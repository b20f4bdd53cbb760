-- Which bytes are tokens of a document (docs/PROFILE/html.md).
--
--   gap        = (character | reference | comment)*
--   misc       = (s | comment)*
--   comment    = "<!--" characters "-->"
--   doctype    = "<!doctype" s+ "html" s* ">"
--   attributes = (s+ attribute)* s*
--   attribute  = name (s* "=" s* quoted)?
--   quoted     = `"` (character | reference)* `"` | "'" (character | reference)* "'"
--   reference  = "&" (word | "#" number | "#x" number) ";"
--   s          = one white space character
use Rattle.std.specs.Prelude.{◌≡◌, ◌⊎◌, ℕ, ◌+◌, ◌*◌, ◌<◌, ◌≤◌, nat_lt, Bool, true, false, ◌==◌, List, [], ◌∷◌, ◌++◌, length, fold, codes, ⊤}
use Rattle.std.specs.Char.{IsScalar, encode_utf8, digit_value}
use Rattle.reading.specs.Grammars.{Grammar, Given, Fixed, OneOf, AllPass, RunOf, EitherCase, OneWord, UpTo, Seq, Mapped, Either, After, Joined}
use Rattle.reading.specs.Placed.{PlacedGrammar}
use Rattle.html_tokens.specs.declared.raw_text.RawEnd.{RawEnd}
use Rattle.html_tokens.specs.declared.raw_text.RawEnd.TheVariants as ends
use Rattle.reading.specs.White.{is_white}
use Rattle.reading.specs.Names.{lowered}
use Rattle.html_tokens.specs.Characters.{is_letter, is_name_byte, entities, in_repertoire}
use Rattle.html_tokens.specs.Written.{Attribute}
use Rattle.html_tokens.specs.Lexing.{raw_end, is_x, is_quote, is_plain}

abbrev pub IsSpaces : Grammar ⊤
IsSpaces text u = AllPass is_white text

abbrev pub IsWhite : Grammar ⊤
IsWhite = Mapped (λ byte. tt) (OneOf is_white)

-- a name, in small letters
abbrev pub IsName : Grammar (List ℕ)
IsName = Seq (OneOf is_letter) (λ first. Mapped (λ more. lowered (first ∷ more)) (RunOf is_name_byte))

-- the end tag of this name
abbrev pub IsEndOf : List ℕ → Grammar ⊤
IsEndOf word = Seq (Fixed (codes "</")) (λ u. Seq (EitherCase word) (λ u. Seq IsSpaces (λ u. Fixed (codes ">"))))

abbrev pub IsRawEnd : RawEnd → Grammar ⊤
IsRawEnd ends.Comment = Fixed (codes "-->")
IsRawEnd ends.Title = IsEndOf (codes "title")
IsRawEnd ends.Style = IsEndOf (codes "style")

-- characters up to the first place where their end can be read, and their end
abbrev pub IsRaw : RawEnd → Grammar (List ℕ)
IsRaw end_ = UpTo (raw_end end_) (IsRawEnd end_)

abbrev pub IsComment : Grammar ⊤
IsComment = After (codes "<!--") (Mapped (λ inside. tt) (IsRaw ends.Comment))

abbrev pub IsMiscPiece : Grammar (List ℕ)
IsMiscPiece = Either (Mapped (λ u. []) IsWhite) (Mapped (λ u. []) IsComment)

abbrev pub IsMisc : Grammar ⊤
IsMisc = Mapped (λ text. tt) (Joined IsMiscPiece)

abbrev pub IsDoctype : Grammar ⊤
IsDoctype = Seq (EitherCase (codes "<!doctype")) (λ u. Seq IsWhite (λ u. Seq IsSpaces (λ u.
    Seq (EitherCase (codes "html")) (λ u. Seq IsSpaces (λ u. Fixed (codes ">"))))))

-- ---- references and characters

-- the number that digits of a base stand for
abbrev pub number_of : (base : ℕ) → List ℕ → ℕ
number_of base digits = fold (λ value digit. base * value + digit_value digit) 0 digits

-- one to `most` digits of a Unicode scalar value, and `;`
pub record IsScalarNumber (base most : ℕ) (text : List ℕ) (c : ℕ) : Type 0 where
  pub digits : List ℕ
  pub some : 0 < length digits
  pub few : length digits ≤ most
  pub each : AllPass (λ byte. nat_lt (digit_value byte) base) digits
  pub value : c ≡ number_of base digits
  pub is_scalar : IsScalar c
  pub whole : text ≡ digits ++ codes ";"

abbrev pub IsNumberReference : Grammar ℕ
IsNumberReference = Seq (Fixed (codes "#")) (λ u. Either (Seq (OneOf is_x) (λ byte. IsScalarNumber 16 6)) (IsScalarNumber 10 7))

abbrev pub IsReference : Grammar ℕ
IsReference = Seq (Fixed (codes "&")) (λ u. Either IsNumberReference (OneWord entities))

abbrev pub IsCharacter : Grammar ℕ
IsCharacter text c = (text ≡ encode_utf8 c) × IsScalar c

-- ---- attributes

-- a byte other than the quote and `&` stands for itself
abbrev pub IsValuePiece : (quote : ℕ) → Grammar (List ℕ)
IsValuePiece quote = Either (Mapped (λ c. encode_utf8 c) IsReference) (Mapped (λ byte. byte ∷ []) (OneOf (is_plain quote)))

abbrev pub IsQuoted : Grammar (List ℕ)
IsQuoted = Seq (OneOf is_quote) (λ quote. Seq (Joined (IsValuePiece quote)) (λ value. Mapped (λ byte. value) (OneOf (λ byte. byte == quote))))

abbrev pub IsEquals : Grammar ⊤
IsEquals = Seq IsSpaces (λ u. Fixed (codes "="))

abbrev pub IsValue : Grammar (List ℕ)
IsValue = Either (Seq IsEquals (λ u. Seq IsSpaces (λ u. IsQuoted))) (Given [])

abbrev pub IsAttribute : PlacedGrammar Attribute
IsAttribute text behind a = Seq IsName (λ n. Mapped (λ v. record { name = n; value = v; left = text ++ behind }) IsValue) text a

abbrev pub AreAttributes : PlacedGrammar (List Attribute)
AreAttributes text behind [] = IsSpaces text tt
AreAttributes text behind (a ∷ others) = (blank here back : List ℕ) × (0 < length blank) × IsSpaces blank tt × IsAttribute here (back ++ behind) a
    × AreAttributes back behind others × (text ≡ blank ++ (here ++ back))

-- ---- tags

abbrev pub IsTagEnd : (slash : Bool) → Grammar ⊤
IsTagEnd slash text u = (text ≡ codes ">") ⊎ ((slash ≡ true) × (text ≡ codes "/>"))

-- an end tag, as its name
abbrev pub IsEndName : Grammar (List ℕ)
IsEndName = Seq (Fixed (codes "</")) (λ u. Seq IsName (λ n. Seq IsSpaces (λ u. Mapped (λ u. n) (Fixed (codes ">")))))

-- ---- what stands in an element

-- a character of the repertoire, by itself or by a reference
abbrev pub IsLetter : Grammar (List ℕ)
IsLetter text letters = (c : ℕ) × (IsReference text c ⊎ (IsCharacter text c × ((c == 60) ≡ false) × ((c == 38) ≡ false)))
    × (in_repertoire c ≡ true) × (letters ≡ encode_utf8 c)

abbrev pub IsGap : Grammar (List ℕ)
IsGap = Joined (Either (Mapped (λ u. []) IsComment) IsLetter)

-- ---- documents
