-- The default sheet: the rules that come before an author's. HTML, 15.3, narrowed (docs/PROFILE/sheets.md).
use Rattle.std.specs.Prelude.{◌≡◌, ℕ, false, pos, List, [], ◌∷◌, ◌++◌, codes, length, Some, Ok}
use Rattle.css_types.specs.declared.keyword.Keyword.TheVariants.{Block}
use Rattle.css_types.specs.declared.property.Property.{Property}
use Rattle.css_types.specs.declared.property.Property.TheVariants.{Display, FontSize, MarginBlockStart, MarginBlockEnd, MarginInlineStart, MarginInlineEnd, PaddingInlineStart}
use Rattle.css_types.specs.declared.rule.Joint.TheVariants.{Descendant}
use Rattle.css_types.specs.declared.value.Value.{Value}
use Rattle.css_types.specs.declared.value.Value.TheVariants.{Keyword, Px, Em}
use Rattle.css_types.specs.declared.value.Declaration.{Declaration}
use Rattle.css_types.specs.Rule.{Ruling}
use Rattle.css_sheet.specs.declared.default.TheConstants.{DEFAULT_SHEET}
use Rattle.css_sheet.specs.Sheet.{empty, sheet}

-- hundredths of a pixel, and of the font size
abbrev pub px : ℕ → Value
px hundredths = Px (pos hundredths)

abbrev pub em : ℕ → Value
em hundredths = Em (pos hundredths)

-- a declaration whose name stands at this place of the sheet's text
abbrev pub states : (place : ℕ) → Property → Value → List Declaration
states place property value = record { property = property; value = value; important = false; place = place } ∷ []

abbrev pub margin_block : (place : ℕ) → Value → List Declaration
margin_block place value = states place MarginBlockStart value ++ states place MarginBlockEnd value

abbrev pub margin_inline : (place : ℕ) → Value → List Declaration
margin_inline place value = states place MarginInlineStart value ++ states place MarginInlineEnd value

-- a rule for the elements of a type
abbrev pub of_type : (name : List ℕ) → List Declaration → Ruling
of_type name declarations = record { selector = record { joint = Descendant; tag = Some name; classes = []; ids = [] } ∷ []; declarations = declarations }

abbrev pub is_block : (name : List ℕ) → Ruling
is_block name = of_type name (states 150 Display (Keyword Block))

unfoldable pub default_rules : List Ruling
default_rules =
    is_block (codes "html") ∷ is_block (codes "body") ∷ is_block (codes "div") ∷ is_block (codes "section") ∷ is_block (codes "article") ∷ is_block (codes "header")
    ∷ is_block (codes "footer") ∷ is_block (codes "main") ∷ is_block (codes "nav") ∷ is_block (codes "aside") ∷ is_block (codes "address") ∷ is_block (codes "p")
    ∷ is_block (codes "h1") ∷ is_block (codes "h2") ∷ is_block (codes "h3") ∷ is_block (codes "h4") ∷ is_block (codes "h5") ∷ is_block (codes "h6")
    ∷ is_block (codes "blockquote") ∷ is_block (codes "figure") ∷ is_block (codes "figcaption") ∷ is_block (codes "ul") ∷ is_block (codes "ol") ∷ is_block (codes "li")
    ∷ of_type (codes "body") (margin_block 174 (px 800) ++ margin_inline 193 (px 800))
    ∷ of_type (codes "p") (margin_block 226 (em 100))
    ∷ of_type (codes "ul") (margin_block 226 (em 100))
    ∷ of_type (codes "ol") (margin_block 226 (em 100))
    ∷ of_type (codes "blockquote") (margin_block 267 (em 100) ++ margin_inline 286 (px 4000))
    ∷ of_type (codes "figure") (margin_block 267 (em 100) ++ margin_inline 286 (px 4000))
    ∷ of_type (codes "ul") (states 317 PaddingInlineStart (px 4000))
    ∷ of_type (codes "ol") (states 317 PaddingInlineStart (px 4000))
    ∷ of_type (codes "h1") (states 351 FontSize (em 200) ++ margin_block 367 (em 67))
    ∷ of_type (codes "h2") (states 395 FontSize (em 150) ++ margin_block 413 (em 83))
    ∷ of_type (codes "h3") (states 441 FontSize (em 117) ++ margin_block 460 (em 100))
    ∷ of_type (codes "h4") (margin_block 485 (em 133))
    ∷ of_type (codes "h5") (states 513 FontSize (em 83) ++ margin_block 532 (em 167))
    ∷ of_type (codes "h6") (states 560 FontSize (em 67) ++ margin_block 579 (em 233))
    ∷ []

-- its text is read as exactly these, to its end; they have 61 declarations
abbrev pub IsDefault : Type 0
IsDefault = sheet (length DEFAULT_SHEET.now) empty DEFAULT_SHEET.now ≡ Ok (record { rules = default_rules; declared = 61 }, [])
