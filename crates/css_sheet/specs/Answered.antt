-- What the answers of `read_sheet` and `read_styled` mean, in terms of the grammar.
use Rattle.std.specs.Prelude.{◌≡◌, ℕ, ◌<◌, List, [], ◌∷◌, length, Option, Some, None, ⊤}
use Rattle.std.specs.List.{All}
use Rattle.css_values.specs.declared.error.CssError.{CssError}
use Rattle.css_values.specs.declared.error.CssError.TheVariants as errors
use Rattle.reading.specs.Stop.{end_of}
use Rattle.css_types.specs.declared.value.Declaration.{Declaration}
use Rattle.css_types.specs.Rule.{Ruling, Styling}
use Rattle.html_read.specs.Values.{TextAt, Kind, Node, Whole}
use Rattle.html_read.specs.Values as html
use Rattle.css_values.specs.Answered.{IsKept}
use Rattle.css_values.specs.Grammar.{AreDeclarations}
use Rattle.css_values.specs.declared.within.Within.TheVariants.{Attribute}
use Rattle.css_sheet.specs.Grammar.{IsSheet}
use Rattle.css_sheet.specs.Styled.{moved_to}
use Rattle.css_sheet.specs.Sheet.{Sheet, empty}

-- the text, whose first byte is at the place `start`, is a sheet from its first byte to its last
abbrev pub IsWholeSheet : (start : ℕ) → (text : List ℕ) → Sheet → Type 0
IsWholeSheet start text all = IsSheet (end_of start text) empty text [] all

-- it is a sheet of these rules, and of no others; `declared` counts their declarations
pub record IsTheSheet (start : ℕ) (text : List ℕ) (rules : List Ruling) : Type 0 where
  pub declared : ℕ
  pub is : IsWholeSheet start text (record { rules = rules; declared = declared })
  pub only : (other : Sheet) → IsWholeSheet start text other → other.rules ≡ rules

-- A refusal with its place says that the text is no sheet; want of memory says nothing.
abbrev pub RefusesSheet : (start : ℕ) → (text : List ℕ) → CssError → Type 0
RefusesSheet start text (errors.Refused kind place) = (all : Sheet) → IsWholeSheet start text all → ⊥
RefusesSheet start text errors.Memory = ⊤

-- its selector has a part, and each of its declarations is kept
abbrev pub IsRuled : Ruling → Type 0
IsRuled r = (0 < length r.selector) × All IsKept r.declarations

-- the texts are these sheets, one behind the other
abbrev pub AreSheets : List TextAt → (begun all : Sheet) → Type 0
AreSheets [] begun all = all ≡ begun
AreSheets (t ∷ others) begun all = (next : Sheet) × IsSheet (end_of t.place t.text) begun t.text [] next × AreSheets others next all

-- the own declarations of a node: those that its style attribute is, each at the place of the attribute's name
abbrev pub AreOwn : Option TextAt → List Declaration → Type 0
AreOwn None own = own ≡ []
AreOwn (Some t) own = (all : List Declaration) × AreDeclarations Attribute (end_of t.place t.text) t.text [] all × (own ≡ moved_to t.place all)

abbrev pub AreOwnOf : Kind → List Declaration → Type 0
AreOwnOf (html.element tag acting) own = AreOwn acting.style own
AreOwnOf (html.text letters) own = own ≡ []

-- one list for each node, in document order
abbrev pub AreEach : List Node → List (List Declaration) → Type 0
AreEach [] own = own ≡ []
AreEach (node ∷ others) [] = ⊥
AreEach (node ∷ others) (first ∷ own) = AreOwnOf node.kind first × AreEach others own

-- the rules of all sheets of a document, of which `declared` counts the declarations, and each node's own declarations
pub record AreStyles (read : Whole) (s : Styling) : Type 0 where
  pub declared : ℕ
  pub are_sheets : AreSheets read.sheets empty (record { rules = s.rules; declared = declared })
  pub are_own : AreEach read.nodes s.own

-- these styles, and no others
pub record AreTheStyles (read : Whole) (s : Styling) : Type 0 where
  pub are : AreStyles read s
  pub only : (other : Styling) → AreStyles read other → other ≡ s

-- A refusal with its place says that a sheet or a style attribute of the document is none; want of memory says nothing.
abbrev pub RefusesStyles : (read : Whole) → CssError → Type 0
RefusesStyles read (errors.Refused kind place) = (s : Styling) → AreStyles read s → ⊥
RefusesStyles read errors.Memory = ⊤
