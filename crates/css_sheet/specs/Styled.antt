-- All the styles of a document: its sheets, then the style attributes of its nodes. CSS Style Attributes, 3.
use Rattle.std.specs.Prelude.{◌≡◌, ℕ, List, [], ◌∷◌, map, Option, Some, None, Result, Ok, Err, ⊤}
use Rattle.css_types.specs.declared.value.Declaration.{Declaration}
use Rattle.html_read.specs.Values.{TextAt, Kind, Node, Whole, element, text}
use Rattle.css_values.specs.declared.error.Refusal.{Refusal}
use Rattle.css_values.specs.declared.error.CssError.{CssError}
use Rattle.css_values.specs.declared.error.CssError.TheVariants as errors
use Rattle.css_values.specs.declared.within.Within.TheVariants.{Attribute}
use Rattle.css_values.specs.Declarations.{declarations}
use Rattle.reading.specs.Stop.{end_of, place_before}
use Rattle.css_values.specs.Error.{Fault}
use Rattle.reading.specs.Readers.{ReadOr}
use Rattle.css_types.specs.Rule.{Styling}
use Rattle.css_sheet.specs.Sheet.{Sheet, empty, sheet}

-- a value, or a refusal with its place in the document
abbrev pub Placed : Type 0 → Type 0
Placed A = Result A (Refusal × ℕ)

abbrev pub and_then : {A B : Type 0} → Placed A → (A → Placed B) → Placed B
and_then (Ok x) others = others x
and_then (Err refused) others = Err refused

-- a refusal told by its place, where the text that was read ends at `end`
abbrev pub in_sheet : (end_ : ℕ) → ReadOr Fault Sheet → Placed Sheet
in_sheet end_ (Ok read) = Ok read.0
in_sheet end_ (Err fault) = Err (fault.0, place_before end_ fault.1)

abbrev pub sheet_at : TextAt → Sheet → Placed Sheet
sheet_at t s = in_sheet (end_of t.place t.text) (sheet (end_of t.place t.text) s t.text)

-- all sheets in document order; the limits count over all of them
unfoldable pub sheets : List TextAt → Sheet → Placed Sheet
sheets [] s = Ok s
sheets (t ∷ others) s = and_then (sheet_at t s) (sheets others)

-- in a style attribute each place is that of the attribute's name
abbrev pub moved_to : (place : ℕ) → List Declaration → List Declaration
moved_to place = map (λ d. record { property = d.property; value = d.value; important = d.important; place = place })

abbrev pub at_name : (place : ℕ) → ReadOr Fault (List Declaration) → Placed (List Declaration)
at_name place (Ok read) = Ok (moved_to place read.0)
at_name place (Err fault) = Err (fault.0, place)

abbrev pub attribute_at : TextAt → Placed (List Declaration)
attribute_at t = at_name t.place (declarations Attribute (end_of t.place t.text) t.text)

abbrev pub own_of : Option TextAt → Placed (List Declaration)
own_of None = Ok []
own_of (Some t) = attribute_at t

abbrev pub own_of_kind : Kind → Placed (List Declaration)
own_of_kind (element tag acting) = own_of acting.style
own_of_kind (text letters) = Ok []

abbrev pub before_others : List Declaration → Placed (List (List Declaration)) → Placed (List (List Declaration))
before_others own others = and_then others (λ rest. Ok (own ∷ rest))

-- the own declarations of each node, in document order
unfoldable pub attributes : List Node → Placed (List (List Declaration))
attributes [] = Ok []
attributes (node ∷ others) = and_then (own_of_kind node.kind) (λ own. before_others own (attributes others))

unfoldable pub styling : Whole → Placed Styling
styling read = and_then (sheets read.sheets empty) (λ s. and_then (attributes read.nodes) (λ own. Ok (record { rules = s.rules; own = own })))

abbrev pub Fails : {Y : Type 0} → CssError → Placed Y → Type 0
Fails (errors.Refused kind place) due = due ≡ Err (kind, place)
Fails errors.Memory due = ⊤

-- What a function returned, seen by `view`, is this, unless memory ran out.
abbrev pub Placing : {X Y : Type 0} → (X → Y) → Result X CssError → Placed Y → Type 0
Placing view (Ok x) due = due ≡ Ok (view x)
Placing view (Err error) due = Fails error due
