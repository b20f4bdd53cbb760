-- Which declaration wins. CSS Cascading 4, 6.1; CSS Logical Properties 1, 4; CSS Writing Modes 4, 7.4.
use Rattle.std.specs.Prelude.{◌≡◌, ◌≢◌, ℕ, Bool, true, false, cond, nat_eq, List, [], ◌∷◌, filter, filter_map, get_or, length, map, Option, Some, None, option_map, slice_get}
use Rattle.std.specs.Borrow.{Bor}
use Rattle.std.specs.List.{All, Contains}
use Rattle.wm_modes.specs.declared.mode.WritingMode.{WritingMode}
use Rattle.wm_modes.specs.declared.mode.Direction.{Direction}
use Rattle.wm_modes.specs.Sides.{used_direction}
use Rattle.css_types.specs.declared.table.TheConstants.{PROPERTY_COUNT}
use Rattle.css_types.specs.declared.property.Property.{Property}
use Rattle.css_types.specs.declared.property.Property.TheVariants as properties
use Rattle.style_types.specs.declared.style.Style.{Style}
use Rattle.css_types.specs.declared.table.PropertyRow.{PropertyRow}
use Rattle.css_types.specs.declared.value.Value.{Value}
use Rattle.defaulting.specs.Defaulting.{computed_mode, computed_direction, computed_orientation}
use Rattle.css_types.specs.Page.{page_of}
use Rattle.css_types.specs.Property.{place_of}
use Rattle.css_types.specs.Rule.{Ruling}
use Rattle.style_types.specs.Style.{is_upright}
use Rattle.css_types.specs.Table.{rows}
use Rattle.css_types.specs.Value.{HasSayable}
use Rattle.dom_store.specs.State.{What, AreSaid, IsSaid}
use Rattle.cascade.specs.declared.claim.Claim.{Claim}
use Rattle.cascade.specs.Claims.{numbers_of, is_below, claims}

-- ---- the greatest of a list

abbrev pub greater : Option Claim → Claim → Option Claim
greater None claim = Some claim
greater (Some best) claim = cond (is_below best.key claim.key) (Some claim) (Some best)

unfoldable pub greatest_from : Option Claim → List Claim → Option Claim
greatest_from best [] = best
greatest_from best (claim ∷ others) = greatest_from (greater best claim) others

-- the claim whose key is greatest
abbrev pub greatest : List Claim → Option Claim
greatest list = greatest_from None list

-- ---- the winner of a property

abbrev pub same_property : Property → Property → Bool
same_property one other = nat_eq (place_of one) (place_of other)

-- claims that name a property of the page, in either spelling, in this mode and used direction
abbrev pub naming : WritingMode → Direction → (page : Property) → List Claim → List Claim
naming mode dir page list = filter (λ claim. same_property (page_of mode dir claim.property) page) list

abbrev pub winner : WritingMode → Direction → List Claim → (page : Property) → Option Value
winner mode dir list page = option_map (λ claim. claim.value) (greatest (naming mode dir page list))

-- ---- how the element maps its flow: found out first, from properties that are about the whole box

abbrev pub first_winner : List Claim → Property → Option Value
first_winner list property = option_map (λ claim. claim.value) (greatest (filter (λ claim. same_property claim.property property) list))

-- the parent's style with the element's own computed mode, direction and orientation
abbrev pub turned : List Claim → (parent : Style) → Style
turned list parent = record parent {
  mode = computed_mode parent.mode (first_winner list properties.WritingMode);
  direction = computed_direction parent.direction (first_winner list properties.Direction);
  orientation = computed_orientation parent.orientation (first_winner list properties.TextOrientation);
}

abbrev pub direction_of : Style → Direction
direction_of style = used_direction style.mode (is_upright style.orientation) style.direction

-- ---- all winners, in the order of the table of properties

abbrev pub paired : Property → Option Value → Option (Property × Value)
paired property value = option_map (λ v. (property, v)) value

abbrev pub winners_by : WritingMode → Direction → List Claim → List (Property × Value)
winners_by mode dir list = filter_map (λ row. paired row.property (winner mode dir list row.property)) rows

abbrev pub winners_in : List Claim → (parent : Style) → List (Property × Value)
winners_in list parent = let own = turned list parent in winners_by own.mode (direction_of own) list

-- the winners for the first of the line, under these author's rules and the parent's style
abbrev pub winners : List Ruling → (line : List What) → (parent : Style) → List (Property × Value)
winners rules line parent = winners_in (claims rules line) parent

-- ---- what the greatest is

-- it is one of them, and no other's key is greater
pub record IsGreatest (list : List Claim) (best : Claim) : Type 0 where
  pub among : Contains list best
  pub least : (other : Claim) → Contains list other → is_below best.key other.key ≡ false

-- no two claims, at different places of the list, have one key
abbrev pub KeysDiffer : List Claim → Type 0
KeysDiffer list = (place other : ℕ) (one two : Claim) → place ≢ other → slice_get list place ≡ Some one → slice_get list other ≡ Some two → numbers_of one.key ≢ numbers_of two.key

-- ---- the code's way to them: the greatest claim of each property by its place in the table

abbrev pub greater_if : (counts : Bool) → Option Claim → Claim → Option Claim
greater_if true best claim = greater best claim
greater_if false best claim = best

abbrev pub claim_of : Option (Bor Claim) → Option Claim
claim_of best = option_map (λ claim. claim.now) best

abbrev pub claims_of : List (Option (Bor Claim)) → List (Option Claim)
claims_of best = map claim_of best

-- none yet, for any property
abbrev pub AreNone : (best : List (Option Claim)) → Type 0
AreNone best = (length best ≡ PROPERTY_COUNT) × ((property : Property) → get_or best (place_of property) None ≡ None)

abbrev pub AreBest : WritingMode → Direction → List Claim → (best : List (Option Claim)) → Type 0
AreBest mode dir list best = (property : Property) → get_or best (place_of property) None ≡ greatest (naming mode dir property list)

abbrev pub listed_of : (best : List (Option Claim)) → List PropertyRow → List (Property × Value)
listed_of best table = filter_map (λ row. paired row.property (option_map (λ claim. claim.value) (get_or best (place_of row.property) None))) table

-- ---- numbers

-- the numbers of an author's rule are such as a style sheet can say
abbrev pub AreSaidRules : List Ruling → Type 0
AreSaidRules rules = All (λ rule. AreSaid rule.declarations) rules

-- and so are those that the elements of a line have of their own
abbrev pub IsSaidLine : List What → Type 0
IsSaidLine line = All IsSaid line

-- then so are those of the winners
abbrev pub AreSaidWinners : List (Property × Value) → Type 0
AreSaidWinners winners = All (λ pair. HasSayable pair.1) winners
