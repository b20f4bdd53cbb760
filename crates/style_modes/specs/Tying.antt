-- Where the declarations stand that tie a document to one mode: in bytes of the text that it was read from.
use Rattle.std.specs.Prelude.{◌≡◌, ◌↔◌, ℕ, Bool, true, false, List, [], ◌∷◌, ◌++◌, filter, map, min, flat_map, Option, Some, None}
use Rattle.css_types.specs.declared.value.Declaration.{Declaration}
use Rattle.css_types.specs.Rule.{Ruling}
use Rattle.dom_store.specs.State as dom
use Rattle.dom_store.specs.State.{State, Tree, What, element, text, tree_of}
use Rattle.tree_laws.specs.Reached.{IsReached}
use Rattle.style_modes.specs.Turnable.{IsTurnable, ties}

-- those of declarations that tie
abbrev pub places_of : List Declaration → List ℕ
places_of declarations = map (λ d. d.place) (filter (λ d. ties d.property) declarations)

-- in the style attribute of a node
abbrev pub own_places : What → List ℕ
own_places (element tag id classes dir own) = places_of own
own_places (text letters) = []

-- of nodes that stand one after the other, each with those inside it
unfoldable pub places_in : Tree → List ℕ
places_in dom.none = []
places_in (dom.node number what inner next) = own_places what ++ (places_in inner ++ places_in next)

-- in rules, whether or not they match
abbrev pub rule_places : List Ruling → List ℕ
rule_places rules = flat_map (λ rule. places_of rule.declarations) rules

-- of a document: in its rules, and in the style attributes of its elements, whether or not these are shown
abbrev pub tying_places : List Ruling → State → List ℕ
tying_places rules state = rule_places rules ++ places_in (tree_of state)

-- a place, where it counts
abbrev pub place_if : (counts : Bool) → (place : ℕ) → Option ℕ
place_if true place = Some place
place_if false place = None

-- the lesser of two places, where there are some
abbrev pub lesser : (one other : Option ℕ) → Option ℕ
lesser None other = other
lesser (Some one) None = Some one
lesser (Some one) (Some other) = Some (min one other)

-- the first of them in the text
abbrev pub first_of : List ℕ → Option ℕ
first_of [] = None
first_of (place ∷ places) = lesser (Some place) (first_of places)

-- ---- laws

-- there are none exactly where the document can be turned
abbrev pub NoneTiesWhereTurnable : Type 0
NoneTiesWhereTurnable = (rules : List Ruling) (state : State) → IsReached state → tying_places rules state ≡ [] ↔ IsTurnable rules state

-- so there is no first one exactly then
abbrev pub NoneIsFirstWhereTurnable : Type 0
NoneIsFirstWhereTurnable = (rules : List Ruling) (state : State) → IsReached state → first_of (tying_places rules state) ≡ None ↔ IsTurnable rules state
