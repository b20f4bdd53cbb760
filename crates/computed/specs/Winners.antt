-- The values that won for an element, and what they say of a property. CSS 2, 6.1.1.
use Rattle.std.specs.Prelude.{◌≡◌, ℕ, nat_eq, Bool, false, List, find, get_or, Option, option_map}
use Rattle.std.specs.Coded.{Π_prop, Unit-prop, le_prop}
use Rattle.std.specs.List.{All, list_any}
use Rattle.css_types.specs.declared.property.Property.{Property}
use Rattle.css_types.specs.declared.value.Value.{Value}
use Rattle.css_types.specs.declared.value.Value.TheVariants.{Initial, Inherit, Keyword, Px, Em, Percent, Number, Face, Digits}
use Rattle.defaulting.specs.Defaulting.{specified}
use Rattle.css_types.specs.Property.{place_of}
use Rattle.css_types.specs.Value.{HasSayable}

abbrev pub Winning : Type 0
Winning = List (Property × Value)

-- the value that won for a property, if one did
unfoldable pub won : Winning → Property → Option Value
won winners property = option_map (λ pair. pair.1) (find (λ pair. nat_eq (place_of pair.0) (place_of property)) winners)

-- the specified value of a property; none is the parent's
unfoldable pub said : Winning → Property → Option Value
said winners property = specified property (won winners property)

-- ---- numbers

-- the numbers of the values that won are such as a style sheet can say
abbrev pub AreSayable : Winning → Type 0
AreSayable winners = All (λ w. HasSayable w.1) winners

-- both hold in one way at most, as a fact that a type carries must
pub HasSayable-prop : (value : Value) → IsProp (HasSayable value)
HasSayable-prop Initial = Unit-prop
HasSayable-prop Inherit = Unit-prop
HasSayable-prop (Keyword word) = Unit-prop
HasSayable-prop (Px n) = le_prop
HasSayable-prop (Em n) = le_prop
HasSayable-prop (Percent n) = le_prop
HasSayable-prop (Number n) = le_prop
HasSayable-prop (Face n) = Unit-prop
HasSayable-prop (Digits n) = Unit-prop

pub AreSayable-prop : (winners : Winning) → IsProp (AreSayable winners)
AreSayable-prop winners = Π_prop λ k. Π_prop λ d. Π_prop λ below. HasSayable-prop _

-- ---- the code's way to them: a mark at the place of each property that has a winner

-- whether a property of this place has a winner
abbrev pub has : Winning → (place : ℕ) → Bool
has winners place = list_any (λ pair. nat_eq (place_of pair.0) place) winners

abbrev pub AreMarked : (marks : List Bool) → Winning → Type 0
AreMarked marks winners = (place : ℕ) → get_or marks place false ≡ has winners place
