-- Rules under an id or a class of their last compound, or one of a compound to its left, or else under a type.
use Rattle.std.specs.Prelude.{◌≡◌, ℕ, ◌<◌, nat_eq, Bool, true, List, [], ◌∷◌, ◌++◌, map, reverse, get_or, Option, Some, None, slice_get}
use Rattle.std.specs.List.{Contains, list_any}
use Rattle.html_tokens.specs.Tag.{name_of}
use Rattle.css_types.specs.declared.rule.Rule.{Rule}
use Rattle.css_types.specs.Rule.{Compound, ruling_of, selector_of}
use Rattle.dom_store.specs.State.{What, element, text}
use Rattle.cascade.specs.declared.claim.Claim.{Claim}
use Rattle.cascade.specs.declared.claim.Origin.{Origin}
use Rattle.cascade.specs.declared.shelves.Shelves.{Shelves}
use Rattle.cascade.specs.Claims.{claims_of_rule}
use Rattle.cascade.specs.Places.{places_under}

-- what an element must have to be matched, or nothing
pub data Heading : Type 0 where
  of_id : (id : List ℕ) → Heading
  of_class : (class : List ℕ) → Heading
  of_type : (name : List ℕ) → Heading
  of_any : Heading
  -- these an element above it must have
  of_upper_id : (id : List ℕ) → Heading
  of_upper_class : (class : List ℕ) → Heading

-- ---- the heading of a rule: an id of its last compound, or else a class, or else an id or a class of the nearest
-- compound to its left that has one, or else its type

abbrev pub by_type : Option (List ℕ) → Heading
by_type None = of_any
by_type (Some name) = of_type name

-- the first of these names, or what counts where there is none
abbrev pub by_first : (of : List ℕ → Heading) → (names : List (List ℕ)) → Heading → Heading
by_first of [] other = other
by_first of (name ∷ names) other = of name

-- compounds are listed from right to left
unfoldable pub heading_above : (left : List Compound) → Heading → Heading
heading_above [] other = other
heading_above (compound ∷ left) other = by_first of_upper_id compound.ids (by_first of_upper_class compound.classes (heading_above left other))

abbrev pub heading_from_right : List Compound → Heading
heading_from_right [] = of_any
heading_from_right (compound ∷ left) = by_first of_id compound.ids (by_first of_class compound.classes (heading_above left (by_type compound.tag)))

abbrev pub heading : (selector : List Compound) → Heading
heading selector = heading_from_right (reverse selector)

-- ---- the headings under which an element is looked for

abbrev pub headings_of_id : (of : List ℕ → Heading) → Option (List ℕ) → List Heading
headings_of_id of None = []
headings_of_id of (Some id) = of id ∷ []

abbrev pub headings_of : What → List Heading
headings_of (text letters) = []
headings_of (element tag id classes dir own) = of_type (name_of tag) ∷ (headings_of_id of_id id ++ map of_class classes)

-- those under which what stands below an element is looked for
abbrev pub upper_headings_of : What → List Heading
upper_headings_of (text letters) = []
upper_headings_of (element tag id classes dir own) = headings_of_id of_upper_id id ++ map of_upper_class classes

unfoldable pub upper_headings : (above : List What) → List Heading
upper_headings [] = []
upper_headings (what ∷ above) = upper_headings_of what ++ upper_headings above

-- those of the first of a line
abbrev pub headings : (line : List What) → List Heading
headings [] = of_any ∷ []
headings (what ∷ above) = of_any ∷ (headings_of what ++ upper_headings above)

-- ---- places

abbrev pub shelf : Shelves → Heading → List ℕ
shelf shelves (of_id id) = places_under shelves.by_id id
shelf shelves (of_class class) = places_under shelves.by_class class
shelf shelves (of_type name) = places_under shelves.by_type name
shelf shelves of_any = shelves.others.items
shelf shelves (of_upper_id id) = places_under shelves.by_upper_id id
shelf shelves (of_upper_class class) = places_under shelves.by_upper_class class

-- a place is put under a heading, and all others stay
pub record IsPut (old new : Shelves) (under : Heading) (place : ℕ) : Type 0 where
  pub placed : Contains (shelf new under) place
  pub kept : (other : Heading) (p : ℕ) → Contains (shelf old other) p → Contains (shelf new other) p

-- the place of each of the first rules stands under its heading
pub record AreShelved (shelves : Shelves) (rules : List Rule) (count : ℕ) : Type 0 where
  pub each : (place : ℕ) (d : Rule) → place < count → list_any (nat_eq place) (shelf shelves (heading (selector_of (get_or rules place d).selector))) ≡ true

-- ---- claims

abbrev pub claims_if : (origin : Bool → Origin) → (place : ℕ) → Option Rule → (line : List What) → List Claim
claims_if origin place None line = []
claims_if origin place (Some rule) line = claims_of_rule origin place (ruling_of rule) line

-- the declarations of the rules at these places, where they match
unfoldable pub claims_at : (origin : Bool → Origin) → List Rule → (places : List ℕ) → (line : List What) → List Claim
claims_at origin rules [] line = []
claims_at origin rules (place ∷ places) line = claims_if origin place (slice_get rules place) line ++ claims_at origin rules places line

-- those under these headings
unfoldable pub claims_under : (origin : Bool → Origin) → List Rule → Shelves → List Heading → (line : List What) → List Claim
claims_under origin rules shelves [] line = []
claims_under origin rules shelves (under ∷ others) line = claims_at origin rules (shelf shelves under) line ++ claims_under origin rules shelves others line
