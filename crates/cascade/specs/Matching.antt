-- Which elements a selector matches. Selectors 3, 4 to 8.
use Rattle.std.specs.Prelude.{ℕ, Bool, true, false, ◌||◌, ◌&&◌, bytes_eq, List, [], ◌∷◌, reverse, Option, Some, None}
use Rattle.html_tokens.specs.declared.tag.Tag.{Tag}
use Rattle.html_tokens.specs.Tag.{name_of}
use Rattle.css_types.specs.declared.rule.Joint.{Joint}
use Rattle.css_types.specs.declared.rule.Joint.TheVariants.{Child, Descendant}
use Rattle.css_types.specs.Rule.{Compound}
use Rattle.dom_store.specs.State.{What, element, text}

-- ---- a compound selector and one element

-- this holds of some of them, of each of them
unfoldable pub some : {T : Type 0} → (T → Bool) → List T → Bool
some holds [] = false
some holds (x ∷ others) = holds x || some holds others

unfoldable pub each : {T : Type 0} → (T → Bool) → List T → Bool
each holds [] = true
each holds (x ∷ others) = holds x && each holds others

-- the type is any, or the element's
abbrev pub fits_type : Option (List ℕ) → Tag → Bool
fits_type None tag = true
fits_type (Some name) tag = bytes_eq name (name_of tag)

abbrev pub has_class : (classes : List (List ℕ)) → (class : List ℕ) → Bool
has_class classes class = some (bytes_eq class) classes

abbrev pub has_id : (own : Option (List ℕ)) → (id : List ℕ) → Bool
has_id None id = false
has_id (Some own) id = bytes_eq id own

-- the element has the type, all the classes and all the ids
abbrev pub fits : Compound → What → Bool
fits compound (element tag id classes dir own) = fits_type compound.tag tag && (each (has_class classes) compound.classes && each (has_id id) compound.ids)
fits compound (text letters) = false

-- ---- a selector and the line of an element: the element, its parent, and so on up to `html`

-- what is left of a line behind none, one, two, .. of its elements
unfoldable pub tails : {T : Type 0} → List T → List (List T)
tails [] = [] ∷ []
tails (x ∷ others) = (x ∷ others) ∷ tails others

-- the compounds to the left match from the parent on, or from some ancestor on
abbrev pub joined : Joint → (List What → Bool) → (above : List What) → Bool
joined Child left above = left above
joined Descendant left above = some left (tails above)

-- compounds from right to left match where the line begins
unfoldable pub matches_from : List Compound → (line : List What) → Bool
matches_from [] line = true
matches_from (compound ∷ left) [] = false
matches_from (compound ∷ left) (what ∷ above) = fits compound what && joined compound.joint (matches_from left) above

-- a selector, its compounds from left to right, matches the first of the line
abbrev pub matches : (selector : List Compound) → (line : List What) → Bool
matches selector line = matches_from (reverse selector) line
