-- The search for a match that takes the nearest place for each chain of compounds joined by `>`. It finds one exactly
-- where there is one: what is left above the nearest place contains what is left above any other.
use Rattle.std.specs.Prelude.{Bool, true, false, List, [], ◌∷◌, Option, Some, None}
use Rattle.css_types.specs.declared.rule.Joint.{Joint}
use Rattle.css_types.specs.declared.rule.Joint.TheVariants.{Child, Descendant}
use Rattle.css_types.specs.Rule.{Compound}
use Rattle.dom_store.specs.State.{What}
use Rattle.cascade.specs.Matching.{fits}

-- what is left to match, compounds from right to left, and where
abbrev pub Left : Type 0
Left = List Compound × List What

abbrev pub if_fitting : Bool → Option Left → Option Left
if_fitting true left = left
if_fitting false left = None

-- behind a compound its chain goes on, or it ends here
abbrev pub behind : Joint → (List What → Option Left) → List Compound → (above : List What) → Option Left
behind Child goes_on left above = goes_on above
behind Descendant goes_on left above = Some (left, above)

-- what is left behind the first chain, where that matches from the first of the line on
unfoldable pub behind_chain : List Compound → (line : List What) → Option Left
behind_chain [] line = Some ([], line)
behind_chain (compound ∷ left) [] = None
behind_chain (compound ∷ left) (what ∷ above) = if_fitting (fits compound what) (behind compound.joint (behind_chain left) left above)

abbrev pub or_else : Option Left → Option Left → Option Left
or_else (Some left) other = Some left
or_else None other = other

-- the same, where it matches from the first place on where it does
unfoldable pub behind_nearest : List Compound → (line : List What) → Option Left
behind_nearest compounds [] = behind_chain compounds []
behind_nearest compounds (what ∷ above) = or_else (behind_chain compounds (what ∷ above)) (behind_nearest compounds above)
