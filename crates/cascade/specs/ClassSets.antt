-- The classes of the nodes of a line, made ready to be looked up where they are many.
use Rattle.std.specs.Prelude.{◌≡◌, ℕ, Bool, nat_eq, List, [], ◌∷◌, length, Option, Some, None, option_and_then, ⊤}
use Rattle.std.specs.BTreeSet.{contains_text}
use Rattle.std.specs.HashMap.{get}
use Rattle.std.specs.Borrow.{Bor}
use Rattle.dom_store.specs.declared.node.Node.{Node}
use Rattle.dom_store.specs.State.{What, element, text, what_of}
use Rattle.cascade.specs.declared.class_sets.ClassSet.{ClassSet}
use Rattle.cascade.specs.declared.class_sets.ClassSets.{ClassSets}
use Rattle.cascade.specs.Matching.{has_class}
use denote.Struct.Props.{props}
use mathlib.Core.HLevel.{×_prop}

abbrev pub is_in : ClassSet → (class : List ℕ) → Bool
is_in set class = contains_text set.all class

-- the set of the node that has so many above it, where there is one
abbrev pub set_at : ClassSets → (height : ℕ) → Option ClassSet
set_at sets height = option_and_then (λ all. get nat_eq all height) sets.at

-- a set has the classes of the node
abbrev pub AreClasses : Option ClassSet → What → Type 0
AreClasses None what = ⊤
AreClasses (Some set) (text letters) = ⊤
AreClasses (Some set) (element tag id classes dir own) = (class : List ℕ) → is_in set class ≡ has_class classes class

-- each set has the classes of its node
abbrev pub AreOf : ClassSets → List (Bor Node) → Type 0
AreOf sets [] = ⊤
AreOf sets (node ∷ above) = AreClasses (set_at sets (length above)) (what_of node.now.kind) × AreOf sets above

-- there is one way at most in which they are
pub AreClasses-prop : (set : Option ClassSet) (what : What) → IsProp (AreClasses set what)
AreClasses-prop None what = hlevel props
AreClasses-prop (Some set) (text letters) = hlevel props
AreClasses-prop (Some set) (element tag id classes dir own) = hlevel props

pub AreOf-prop : (sets : ClassSets) (line : List (Bor Node)) → IsProp (AreOf sets line)
AreOf-prop sets [] = hlevel props
AreOf-prop sets (node ∷ above) = ×_prop (AreClasses-prop (set_at sets (length above)) (what_of node.now.kind)) (AreOf-prop sets above)
