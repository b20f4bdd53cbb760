-- Rules and a document whose numbers are such as a style sheet can say: in one way at most, as a fact that a type carries
-- must hold.
use Rattle.std.specs.Coded.{Π_prop, Unit-prop}
use Rattle.std.specs.Prelude.{List}
use Rattle.css_types.specs.Rule.{Ruling}
use Rattle.css_types.specs.declared.value.Declaration.{Declaration}
use Rattle.dom_store.specs.State.{AreSaid, IsSaid, IsSaidState, State, What, element, text}
use Rattle.cascade.specs.Winners.{AreSaidRules}
use Rattle.computed.specs.Winners.{HasSayable-prop}

AreSaid-prop : (own : List Declaration) → IsProp (AreSaid own)
AreSaid-prop own = Π_prop λ k. Π_prop λ d. Π_prop λ below. HasSayable-prop _

IsSaid-prop : (what : What) → IsProp (IsSaid what)
IsSaid-prop (element tag id classes dir own) = AreSaid-prop own
IsSaid-prop (text letters) = Unit-prop

pub AreSaidRules-prop : (rules : List Ruling) → IsProp (AreSaidRules rules)
AreSaidRules-prop rules = Π_prop λ k. Π_prop λ d. Π_prop λ below. AreSaid-prop _

pub IsSaidState-prop : (state : State) → IsProp (IsSaidState state)
IsSaidState-prop state = Π_prop λ number. Π_prop λ entry. Π_prop λ at. IsSaid-prop _
