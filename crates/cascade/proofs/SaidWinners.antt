-- What is said of the winners of a node.
use Rattle.std.proofs.Common.{◌≡◌, ℕ, List, sym, subst}
use Rattle.cascade.proofs.SaidClaims.{line_said}
use Rattle.css_types.specs.declared.property.Property.{Property}
use Rattle.style_types.specs.declared.style.Style.{Style}
use Rattle.css_types.specs.declared.value.Value.{Value}
use Rattle.css_types.specs.Rule.{Ruling}
use Rattle.dom_store.specs.State.{State, IsSaidState, line}
use Rattle.cascade.specs.Winners.{winners, AreSaidRules, AreSaidWinners}
use Rattle.cascade.proofs.SameClaims.{winners_are_said}

pub said_at : (rules : List Ruling) (state : State) (node : ℕ) (parent : Style) (found : List (Property × Value)) → found ≡ winners rules (line state node) parent
    → AreSaidRules rules → IsSaidState state → AreSaidWinners found
said_at rules state node parent found is said all = subst AreSaidWinners (sym is) (winners_are_said rules (line state node) parent said (line_said state node all))
