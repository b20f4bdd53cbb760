-- What is read has numbers that a style sheet can say.
use Rattle.std.specs.Prelude.{List, [], ◌∷◌, map}
use Rattle.std.specs.List.{All}
use Rattle.std.proofs.lemmas.List.Elements.{All-cons, All-head, All-nil, All-tail, All-weaker}
use Rattle.css_types.specs.declared.value.Declaration.{Declaration}
use Rattle.css_types.specs.Value.{HasSayable}
use Rattle.css_values.specs.Answered.{IsKept}
use Rattle.css_sheet.specs.Answered.{IsRuled}
use Rattle.dom_store.specs.State.{AreSaid}
use Rattle.cascade.specs.Said.{OwnAreSaid, RulesAreSaid}

said_of : (own : List Declaration) → All IsKept own → AreSaid own
said_of own kept = All-weaker IsKept (λ d. HasSayable d.value) (λ d is. is.1) own kept

pub rules_are_said : RulesAreSaid
rules_are_said rules ruled = All-weaker IsRuled (λ rule. AreSaid rule.declarations) (λ rule is. said_of rule.declarations is.1) rules ruled

pub own_are_said : OwnAreSaid
own_are_said [] kept = All-nil (λ own. AreSaid own.items)
own_are_said (own ∷ others) kept =
    All-cons (λ one. AreSaid one.items) own others (said_of own.items (All-head (λ one. All IsKept one) own.items (map (λ one. one.items) others) kept))
    (own_are_said others (All-tail (λ one. All IsKept one) own.items (map (λ one. one.items) others) kept))
