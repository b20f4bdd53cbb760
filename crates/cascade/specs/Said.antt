-- What is read of a style sheet, or of style attributes, has numbers that one can say.
use Rattle.std.specs.Prelude.{List, map}
use Rattle.std.specs.Global.{Vec}
use Rattle.std.specs.List.{All}
use Rattle.css_types.specs.declared.value.Declaration.{Declaration}
use Rattle.css_types.specs.Rule.{Ruling}
use Rattle.css_values.specs.Answered.{IsKept}
use Rattle.css_sheet.specs.Answered.{IsRuled}
use Rattle.dom_store.specs.State.{AreSaid}
use Rattle.cascade.specs.Winners.{AreSaidRules}

abbrev pub RulesAreSaid : Type 0
RulesAreSaid = (rules : List Ruling) → All IsRuled rules → AreSaidRules rules

abbrev pub OwnAreSaid : Type 0
OwnAreSaid = (all : List (Vec Declaration)) → All (λ own. All IsKept own) (map (λ own. own.items) all) → All (λ own. AreSaid own.items) all
