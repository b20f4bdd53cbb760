use Rattle.std.proofs.Common.{◌∙◌, rules, sym, tests}
use Rattle.std.specs.Prelude.{not}
use Rattle.std.specs.List.{list_any}
use Rattle.std.proofs.lemmas.Iterator.Search.{all_from_yields_List}
use Rattle.std.proofs.lemmas.Iterator.{YieldsList-from_slice}
use Rattle.std.proofs.lemmas.List.Folds.{list_all-map}
use Rattle.css_types.specs.declared.rule.Rule.{Rule}
use Rattle.css_types.specs.Rule.{Ruling, ruling_of}
use Rattle.box_limits.specs.Rules.{turns}
use Rattle.box_limits.proofs.rules.turn_none.Goals as goal

pub returns : goal.returns
returns c =
    all_from_yields_List (λ (rule : Rule). not (list_any turns rule.declarations.value.items)) _ _ c.all.result c.all.ensures.ran (YieldsList-from_slice c.args.rules.now cc) (λ x b q k. search (rules, tests))
    ∙ sym (list_all-map (λ (rule : Ruling). not (list_any turns rule.declarations)) ruling_of c.args.rules.now)
