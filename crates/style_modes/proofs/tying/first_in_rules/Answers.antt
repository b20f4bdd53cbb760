use Rattle.std.proofs.Common.{◌∙◌, List, ap}
use Rattle.css_types.specs.declared.value.Declaration.{Declaration}
use Rattle.style_modes.specs.Tying.{first_of, places_of}
use Rattle.style_modes.proofs.Firsts.{rule_step, rule_whole}
use Rattle.style_modes.proofs.tying.first_in_rules.Goals as goal

pub loop-rule-preserved : goal.loop-rule-preserved
loop-rule-preserved c =
    rule_step c.args.rules.now c.loop-rule.rule-index c.rule-item.result c.loop-rule.first c.earlier-first.result c.first_in.result _ c.loop-rule-test.true c.rule-item.is
    (c.first_in.ensures ∙ ap (λ (l : List Declaration). first_of (places_of l)) (c.deref-in-loop-rule.ensures.value ∙ ap (λ d. d.items) c.deref.ensures))
    c.earlier-first.ensures c.loop-rule.invariant

pub returns : goal.returns
returns c = rule_whole c.args.rules.now c.loop-rule.rule-index c.loop-rule.first _ c.loop-rule-test.false c.loop-rule.invariant
