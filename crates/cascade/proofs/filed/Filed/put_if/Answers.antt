use Rattle.std.proofs.Common.{List, ◌∙◌, ap}
use Rattle.std.specs.Prelude.{slice_get}
use Rattle.css_types.specs.declared.rule.Rule.{Rule}
use Rattle.cascade.specs.Line.{whats_of}
use Rattle.cascade.specs.Sheet.{origin_in}
use Rattle.cascade.proofs.Filing.{none_there, nothing_at}
use Rattle.cascade.proofs.filed.Filed.put_if.Goals as goal

pub returns-in_default : goal.returns-in_default
returns-in_default c = none_there c.args.all.now.items (origin_in c.args.sheet) c.args.place _ (whats_of c.args.line.nodes.now)
    (nothing_at c.deref.result.now c.args.place c.in_default.ensures.lookup.3 ∙ ap (λ (rules : List Rule). slice_get rules c.args.place) c.deref.ensures.value)
