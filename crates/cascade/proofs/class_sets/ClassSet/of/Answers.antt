use Rattle.std.proofs.Common.{true, ◌∙◌, arith}
use Rattle.std.specs.String.{string_bytes}
use Rattle.std.proofs.lemmas.Map.Text.{btree_set_updates_text}
use Rattle.cascade.proofs.Sets.{one_more, none_more}
use Rattle.cascade.proofs.class_sets.ClassSet.of.Goals as goal

pub loop-class-preserved : goal.loop-class-preserved
loop-class-preserved c = λ class.
    let key = string_bytes c.in_ok-from_str.field-0 in
    one_more c.loop-class.all c.insert.new.self c.args.classes.now c.loop-class.class-index c.class-item.result key class _ (omega arith) c.class-item.is (c.in_ok-from_str.ensures.ok ∙ c.deref.ensures)
    (btree_set_updates_text key c.loop-class.all c.insert.new.self true c.in_ok-insert.ensures.updates class) (c.loop-class.invariant class)

pub returns : goal.returns
returns c = λ class. none_more c.loop-class.all c.args.classes.now c.loop-class.class-index class _ (omega arith) (c.loop-class.invariant class)
