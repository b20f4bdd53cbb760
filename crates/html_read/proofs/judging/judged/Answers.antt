use Rattle.std.proofs.lemmas.Result.{err_from_is_err_and}
use Rattle.std.specs.Vec.Iter.{into_iter_items, into_iter_len}
use Rattle.html_read.specs.Values.{acting_of}
use Rattle.html_read.proofs.Judges.{judging_goes_on, judging_stops}
use Rattle.html_read.proofs.judging.judged.Goals as goal

pub loop-attribute-preserved : goal.loop-attribute-preserved
loop-attribute-preserved c =
    judging_goes_on c.args.size c.args.attributes.items (into_iter_items c.loop-attribute.attribute-iterator) (into_iter_items c.next.new.self) c.in-Some.attribute
    (into_iter_len c.loop-attribute.attribute-iterator) (into_iter_len c.next.new.self) c.loop-attribute.seen c.is_new.new.seen (acting_of c.loop-attribute.said)
    (acting_of c.with_attribute.new.said) c.in_ok-is_new.field-0 c.loop-attribute.invariant c.in-Some.ensures.steps.0 c.in-Some.ensures.steps.1 c.in_ok-is_new.ensures c.if-not-branch.false
    c.in_ok-with_attribute.ensures

pub returns-in_err-with_attribute : goal.returns-in_err-with_attribute
returns-in_err-with_attribute c =
    let p = err_from_is_err_and c.from_residual-in_err-with_attribute.result c.from_residual-in_err-with_attribute.ensures.1 in
    rw (p.1, p.2) (judging_stops c.args.size c.args.attributes.items (into_iter_items c.loop-attribute.attribute-iterator) (into_iter_items c.next.new.self) c.in-Some.attribute
    (into_iter_len c.loop-attribute.attribute-iterator) c.loop-attribute.seen c.is_new.new.seen (acting_of c.loop-attribute.said) c.in_ok-is_new.field-0 c.in_err-with_attribute.field-0.0
    c.loop-attribute.invariant c.in-Some.ensures.steps.0 c.in_ok-is_new.ensures c.if-not-branch.false c.in_err-with_attribute.ensures)
