use Rattle.std.proofs.Common.{subst}
use Rattle.cascade.specs.Filing.{Heading, IsPut, of_id, of_class}
use Rattle.cascade.proofs.Shelving.{heading_by_id, heading_by_class, heading_by_other, put_by_id, put_by_class}
use Rattle.cascade.proofs.shelves.Shelves.put_by.Goals as goal

pub returns-in_ok-put : goal.returns-in_ok-put
returns-in_ok-put c =
    subst (λ (h : Heading). IsPut c.args.self.now (record c.args.self.now { by_id = c.put.new.self }) h c.args.place)
    (heading_by_id of_id of_class c.args.last.now _ c.deref.result.now c.in-Some.id.now c.deref-in-Some.result.now c.deref.ensures.value c.in-Some.ensures.value c.deref-in-Some.ensures)
    (put_by_id c.args.self.now c.put.new.self c.deref-in-Some.result.now c.args.place c.in_ok-put.ensures)

pub returns-in_ok-put-2 : goal.returns-in_ok-put-2
returns-in_ok-put-2 c =
    subst (λ (h : Heading). IsPut c.args.self.now (record c.args.self.now { by_class = c.put-in-Some-first.new.self }) h c.args.place)
    (heading_by_class of_id of_class c.args.last.now _ c.deref.result.now c.deref-in_default.result.now c.in-Some-first.class.now c.deref-in-Some-first.result.now c.deref.ensures.value c.in_default.ensures.value
    c.deref-in_default.ensures.value c.in-Some-first.ensures.value c.deref-in-Some-first.ensures)
    (put_by_class c.args.self.now c.put-in-Some-first.new.self c.deref-in-Some-first.result.now c.args.place c.in_ok-put-2.ensures)

pub returns-in_ok-put_by_left : goal.returns-in_ok-put_by_left
returns-in_ok-put_by_left c =
    subst (λ (h : Heading). IsPut c.args.self.now c.put_by_left.new.self h c.args.place)
    (heading_by_other of_id of_class c.args.last.now _ c.deref.result.now c.deref-in_default.result.now c.deref.ensures.value c.in_default.ensures.value c.deref-in_default.ensures.value c.in_default-first.ensures.value)
    c.in_ok-put_by_left.ensures
