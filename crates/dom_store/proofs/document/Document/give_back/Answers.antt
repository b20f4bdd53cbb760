use Rattle.std.proofs.Common.{arith}
use Rattle.std.specs.Ordering.{nat_cmp}
use Rattle.std.specs.BTreeMap as keyed
use Rattle.slab.specs.Slab as slots
use Rattle.dom_store.specs.State.{state_of}
use Rattle.dom_store.proofs.CountLaws.{none_past}
use Rattle.dom_store.proofs.InsertLaws.{all_gone, gone_back, none_goes, one_goes}
use Rattle.dom_store.proofs.document.Document.give_back.Goals as goal

pub loop-n-init : goal.loop-n-init
loop-n-init c = none_goes (state_of c.args.self.now) c.args.first

pub loop-n-preserved : goal.loop-n-preserved
loop-n-preserved c = one_goes (state_of c.args.self.now) (state_of c.loop-n.self) (state_of c.take_out.new.self) c.args.first c.loop-n.n c.loop-n.auto.n c.loop-n.invariant c.take_out.ensures

pub set_next-requires : goal.set_next-requires
set_next-requires c =
    let mid = c.loop-n.self in
    all_gone (state_of c.args.self.now) (state_of mid) c.args.first c.loop-n.n c.loop-n.invariant (omega (arith, c.loop-n.invariant.next, c.loop-n-test.false))
    (none_past (keyed.get nat_cmp mid.keys) (slots.get mid.nodes) mid.next mid.sound)

pub returns-clause-filled : goal.returns-clause-filled
returns-clause-filled c =
    let mid = c.loop-n.self in
    gone_back (state_of c.args.self.now) (state_of mid) (state_of c.set_next.new.self) c.args.first c.loop-n.n c.loop-n.invariant (omega (arith, c.loop-n.invariant.next, c.loop-n-test.false))
    (none_past (keyed.get nat_cmp mid.keys) (slots.get mid.nodes) mid.next mid.sound) c.set_next.ensures
