use Rattle.std.proofs.Common.{sym}
use Rattle.std.specs.Ordering.{nat_cmp}
use Rattle.std.specs.BTreeMap as keyed
use Rattle.dom_store.proofs.CountLaws.{counted_less}
use Rattle.dom_store.proofs.TakeLaws.{keyed_without, taken_out, takes_key}
use Rattle.dom_store.proofs.document.Document.take_out.Goals as goal

pub invariant_of-self : goal.invariant_of-self
invariant_of-self c =
    let old = c.args.self.now in
    let updates = c.in-Some.ensures.updates in
    let takes = takes_key old.nodes c.remove-in-Some.new.self old.keys c.remove.new.self c.args.n c.in-Some.key (sym c.in-Some.ensures.value) updates.1 updates.2 c.remove-in-Some.ensures.updates in
    record {
      sound = keyed_without _ _ _ _ old.next c.args.n c.in-Some.key old.sound takes;
      fits = old.fits;
      counted = counted_less (keyed.get nat_cmp old.keys) (keyed.get nat_cmp c.remove.new.self) c.args.n c.in-Some.key old.next _ _
          c.in-Some.ensures.len old.counted (old.sound.below c.args.n c.in-Some.key takes.here) takes.here takes.gone takes.others;
    }

pub returns-in-Some : goal.returns-in-Some
returns-in-Some c =
    let updates = c.in-Some.ensures.updates in
    let takes = takes_key c.args.self.now.nodes c.remove-in-Some.new.self c.args.self.now.keys c.remove.new.self c.args.n c.in-Some.key (sym c.in-Some.ensures.value) updates.1 updates.2 c.remove-in-Some.ensures.updates in
    taken_out _ _ _ _ c.args.self.now.next c.args.n c.in-Some.key c.args.self.now.sound takes
