use Rattle.std.proofs.Common.{◌∙◌, arith}
use Rattle.std.specs.Ordering.{nat_cmp}
use Rattle.std.specs.BTreeMap as keyed
use Rattle.slab.specs.Slab as slots
use Rattle.dom_store.proofs.CountLaws.{count_next, keyed_next}
use Rattle.dom_store.proofs.document.Document.set_next.Goals as goal

pub invariant_of-self : goal.invariant_of-self
invariant_of-self c =
    let old = c.args.self.now in
    record {
      sound = keyed_next (keyed.get nat_cmp old.keys) (slots.get old.nodes) old.next old.sound c.args.next c.requires;
      fits = omega (arith, c.ranges.next.fits);
      counted = old.counted ∙ count_next (keyed.get nat_cmp old.keys) (slots.get old.nodes) old.next old.sound c.args.next c.requires;
    }
