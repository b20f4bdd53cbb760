use Rattle.std.proofs.Common.{◌∙◌, ap}
use Rattle.std.specs.Ordering.{nat_cmp}
use Rattle.std.specs.BTreeMap as keyed
use Rattle.slab.specs.Slab as slots
use Rattle.slab.specs.Slab.{Slab}
use Rattle.dom_store.specs.declared.node.Node.{Node}
use Rattle.dom_store.proofs.AddLaws.{gives_key, keyed_after, put_after}
use Rattle.dom_store.proofs.CountLaws.{counted_more, no_key}
use Rattle.dom_store.proofs.document.Document.put.Goals as goal

pub invariant_of-self-2 : goal.invariant_of-self-2
invariant_of-self-2 c =
    let old = c.args.self.now in
    let kept = ap (λ (s : Slab Node). s.slots) c.in_ok-reserve.ensures.rest_kept in
    let updates = c.in_ok-insert.ensures.updates in
    let put = c.insert_reserved.ensures in
    let free = no_key (keyed.get nat_cmp old.keys) (slots.get old.nodes) old.next old.sound c.args.number c.requires.free in
    let gives = gives_key old.nodes c.reserve.new.self c.insert_reserved.new.self old.keys c.insert.new.self c.args.number c.vacant_key-key.result
    c.insert_reserved.result c.args.node kept c.vacant_key-key.ensures.value put.key updates.1 updates.2 put.was_vacant put.updates in
    record {
      sound = keyed_after _ _ _ _ old.next c.args.number c.insert_reserved.result c.args.node old.sound gives c.requires.drawn;
      fits = old.fits;
      counted = counted_more (keyed.get nat_cmp old.keys) (keyed.get nat_cmp c.insert.new.self) c.args.number _ old.next _ _ _ (c.in_ok-insert.ensures.old ∙ free)
          c.in_ok-insert.ensures.len old.counted c.requires.drawn free gives.here gives.others;
    }

pub returns-clause-put : goal.returns-clause-put
returns-clause-put c =
    let old = c.args.self.now in
    let kept = ap (λ (s : Slab Node). s.slots) c.in_ok-reserve.ensures.rest_kept in
    let updates = c.in_ok-insert.ensures.updates in
    let put = c.insert_reserved.ensures in
    let gives = gives_key old.nodes c.reserve.new.self c.insert_reserved.new.self old.keys c.insert.new.self c.args.number c.vacant_key-key.result
    c.insert_reserved.result c.args.node kept c.vacant_key-key.ensures.value put.key updates.1 updates.2 put.was_vacant put.updates in
    put_after _ _ _ _ old.next c.args.number c.insert_reserved.result c.args.node old.sound gives
