use Rattle.std.proofs.Common.{◌≡◌, ◌∙◌, ◌+◌, ap, sym, arith}
use Rattle.std.proofs.lemmas.Result.{on_ok_weaker}
use Rattle.std.specs.Ordering.{nat_cmp}
use Rattle.std.specs.BTreeMap as keyed
use Rattle.slab.specs.Slab as slots
use Rattle.dom_store.specs.Exactly.{with_node}
use Rattle.dom_store.specs.State.{State, entry_of, state_of}
use Rattle.dom_store.proofs.AddLaws.{adds_put, when_err}
use Rattle.dom_store.proofs.CountLaws.{none_past}
use Rattle.dom_store.proofs.document.Document.add.Goals as goal

pub set_next-requires : goal.set_next-requires
set_next-requires c =
    let old = c.args.self.now in
    λ number past. none_past (keyed.get nat_cmp old.keys) (slots.get old.nodes) old.next old.sound number (omega (arith, past))

pub put-put-requires-clause-drawn : goal.put-put-requires-clause-drawn
put-put-requires-clause-drawn c =
    let next : c.set_next.new.self.next ≡ c.args.self.now.next + 1 = ap (λ (s : State). s.next) c.set_next.ensures in
    omega (arith, next)

pub put-put-requires-clause-free : goal.put-put-requires-clause-free
put-put-requires-clause-free c =
    let old = c.args.self.now in
    ap (λ (s : State). s.node_at old.next) c.set_next.ensures ∙ none_past (keyed.get nat_cmp old.keys) (slots.get old.nodes) old.next old.sound old.next (omega arith)

pub set_next-requires-then-is_err : goal.set_next-requires-then-is_err
set_next-requires-then-is_err c =
    let old = c.args.self.now in
    let same = when_err (state_of c.put-put.new.self ≡ state_of c.set_next.new.self) c.put-put.result (sym c.is_err.ensures.value ∙ c.if-is_err.true) c.put-put.ensures.same in
    λ number past. ap (λ (s : State). s.node_at number) (same ∙ c.set_next.ensures) ∙ none_past (keyed.get nat_cmp old.keys) (slots.get old.nodes) old.next old.sound number past

pub returns-else-is_err-clause-adds : goal.returns-else-is_err-clause-adds
returns-else-is_err-clause-adds c =
    let old = state_of c.args.self.now in
    on_ok_weaker c.put-put.result (λ put.
    adds_put old (state_of c.put-put.new.self) (entry_of c.args.node) (put ∙ ap (with_node old.next (entry_of c.args.node)) c.set_next.ensures)) c.put-put.ensures.put
