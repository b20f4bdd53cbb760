use Rattle.std.proofs.Common.{◌≡◌, ◌∙◌, ℕ, List, ap, arith, refl, subst, sym}
use Rattle.std.specs.Ordering.{nat_cmp}
use Rattle.std.specs.BTreeMap as keyed
use Rattle.slab.specs.Slab as slots
use Rattle.dom_store.specs.Building.{Adds}
use Rattle.dom_store.specs.State.{State, entry_of, state_of}
use Rattle.dom_store.proofs.CopyLaws.{IsCopied, all_copied, its_key, low, none_copied, none_high, none_up, one_copied}
use Rattle.dom_store.proofs.document.Document.copy.Goals as goal

pub loop-number-init : goal.loop-number-init
loop-number-init c =
    let old = c.args.self.now in
    let gives = c.into_iter-number-iterator.ensures.into_iter_gives in
    subst (λ (l : List (ℕ × ℕ)). IsCopied (keyed.get nat_cmp old.keys) (state_of old) l (state_of c.empty-copy.result)) (sym gives.0)
    (none_copied (keyed.get nat_cmp old.keys) (slots.get old.nodes) old.next old.sound old.keys.entries (state_of c.empty-copy.result) c.empty-copy.ensures.next c.empty-copy.ensures.none (λ number. refl) gives.5)

pub index-requires : goal.index-requires
index-requires c =
    let old = c.args.self.now in
    let number = c.in-Some.number.now in
    let key = c.in-Some.key.now in
    old.sound.live number key (its_key (keyed.get nat_cmp old.keys) (slots.get old.nodes) old.next old.sound number key c.next.new.self c.loop-number.number-iterator (state_of c.loop-number.copy) c.in-Some.ensures.steps c.loop-number.invariant)

pub set_next-requires : goal.set_next-requires
set_next-requires c =
    let old = c.args.self.now in
    none_up (keyed.get nat_cmp old.keys) (slots.get old.nodes) old.next old.sound c.in-Some.number.now c.in-Some.key.now c.next.new.self c.loop-number.number-iterator (state_of c.loop-number.copy) c.in-Some.ensures.steps c.loop-number.invariant

pub add-requires : goal.add-requires
add-requires c =
    let old = c.args.self.now in
    let below = low (keyed.get nat_cmp old.keys) (slots.get old.nodes) old.next old.sound c.in-Some.number.now c.in-Some.key.now c.next.new.self c.loop-number.number-iterator (state_of c.loop-number.copy) c.in-Some.ensures.steps c.loop-number.invariant in
    let next : c.set_next.new.self.next ≡ c.in-Some.number.now = ap (λ (s : State). s.next) c.set_next.ensures in
    omega (arith, old.fits, below, next)

pub loop-number-preserved : goal.loop-number-preserved
loop-number-preserved c =
    let old = c.args.self.now in
    one_copied (keyed.get nat_cmp old.keys) (slots.get old.nodes) old.next old.sound c.in-Some.number.now c.in-Some.key.now c.next.new.self c.loop-number.number-iterator (state_of c.loop-number.copy) c.in-Some.ensures.steps c.loop-number.invariant
    c.index.result.now (entry_of c.in_ok-node.node) (state_of c.add.new.self) c.index.ensures c.in_ok-node.ensures
    (subst (λ (s : State). Adds s (state_of c.add.new.self) (entry_of c.in_ok-node.node)) c.set_next.ensures c.in_ok-add.ensures.adds)

pub set_next-requires-2 : goal.set_next-requires-2
set_next-requires-2 c =
    let old = c.args.self.now in
    none_high (keyed.get nat_cmp old.keys) (slots.get old.nodes) old.next old.sound c.loop-number.number-iterator (state_of c.loop-number.copy) c.loop-number.invariant

pub returns : goal.returns
returns c =
    let old = c.args.self.now in
    c.set_next-2.ensures ∙ all_copied (keyed.get nat_cmp old.keys) (slots.get old.nodes) old.next old.sound c.loop-number.number-iterator (state_of c.loop-number.copy) c.in-None.ensures.steps.0 c.loop-number.invariant
