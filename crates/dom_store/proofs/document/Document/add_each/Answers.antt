use Rattle.std.proofs.Common.{ℕ, List, ◌<◌, ◌^◌, ◌≡◌, ◌∙◌, ◌+◌, IfSome, subst, ◌-◌, length, ap, sym, drop, arith}
use Rattle.std.specs.Ordering.{nat_cmp}
use Rattle.std.specs.BTreeMap as keyed
use Rattle.slab.specs.Slab as slots
use Rattle.std.proofs.lemmas.List.{length-map, length-drop}
use Rattle.html_read.specs.declared.node.ReadNode.{ReadNode}
use Rattle.html_read.specs.Values.{kind_of, node_of, nodes_of}
use Rattle.css_types.specs.declared.value.Declaration.{Declaration}
use Rattle.dom_store.specs.Building.{Grows}
use Rattle.dom_store.specs.Opening.{what_of}
use Rattle.dom_store.specs.State.{Entry, state_of}
use Rattle.dom_store.proofs.CountLaws.{none_past}
use Rattle.dom_store.proofs.FillLaws.{filled_more}
use Rattle.dom_store.proofs.InsertLaws.{added_here, all_added, grows, none_added, number_fits, on_err, stands_under}
use Rattle.dom_store.proofs.Places.{begins_at, parent_fits}
use Rattle.dom_store.proofs.document.Document.add_each.Goals as goal

pub loop-children-init : goal.loop-children-init
loop-children-init c =
    let old = c.args.self.now in
    let none : 0 ≡ old.next - old.next = omega arith in
    record {
      more = omega arith;
      within = omega arith;
      rest = c.into_iter-children-iterator.ensures.into_iter_gives.0 ∙ ap (λ (n : ℕ). drop n c.args.lists.items) none;
      filled = none_added (state_of old) c.args.parent (nodes_of c.args.nodes.now) _ c.requires.parent (none_past (keyed.get nat_cmp old.keys) (slots.get old.nodes) old.next old.sound);
    }

pub node_of-requires : goal.node_of-requires
node_of-requires c =
    let place = c.loop-children.self.next - c.args.self.now.next in
    let at = begins_at c.args.lists.items place c.in-Some.children c.next.new.self.rest.items (sym c.in-Some.ensures.steps.0 ∙ c.loop-children.invariant.rest) in
    parent_fits c.args.nodes.now place c.index-nodes-place.result c.requires.follow (omega arith) c.requires.few c.index-nodes-place.is

pub parent_under-requires : goal.parent_under-requires
parent_under-requires c =
    let place = c.loop-children.self.next - c.args.self.now.next in
    let at = begins_at c.args.lists.items place c.in-Some.children c.next.new.self.rest.items (sym c.in-Some.ensures.steps.0 ∙ c.loop-children.invariant.rest) in
    subst (λ (r : ReadNode). IfSome r.parent (λ p. c.args.self.now.next + p < 2 ^ 32)) (sym c.index-nodes-place.is) (number_fits c.args.nodes.now place c.args.self.now.next c.index-nodes-place.result c.requires.follow (omega arith) c.requires.room)

pub loop-children-preserved : goal.loop-children-preserved
loop-children-preserved c =
    let old = c.args.self.now in
    let place = c.loop-children.self.next - old.next in
    let at = begins_at c.args.lists.items place c.in-Some.children c.next.new.self.rest.items (sym c.in-Some.ensures.steps.0 ∙ c.loop-children.invariant.rest) in
    let next : c.add.new.self.next ≡ c.loop-children.self.next + 1 = c.in_ok-add.ensures.adds.next in
    let onward : place + 1 ≡ c.add.new.self.next - old.next = omega (arith, next, c.loop-children.invariant.more) in
    let here = added_here (state_of old) c.args.parent c.args.nodes.now c.args.styles.now c.args.lists.items place c.index-nodes-place.result c.index-styles-place.result c.in-Some.children c.requires.parent
    c.loop-children.self.next (omega (arith, c.loop-children.invariant.more)) (omega arith) c.index-nodes-place.is (omega arith) c.index-styles-place.is at.within at.is c.requires.lists in
    let made : List Declaration → Entry = λ own. record { parent = c.index-nodes-place.result.parent; children = c.in-Some.children.items; what = what_of (kind_of c.index-nodes-place.result.kind) own } in
    record {
      more = omega (arith, next, c.loop-children.invariant.more);
      within = omega (arith, next, at.within, c.loop-children.invariant.more);
      rest = at.rest ∙ ap (λ (n : ℕ). drop n c.args.lists.items) onward;
      filled = filled_more _ (state_of c.loop-children.self) (state_of c.add.new.self) _ c.loop-children.invariant.filled c.in_ok-add.ensures.adds (here ∙ stands_under c.in_ok-node.node (made c.index-styles-place.result.items) _ _ (c.in_ok-node.ensures ∙ ap made c.deref.ensures.value) (sym c.parent_under.ensures));
    }

pub returns-in_err-add-clause-grown : goal.returns-in_err-add-clause-grown
returns-in_err-add-clause-grown c =
    let old = state_of c.args.self.now in
    let grown = grows old c.args.parent (nodes_of c.args.nodes.now) _ c.requires.parent (state_of c.loop-children.self) c.loop-children.invariant.more c.loop-children.invariant.filled in
    on_err c.from_residual-in_err-add.result (subst (Grows old) (sym c.in_err-add.ensures.same) grown)

pub returns-clause-added : goal.returns-clause-added
returns-clause-added c =
    let old = state_of c.args.self.now in
    let all : length c.loop-children.children-iterator.rest.items ≡ length (drop (c.loop-children.self.next - c.args.self.now.next) c.args.lists.items) = ap length c.loop-children.invariant.rest in
    all_added old c.args.parent (nodes_of c.args.nodes.now) _ c.requires.parent (state_of c.loop-children.self)
    (omega (arith, c.in-None.ensures.steps.0, c.loop-children.children-iterator.rest.ok.0, length-map c.args.nodes.now node_of, length-drop (c.loop-children.self.next - c.args.self.now.next) c.args.lists.items, c.loop-children.invariant.more, c.loop-children.invariant.within))
    c.loop-children.invariant.filled
