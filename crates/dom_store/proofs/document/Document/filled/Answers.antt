use Rattle.std.proofs.Common.{◌≡◌, ◌∙◌, ◌+◌, length, ap, sym, drop, arith}
use Rattle.std.proofs.lemmas.List.{length-map, length-drop}
use Rattle.html_read.specs.Values.{node_of, nodes_of}
use Rattle.dom_store.specs.State.{entry_of, state_of}
use Rattle.dom_store.proofs.FillLaws.{entry_here, filled_more, filled_whole}
use Rattle.dom_store.proofs.Places.{begins_at, parent_fits}
use Rattle.dom_store.proofs.document.Document.filled.Goals as goal

pub node_of-requires : goal.node_of-requires
node_of-requires c =
    let at = begins_at c.args.lists.items c.loop-children.document.next c.in-Some.children c.next.new.self.rest.items (sym c.in-Some.ensures.steps.0 ∙ c.loop-children.invariant.rest) in
    parent_fits c.args.nodes.now c.loop-children.document.next c.index-nodes-place.result c.requires.follow (omega arith) c.requires.few c.index-nodes-place.is

pub loop-children-preserved : goal.loop-children-preserved
loop-children-preserved c =
    let place = c.loop-children.document.next in
    let at = begins_at c.args.lists.items place c.in-Some.children c.next.new.self.rest.items (sym c.in-Some.ensures.steps.0 ∙ c.loop-children.invariant.rest) in
    let next : c.add.new.self.next ≡ place + 1 = c.in_ok-add.ensures.adds.next in
    let here = entry_here c.args.nodes.now c.args.styles.now c.args.lists.items place c.index-nodes-place.result c.index-styles-place.result c.in-Some.children (omega arith) c.index-nodes-place.is
    (omega arith) c.index-styles-place.is at.within at.is c.requires.lists in
    let entry = c.in_ok-node.ensures in
    let declared = c.deref.ensures.value in
    record {
      within = omega arith;
      rest = rw next at.rest;
      filled = filled_more _ (state_of c.loop-children.document) (state_of c.add.new.self) (entry_of c.in_ok-node.node) c.loop-children.invariant.filled c.in_ok-add.ensures.adds (cc);
    }

pub returns : goal.returns
returns c =
    let all : length c.loop-children.children-iterator.rest.items ≡ length (drop c.loop-children.document.next c.args.lists.items) = ap length c.loop-children.invariant.rest in
    filled_whole (nodes_of c.args.nodes.now) _ (state_of c.loop-children.document) c.loop-children.invariant.filled
    (omega (arith, c.in-None.ensures.steps.0, c.loop-children.children-iterator.rest.ok.0, length-map c.args.nodes.now node_of, length-drop c.loop-children.document.next c.args.lists.items))
