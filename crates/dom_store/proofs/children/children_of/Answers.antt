use Rattle.std.proofs.Common.{◌∙◌, sym, arith}
use Rattle.html_read.specs.Values.{node_of, nodes_of}
use Rattle.dom_store.proofs.ChildLaws.{children_up_to, no_children}
use Rattle.dom_store.proofs.Places.{parent_known, read_at}
use Rattle.dom_store.proofs.children.children_of.Goals as goal

pub loop-place-init : goal.loop-place-init
loop-place-init c = record {
  count = c.in_ok-lists.ensures.count;
  lists = λ place. c.in_ok-lists.ensures.empty place ∙ sym (no_children c.args.first place);
}

pub add_child-requires : goal.add_child-requires
add_child-requires c = parent_known c.args.nodes.now c.loop-place.place _ c.index-nodes-place.result c.requires.follow c.loop-place-test.true (omega arith)

pub loop-place-preserved : goal.loop-place-preserved
loop-place-preserved c =
    let nodes = nodes_of c.args.nodes.now in
    let here = read_at c.args.nodes.now c.loop-place.place c.index-nodes-place.result c.loop-place-test.true c.index-nodes-place.is in
    record {
      count = c.in_ok-add_child.ensures.count ∙ c.loop-place.invariant.count;
      lists = λ place.
          let put = c.in_ok-add_child.ensures.put place in
          let before = c.loop-place.invariant.lists place in
          let more = children_up_to nodes c.args.first c.loop-place.place place (node_of c.index-nodes-place.result) here in
          let is = c.index-nodes-place.is in
          cc;
    }
