use Rattle.std.proofs.Common.{◌∙◌, ◌-◌, arith}
use Rattle.dom_store.specs.State.{state_of, what_of}
use Rattle.cascade.specs.Index.{index_rules}
use Rattle.box_limits.proofs.Finding.{ends, node_found, none_goes_on, some_goes_on, used_up}
use Rattle.box_limits.proofs.judging.Judging.+node.Goals as goal
use Rattle.box_limits.proofs.judging.Judging.+node.Goals.{nodes-in-Some+in_ok-node, nodes-in_default}

pub node-returns : goal.node-returns
node-returns t c =
    node_found (index_rules c.args.self.now.styling.rules.now) (state_of c.args.self.now.styling.document.now) c.args.number (what_of c.args.node.now.kind) c.args.node.now.children.items c.args.depth c.args.place.now c.in_ok-style.style c.in_ok-style.ensures.style
    c.in_node-inside.result c.in_node-inside.ensures.value c.deref.result.now c.deref.ensures.value c.in_ok-below.below c.in_ok-below.ensures c.found_at-own.result c.and.result c.found_at-own.ensures c.and.ensures

pub nodes-returns-then-depth-eq0 : goal.nodes-returns-then-depth-eq0
nodes-returns-then-depth-eq0 t c = used_up _ _ c.args.place.now.site c.args.place.now.style c.args.numbers.now c.args.depth c.nothing-found.result c.nothing-found.ensures c.if-depth-eq0.true

pub nodes-loop-number-preserved : goal.nodes-loop-number-preserved
nodes-loop-number-preserved t c = elim c.match-node.branch [
  | nodes-in-Some+in_ok-node w ↦ some_goes_on _ _ c.args.place.now.site c.args.place.now.style c.args.numbers.now c.args.depth (c.args.depth - 1) c.loop-number.number-index _ _ c.loop-number.found _ c.match-node.found (omega (arith, c.if-depth-eq0.false)) c.loop-number-test.true w.in-Some.ensures w.in_ok-node.ensures (w.found-is ∙ w.and-found.ensures) c.loop-number.invariant
  | nodes-in_default w ↦ none_goes_on _ _ c.args.place.now.site c.args.place.now.style c.args.numbers.now c.args.depth (c.args.depth - 1) c.loop-number.number-index _ c.loop-number.found c.match-node.found (omega (arith, c.if-depth-eq0.false)) c.loop-number-test.true w.in_default.ensures w.found-is c.loop-number.invariant
]

pub nodes-returns : goal.nodes-returns
nodes-returns t c = ends _ _ c.args.place.now.site c.args.place.now.style c.args.numbers.now c.args.depth c.loop-number.number-index c.loop-number.found c.loop-number-test.false c.loop-number.invariant
