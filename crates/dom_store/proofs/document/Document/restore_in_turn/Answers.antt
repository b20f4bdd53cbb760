use Rattle.std.proofs.Common.{List, ℕ, map, subst}
use Rattle.dom_store.specs.Exact.{numbered_as}
use Rattle.dom_store.specs.Exactly.{IsSameBut}
use Rattle.dom_store.specs.State.{state_of}
use Rattle.dom_store.proofs.InsertLaws.{on_err}
use Rattle.dom_store.proofs.RestoreLaws.{next_drawn, next_free, node_there, none_restored, numbers_as, one_restored, some_restored}
use Rattle.dom_store.proofs.document.Document.restore_in_turn.Goals as goal

pub loop-node-init : goal.loop-node-init
loop-node-init c = none_restored c.args.parent (map numbered_as c.args.nodes.now) (state_of c.args.self.now) c.args.tops.now.items c.requires.stand

pub restore_one-requires-clause-drawn : goal.restore_one-requires-clause-drawn
restore_one-requires-clause-drawn c =
    let nodes = c.args.nodes.now in
    let at = c.loop-node.node-index in
    let here = node_there nodes at c.node-item.result c.loop-node-test.true c.node-item.is in
    next_drawn c.args.parent (map numbered_as nodes) at (state_of c.args.self.now) (state_of c.loop-node.self) c.args.tops.now.items c.loop-node.tops.items c.loop-node.invariant (numbered_as c.node-item.result) here

pub restore_one-requires-clause-free : goal.restore_one-requires-clause-free
restore_one-requires-clause-free c =
    let nodes = c.args.nodes.now in
    let at = c.loop-node.node-index in
    let here = node_there nodes at c.node-item.result c.loop-node-test.true c.node-item.is in
    next_free c.args.parent (map numbered_as nodes) at (state_of c.args.self.now) (state_of c.loop-node.self) c.args.tops.now.items c.loop-node.tops.items c.loop-node.invariant (numbered_as c.node-item.result) here

pub loop-node-preserved : goal.loop-node-preserved
loop-node-preserved c =
    let nodes = c.args.nodes.now in
    let at = c.loop-node.node-index in
    let here = node_there nodes at c.node-item.result c.loop-node-test.true c.node-item.is in
    one_restored c.args.parent (map numbered_as nodes) at (state_of c.args.self.now) (state_of c.loop-node.self) c.args.tops.now.items c.loop-node.tops.items c.loop-node.invariant (numbered_as c.node-item.result) here
    (state_of c.restore_one.new.self) c.restore_one.new.tops.items c.in_ok-restore_one.ensures.stand c.in_ok-restore_one.ensures.tops

pub returns-in_err-restore_one-clause-others : goal.returns-in_err-restore_one-clause-others
returns-in_err-restore_one-clause-others c =
    let nodes = c.args.nodes.now in
    let at = c.loop-node.node-index in
    let old = state_of c.args.self.now in
    let new = state_of c.restore_one.new.self in
    let here = node_there nodes at c.node-item.result c.loop-node-test.true c.node-item.is in
    on_err c.from_residual.result (subst (λ (l : List ℕ). IsSameBut l old new) (numbers_as nodes)
    (some_restored c.args.parent (map numbered_as nodes) at old (state_of c.loop-node.self) c.args.tops.now.items c.loop-node.tops.items c.loop-node.invariant (numbered_as c.node-item.result) here new c.in_err-restore_one.ensures.others))
