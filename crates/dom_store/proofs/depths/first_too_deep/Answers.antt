use Rattle.std.proofs.Common.{rules, ◌≡◌, ◌+◌, ◌≤◌, ap, ◌∙◌, sym, drop, arith, ℕ, []}
use Rattle.std.proofs.lemmas.List.{drop_all, length-map}
use Rattle.html_read.specs.Values.{node_of, nodes_of}
use Rattle.dom_store.specs.Opening.{depths_from}
use Rattle.std.proofs.lemmas.List.Elements.{All-push}
use Rattle.dom_store.specs.State.{greatest_depth}
use Rattle.dom_store.proofs.DepthLaws.{finds, finds_none, one_more, weaker}
use Rattle.dom_store.proofs.Places.{parent_known, read_at}
use Rattle.dom_store.proofs.depths.first_too_deep.Goals as goal

pub depth_of-depth-requires-clause-before : goal.depth_of-depth-requires-clause-before
depth_of-depth-requires-clause-before c = parent_known c.args.nodes.now c.loop-place.place _ c.index-nodes-place.result c.requires.follow c.loop-place-test.true (omega arith)

pub depth_of-depth-requires-clause-shallow : goal.depth_of-depth-requires-clause-shallow
depth_of-depth-requires-clause-shallow c = weaker _ _ c.deref.ensures.value c.args.above c.loop-place.invariant.shallow

pub returns-then-above-depth-gt-GREATEST_DEPTH-clause-found : goal.returns-then-above-depth-gt-GREATEST_DEPTH-clause-found
returns-then-above-depth-gt-GREATEST_DEPTH-clause-found c =
    finds c.args.above (nodes_of c.args.nodes.now) c.loop-place.depths.items c.loop-place.invariant.shallow c.loop-place.place c.depth_of-depth.result (node_of c.index-nodes-place.result)
    c.loop-place.invariant.so_far c.loop-place.invariant.same (read_at c.args.nodes.now c.loop-place.place c.index-nodes-place.result c.loop-place-test.true c.index-nodes-place.is)
    (cc) (omega arith)

pub loop-place-preserved : goal.loop-place-preserved
loop-place-preserved c =
    let here = read_at c.args.nodes.now c.loop-place.place c.index-nodes-place.result c.loop-place-test.true c.index-nodes-place.is in
    record {
      so_far = search rules;
      shallow = rw c.in_ok-push.ensures.items (All-push (λ (depth : ℕ). c.args.above + depth ≤ greatest_depth) c.loop-place.depths.items c.depth_of-depth.result c.loop-place.invariant.shallow (omega arith));
      same = rw c.in_ok-push.ensures.items (one_more c.loop-place.depths.items (nodes_of c.args.nodes.now) c.loop-place.place c.depth_of-depth.result (node_of c.index-nodes-place.result) here (cc) ∙ c.loop-place.invariant.same);
    }

pub returns-clause-found : goal.returns-clause-found
returns-clause-found c =
    let all : drop c.loop-place.place (nodes_of c.args.nodes.now) ≡ [] = drop_all c.loop-place.place (nodes_of c.args.nodes.now) (omega (arith, length-map c.args.nodes.now node_of)) in
    finds_none c.args.above (nodes_of c.args.nodes.now) c.loop-place.depths.items c.loop-place.invariant.shallow (ap (depths_from c.loop-place.depths.items) (sym all) ∙ c.loop-place.invariant.same)
