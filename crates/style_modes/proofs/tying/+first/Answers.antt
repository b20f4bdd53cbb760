use Rattle.std.proofs.Common.{◌∙◌, ℕ, List, Option, option_map, ap, arith, sym, Bor}
use Rattle.dom_store.specs.State.{entry_of, state_of, tree_to, what_of}
use Rattle.dom_store.specs.declared.node.Node.{Node}
use Rattle.style_modes.specs.Tying.{first_of, lesser, own_places, places_in}
use Rattle.style_modes.proofs.Firsts.{first_at_no_depth, first_none, first_own, first_step, first_whole}
use Rattle.style_modes.proofs.tying.+first.Goals as goal

pub first_at-returns-in-Some : goal.first_at-returns-in-Some
first_at-returns-in-Some t c =
    let state = state_of c.args.document.now in
    c.earlier.ensures
    ∙ ap (λ (own : Option ℕ). lesser own c.first_below.result) c.own.ensures
    ∙ ap (lesser (first_of (own_places (what_of c.in-Some.node.now.kind))))
    (c.first_below.ensures ∙ ap (λ (l : List ℕ). first_of (places_in (tree_to c.args.depth state l))) c.deref.ensures.value)
    ∙ first_own c.args.number (tree_to c.args.depth state) (state.node_at c.args.number) (entry_of c.in-Some.node.now)
    (sym c.node.ensures ∙ ap (λ (found : Option (Bor Node)). option_map (λ (node : Bor Node). entry_of node.now) found) c.in-Some.is)

pub first_at-returns-in-None : goal.first_at-returns-in-None
first_at-returns-in-None t c =
    let state = state_of c.args.document.now in
    first_none c.args.number (tree_to c.args.depth state) (state.node_at c.args.number)
    (sym c.node.ensures ∙ ap (λ (found : Option (Bor Node)). option_map (λ (node : Bor Node). entry_of node.now) found) c.in-None.is)

pub first_below-returns-then-depth-eq0 : goal.first_below-returns-then-depth-eq0
first_below-returns-then-depth-eq0 t c = first_at_no_depth (state_of c.args.document.now) c.args.depth c.args.numbers.now c.if-depth-eq0.true

pub first_below-loop-number-preserved : goal.first_below-loop-number-preserved
first_below-loop-number-preserved t c =
    first_step (state_of c.args.document.now) c.args.depth c.args.numbers.now c.loop-number.number-index c.loop-number.first c.earlier-first.result c.first_at.result _
    (omega (arith, c.if-depth-eq0.false)) c.loop-number-test.true c.first_at.ensures c.earlier-first.ensures c.loop-number.invariant

pub first_below-returns : goal.first_below-returns
first_below-returns t c =
    first_whole (state_of c.args.document.now) c.args.depth c.args.numbers.now c.loop-number.number-index c.loop-number.first _ (omega (arith, c.loop-number-test.false)) c.loop-number.invariant
