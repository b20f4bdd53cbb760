use Rattle.std.proofs.Common.{◌≡◌, ◌+◌, ◌-◌, ◌∙◌, ℕ, List, ap, arith, drop, take, subst}
use Rattle.dom_store.specs.State.{state_of}
use Rattle.dom_store.specs.Standing.{children_at}
use Rattle.cascade.specs.Index.{index_rules}
use Rattle.box_limits.specs.Judging.{FindsBelow}
use Rattle.box_limits.proofs.Editing.{part_inside}
use Rattle.box_limits.proofs.judging.Judging.inserted.Goals as goal

pub children-requires-clause-inside : goal.children-requires-clause-inside
children-requires-clause-inside c =
    part_inside (state_of c.args.self.now.styling.document.now) c.args.parent c.requires.below (c.args.index + c.args.count - c.args.index) c.args.index c.children_of-numbers.result.now c.children_of-numbers.ensures

pub returns : goal.returns
returns c =
    let many : c.args.index + c.args.count - c.args.index ≡ c.args.count = omega arith in
    let same : take (c.args.index + c.args.count - c.args.index) (drop c.args.index c.children_of-numbers.result.now) ≡ take c.args.count (drop c.args.index (children_at (state_of c.args.self.now.styling.document.now) c.args.parent)) =
    ap (λ (n : ℕ). take n (drop c.args.index c.children_of-numbers.result.now)) many ∙ ap (λ (l : List ℕ). take c.args.count (drop c.args.index l)) c.children_of-numbers.ensures in
    subst (λ (l : List ℕ). FindsBelow (index_rules c.args.self.now.styling.rules.now) (state_of c.args.self.now.styling.document.now) l c.in_ok-found.found) same c.in_ok-found.ensures
