use Rattle.std.proofs.Common.{◌≡◌, ◌∙◌, ap, sym}
use Rattle.std.proofs.lemmas.Option.{none-some, same_Some}
use Rattle.box_arena.specs.At.{node_at}
use Rattle.box_arena.proofs.AllHanded.{found_at}
use Rattle.box_arena.proofs.reusing.Handover.stood_at.Goals as goal

pub returns-in_err-index-clause-found : goal.returns-in_err-index-clause-found
returns-in_err-index-clause-found g c = λ finds node is from was.
    absurd (none-some from (c.in_err-index.ensures.value ∙ found_at c.args.self.now.keys.now c.args.self.now.giver.now.slots c.args.self.now.taker.now.slots c.args.key finds c.node-node.ensures.node node is from was))

pub returns-in_err-stood-clause-found : goal.returns-in_err-stood-clause-found
returns-in_err-stood-clause-found g c = λ finds node is from was.
    let at : c.in_ok-index.field-0.now ≡ from = same_Some _ _ (c.in_ok-index.ensures.value ∙ found_at c.args.self.now.keys.now c.args.self.now.giver.now.slots c.args.self.now.taker.now.slots c.args.key finds c.node-node.ensures.node node is from was) in
    absurd (none-some node (c.in_err-stood.ensures.node ∙ ap (node_at c.args.self.now.giver.now.slots) at ∙ was))

pub returns-then-are_equal-clause-found : goal.returns-then-are_equal-clause-found
returns-then-are_equal-clause-found g c = λ finds node is from was.
    c.in_ok-index.ensures.value ∙ found_at c.args.self.now.keys.now c.args.self.now.giver.now.slots c.args.self.now.taker.now.slots c.args.key finds c.node-node.ensures.node node is from was

pub returns-else-are_equal-clause-found : goal.returns-else-are_equal-clause-found
returns-else-are_equal-clause-found g c = λ finds node is from was.
    let at : c.in_ok-index.field-0.now ≡ from = same_Some _ _ (c.in_ok-index.ensures.value ∙ found_at c.args.self.now.keys.now c.args.self.now.giver.now.slots c.args.self.now.taker.now.slots c.args.key finds c.node-node.ensures.node node is from was) in
    let same = c.if-are_equal.ensures.same (same_Some _ _ (c.in_ok-stood.ensures.node ∙ ap (node_at c.args.self.now.giver.now.slots) at ∙ was ∙ sym is ∙ c.node-node.ensures.node)) in
    absurd (cc)
