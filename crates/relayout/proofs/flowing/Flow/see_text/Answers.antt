use Rattle.std.proofs.Common.{◌≡◌, None, Option, refl, rules, subst}
use Rattle.box_arena.specs.At.{Node, node_of, text_at}
use Rattle.para_prepare.specs.Preparation.{Preparation}
use Rattle.relayout.specs.Intrinsic.{IsTextOf}
use Rattle.relayout.specs.Paragraph.{IsReadyIn}
use Rattle.relayout.specs.Row.{outside_of}
use Rattle.relayout.proofs.FlowingLaws.{has_paragraph, seen_none, seen_there, text_kept}
use Rattle.relayout.proofs.RowLaws.{lives_there}
use Rattle.relayout.proofs.SeeingLaws.{has_seen, sees_and_keeps, sees_one}
use Rattle.relayout.proofs.flowing.Flow.see_text.Goals as goal

pub text-requires : goal.text-requires
text-requires g c = lives_there c.args.self.now.arena.now c.args.own.now.key c.requires.can.box.node c.requires.can.box.is

pub node-node-requires : goal.node-node-requires
node-node-requires g c = lives_there c.args.self.now.arena.now c.args.own.now.key c.requires.can.box.node c.requires.can.box.is

pub text_of-requires : goal.text_of-requires
text_of-requires g c = has_paragraph _ c.args.own.now c.requires.can.box (node_of c.node-node.result.now) c.node-node.ensures.node

pub returns-then-is_some-clause-seen : goal.returns-then-is_some-clause-seen
returns-then-is_some-clause-seen g c = seen_there _ _ c.args.own.now c.requires.can (search rules)

pub returns-in-Some-clause-steady : goal.returns-in-Some-clause-steady
returns-in-Some-clause-steady g c =
    let outside = outside_of (λ vtable. (g.dyn-1.0.entry vtable).1) c.args.page in
    let node : Node = node_of c.node-node.result.now in
    let P : Option Preparation → Type 0 = λ text. IsTextOf outside.faces node.style node.content text in
    let Q : Option Preparation → Type 0 = λ text. IsReadyIn node.content text in
    (text_kept outside c.args.self.now.arena.now c.keep_text.new.self c.args.own.now node c.in-Some.text c.requires.can c.node-node.ensures.node
    (subst P c.in-Some.is c.in_ok-text.ensures.text) (subst Q c.in-Some.is c.in_ok-text.ensures.ready) c.keep_text.ensures).0

pub returns-in-Some-clause-seen : goal.returns-in-Some-clause-seen
returns-in-Some-clause-seen g c =
    let outside = outside_of (λ vtable. (g.dyn-1.0.entry vtable).1) c.args.page in
    let node : Node = node_of c.node-node.result.now in
    let P : Option Preparation → Type 0 = λ text. IsTextOf outside.faces node.style node.content text in
    let Q : Option Preparation → Type 0 = λ text. IsReadyIn node.content text in
    (text_kept outside c.args.self.now.arena.now c.keep_text.new.self c.args.own.now node c.in-Some.text c.requires.can c.node-node.ensures.node
    (subst P c.in-Some.is c.in_ok-text.ensures.text) (subst Q c.in-Some.is c.in_ok-text.ensures.ready) c.keep_text.ensures).1

pub returns-in-None-clause-seen : goal.returns-in-None-clause-seen
returns-in-None-clause-seen g c =
    let outside = outside_of (λ vtable. (g.dyn-1.0.entry vtable).1) c.args.page in
    let node : Node = node_of c.node-node.result.now in
    let P : Option Preparation → Type 0 = λ text. IsTextOf outside.faces node.style node.content text in
    seen_none outside _ c.args.own.now c.requires.can node c.node-node.ensures.node (subst P c.in-None.is c.in_ok-text.ensures.text)

pub returns-in_err-text-clause-costs : goal.returns-in_err-text-clause-costs
returns-in_err-text-clause-costs g c =
    let slots = c.args.self.now.arena.now.slots in
    let gone : text_at slots c.args.own.now.key ≡ None = search rules in
    sees_one slots c.args.own.now.key _ _ (node_of c.node-node.result.now) c.node-node.ensures.node gone refl c.in_err-text.ensures.most.1

pub returns-in-Some-clause-costs : goal.returns-in-Some-clause-costs
returns-in-Some-clause-costs g c =
    let old = c.args.self.now.arena.now in
    let steady = returns-in-Some-clause-steady g c in
    let gone : text_at old.slots c.args.own.now.key ≡ None = search rules in
    sees_and_keeps old c.keep_text.new.self c.args.own.now.key (node_of c.node-node.result.now) c.in-Some.text c.node-node.ensures.node gone c.keep_text.ensures steady.texts _ _ refl c.in_ok-text.ensures.most.1

pub returns-in-Some-clause-done : goal.returns-in-Some-clause-done
returns-in-Some-clause-done g c =
    let old = c.args.self.now.arena.now in
    let steady = returns-in-Some-clause-steady g c in
    let gone : text_at old.slots c.args.own.now.key ≡ None = search rules in
    has_seen old c.keep_text.new.self c.args.own.now.key (node_of c.node-node.result.now) c.in-Some.text c.node-node.ensures.node gone c.keep_text.ensures steady.texts _ _ c.in_ok-text.ensures.most.1
