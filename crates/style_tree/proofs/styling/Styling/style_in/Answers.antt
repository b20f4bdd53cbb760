use Rattle.std.proofs.Common.{sym, ap, subst, ◌∙◌}
use Rattle.style_types.specs.declared.style.Style.{Style}
use Rattle.dom_store.specs.State.{IsSaidState, State, line, state_of}
use Rattle.cascade.specs.Index.{index_rules}
use Rattle.cascade.specs.Winners.{winners}
use Rattle.computed.specs.Step.{style_of}
use Rattle.style_tree.proofs.styling.Styling.style_in.Goals as goal

pub winners_in-requires-clause-here : goal.winners_in-requires-clause-here
winners_in-requires-clause-here c = ap (λ (s : State). s.node_at c.args.number) c.requires.document ∙ c.requires.here

pub compute-requires-clause-winners : goal.compute-requires-clause-winners
compute-requires-clause-winners c = c.in_ok-winners.ensures.said c.args.self.now.are_said_rules (subst IsSaidState (sym c.requires.document) c.args.self.now.is_said_state)

pub returns-clause-style : goal.returns-clause-style
returns-clause-style c =
    let rules = index_rules c.args.self.now.rules.now in
    let inherited = c.deref-inherited.result.now in
    rw c.in-Element.is (c.in_ok-own.ensures ∙ c.compute.ensures.style
    ∙ ap (style_of inherited) (c.in_ok-winners.ensures.winners ∙ ap (λ (s : State). winners rules (line s c.args.number) inherited) c.requires.document)
    ∙ ap (λ (parent : Style). style_of parent (winners rules (line (state_of c.args.self.now.document.now) c.args.number) parent)) c.deref-inherited.ensures)
