use Rattle.std.proofs.Common.{List, ◌∙◌, ap}
use Rattle.cascade.specs.Index.{index_rules}
use Rattle.dom_store.specs.State.{State, What, line}
use Rattle.cascade.specs.Kept.{kept_state}
use Rattle.cascade.specs.Winners.{winners}
use Rattle.cascade.proofs.SaidWinners.{said_at}
use Rattle.cascade.proofs.index.RuleIndex.winners_in.Goals.{then-enter+in_ok-winners, else-enter+in_ok-winners-2}
use Rattle.cascade.proofs.index.RuleIndex.winners_in.Goals as goal

pub returns-clause-winners : goal.returns-clause-winners
returns-clause-winners c = elim c.if-enter.branch [
  | then-enter+in_ok-winners w ↦
      ap (λ v. v.items) w.winners-is ∙ w.in_ok-winners.ensures
      ∙ ap (λ (line : List What). winners (index_rules c.args.self.now) line c.args.parent.now) (w.seen.ensures ∙ c.enter.ensures.line w.if-enter.true)
  | else-enter+in_ok-winners-2 w ↦
      ap (λ v. v.items) w.winners-is ∙ w.in_ok-winners-2.ensures.winners
      ∙ ap (λ (state : State). winners (index_rules c.args.self.now) (line state c.args.number) c.args.parent.now) (w.document.ensures ∙ c.enter.ensures.same)
]

pub returns-clause-said : goal.returns-clause-said
returns-clause-said c = said_at (index_rules c.args.self.now) (kept_state c.args.kept.now) c.args.number c.args.parent.now c.if-enter.winners.items (returns-clause-winners c)
