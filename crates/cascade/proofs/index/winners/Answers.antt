use Rattle.std.proofs.Common.{List, ◌∙◌, ap, sym}
use Rattle.css_types.specs.Rule.{rulings_of}
use Rattle.dom_store.specs.State.{What, state_of}
use Rattle.cascade.specs.Line.{whats_of}
use Rattle.cascade.specs.Winners.{winners}
use Rattle.cascade.proofs.SaidWinners.{said_at}
use Rattle.cascade.proofs.index.winners.Goals.{in-Some+in_ok-winners-in-Some, in-None+in_ok-winners-in-None}
use Rattle.cascade.proofs.index.winners.Goals as goal

pub returns-clause-winners : goal.returns-clause-winners
returns-clause-winners c = elim c.match-line_of.branch [
  | in-Some+in_ok-winners-in-Some w ↦
      ap (λ v. v.items) w.winners-is ∙ w.in_ok-winners-in-Some.ensures ∙ ap (λ (line : List What). winners (rulings_of c.args.rules.now) line c.args.parent.now) (ap whats_of w.seen.ensures ∙ w.in-Some.ensures.some)
  | in-None+in_ok-winners-in-None w ↦
      ap (λ v. v.items) w.winners-is ∙ w.in_ok-winners-in-None.ensures ∙ ap (λ (line : List What). winners (rulings_of c.args.rules.now) line c.args.parent.now) (ap whats_of w.plain.ensures ∙ sym w.in-None.ensures.none)
]

pub returns-clause-said : goal.returns-clause-said
returns-clause-said c = said_at (rulings_of c.args.rules.now) (state_of c.args.document.now) c.args.node c.args.parent.now c.match-line_of.winners.items (returns-clause-winners c)
