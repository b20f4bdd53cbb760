use Rattle.std.proofs.Common.{◌≡◌, ap, ◌∙◌}
use Rattle.dom_store.specs.State.{State}
use Rattle.cascade.specs.Kept.{kept_state}
use Rattle.cascade.proofs.kept.KeptLine.+climb.Goals.{then-ne+in-Some+in-Some-node+else-most-eq0+else-not-climb, else-ne}
use Rattle.cascade.proofs.kept.KeptLine.+climb.Goals as goal

pub begin_with-requires-clause-here : goal.begin_with-requires-clause-here
begin_with-requires-clause-here t c =
    let same : kept_state c.if-ne.self ≡ kept_state c.args.self.now = elim c.if-ne.branch [
      | then-ne+in-Some+in-Some-node+else-most-eq0+else-not-climb w ↦ ap kept_state w.self-is ∙ w.climb.ensures.same ∙ c.leave.ensures.same
      | else-ne w ↦ ap kept_state w.self-is ∙ c.leave.ensures.same
    ] in
    ap (λ (s : State). s.node_at c.args.number) same ∙ c.requires.here
