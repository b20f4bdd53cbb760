use Rattle.std.proofs.Common.{ap, ◌∙◌}
use Rattle.dom_store.specs.State.{State, line, line_to}
use Rattle.cascade.specs.Kept.{kept_state}
use Rattle.cascade.proofs.Keeping.{kept_is_line}
use Rattle.cascade.proofs.kept.KeptLine.enter.Goals as goal

pub returns-clause-line : goal.returns-clause-line
returns-clause-line c = λ e.
    let kept = c.climb.new.self in
    kept_is_line (kept_state kept) kept.start kept.nodes kept.numbers c.climb.ensures.kept.1 c.climb.ensures.kept.2 ∙ ap (line_to 64 (kept_state kept)) (c.climb.ensures.first e)
    ∙ ap (λ (s : State). line s c.args.number) c.climb.ensures.same
