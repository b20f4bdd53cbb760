use Rattle.css_values.proofs.Keeping.{given_are_kept}
use Rattle.css_values.proofs.declarations.declarations_within.Goals as goal

pub returns-clause-kept : goal.returns-clause-kept
returns-clause-kept c = given_are_kept (λ d. d.0.items) (λ d. d.1.now) c.args.within c.args.end c.args.text.now c.answered.result c.answered.ensures.read
