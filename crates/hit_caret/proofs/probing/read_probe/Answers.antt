use Rattle.hit_caret.proofs.ProbingLaws.{told_no_probe, told_probe}
use Rattle.hit_caret.proofs.probing.read_probe.Goals as goal

pub returns-clause-found : goal.returns-clause-found
returns-clause-found c = told_probe (λ probes. probes.items) c.args.start c.args.text.now c.answer_probe.result c.answer_probe.ensures

pub returns-clause-refused : goal.returns-clause-refused
returns-clause-refused c = told_no_probe (λ probes. probes.items) c.args.start c.args.text.now c.answer_probe.result c.answer_probe.ensures
