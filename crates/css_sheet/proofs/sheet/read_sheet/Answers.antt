use Rattle.css_types.specs.Rule.{rulings_of}
use Rattle.css_sheet.proofs.Rulings.{told_ruled}
use Rattle.css_sheet.proofs.sheet.read_sheet.Goals as goal

pub returns-clause-ruled : goal.returns-clause-ruled
returns-clause-ruled c = told_ruled (λ rules. rulings_of rules.items) c.args.start c.args.text.now c.answer_sheet.result c.answer_sheet.ensures
