use Rattle.css_values.proofs.ReportLaws.{next_is_judged}
use Rattle.css_values.proofs.laws.reports_are_judged.Goals as goal

pub returns : goal.returns
returns c = next_is_judged
