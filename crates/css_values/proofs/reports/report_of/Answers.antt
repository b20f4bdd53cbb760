use Rattle.std.proofs.Common.{◌∙◌, ℕ, ap}
use Rattle.reading.specs.Stop.{place_before}
use Rattle.css_values.specs.declared.reports.Fate.{Fate}
use Rattle.css_values.specs.Reports.{Reported}
use Rattle.css_values.proofs.reports.report_of.Goals as goal

pub returns-clause-told : goal.returns-clause-told
returns-clause-told c =
    let stated = c.args.stated in
    let at : ℕ → Reported = λ place. record { name = stated.name.now; place = place; fate = c.in_ok-fate.fate } in
    let with_fate : Fate → Reported = λ fate. record { name = stated.name.now; place = place_before c.args.end stated.left.now; fate = fate } in
    ap at c.saturating_sub-place.ensures ∙ ap with_fate (c.in_ok-fate.ensures.told stated.left.now)
