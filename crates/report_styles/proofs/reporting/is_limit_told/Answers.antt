use Rattle.std.proofs.Common.{rules, tests, ◌∙◌}
use Rattle.std.proofs.lemmas.Iterator.{YieldsList-from_slice}
use Rattle.std.proofs.lemmas.Iterator.Search.{any_from_yields_List}
use Rattle.report_styles.specs.Told.{is_limit}
use Rattle.report_styles.specs.Views.{told_of}
use Rattle.report_styles.proofs.Walking.{limits_are}
use Rattle.report_styles.proofs.reporting.is_limit_told.Goals as goal

pub returns : goal.returns
returns c =
    any_from_yields_List (λ one. is_limit (told_of one)) _ _ _ c.any.ensures.ran (YieldsList-from_slice c.args.told.now cc) (λ x b q k. search (rules, tests))
    ∙ limits_are c.args.told.now
