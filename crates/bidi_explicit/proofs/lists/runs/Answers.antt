use Rattle.std.proofs.Common.{◌∙◌}
use Rattle.bidi_explicit.specs.Links.{sequence_of}
use Rattle.bidi_explicit.proofs.Covering.{runs_cover, each_is_run}
use Rattle.bidi_explicit.proofs.OneLevel.{runs_have_one_level}
use Rattle.bidi_explicit.proofs.lists.runs.Goals as goal

pub returns-clause-cover : goal.returns-clause-cover
returns-clause-cover c =
    let levels = c.args.levels.now in
    runs_cover sequence_of levels.base levels.level.items levels.original.items levels.removed.items c.in_ok-runs.runs.items (c.in_ok-runs.ensures ∙ c.in_ok-flat.ensures.runs)

pub returns-clause-each : goal.returns-clause-each
returns-clause-each c =
    let levels = c.args.levels.now in
    each_is_run sequence_of levels.base levels.level.items levels.original.items levels.removed.items c.in_ok-runs.runs.items (c.in_ok-runs.ensures ∙ c.in_ok-flat.ensures.runs)

pub returns-clause-level : goal.returns-clause-level
returns-clause-level c = λ explicit. runs_have_one_level sequence_of c.args.levels.now c.requires explicit c.in_ok-runs.runs.items (c.in_ok-runs.ensures ∙ c.in_ok-flat.ensures.runs)
