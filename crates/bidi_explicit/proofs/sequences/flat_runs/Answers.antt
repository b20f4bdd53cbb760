use Rattle.bidi_explicit.specs.Spans.{sequence_at}
use Rattle.bidi_explicit.proofs.Covering.{runs_cover, each_is_run}
use Rattle.bidi_explicit.proofs.OneLevel.{runs_have_one_level}
use Rattle.bidi_explicit.proofs.sequences.flat_runs.Goals as goal

pub returns-clause-cover : goal.returns-clause-cover
returns-clause-cover c =
    let levels = c.args.levels.now in
    runs_cover (sequence_at c.in_ok-flat.flat.places.items) levels.base levels.level.items levels.original.items levels.removed.items c.in_ok-flat.flat.spans.items c.in_ok-flat.ensures.runs

pub returns-clause-each : goal.returns-clause-each
returns-clause-each c =
    let levels = c.args.levels.now in
    each_is_run (sequence_at c.in_ok-flat.flat.places.items) levels.base levels.level.items levels.original.items levels.removed.items c.in_ok-flat.flat.spans.items c.in_ok-flat.ensures.runs

pub returns-clause-level : goal.returns-clause-level
returns-clause-level c = λ explicit. runs_have_one_level (sequence_at c.in_ok-flat.flat.places.items) c.args.levels.now c.requires explicit c.in_ok-flat.flat.spans.items c.in_ok-flat.ensures.runs
