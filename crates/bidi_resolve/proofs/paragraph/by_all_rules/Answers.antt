use Rattle.std.proofs.Common.{arith, ◌<◌, length, All}
use Rattle.bidi_explicit.specs.declared.paragraph.RunSpan.{RunSpan}
use Rattle.bidi_explicit.specs.Spans.{sequence_at, span_places}
use Rattle.bidi_resolve.proofs.ParagraphLaws.{all_between, if_ok}
use Rattle.bidi_resolve.proofs.paragraph.by_all_rules.Goals as goal

pub returns-clause-between : goal.returns-clause-between
returns-clause-between c =
    let levels = c.in_ok-levels.levels in
    let level = c.in_ok-levels.ensures.aligned.level in
    let removed = c.in_ok-levels.ensures.aligned.removed in
    let places = c.in_ok-runs.runs.places.items in
    let within : All (λ (span : RunSpan). All (λ p. p < length levels.level.items) (span_places places span)) c.in_ok-runs.runs.spans.items =
    λ k d lt j e lt'. let h = (c.in_ok-runs.ensures.each k d lt).within j e lt' in omega arith in
    if_ok _ _ c.with_runs.result
    (λ out is. rw is (all_between (sequence_at places) c.args.text.now.base c.args.text.now.chars.now levels.original.items levels.level.items levels.class.items c.in_ok-runs.runs.spans.items c.in_ok-levels.ensures.between within))
    c.with_runs.ensures.levels
