use Rattle.std.proofs.Common.{◌≡◌, drop, map}
use Rattle.bidi_explicit.specs.Spans.{sequence_at}
use Rattle.bidi_resolve.specs.Paragraph.{resolved_from}
use Rattle.bidi_resolve.proofs.paragraph.write_runs.Given as goal

abbrev pub invariant-loop-span : goal.invariant-loop-span
invariant-loop-span l =
    resolved_from l.paragraph.chars.now l.paragraph.levels.now.original.items l.paragraph.levels.now.level.items l.paragraph.levels.now.class.items (map (sequence_at l.paragraph.runs.now.places.items) (drop l.span-index l.paragraph.runs.now.spans.items)) l.out
    ≡ resolved_from l.paragraph.chars.now l.paragraph.levels.now.original.items l.paragraph.levels.now.level.items l.paragraph.levels.now.class.items (map (sequence_at l.paragraph.runs.now.places.items) l.paragraph.runs.now.spans.items) l.fn.out
