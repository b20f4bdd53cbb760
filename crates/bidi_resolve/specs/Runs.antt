-- The isolating run sequences of a paragraph, in its lists.
use Rattle.std.specs.Prelude.{ℕ, List, map}
use Rattle.bidi_explicit.specs.Spans.{sequence_at}
use Rattle.bidi_resolve.specs.Paragraph.{resolved_from}
use Rattle.bidi_resolve.specs.declared.runs.ParagraphRuns.{ParagraphRuns}

-- the levels, where all of them are resolved
abbrev pub resolved_runs : ParagraphRuns → List ℕ → List ℕ
resolved_runs paragraph out =
    resolved_from paragraph.chars.now paragraph.levels.now.original.items paragraph.levels.now.level.items paragraph.levels.now.class.items
    (map (sequence_at paragraph.runs.now.places.items) paragraph.runs.now.spans.items) out
