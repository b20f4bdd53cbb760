use Rattle.std.proofs.Common.{◌≤◌, length}
use denote.Text.{Utf8}
use denote.Shadow.{shadow}
use Rattle.report_styles.specs.GoingOn.{behind}
use Rattle.report_styles.proofs.Seeking.{IsSeeking}
use Rattle.report_styles.proofs.going_on.behind.Given as goal

abbrev pub invariant-loop-piece : goal.invariant-loop-piece
invariant-loop-piece l = shadow (Utf8 l.rest) × IsSeeking l.fn.passed (behind l.fn.passed l.fn.depth l.fn.text) l.depth l.rest × (length l.rest ≤ length l.fn.text)

abbrev pub decreases-loop-piece : goal.decreases-loop-piece
decreases-loop-piece l = length l.rest
