use Rattle.std.proofs.Common.{◌≤◌, length}
use denote.Text.{Utf8}
use denote.Shadow.{shadow}
use Rattle.css_sheet.specs.Halt.{begun_of}
use Rattle.css_sheet.proofs.Turning.{IsJoining}
use Rattle.css_sheet.proofs.selector.joined.Given as goal

abbrev pub invariant-loop-alloc : goal.invariant-loop-alloc
invariant-loop-alloc l = shadow (Utf8 l.rest) × IsJoining (begun_of l.fn.parts.items l.fn.white) l.fn.text (begun_of l.parts.items l.white) l.rest × (length l.rest ≤ length l.fn.text)

abbrev pub decreases-loop-alloc : goal.decreases-loop-alloc
decreases-loop-alloc l = length l.rest
