use Rattle.std.proofs.Common.{◌≡◌, ◌≤◌, length}
use denote.Text.{Utf8}
use denote.Shadow.{shadow}
use Rattle.reading.specs.Readers.{skip}
use Rattle.html_read.specs.Reading.{is_blank}
use Rattle.html_read.proofs.tail.blanks.Given as goal

abbrev pub invariant-loop-after : goal.invariant-loop-after
invariant-loop-after l = shadow (Utf8 l.rest) × (skip is_blank l.rest ≡ skip is_blank l.text) × (length l.rest ≤ length l.text)

abbrev pub decreases-loop-after : goal.decreases-loop-after
decreases-loop-after l = length l.rest
