use Rattle.std.proofs.Common.{◌≤◌, length}
use denote.Text.{Utf8}
use denote.Shadow.{shadow}
use Rattle.css_values.specs.Reading.{begun_of}
use Rattle.css_values.proofs.Valuing.{IsValuing}
use Rattle.css_values.proofs.value.value.Given as goal

abbrev pub invariant-loop-within : goal.invariant-loop-within
invariant-loop-within l = shadow (Utf8 l.rest) × IsValuing l.within l.fn.text (begun_of l.begun) l.rest × (length l.rest ≤ length l.fn.text)

abbrev pub decreases-loop-within : goal.decreases-loop-within
decreases-loop-within l = length l.rest
