use Rattle.std.proofs.Common.{◌≤◌, length, map}
use denote.Text.{Utf8}
use denote.Shadow.{shadow}
use Rattle.html_tokens.specs.Written.{attribute_of}
use Rattle.html_tokens.proofs.Attributing.{IsAttributing}
use Rattle.html_tokens.proofs.written.attributes.Given as goal

abbrev pub invariant-loop-alloc : goal.invariant-loop-alloc
invariant-loop-alloc l = shadow (Utf8 l.rest) × IsAttributing l.fn.text (map attribute_of l.all.items) l.rest × (length l.rest ≤ length l.fn.text)

abbrev pub decreases-loop-alloc : goal.decreases-loop-alloc
decreases-loop-alloc l = length l.rest
