use Rattle.std.proofs.Common.{◌≤◌, length}
use denote.Text.{Utf8}
use denote.Shadow.{shadow}
use Rattle.std.specs.String.{string_bytes}
use Rattle.html_tokens.proofs.Joining.{IsValueSo}
use Rattle.html_tokens.proofs.written.value_in.Given as goal

abbrev pub invariant-loop-value : goal.invariant-loop-value
invariant-loop-value l = shadow (Utf8 l.rest) × IsValueSo l.fn.quote l.fn.text (string_bytes l.value) l.rest × (length l.rest ≤ length l.fn.text)

abbrev pub decreases-loop-value : goal.decreases-loop-value
decreases-loop-value l = length l.rest
