use Rattle.std.proofs.Common.{◌≤◌, length}
use denote.Text.{Utf8}
use denote.Shadow.{shadow}
use Rattle.std.specs.String.{string_bytes}
use Rattle.reading.specs.Readers.{joined}
use Rattle.html_tokens.specs.Pieces.{IsJoining}
use Rattle.html_tokens.specs.Text.{in_text, text_piece}
use Rattle.html_tokens.proofs.text.gap.Given as goal

abbrev pub invariant-loop-letters : goal.invariant-loop-letters
invariant-loop-letters l = shadow (Utf8 l.rest) × IsJoining in_text text_piece (joined in_text text_piece l.fn.text) (string_bytes l.letters) l.rest × (length l.rest ≤ length l.fn.text)

abbrev pub decreases-loop-letters : goal.decreases-loop-letters
decreases-loop-letters l = length l.rest
