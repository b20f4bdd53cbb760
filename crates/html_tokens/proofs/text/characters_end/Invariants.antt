use Rattle.std.proofs.Common.{◌≡◌, ◌⊎◌, ◌<◌, length}
use denote.Text.{Utf8}
use denote.Shadow.{shadow}
use Rattle.html_tokens.specs.Pieces.{JoinsRun}
use Rattle.html_tokens.specs.Text.{in_text, text_piece}
use Rattle.html_tokens.proofs.text.characters_end.Given as goal

abbrev pub invariant-loop-rest : goal.invariant-loop-rest
invariant-loop-rest l = shadow (Utf8 l.rest) × JoinsRun in_text text_piece l.fn.text l.rest × ((l.rest ≡ l.fn.text) ⊎ (length l.rest < length l.fn.text))

abbrev pub decreases-loop-rest : goal.decreases-loop-rest
decreases-loop-rest l = length l.rest
