use Rattle.std.proofs.Common.{◌≡◌, take, true}
use Rattle.std.specs.List.{list_all}
use Rattle.html_tokens.specs.Pieces.{is_plain_letter}
use Rattle.html_tokens.proofs.plain.plain_in.Given as goal

abbrev pub invariant-loop-at : goal.invariant-loop-at
invariant-loop-at l = list_all is_plain_letter (take l.at l.bytes) ≡ true
