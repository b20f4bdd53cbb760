use Rattle.std.proofs.Common.{◌≡◌, take}
use Rattle.std.specs.List.{list_all}
use Rattle.html_tokens.specs.Pieces.{is_plain_letter}
use Rattle.html_tokens.proofs.plain.are_plain.Given as goal

-- those that were looked at are plain, or not
abbrev pub invariant-loop-byte : goal.invariant-loop-byte
invariant-loop-byte l = l.plain ≡ list_all is_plain_letter (take l.byte-index l.bytes)
