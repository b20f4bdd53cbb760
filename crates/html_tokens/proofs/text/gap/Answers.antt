use Rattle.std.proofs.Common.{sym, ◌∙◌, arith}
use Rattle.std.specs.String.{string_bytes}
use Rattle.html_tokens.proofs.Letters.{gap_starts, gap_ends}
use Rattle.html_tokens.proofs.text.gap.Goals as goal

pub loop-letters-init : goal.loop-letters-init
loop-letters-init c = (c.utf8.text, gap_starts c.args.text.now (string_bytes c.new-letters.result) c.new-letters.ensures.bytes, omega arith)

pub returns-clause-read : goal.returns-clause-read
returns-clause-read c =
    gap_ends c.args.text.now (string_bytes c.loop-letters.letters) c.loop-letters.rest.now c.loop-letters.invariant.1 (sym c.in_text.ensures ∙ c.loop-letters-test.false)
