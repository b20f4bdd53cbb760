use Rattle.std.proofs.Common.{sym, ◌∙◌}
use Rattle.css_tokens.proofs.Stringing.{escaped_piece, open_piece, plain_piece, broken_piece, no_piece}
use Rattle.css_tokens.proofs.strings.piece.Goals as goal

pub returns-in_default : goal.returns-in_default
returns-in_default c = no_piece c.args.bytes.now c.in_default.ensures.cases

pub returns-in-Some-split_first : goal.returns-in-Some-split_first
returns-in-Some-split_first c =
    escaped_piece c.args.bytes.now c.in-Some.rest.now c.in-Some-split_first.after.now c.in-Some.byte.now c.in-Some-split_first.field-0-0.now c.in-Some.ensures.cases.0 c.if-byte-eq92.true c.in-Some-split_first.ensures.cases.0

pub returns-in-None : goal.returns-in-None
returns-in-None c = open_piece c.args.bytes.now c.in-Some.rest.now c.in-Some.byte.now c.in-Some.ensures.cases.0 c.if-byte-eq92.true c.in-None.ensures.cases

pub returns-then-is_line_break : goal.returns-then-is_line_break
returns-then-is_line_break c = broken_piece c.args.bytes.now c.in-Some.rest.now c.in-Some.byte.now c.in-Some.ensures.cases.0 c.if-byte-eq92.false (sym c.is_line_break.ensures ∙ c.if-is_line_break.true)

pub returns-else-is_line_break : goal.returns-else-is_line_break
returns-else-is_line_break c = plain_piece c.args.bytes.now c.in-Some.rest.now c.in-Some.byte.now c.in-Some.ensures.cases.0 c.if-byte-eq92.false (sym c.is_line_break.ensures ∙ c.if-is_line_break.false)
