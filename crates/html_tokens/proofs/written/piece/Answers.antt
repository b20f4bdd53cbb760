use Rattle.std.proofs.Common.{sym, ◌∙◌}
use Rattle.std.specs.String.{string_bytes}
use Rattle.html_tokens.proofs.Joining.{plain_next, reference_put, nothing_put}
use Rattle.html_tokens.proofs.written.piece.Goals as goal

pub plain-requires-clause-next : goal.plain-requires-clause-next
plain-requires-clause-next c =
    plain_next c.args.quote c.args.text.now c.requires.next (sym c.starts.ensures ∙ c.if-starts.false) (sym c.is_empty.ensures ∙ c.if-is_empty.false)

pub returns-then-starts-clause-read : goal.returns-then-starts-clause-read
returns-then-starts-clause-read c =
    reference_put c.args.quote (string_bytes c.args.value.now) (string_bytes c.put_reference.new.value) c.args.text.now c.put_reference.result c.requires.next
    (sym c.starts.ensures ∙ c.if-starts.true) c.put_reference.ensures.read c.put_reference.ensures.shorter

pub returns-then-is_empty-clause-read : goal.returns-then-is_empty-clause-read
returns-then-is_empty-clause-read c =
    nothing_put c.args.quote (string_bytes c.args.value.now) c.args.text.now c.as_bytes.result.now c.requires.next (sym c.is_empty.ensures ∙ c.if-is_empty.true) c.as_bytes.ensures.value
