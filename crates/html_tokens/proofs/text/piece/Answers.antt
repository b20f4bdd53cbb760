use Rattle.std.proofs.Common.{sym, ◌∙◌}
use Rattle.std.specs.String.{string_bytes}
use Rattle.html_tokens.proofs.Letters.{comment_put, reference_put, letter_next}
use Rattle.html_tokens.proofs.text.piece.Goals as goal

pub characters-requires : goal.characters-requires
characters-requires c = letter_next c.args.text.now c.requires (sym c.starts.ensures ∙ c.if-starts.false) (sym c.starts-else-starts.ensures ∙ c.if-starts-2.false)

pub returns-then-starts-clause-read : goal.returns-then-starts-clause-read
returns-then-starts-clause-read c =
    comment_put (string_bytes c.args.letters.now) c.args.text.now c.skip_comment.result c.requires (sym c.starts.ensures ∙ c.if-starts.true) c.skip_comment.ensures.read c.skip_comment.ensures.shorter

pub returns-then-starts-2-clause-read : goal.returns-then-starts-2-clause-read
returns-then-starts-2-clause-read c =
    reference_put (string_bytes c.args.letters.now) (string_bytes c.put_reference.new.letters) c.args.text.now c.put_reference.result c.requires (sym c.starts.ensures ∙ c.if-starts.false)
    (sym c.starts-else-starts.ensures ∙ c.if-starts-2.true) c.put_reference.ensures.read c.put_reference.ensures.shorter
