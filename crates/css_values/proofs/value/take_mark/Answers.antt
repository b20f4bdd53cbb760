use Rattle.std.proofs.Common.{sym, ◌∙◌, arith}
use Rattle.css_values.proofs.Valuing.{marked_length, mark_taken}
use Rattle.css_values.proofs.value.take_mark.Goals as goal

pub overflow_sub-len : goal.overflow_sub-len
overflow_sub-len c = omega (arith, c.len.ensures, c.deref.ensures.len, marked_length c.deref.result.now (sym c.ends_important-important.ensures ∙ c.if-important.true))

pub returns-then-important-clause-left : goal.returns-then-important-clause-left
returns-then-important-clause-left c =
    mark_taken c.deref.result.now c.args.tokens.now.items c.truncate.new.self.items c.len.result c.deref.ensures.value (sym c.ends_important-important.ensures ∙ c.if-important.true) (c.len.ensures ∙ sym c.deref.ensures.len)
    c.truncate.ensures.items
