use Rattle.std.proofs.Common.{sym, ◌∙◌}
use Rattle.css_tokens.proofs.Running.{no_name_start}
use Rattle.css_tokens.proofs.tokens.next_token.Goals as goal

pub opening_or_sign-requires : goal.opening_or_sign-requires
opening_or_sign-requires c = no_name_start c.args.text.now (sym c.number_ahead.ensures ∙ c.if-number_ahead.false) (sym c.name_ahead.ensures ∙ c.if-name_ahead.false)
