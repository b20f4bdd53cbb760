use Rattle.std.proofs.Common.{ap, sym, ◌∙◌, ◌||◌}
use Rattle.std.specs.Str.{chars}
use Rattle.fragment_types.specs.Item.{entries_of}
use Rattle.para_prepare.specs.White.{leads, signs}
use Rattle.para_prepare.proofs.WhiteLaws.{leads_text}
use Rattle.para_prepare.proofs.white.leads.Goals as goal

pub returns-then-has_content : goal.returns-then-has_content
returns-then-has_content c =
    let after = signs (entries_of c.args.behind.now) in
    c.if-has_content.true
    ∙ sym (leads_text (chars c.args.rest.now) after ∙ ap (λ content. content || leads after) (sym c.has_content.ensures ∙ c.if-has_content.true))

pub returns-else-has_content : goal.returns-else-has_content
returns-else-has_content c =
    let after = signs (entries_of c.args.behind.now) in
    c.leads_in.ensures
    ∙ sym (leads_text (chars c.args.rest.now) after ∙ ap (λ content. content || leads after) (sym c.has_content.ensures ∙ c.if-has_content.false))
