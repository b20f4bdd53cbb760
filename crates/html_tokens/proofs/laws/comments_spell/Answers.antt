use Rattle.html_tokens.proofs.MiscLaws.{raw_spells, comment_spells, misc_spells, doctype_spells}
use Rattle.html_tokens.proofs.laws.comments_spell.Goals as goal

pub returns : goal.returns
returns c = record { runs = λ end_. raw_spells end_; comments = comment_spells; misc = λ mark begins. misc_spells mark begins; doctype = doctype_spells }
