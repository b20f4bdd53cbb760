use Rattle.std.proofs.Common.{[]}
use Rattle.html_tokens.specs.declared.tag.Tag.TheVariants.{Html}
use Rattle.html_tokens.specs.Tag.{tags}
use Rattle.html_tokens.proofs.TagNames.{tag_has_name, tag_has_row}
use Rattle.html_tokens.proofs.tag.Tag.name.Goals as goal

pub returns-clause-row : goal.returns-clause-row
unfolding tags
returns-clause-row c = tag_has_row c.args.self c.name_at.result.now (c.name_at.ensures ([], Html))

pub returns-clause-name : goal.returns-clause-name
unfolding tags
returns-clause-name c = tag_has_name c.args.self c.name_at.result.now (c.name_at.ensures ([], Html))
