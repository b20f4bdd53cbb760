use Rattle.html_read.proofs.TagLaws.{start_of_spells, start_tag_spells, end_tag_spells}
use Rattle.html_read.proofs.laws.tags_spell.Goals as goal

pub returns : goal.returns
returns c = record { starts = λ size word slash. start_of_spells size word slash; body_starts = λ size. start_tag_spells size; ends = λ name. end_tag_spells name }
