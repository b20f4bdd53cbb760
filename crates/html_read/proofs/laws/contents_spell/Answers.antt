use Rattle.reading.proofs.PlacedLaws.{placed_before}
use Rattle.html_read.proofs.ContentLaws.{content_spells}
use Rattle.html_read.proofs.laws.contents_spell.Goals as goal

pub returns : goal.returns
returns c = λ size base nodes. placed_before (content_spells size base nodes) (λ rest ends. record { no_text = ends.0; ends = ends.1 })
