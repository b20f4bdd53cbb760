use Rattle.line_fill.proofs.Summing.{content_told}
use Rattle.line_fill.proofs.sums.Sums.content_end.Goals as goal

pub returns-clause-value : goal.returns-clause-value
returns-clause-value c = λ items stand. content_told items c.args.from c.args.to _ _ _ (c.place-end.ensures.value items stand) c.max.ensures (c.place.ensures.value items stand)
