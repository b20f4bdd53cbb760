use Rattle.reading.proofs.Running.{cut}
use Rattle.reading.proofs.cuts.front_of.Goals as goal

pub split_at-requires : goal.split_at-requires
split_at-requires c = cut c.args.text.now c.args.rest.now c.requires c.utf8.rest
