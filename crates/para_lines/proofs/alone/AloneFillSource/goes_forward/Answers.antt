use Rattle.para_lines.proofs.StandLaws.{alone_forward}
use Rattle.para_lines.proofs.alone.AloneFillSource.goes_forward.Goals as goal

pub returns : goal.returns
returns c forward = alone_forward c.args.self.now.standings.now (c.args.self.now.goes forward)
