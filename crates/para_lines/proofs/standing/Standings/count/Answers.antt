use Rattle.std.proofs.Common.{arith, ap, length}
use Rattle.para_lines.proofs.StandLaws.{standings_length}
use Rattle.para_lines.proofs.standing.Standings.count.Goals as goal

pub returns : goal.returns
returns c =
    let own = c.self.inside.lists in
    let n = standings_length own.items.now own.levels.now own.classes.now own.bases.now own.breaks.now c.self.inside.skipped.now c.self.inside.atoms.now own.each_level own.each_class own.each_base own.each_break in
    omega (arith, n, ap length c.self.view_is)
