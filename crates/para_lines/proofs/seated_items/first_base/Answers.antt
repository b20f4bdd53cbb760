use Rattle.std.proofs.Common.{◌∙◌, ◌<◌, ap, arith, length}
use Rattle.para_lines.specs.Standing.{Standing, plain}
use Rattle.para_lines.proofs.StandLaws.{base_first}
use Rattle.para_lines.proofs.seated_items.first_base.Goals as goal

pub returns-else-count-eq0 : goal.returns-else-count-eq0
returns-else-count-eq0 c entries =
    let some : 0 < length c.args.standings.now = omega (arith, c.count.ensures, c.if-count-eq0.false) in
    ap (λ (s : Standing). s.base) (c.at.ensures (plain c.at.result)) ∙ base_first c.args.standings.now entries (plain c.at.result) some
