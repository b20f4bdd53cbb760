use Rattle.std.proofs.Common.{◌∙◌, ap, arith, sym, map}
use Rattle.line_place.specs.Line.{Item, line_in}
use Rattle.line_place.specs.Reach.{leaf_reach, total}
use Rattle.line_place.proofs.LevelZero.{in_order}
use Rattle.line_place.proofs.ReachLaws.{from_reach}
use Rattle.line_place.proofs.leaves.leaves.Goals as goal

pub returns-in_ok-leaves-clause-are : goal.returns-in_ok-leaves-clause-are
returns-in_ok-leaves-clause-are g c =
    c.in_ok-leaves.ensures.are
    ∙ sym (in_order c.level_zero_stays.ensures (line_in c.args.frame.now (g.S.LineSource.items c.args.source.now)) c.if-frame-eq0.true (c.is_level_zero.ensures c.if-is_level_zero.true))

pub returns-in_ok-leaves-clause-reach : goal.returns-in_ok-leaves-clause-reach
returns-in_ok-leaves-clause-reach g c =
    let items = g.S.LineSource.items c.args.source.now in
    let t = ap (total leaf_reach) c.in_ok-leaves.ensures.are in
    let r = from_reach 0 (map (λ (item : Item). item.level) items) items in
    omega (arith, t, r)
