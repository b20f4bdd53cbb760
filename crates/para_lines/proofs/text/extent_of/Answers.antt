use Rattle.std.proofs.Common.{◌-◌, ap, arith, map}
use Rattle.std.proofs.lemmas.Int.{ints}
use Rattle.line_place.specs.Reach.{item_reach}
use Rattle.line_place.proofs.SumLaws.{total_back, total_rest}
use Rattle.para_lines.specs.Standing.{Standing, plain}
use Rattle.para_lines.specs.Text.{bare}
use Rattle.para_lines.proofs.TextLines.{extent_back}
use Rattle.para_lines.proofs.text.extent_of.Goals as goal

pub overflow_add-extent : goal.overflow_add-extent
overflow_add-extent c =
    let t = total_back item_reach bare c.args.standings.now c.loop-from.from (plain c.at.result) c.loop-from-test.true c.loop-from.invariant.within (c.at.ensures (plain c.at.result)) in
    let r = total_rest item_reach (map bare c.args.standings.now) (c.loop-from.from - 1) in
    let s = ap (λ (x : Standing). x.extent) (c.at.ensures (plain c.at.result)) in
    omega (arith, ints, t, r, s, c.requires, c.loop-from.invariant.near)

pub loop-from-preserved : goal.loop-from-preserved
loop-from-preserved c =
    let t = total_back item_reach bare c.args.standings.now c.loop-from.from (plain c.at.result) c.loop-from-test.true c.loop-from.invariant.within (c.at.ensures (plain c.at.result)) in
    let r = total_rest item_reach (map bare c.args.standings.now) (c.loop-from.from - 1) in
    let e = extent_back c.args.standings.now c.loop-from.from (plain c.at.result) c.loop-from-test.true c.loop-from.invariant.within (c.at.ensures (plain c.at.result)) in
    let s = ap (λ (x : Standing). x.extent) (c.at.ensures (plain c.at.result)) in
    record {
      is = omega (arith, ints, e, t, r, s, c.requires, c.loop-from.invariant.is, c.loop-from.invariant.near);
      near = omega (arith, ints, t, r, s, c.requires, c.loop-from.invariant.near);
      within = omega arith;
    }
