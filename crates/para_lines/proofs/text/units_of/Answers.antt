use Rattle.std.proofs.Common.{◌<◌, arith, length}
use Rattle.para_lines.specs.Standing.{plain}
use Rattle.para_lines.proofs.TextLines.{units_more}
use Rattle.para_lines.proofs.text.units_of.Goals as goal

pub loop-k-preserved : goal.loop-k-preserved
loop-k-preserved c =
    let lt : c.loop-k.k < length c.args.standings.now = omega (arith, c.loop-k-test.true, c.count-k-end.ensures) in
    record {
      items = units_more c.args.standings.now c.loop-k.k (plain c.at.result) c.loop-k.made.items c.push_reserved.new.self.items _ lt (c.at.ensures (plain c.at.result)) c.loop-k.invariant.items c.in_ok-unit_of.ensures
          c.push_reserved.ensures.items;
      room =
          let r = c.loop-k.invariant.room in
          let n = c.push_reserved.ensures.len in
          let w = c.push_reserved.ensures.capacity in
          omega (arith, r, n, w, lt);
    }
