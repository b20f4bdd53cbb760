use Rattle.std.proofs.Common.{rules, ◌∙◌, ◌<◌, ◌≤◌, ap, sym, arith, length}
use Rattle.para_prepare.specs.declared.item.PreparedItem.{PreparedItem}
use Rattle.para_lines.specs.Standing.{count_behind}
use Rattle.para_lines.proofs.StandLaws.{counting_all, counting_first, counting_on}
use Rattle.para_lines.proofs.standing.skipped_atoms.Goals as goal

pub loop-place-init : goal.loop-place-init
loop-place-init c =
    let none = c.in_ok-made.ensures.items in
    let l = c.in_ok-made.ensures.len in
    let w = c.in_ok-made.ensures.capacity in
    record { counting = rw none (counting_first (length c.args.atoms.now) c.args.items.now); room = omega (arith, l, w) }

pub loop-place-preserved : goal.loop-place-preserved
loop-place-preserved c =
    let lt : c.loop-place.place < length c.args.items.now = search rules in
    record {
      counting = counting_on (length c.args.atoms.now) c.args.items.now c.loop-place.made.items c.push_reserved.new.self.items c.loop-place.count c.loop-place.place _ c.index-items-place.result lt c.index-items-place.is c.push_reserved.ensures.items
          (c.count_behind-count.ensures.value ∙ ap (λ (i : PreparedItem). count_behind i.what c.loop-place.count (length c.args.atoms.now)) (sym c.index-items-place.is)) c.count_behind-count.ensures.within
          c.loop-place.invariant.counting;
      room =
          let r = c.loop-place.invariant.room in
          let n = c.push_reserved.ensures.len in
          let w = c.push_reserved.ensures.capacity in
          omega (arith, r, n, w, lt);
    }

pub returns : goal.returns
returns c =
    let past : length c.args.items.now ≤ c.loop-place.place = search rules in
    let some : 0 < length c.args.atoms.now = search rules in
    counting_all (length c.args.atoms.now) c.args.items.now c.loop-place.made.items c.loop-place.count c.loop-place.place some past c.loop-place.invariant.counting
