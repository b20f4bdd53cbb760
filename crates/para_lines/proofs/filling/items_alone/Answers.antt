use Rattle.std.proofs.Common.{rules, ◌≡◌, ◌<◌, ◌≤◌, arith, length, get_or, List, ℕ}
use Rattle.std.proofs.lemmas.List.{get_or_default}
use Rattle.fragment_types.specs.declared.breaking.Breaking.{Breaking}
use Rattle.fragment_types.specs.declared.breaking.Breaking.TheVariants.{No}
use Rattle.para_prepare.specs.declared.item.PreparedItem.{PreparedItem}
use Rattle.para_lines.specs.Prepared.{preparation_of}
use Rattle.para_lines.proofs.FillLaws.{filling_all, filling_on}
use Rattle.para_lines.proofs.filling.items_alone.Goals as goal

pub loop-place-preserved : goal.loop-place-preserved
loop-place-preserved c =
    let items : List PreparedItem = c.args.lists.now.items.now in
    let breaks : List Breaking = c.args.lists.now.breaks.now in
    let k : ℕ = c.loop-place.place in
    let item : PreparedItem = get_or items k c.index-lists-place.result in
    let end_ : Breaking = get_or breaks k No in
    let lt : k < length items = search rules in
    let many : length breaks ≡ length items = c.args.lists.now.each_break in
    let read : item ≡ get_or items k item = get_or_default items k c.index-lists-place.result item lt in
    let read_end : end_ ≡ get_or breaks k end_ = get_or_default breaks k No end_ (omega arith) in
    record {
      done = λ inline entries one.
          rw c.past-advances.ensures (filling_on inline entries items breaks c.args.advances.now c.loop-place.advances.now c.loop-place.made.items _ k item end_ c.item_alone.result
          lt many read read_end (c.item_alone.ensures inline entries item end_ one read read_end) c.push_reserved.ensures.items (c.loop-place.invariant.done inline entries one));
      room =
          let r = c.loop-place.invariant.room in
          let n = c.push_reserved.ensures.len in
          let w = c.push_reserved.ensures.capacity in
          omega (arith, r, n, w, lt);
    }

pub returns : goal.returns
returns c inline entries one =
    let past : length c.args.lists.now.items.now ≤ c.loop-place.place = search rules in
    filling_all inline entries (preparation_of c.args.lists.now) c.args.advances.now c.loop-place.advances.now c.loop-place.made.items c.loop-place.place past (c.loop-place.invariant.done inline entries one)
