use Rattle.std.proofs.Common.{◌∙◌, ◌+◌, ◌*◌, ◌<◌, ◌≤◌, ◌^◌, arith, length, get_or, List, ℕ, unsigned_abs}
use Rattle.std.proofs.lemmas.List.{get_or_default, length-map}
use Rattle.para_lines.specs.Line.{standing_of}
use Rattle.para_lines.specs.Setting.{entries_in, lines_reach, room_between, standings_in}
use Rattle.para_lines.proofs.SpreadLaws.{bound_on, pieces_within, source_there}
use Rattle.para_lines.proofs.StackLaws.{can_add, stacking_all, stacking_on}
use Rattle.para_lines.proofs.lines.stacked.Goals as goal

pub add-requires-clause-part : goal.add-requires-clause-part
add-requires-clause-part g c =
    let ends : List ℕ = c.args.ends.now in
    let k : ℕ = c.loop-end.end-index in
    let lt : k < length ends = c.loop-end-test.true in
    let many = length-map c.args.setting.now.standings.now (standing_of (entries_in c.args.setting.now)) in
    let few = c.args.setting.now.is_setting.few in
    let can = can_add _ c.args.setting.now.container.now (entries_in c.args.setting.now) (standings_in c.args.setting.now) ends c.loop-end.stack k (get_or ends k 0) lt
    (get_or_default ends k 0 (get_or ends k 0) lt) (omega arith) c.args.setting.now.is_setting.reach c.loop-end.invariant.stacking in
    let later = can.later in
    let within = can.within in
    record { order = omega arith; within = omega arith }

pub add-requires-clause-block : goal.add-requires-clause-block
add-requires-clause-block g c =
    let ends : List ℕ = c.args.ends.now in
    let k : ℕ = c.loop-end.end-index in
    let lt : k < length ends = c.loop-end-test.true in
    let many = length-map c.args.setting.now.standings.now (standing_of (entries_in c.args.setting.now)) in
    let few = c.args.setting.now.is_setting.few in
    let can = can_add _ c.args.setting.now.container.now (entries_in c.args.setting.now) (standings_in c.args.setting.now) ends c.loop-end.stack k (get_or ends k 0) lt
    (get_or_default ends k 0 (get_or ends k 0) lt) (omega arith) c.args.setting.now.is_setting.reach c.loop-end.invariant.stacking in
    can.near

pub loop-end-preserved : goal.loop-end-preserved
loop-end-preserved g c =
    let ends : List ℕ = c.args.ends.now in
    let k : ℕ = c.loop-end.end-index in
    let lt : k < length ends = c.loop-end-test.true in
    let h = c.loop-end.invariant.stacking in
    let many = length-map c.args.setting.now.standings.now (standing_of (entries_in c.args.setting.now)) in
    let few = c.args.setting.now.is_setting.few in
    let can = can_add _ c.args.setting.now.container.now (entries_in c.args.setting.now) (standings_in c.args.setting.now) ends c.loop-end.stack k (get_or ends k 0) lt
    (get_or_default ends k 0 (get_or ends k 0) lt) (omega arith) c.args.setting.now.is_setting.reach h in
    let later = can.later in
    let within = can.within in
    let there : 0 < length c.args.setting.now.boxes.now = source_there c.args.setting.now.standings.now (length c.args.setting.now.boxes.now) c.args.setting.now.is_setting.able (omega arith) in
    let near : (most : ℕ) → unsigned_abs c.loop-end.stack.block + 14 * 2 ^ 36 + 16 * room_between (standings_in c.args.setting.now) c.loop-end.stack.from (get_or ends k 0)
    + length c.args.setting.now.boxes.now * (3 * 2 ^ 39) + most ≤ lines_reach (length c.args.setting.now.boxes.now) (standings_in c.args.setting.now) + most =
    λ most. bound_on (length c.args.setting.now.boxes.now) k c.loop-end.stack.from (get_or ends k 0) most (standings_in c.args.setting.now) c.loop-end.stack.block h.some later within there h.near in
    record {
      stacking = stacking_on _ c.args.setting.now.container.now (entries_in c.args.setting.now) (standings_in c.args.setting.now) ends c.loop-end.stack c.add.new.self k (get_or ends k 0) lt
          (get_or_default ends k 0 (get_or ends k 0) lt) c.in_ok-add.ensures.from c.in_ok-add.ensures.block c.in_ok-add.ensures.within c.in_ok-add.ensures.count c.in_ok-add.ensures.made
          (c.in_ok-add.ensures.near h.lines) h;
      spread = λ most held. c.in_ok-add.ensures.spread (lines_reach (length c.args.setting.now.boxes.now) (standings_in c.args.setting.now) + most) most held (near most) (c.loop-end.invariant.spread most held);
      seats = c.in_ok-add.ensures.seats ∙ c.loop-end.invariant.seats;
    }

pub returns-clause-lines : goal.returns-clause-lines
returns-clause-lines g c =
    let past : length c.args.ends.now ≤ c.loop-end.end-index = omega arith in
    stacking_all _ c.args.setting.now.container.now (entries_in c.args.setting.now) (standings_in c.args.setting.now) c.args.ends.now c.loop-end.stack c.loop-end.end-index past c.loop-end.invariant.stacking

pub returns-clause-spread : goal.returns-clause-spread
returns-clause-spread g c most held =
    pieces_within (lines_reach (length c.args.setting.now.boxes.now) (standings_in c.args.setting.now) + most) c.loop-end.stack.made.items (c.loop-end.invariant.spread most held)
