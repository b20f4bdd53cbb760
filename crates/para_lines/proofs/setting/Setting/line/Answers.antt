use Rattle.std.proofs.Common.{◌∙◌, ℕ, ◌+◌, ◌≤◌, ◌^◌, arith, ap, sym, subst, length, List, []}
use Rattle.std.specs.Prelude.{All}
use Rattle.std.specs.List.{slice_range}
use Rattle.fragment_types.specs.Item.{Entry}
use Rattle.line_place.specs.declared.line.LineBox.{LineBox}
use Rattle.line_place.specs.Line.{Line, line_in}
use Rattle.line_place.specs.Placing.{line_over, line_under, parts}
use Rattle.line_place.specs.Reach.{AreNear, line_reach, total}
use Rattle.para_lines.specs.Standing as code
use Rattle.para_lines.specs.Line.{IsAble, on_line, standing_of}
use Rattle.para_lines.specs.Seats.{AreOnLine, AreSeats}
use Rattle.para_lines.specs.Lines.{Standing}
use Rattle.para_lines.specs.Reach.{standing_reach}
use Rattle.para_lines.specs.Setting.{entries_in, reach_between, room_between, standings_in}
use Rattle.para_lines.proofs.LineReach.{line_far, line_near}
use Rattle.para_lines.proofs.Nesting.{line_inside, line_nested}
use Rattle.para_lines.proofs.OnLine.{all_on_line, on_line_within}
use Rattle.para_lines.proofs.SettingLaws.{all_range, limit_of, line_is, on_same, rise_range, total_range}
use Rattle.para_lines.proofs.SpreadLaws.{between_spread}
use Rattle.para_lines.proofs.StackLaws.{range_map}
use Rattle.para_lines.proofs.setting.Setting.line.Goals as goal

pub boxes_on-requires : goal.boxes_on-requires
boxes_on-requires g c =
    let P : List code.Standing → Type 0 = λ standings. All (IsAble (length c.args.self.now.boxes.now)) standings in
    subst P (sym c.between-standings.ensures) (all_range (IsAble (length c.args.self.now.boxes.now)) c.args.self.now.standings.now c.args.from c.args.end c.requires.part.order c.requires.part.within c.args.self.now.is_setting.able)

pub seat-requires : goal.seat-requires
seat-requires g c =
    let own : List code.Standing = slice_range c.args.self.now.standings.now c.args.from c.args.end in
    let able = all_range (IsAble (length c.args.self.now.boxes.now)) c.args.self.now.standings.now c.args.from c.args.end c.requires.part.order c.requires.part.within c.args.self.now.is_setting.able in
    on_line_within c.args.self.now.boxes.now own _ _ (c.deref.ensures.value ∙ c.in_ok-places.ensures ∙ ap (on_line c.args.self.now.boxes.now []) c.between-standings.ensures) (sym c.requires.seats) able

pub invariant_of-seated : goal.invariant_of-seated
invariant_of-seated g c =
    let own : List code.Standing = slice_range c.args.self.now.standings.now c.args.from c.args.end in
    let able = all_range (IsAble (length c.args.self.now.boxes.now)) c.args.self.now.standings.now c.args.from c.args.end c.requires.part.order c.requires.part.within c.args.self.now.is_setting.able in
    let P : List ℕ → Type 0 = λ places. AreOnLine c.args.self.now.boxes.now places in
    let S : List ℕ → Type 0 = λ places. AreSeats places c.deref-3.result.now in
    let T : List ℕ → Type 0 = λ seats. AreSeats c.deref.result.now seats in
    record {
      is_seated = record {
        container_is = c.args.self.now.is_setting.container_is;
        seats_are = subst S (c.deref.ensures.value ∙ sym c.deref-2.ensures.value) (subst T (sym c.deref-3.ensures.value) c.seat.ensures.seats);
        on_line = subst P (sym (c.deref-2.ensures.value ∙ c.in_ok-places.ensures ∙ ap (on_line c.args.self.now.boxes.now []) c.between-standings.ensures)) (all_on_line c.args.self.now.boxes.now own able);
        before = c.source_before.ensures.there (length c.args.self.now.boxes.now) c.args.self.now.is_setting.able;
        after = c.source_at.ensures.there (length c.args.self.now.boxes.now) c.args.self.now.is_setting.able;
      };
    }

pub new-items-requires : goal.new-items-requires
new-items-requires g c =
    let P : List code.Standing → Type 0 = λ standings. All (IsAble (length c.args.self.now.boxes.now)) standings in
    record {
      able = subst P (sym c.between-standings.ensures) (all_range (IsAble (length c.args.self.now.boxes.now)) c.args.self.now.standings.now c.args.from c.args.end c.requires.part.order c.requires.part.within c.args.self.now.is_setting.able);
      places = c.deref-2.ensures.value ∙ c.in_ok-places.ensures;
    }

pub place_line_with-requires-clause-inside : goal.place_line_with-requires-clause-inside
place_line_with-requires-clause-inside g c =
    let own : List code.Standing = slice_range c.args.self.now.standings.now c.args.from c.args.end in
    line_inside _ c.args.self.now.container.now c.args.self.now.boxes.now _ _ own (line_in c.frame-frame.result _) (on_same _ _ _ _ _ _ c.frame-frame.ensures.line c.new-items.ensures c.between-standings.ensures)

pub place_line_with-requires-clause-nested : goal.place_line_with-requires-clause-nested
place_line_with-requires-clause-nested g c =
    let own : List code.Standing = slice_range c.args.self.now.standings.now c.args.from c.args.end in
    let able = all_range (IsAble (length c.args.self.now.boxes.now)) c.args.self.now.standings.now c.args.from c.args.end c.requires.part.order c.requires.part.within c.args.self.now.is_setting.able in
    line_nested _ c.args.self.now.container.now c.args.self.now.boxes.now _ _ own (line_in c.frame-frame.result _) (on_same _ _ _ _ _ _ c.frame-frame.ensures.line c.new-items.ensures c.between-standings.ensures) able

pub place_line_with-requires-clause-reach : goal.place_line_with-requires-clause-reach
place_line_with-requires-clause-reach g c =
    let set = c.args.self.now.is_setting in
    let entries : List Entry = c.args.self.now.boxes.now in
    let own : List code.Standing = slice_range c.args.self.now.standings.now c.args.from c.args.end in
    let able = all_range (IsAble (length entries)) c.args.self.now.standings.now c.args.from c.args.end c.requires.part.order c.requires.part.within set.able in
    let e = ap (total standing_reach) (range_map (standing_of entries) c.args.self.now.standings.now c.args.from c.args.end) in
    let t = total_range standing_reach (standings_in c.args.self.now) c.args.from c.args.end in
    let r = set.reach in
    let N : List LineBox → Type 0 = λ boxes. All (λ b. AreNear b.extents) boxes in
    let near = subst N (sym (c.frame-frame.ensures.boxes ∙ c.deref-4.ensures.value)) c.in_ok-boxes.ensures.near in
    line_near _ c.args.self.now.container.now entries _ _ own (line_in c.frame-frame.result _) (on_same _ _ _ _ _ _ c.frame-frame.ensures.line c.new-items.ensures c.between-standings.ensures) set.bounded.bounds set.bounded.few
    set.container_is.low set.container_is.high able (rise_range c.args.self.now.standings.now c.args.from c.args.end set.rise) (omega (arith, e, t, r)) (c.frame-frame.ensures.strut, near)

pub returns-clause-placed : goal.returns-clause-placed
returns-clause-placed g c =
    let set = c.args.self.now.is_setting in
    let entries : List Entry = entries_in c.args.self.now in
    let all : List Standing = standings_in c.args.self.now in
    let own : List code.Standing = slice_range c.args.self.now.standings.now c.args.from c.args.end in
    let able = all_range (IsAble (length entries)) c.args.self.now.standings.now c.args.from c.args.end c.requires.part.order c.requires.part.within set.able in
    let e = ap (total standing_reach) (range_map (standing_of entries) c.args.self.now.standings.now c.args.from c.args.end) in
    let N : List LineBox → Type 0 = λ boxes. All (λ b. AreNear b.extents) boxes in
    let near = subst N (sym (c.frame-frame.ensures.boxes ∙ c.deref-4.ensures.value)) c.in_ok-boxes.ensures.near in
    let is =
    line_is _ c.args.self.now.container.now entries c.args.self.now.standings.now c.source_before.result c.source_at.result c.args.from c.args.end (line_in c.frame-frame.result _)
    (on_same _ _ _ _ _ _ c.frame-frame.ensures.line c.new-items.ensures c.between-standings.ensures) (c.source_before.ensures.chain entries) (c.source_at.ensures.chain entries) in
    let far = line_far _ c.args.self.now.container.now entries _ _ own (line_in c.frame-frame.result _) (on_same _ _ _ _ _ _ c.frame-frame.ensures.line c.new-items.ensures c.between-standings.ensures) set.bounded.bounds
    set.container_is.low set.container_is.high able (rise_range c.args.self.now.standings.now c.args.from c.args.end set.rise) (c.frame-frame.ensures.strut, near) in
    let made = c.in_ok-made.ensures in
    let parts_are = made.parts ∙ ap parts is in
    let reach : ℕ = reach_between (length c.args.self.now.boxes.now) all c.args.from c.args.end in
    let L : Line → Type 0 = λ l. line_reach l ≤ reach in
    let limit = limit_of _ c.args.self.now.container.now entries _ _ (slice_range all c.args.from c.args.end) _ is c.frame-frame.ensures.strut near in
    let close = made.within (2 ^ 34 + room_between all c.args.from c.args.end) limit in
    record {
      line_box = record { over_is = made.over ∙ ap line_over is; under_is = made.under ∙ ap line_under is; parts_are = parts_are };
      over_near = close.0;
      under_near = close.1;
      within = λ most held. between_spread _ c.args.self.now.container.now entries c.args.self.now.standings.now c.args.from c.args.end reach most _
          c.requires.part.order c.requires.part.within parts_are (subst L is (omega (arith, e, far))) held;
    }
