use Rattle.std.proofs.Common.{◌≡◌, ◌+◌, ◌^◌, ◌≤◌, take}
use Rattle.std.specs.List.{sum_by}
use Rattle.line_place.specs.Reach.{box_reach}
use Rattle.check_paragraphs.proofs.limits.with_boxes.Given as goal

-- the sum so far
abbrev pub invariant-loop-inline_box : goal.invariant-loop-inline_box
invariant-loop-inline_box l = (l.sum ≡ l.start + sum_by box_reach (take l.inline_box-index l.boxes)) × (l.sum ≤ 2 ^ 60)
