use Rattle.std.proofs.Common.{◌≡◌, ◌+◌, ◌^◌, ◌≤◌, take}
use Rattle.std.specs.List.{sum_by}
use Rattle.line_place.specs.Line.{item_of}
use Rattle.line_place.specs.Reach.{item_reach}
use Rattle.check_paragraphs.proofs.limits.with_items.Given as goal

-- the sum so far
abbrev pub invariant-loop-item : goal.invariant-loop-item
invariant-loop-item l = (l.sum ≡ l.start + sum_by (λ item. item_reach (item_of item)) (take l.item-index l.items)) × (l.sum ≤ 2 ^ 60)
