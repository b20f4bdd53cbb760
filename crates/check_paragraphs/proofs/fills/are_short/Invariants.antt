use Rattle.std.proofs.Common.{◌≡◌, ◌^◌, ◌≤◌, take}
use Rattle.std.specs.List.{sum_by}
use Rattle.line_fill.specs.Item.{lengths_of}
use Rattle.check_paragraphs.proofs.fills.are_short.Given as goal

-- the sum so far
abbrev pub invariant-loop-item : goal.invariant-loop-item
invariant-loop-item l = (l.sum ≡ sum_by lengths_of (take l.item-index l.items)) × (l.sum ≤ 2 ^ 60)
