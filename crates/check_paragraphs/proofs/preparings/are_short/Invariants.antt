use Rattle.std.proofs.Common.{◌≡◌, ◌≤◌, take}
use Rattle.std.specs.List.{sum_by}
use Rattle.fragment_types.specs.Item.{entry_of}
use Rattle.para_prepare.specs.Limits.{bytes_in}
use Rattle.check_paragraphs.proofs.preparings.are_short.Given as goal

-- the sum so far
abbrev pub invariant-loop-item : goal.invariant-loop-item
invariant-loop-item l = (l.sum ≡ sum_by (λ item. bytes_in (entry_of item)) (take l.item-index l.items)) × (l.sum ≤ 1048576)
