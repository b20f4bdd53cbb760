use Rattle.std.proofs.Common.{◌≡◌, leb, take}
use Rattle.std.specs.List.{list_any}
use Rattle.bidi_order.proofs.blocks.any_reaches.Given as goal

abbrev pub invariant-loop-own : goal.invariant-loop-own
invariant-loop-own l = l.any ≡ list_any (leb l.level) (take l.own-index l.levels)
