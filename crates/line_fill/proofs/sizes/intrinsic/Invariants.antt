use Rattle.line_fill.specs.Sizes.{is_allowed, is_forced}
use Rattle.line_fill.proofs.Widening.{Widens}
use Rattle.line_fill.proofs.sizes.intrinsic.Given as goal

abbrev pub invariant-loop-item : goal.invariant-loop-item
invariant-loop-item l = record {
  least : Widens is_allowed l.items l.least l.item-index;
  greatest : Widens is_forced l.items l.greatest l.item-index;
}
