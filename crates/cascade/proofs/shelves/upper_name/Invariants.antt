use Rattle.std.proofs.Common.{◌≡◌, ◌≤◌, length, reverse}
use Rattle.css_types.specs.Rule.{compounds_of}
use Rattle.cascade.specs.Filing.{Heading, heading_above}
use Rattle.cascade.proofs.shelves.upper_name.Given as goal

abbrev pub invariant-loop-left : goal.invariant-loop-left
invariant-loop-left l = record {
  shorter : length l.left ≤ length l.fn.left;
  same : (other : Heading) → heading_above (reverse (compounds_of l.left)) other ≡ heading_above (reverse (compounds_of l.fn.left)) other;
}

abbrev pub decreases-loop-left : goal.decreases-loop-left
decreases-loop-left l = length l.left
