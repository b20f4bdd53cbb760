use Rattle.std.proofs.Common.{◌≡◌, ℕ, ◌<◌, ◌≤◌, ◌++◌, length, get_or, take, drop, map}
use Rattle.bidi_resolve.specs.Places.{gathered}
use Rattle.bidi_order.proofs.line.look_up.Given as goal

abbrev pub invariant-loop-i : goal.invariant-loop-i
invariant-loop-i l = record {
  done : take l.i l.order.items ++ map (λ k. get_or l.places k 0) (drop l.i l.order.items) ≡ gathered 0 l.places l.fn.order.items;
  room : (k : ℕ) → l.i ≤ k → k < length l.order.items → get_or l.order.items k 0 < length l.places;
}
