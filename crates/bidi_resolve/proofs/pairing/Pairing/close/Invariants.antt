use Rattle.std.proofs.Common.{◌≡◌, ◌<◌, true, length, All}
use Rattle.std.specs.Option.{is_some}
use Rattle.bidi_resolve.specs.Pairing.{found}
use Rattle.bidi_resolve.proofs.pairing.Pairing.close.Given as goal

abbrev pub invariant-loop-last : goal.invariant-loop-last
invariant-loop-last l = record {
  first : found l.char l.self.opened.items ≡ found l.char l.fn.self.opened.items;
  some : is_some (found l.char l.self.opened.items) ≡ true;
  within : All (λ opened. opened.number < length l.self.closings.items) l.self.opened.items;
  openings : l.self.openings.items ≡ l.fn.self.openings.items;
  closings : l.self.closings.items ≡ l.fn.self.closings.items;
  stopped : l.self.stopped ≡ l.fn.self.stopped;
}

abbrev pub decreases-loop-last : goal.decreases-loop-last
decreases-loop-last l = length l.self.opened.items
