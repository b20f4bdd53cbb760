use Rattle.std.proofs.Common.{◌≡◌, drop}
use Rattle.bidi_resolve.specs.Pairing.{found}
use Rattle.bidi_resolve.proofs.pairing.Pairing.holds.Given as goal

abbrev pub invariant-loop-i : goal.invariant-loop-i
invariant-loop-i l = found l.char (drop l.i l.self.opened.items) ≡ found l.char l.self.opened.items
