use Rattle.std.proofs.Common.{◌≡◌, take}
use Rattle.std.specs.List.{list_any}
use Rattle.bidi_resolve.specs.Weak.{is_european}
use Rattle.bidi_resolve.proofs.weak.has_european.Given as goal

abbrev pub invariant-loop-class : goal.invariant-loop-class
invariant-loop-class l = l.has ≡ list_any is_european (take l.class-index l.classes)
