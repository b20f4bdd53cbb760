use Rattle.std.proofs.Common.{◌≡◌, take}
use Rattle.std.specs.List.{list_any}
use Rattle.bidi_resolve.specs.Weak.{is_separator}
use Rattle.bidi_resolve.proofs.weak.has_separator.Given as goal

abbrev pub invariant-loop-class : goal.invariant-loop-class
invariant-loop-class l = l.has ≡ list_any is_separator (take l.class-index l.classes)
