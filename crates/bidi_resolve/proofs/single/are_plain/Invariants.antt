use Rattle.std.proofs.Common.{◌≡◌, take}
use Rattle.std.specs.List.{list_all}
use Rattle.bidi_resolve.specs.Single.{is_plain}
use Rattle.bidi_resolve.proofs.single.are_plain.Given as goal

abbrev pub invariant-loop-class : goal.invariant-loop-class
invariant-loop-class l = l.all ≡ list_all is_plain (take l.class-index l.classes)
