use Rattle.std.proofs.Common.{◌≡◌, take}
use Rattle.std.specs.List.{list_any}
use Rattle.bidi_resolve.specs.Brackets.{may_be_bracket}
use Rattle.bidi_resolve.proofs.brackets.has_bracket_class.Given as goal

abbrev pub invariant-loop-class : goal.invariant-loop-class
invariant-loop-class l = l.has ≡ list_any may_be_bracket (take l.class-index l.classes)
