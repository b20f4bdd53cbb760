use Rattle.std.proofs.Common.{◌≡◌, take}
use Rattle.std.specs.List.{list_any}
use Rattle.bidi_resolve.specs.Brackets.{is_against}
use Rattle.bidi_resolve.proofs.brackets.has_against.Given as goal

abbrev pub invariant-loop-class : goal.invariant-loop-class
invariant-loop-class l = l.has ≡ list_any (is_against l.level) (take l.class-index l.inside)
