use Rattle.std.proofs.Common.{◌≡◌, take}
use Rattle.std.specs.List.{list_any}
use Rattle.bidi_resolve.specs.Paragraph.{is_right}
use Rattle.bidi_resolve.proofs.paragraph.has_right.Given as goal

abbrev pub invariant-loop-class : goal.invariant-loop-class
invariant-loop-class l = l.has ≡ list_any is_right (take l.class-index l.classes)
