use Rattle.std.proofs.Common.{◌≡◌, ◌++◌, take, drop}
use Rattle.bidi_resolve.specs.Paragraph.{classes_of}
use Rattle.bidi_resolve.proofs.paragraph.write_classes.Given as goal

abbrev pub invariant-loop-i : goal.invariant-loop-i
invariant-loop-i l = take l.i l.classes ++ classes_of (drop l.i l.chars) ≡ classes_of l.chars
