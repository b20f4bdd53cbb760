use Rattle.std.proofs.Common.{◌≡◌, take}
use Rattle.bidi_resolve.specs.Brackets.{context}
use Rattle.wm_chars.specs.declared.classes.BidiClass.{BidiClass}
use Rattle.bidi_resolve.proofs.brackets.advance.Given as goal

abbrev pub invariant-loop-i : goal.invariant-loop-i
invariant-loop-i l = (sos : BidiClass) → l.fn.context.last ≡ context sos (take l.fn.context.seen l.classes) → l.context.last ≡ context sos (take l.i l.classes)
