use Rattle.wm_chars.specs.declared.classes.BidiClass.TheVariants.{L}
use Rattle.std.proofs.Common.{arith}
use Rattle.bidi_resolve.specs.Weak.{w7_class, w7_after}
use Rattle.bidi_resolve.proofs.Passes.{pass_on}
use Rattle.bidi_resolve.proofs.weak.w7_pass.Goals as goal

pub loop-i-preserved : goal.loop-i-preserved
loop-i-preserved c =
    pass_on (λ last own after. w7_class last own) w7_after c.loop-i.last c.w7_at-last.result c.loop-i.classes c.w7_at-last.new.classes _ c.loop-i.i L (omega arith)
    (c.w7_at-last.ensures.class L) (c.w7_at-last.ensures.last L) c.loop-i.invariant
