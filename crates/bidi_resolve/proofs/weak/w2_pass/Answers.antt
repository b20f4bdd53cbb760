use Rattle.wm_chars.specs.declared.classes.BidiClass.TheVariants.{L}
use Rattle.std.proofs.Common.{arith}
use Rattle.bidi_resolve.specs.Weak.{w2_class, w2_after}
use Rattle.bidi_resolve.proofs.Passes.{pass_on}
use Rattle.bidi_resolve.proofs.weak.w2_pass.Goals as goal

pub loop-i-preserved : goal.loop-i-preserved
loop-i-preserved c =
    pass_on (λ last own after. w2_class last own) w2_after c.loop-i.last c.w2_at-last.result c.loop-i.classes c.w2_at-last.new.classes _ c.loop-i.i L (omega arith)
    (c.w2_at-last.ensures.class L) (c.w2_at-last.ensures.last L) c.loop-i.invariant
