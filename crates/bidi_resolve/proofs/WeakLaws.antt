-- Each weak rule as a pass.
use Rattle.std.proofs.Common.{◌≡◌, refl, sym, List, []}
use Rattle.wm_chars.specs.declared.classes.BidiClass.{BidiClass}
use Rattle.wm_chars.specs.declared.classes.BidiClass.TheVariants.{ON}
use Rattle.bidi_resolve.proofs.Passes.{pass, each_is_pass}
use Rattle.bidi_resolve.specs.Weak.{w1, w1_class, w1_after, w1_before, w2, w2_class, w2_after, last_strong, w4, w4_class, next_to, w5, w5_class, w5_after, beside, w7, w7_class, w7_after, last_direction}

pub w1_starts : (sos : BidiClass) (cs : List BidiClass) → pass (λ handed c after. w1_class handed c) w1_after sos cs ≡ w1 sos cs
w1_starts sos cs = sym (each_is_pass (w1_before sos) (λ handed c after. w1_class handed c) w1_after (λ x before. refl) [] cs)

pub w2_starts : (sos : BidiClass) (cs : List BidiClass) → pass (λ last c after. w2_class last c) w2_after sos cs ≡ w2 sos cs
w2_starts sos cs = sym (each_is_pass (last_strong sos) (λ last c after. w2_class last c) w2_after (λ x before. refl) [] cs)

pub w4_starts : (cs : List BidiClass) → pass (λ before c after. w4_class before c (next_to after)) (λ before c. c) ON cs ≡ w4 cs
w4_starts cs = sym (each_is_pass next_to (λ before c after. w4_class before c (next_to after)) (λ before c. c) (λ x before. refl) [] cs)

pub w5_starts : (cs : List BidiClass) → pass (λ before c after. w5_class before c (beside after)) w5_after ON cs ≡ w5 cs
w5_starts cs = sym (each_is_pass beside (λ before c after. w5_class before c (beside after)) w5_after (λ x before. refl) [] cs)

pub w7_starts : (sos : BidiClass) (cs : List BidiClass) → pass (λ last c after. w7_class last c) w7_after sos cs ≡ w7 sos cs
w7_starts sos cs = sym (each_is_pass (last_direction sos) (λ last c after. w7_class last c) w7_after (λ x before. refl) [] cs)
