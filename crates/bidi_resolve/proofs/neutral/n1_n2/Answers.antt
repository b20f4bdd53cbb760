use Rattle.std.proofs.Common.{arith, rules, ◌≡◌, ◌∙◌, ap, ◌+◌, ◌++◌, List, get_or, take, drop, set}
use Rattle.std.proofs.lemmas.List.{drop-set-lt}
use Rattle.bidi_resolve.proofs.NeutralLaws.{n1_n2_starts}
use Rattle.bidi_resolve.proofs.Passes.{pass, pass_more}
use Rattle.bidi_resolve.specs.Neutral.{n1_after, n1_class, n2_class, side}
use Rattle.wm_chars.specs.declared.classes.BidiClass.{BidiClass}
use Rattle.wm_chars.specs.declared.classes.BidiClass.TheVariants.{L}
use Rattle.bidi_resolve.proofs.neutral.n1_n2.Goals as goal

pub loop-i-init : goal.loop-i-init
loop-i-init c = record { passed = n1_n2_starts c.args.frame.level c.args.frame.sos c.args.frame.eos c.args.classes.now; sees = λ k low high. absurd (omega arith) }

pub loop-i-preserved : goal.loop-i-preserved
loop-i-preserved c =
    let i = c.loop-i.i in
    let cs = c.loop-i.classes in
    let eos = c.args.frame.eos in
    let out : BidiClass → BidiClass → List BidiClass → BidiClass = λ before own after. n2_class c.args.frame.level (n1_class before own (side eos after)) in
    let new = set cs i (out c.loop-i.seen.before (get_or cs i L) (drop (i + 1) cs)) in
    let is : c.step-seen.new.classes ≡ new = c.step-seen.ensures.class L in
    record {
      passed = ap (λ (l : List BidiClass). take (i + 1) l ++ pass out n1_after c.step-seen.result.before (drop (i + 1) l)) is
          ∙ ap (λ (s : BidiClass). take (i + 1) new ++ pass out n1_after s (drop (i + 1) new)) (c.step-seen.ensures.before L)
          ∙ pass_more out n1_after c.loop-i.seen.before cs i L (search rules)
          ∙ c.loop-i.invariant.passed;
      sees = λ k low high.
          ap (λ (l : List BidiClass). side eos (drop k l)) is
          ∙ ap (side eos) (drop-set-lt k cs i (out c.loop-i.seen.before (get_or cs i L) (drop (i + 1) cs)) (omega arith))
          ∙ c.step-seen.ensures.sees k (omega arith) high;
    }
