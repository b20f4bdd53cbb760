use Rattle.std.proofs.Common.{◌∙◌, ap, set}
use Rattle.std.proofs.lemmas.List.{get_or_default}
use Rattle.wm_chars.specs.declared.classes.BidiClass.{BidiClass}
use Rattle.wm_chars.specs.declared.classes.BidiClass.TheVariants.{L}
use Rattle.bidi_resolve.specs.Weak.{w2_class}
use Rattle.bidi_resolve.proofs.Passes.{set_kept}
use Rattle.bidi_resolve.proofs.weak.w2_at.Goals.{then-is_european, else-is_european}
use Rattle.bidi_resolve.proofs.weak.w2_at.Goals as goal

pub returns-clause-class : goal.returns-clause-class
returns-clause-class c = λ d.
    let cs = c.args.classes.now in
    let place = c.args.place in
    elim c.if-is_european.branch [
      | then-is_european w ↦
          w.classes-is ∙ ap (λ (own : BidiClass). set cs place own) (w.w2_class.ensures ∙ ap (w2_class c.args.last) (get_or_default cs place L d c.requires))
      | else-is_european w ↦
          w.classes-is ∙ set_kept (w2_class c.args.last) cs place d L c.requires (c.is_european.ensures.w2 w.if-is_european.false c.args.last)
    ]
