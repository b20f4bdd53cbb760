use Rattle.std.proofs.Common.{◌∙◌, refl, ap, sym, ℕ, ◌+◌, add-one}
use Rattle.style_types.specs.declared.style.Style.{Style}
use Rattle.box_gen.specs.declared.run.Run.{Run}
use Rattle.box_gen.specs.Tree.{box, inline, none}
use Rattle.box_gen.specs.Boxes.{anonymous}
use Rattle.box_gen.specs.Building.{filling_of, run_of}
use Rattle.box_gen.proofs.Fillings.{not_false, not_true, run_dropped, run_wrapped}
use Rattle.box_gen.proofs.filling.Filling.end_run.Goals as goal

pub returns-in_ok-push : goal.returns-in_ok-push
returns-in_ok-push c =
    let was = c.args.self.now in
    run_wrapped (filling_of was) was.boxes.items c.push.new.self.items c.paragraph.result _ _
    (ap (λ (run : Run). run.blank) (sym c.replace-run.ensures.value) ∙ not_true _ c.if-not-run.true)
    refl c.in_ok-push.ensures.items
    (c.paragraph.ensures
    ∙ ap (λ (style : Style). box (record { node = was.node; ordinal = was.anonymous + 1 }) style (inline (run_of c.replace-run.result).items) (run_of c.replace-run.result).atoms none)
    (c.in_ok-style.ensures ∙ (c.anonymous_style.ensures ∙ ap anonymous c.deref.ensures))
    ∙ ap (λ (run : Run). box (record { node = was.node; ordinal = was.anonymous + 1 }) (anonymous was.style) (inline (run_of run).items) (run_of run).atoms none) c.replace-run.ensures.value
    ∙ ap (λ (ordinal : ℕ). box (record { node = was.node; ordinal = ordinal }) (anonymous was.style) (inline (run_of was.run).items) (run_of was.run).atoms none) (add-one was.anonymous))
    (add-one was.anonymous)
    (ap run_of c.replace-run.ensures.after ∙ c.new.ensures)

pub returns-else-not-run : goal.returns-else-not-run
returns-else-not-run c =
    run_dropped (filling_of c.args.self.now) _ (ap (λ (run : Run). run.blank) (sym c.replace-run.ensures.value) ∙ not_false _ c.if-not-run.false)
    (ap run_of c.replace-run.ensures.after ∙ c.new.ensures)
