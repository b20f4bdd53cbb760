use Rattle.std.proofs.Common.{◌∙◌, ap, sym, subst, arith, List, map}
use Rattle.std.specs.Prelude.{All}
use Rattle.std.proofs.lemmas.List.{take_all}
use Rattle.std.proofs.lemmas.List.Elements.{All-push}
use Rattle.line_fill.specs.declared.item.Intrinsic.{Intrinsic}
use Rattle.relayout.specs.Reach.{IsContribution}
use Rattle.relayout.proofs.StepLaws.{contribution_of, contributions_are, one_more_contribution}
use Rattle.relayout.proofs.step.contributions_of.Goals as goal

pub loop-child-preserved : goal.loop-child-preserved
loop-child-preserved c =
    let P : List Intrinsic → Type 0 = λ made. All IsContribution made in
    record {
      are = c.in_ok-push.ensures.items
          ∙ one_more_contribution c.args.mode c.loop-child.made.items c.contributed.result c.args.children.boxes.now c.loop-child.child-index c.child-item.result c.loop-child-test.true c.child-item.is
          c.loop-child.invariant.are c.contributed.ensures.value;
      near = subst P (sym c.in_ok-push.ensures.items) (All-push IsContribution c.loop-child.made.items c.contributed.result c.loop-child.invariant.near c.contributed.ensures.near);
    }

pub returns-clause-value : goal.returns-clause-value
returns-clause-value c = λ handed members are.
    c.loop-child.invariant.are ∙ ap (map (contribution_of c.args.mode)) (take_all c.loop-child.child-index c.args.children.boxes.now (omega arith)) ∙ contributions_are c.args.mode handed c.args.children.boxes.now members are
