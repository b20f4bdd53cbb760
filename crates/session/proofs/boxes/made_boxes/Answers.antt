use Rattle.std.proofs.Common.{◌∙◌, ap, subst}
use Rattle.cascade.specs.Index.{index_rules}
use Rattle.dom_store.specs.State.{state_of}
use Rattle.style_tree.specs.Styling.{AreBounded}
use Rattle.box_gen.specs.Boxes.{root_boxes}
use Rattle.session.specs.Kept.{ArePositions}
use Rattle.session.proofs.Fresh.{few_boxes, fits, named, same_positions, stand}
use Rattle.session.proofs.boxes.made_boxes.Goals as goal

pub grown-requires : goal.grown-requires
grown-requires c = record {
  few =
      few_boxes _ c.in_ok-parts.parts.tree (c.in_ok-parts.ensures.boxes ∙ ap root_boxes c.in_ok-root.ensures.styled)
      (fits c.documents_within_limits_fit.ensures c.boxes_within_limits_fit.ensures (index_rules c.args.rules.now) (state_of c.args.document.now) c.requires.whole c.requires.few c.requires.short (subst AreBounded c.in_ok-root.ensures.styled c.in_ok-root.ensures.bounded));
  named =
      named _ c.in_ok-parts.parts.tree (c.in_ok-parts.ensures.boxes ∙ ap root_boxes c.in_ok-root.ensures.styled)
      (c.pages_name_boxes_once.ensures (index_rules c.args.rules.now) (state_of c.args.document.now) c.requires.rooted c.requires.whole);
}

pub returns-clause-stands : goal.returns-clause-stands
returns-clause-stands c = stand _ c.in_ok-parts.parts.tree c.in_ok-made.made.arena.slots c.in_ok-made.made.root (c.in_ok-parts.ensures.boxes ∙ ap root_boxes c.in_ok-root.ensures.styled) c.in_ok-made.ensures.stands

pub returns-clause-fit : goal.returns-clause-fit
returns-clause-fit c =
    fits c.documents_within_limits_fit.ensures c.boxes_within_limits_fit.ensures (index_rules c.args.rules.now) (state_of c.args.document.now) c.requires.whole c.requires.few c.requires.short (subst AreBounded c.in_ok-root.ensures.styled c.in_ok-root.ensures.bounded)

pub returns-clause-inside : goal.returns-clause-inside
returns-clause-inside c =
    c.documents_within_limits_fit.ensures (index_rules c.args.rules.now) (state_of c.args.document.now) c.requires.whole c.requires.few c.requires.short (subst AreBounded c.in_ok-root.ensures.styled c.in_ok-root.ensures.bounded)

pub returns-clause-positions : goal.returns-clause-positions
returns-clause-positions c =
    same_positions _ _ _ c.in_ok-made.ensures.positions (subst (ArePositions c.in_ok-parts.parts.positions) c.in_ok-root.ensures.styled c.in_ok-parts.ensures.positions)
