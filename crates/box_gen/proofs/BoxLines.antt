-- Boxes that stand one after the other, and those put behind them.
use Rattle.std.proofs.Common.{◌≡◌, ◌∙◌, refl, ap, sym, List, [], ◌∷◌, ◌++◌}
use Rattle.box_gen.specs.declared.tree.BoxTree.{BoxTree}
use Rattle.box_gen.specs.declared.tree.BoxTree.TheFolds.{fold_out-BoxTree, fold-roll-BoxTree}
use Rattle.box_gen.specs.declared.tree.BoxTree.TheOpen.{BoxTree-F}
use Rattle.box_gen.specs.declared.tree.BoxTree.TheViews.{roll-BoxTree}
use Rattle.box_gen.specs.Tree.{Boxes, none, box, box_step, content_of, before, boxes_of, all_boxes_of}
use Rattle.box_gen.specs.Boxes.{join}

pub join_none : (boxes : Boxes) → join boxes none ≡ boxes
unfolding join
join_none none = refl
join_none (box name style content inner next) = ap (λ (b : Boxes). box name style content inner b) (join_none next)

pub join_assoc : (a b c : Boxes) → join (join a b) c ≡ join a (join b c)
unfolding join
join_assoc none b c = refl
join_assoc (box name style content inner next) b c = ap (λ (x : Boxes). box name style content inner x) (join_assoc next b c)

pub before_is : (tree : BoxTree) (next : Boxes) → before tree next ≡ join (boxes_of tree) next
unfolding join
before_is tree next =
    let opened = fold_out-BoxTree (Boxes → Boxes) box_step tree in
    ap (λ (f : Boxes → Boxes). f next) opened ∙ sym (ap (λ (f : Boxes → Boxes). join (f none) next) opened)

pub all_boxes_push : (trees : List BoxTree) (tree : BoxTree) → all_boxes_of (trees ++ (tree ∷ [])) ≡ join (all_boxes_of trees) (boxes_of tree)
unfolding join
all_boxes_push [] tree = refl
all_boxes_push (first ∷ trees) tree =
    before_is first _
    ∙ ap (λ (b : Boxes). join (boxes_of first) b) (all_boxes_push trees tree)
    ∙ sym (join_assoc (boxes_of first) (all_boxes_of trees) (boxes_of tree))
    ∙ ap (λ (b : Boxes). join b (boxes_of tree)) (sym (before_is first (all_boxes_of trees)))

-- the box of a value that is written out
pub rolled : (tree : BoxTree-F BoxTree) → boxes_of (roll-BoxTree tree) ≡ box tree.node.name tree.node.style (content_of tree.node.content) (all_boxes_of tree.children.items) none
rolled tree = ap (λ (f : Boxes → Boxes). f none) (fold-roll-BoxTree (Boxes → Boxes) box_step tree)
