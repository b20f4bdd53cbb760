-- Boxes that were made anew.
use Rattle.std.proofs.Common.{◌≡◌, subst, ap, sym, ◌≤◌, ◌^◌, ℕ, List, Option}
use Rattle.face_api.specs.Table.{Table}
use Rattle.wm_units.specs.declared.view.View.{View}
use Rattle.css_types.specs.Rule.{Ruling}
use Rattle.style_types.specs.Tree.{Nodes}
use Rattle.dom_store.specs.Opening.{AreSame, greatest_count}
use Rattle.dom_store.specs.Standing.{live_count}
use Rattle.dom_store.specs.State.{State}
use Rattle.tree_laws.specs.Weight.{bytes, total}
use Rattle.tree_laws.specs.Wholeness.{IsWhole}
use Rattle.style_tree.specs.Styling.{AreBounded, styled_document}
use Rattle.box_gen.specs.declared.tree.BoxTree.{BoxTree}
use Rattle.box_gen.specs.Boxes.{root_boxes}
use Rattle.box_gen.specs.Places.{AreNamedOnce}
use Rattle.box_gen.specs.Tree.{Boxes, boxes_of, count}
use Rattle.box_arena.specs.At.{Slots}
use Rattle.box_arena.specs.Boxes.{Stands}
use Rattle.box_arena.specs.Planting as planting
use Rattle.para_prepare.specs.Preparation.{Preparation}
use Rattle.relayout.specs.Counts.{AreFoundedUnder}
use Rattle.relayout.specs.Laws.{BareIsRight}
use Rattle.relayout.specs.Named.{BareIsFounded}
use Rattle.relayout.specs.Relayout.{AreRightUnder}
use Rattle.style_types.specs.declared.position.Position.{Position}
use Rattle.std.specs.declared.vec.Vec.{Vec}
use Rattle.session.specs.Kept.{ArePositions}
use Rattle.session.specs.Limits.{BoxesFit, CanBeLaidOut, DocumentsFit}

-- states that are one are the same
pub same_opened : (state other : State) → state ≡ other → AreSame state other
same_opened state other is = record { nodes = λ number. ap (λ (s : State). s.node_at number) is; next = ap (λ (s : State). s.next) is }

-- the boxes of a whole document can be laid out
pub fits : DocumentsFit → BoxesFit → (rules : List Ruling) (state : State) → IsWhole state → live_count state ≤ greatest_count → total bytes state ≤ 1048576 → AreBounded (styled_document rules state)
    → CanBeLaidOut (root_boxes (styled_document rules state))
fits documents boxes rules state whole few short bounded = boxes (styled_document rules state) (documents rules state whole few short bounded)

-- so there are few enough
pub few_boxes : (nodes : Nodes) (tree : BoxTree) → boxes_of tree ≡ root_boxes nodes → CanBeLaidOut (root_boxes nodes) → count (boxes_of tree) ≤ 2 ^ 18
few_boxes nodes tree makes fits = subst (λ (boxes : Boxes). count boxes ≤ 2 ^ 18) (sym makes) fits.few

-- and they stand where they were planted
pub stand : (nodes : Nodes) (tree : BoxTree) (slots : Slots Preparation) (root : ℕ) → boxes_of tree ≡ root_boxes nodes → Stands slots root (boxes_of tree) → Stands slots root (root_boxes nodes)
stand nodes tree slots root makes stands = subst (λ (boxes : Boxes). Stands slots root boxes) makes stands

-- the positions that were put in are those that are kept
pub same_positions : {A : Type 0} (nodes : Nodes) (made kept : Option (Vec Position A)) → kept ≡ made → ArePositions made nodes → ArePositions kept nodes
same_positions {A} nodes made kept same are = subst (λ (list : Option (Vec Position A)). ArePositions list nodes) (sym same) are

-- where nothing is kept all that is kept is right
pub right : BareIsRight → (faces : List (Option Table)) (view : View) (slots : Slots Preparation) (root : ℕ) → ((key : ℕ) → planting.IsBare slots key) → AreRightUnder faces view slots root
right bare_is faces view slots root bare = λ node is. bare_is _ slots (record { kept = λ key c. (bare key).kept c; texts = λ key. (bare key).text })

-- and it has all on which it rests
pub founded : BareIsFounded → (faces : List (Option Table)) (view : View) (slots : Slots Preparation) (root : ℕ) → ((key : ℕ) → planting.IsBare slots key) → AreFoundedUnder faces view slots root
founded bare_is faces view slots root bare = bare_is faces view slots root (record { kept = λ key c. (bare key).kept c; texts = λ key. (bare key).text })

-- boxes that were made of a styled tree have the names of its boxes
pub named : (nodes : Nodes) (tree : BoxTree) → boxes_of tree ≡ root_boxes nodes → AreNamedOnce (root_boxes nodes) → AreNamedOnce (boxes_of tree)
named nodes tree makes once = subst (λ (boxes : Boxes). AreNamedOnce boxes) (sym makes) once
