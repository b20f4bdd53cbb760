-- A text that gets other letters, set in boxes that stand.
use Rattle.std.proofs.Common.{◌≡◌, ◌∙◌, sym, ap, subst, ℕ, List, Option, Some, None, IfSome}
use Rattle.std.specs.List.{list_any}
use Rattle.std.specs.declared.vec.Vec.{Vec}
use Rattle.slab.specs.Slab.{Slab}
use Rattle.css_types.specs.Rule.{Ruling}
use Rattle.face_api.specs.Table.{Table}
use Rattle.wm_units.specs.declared.view.View.{View}
use Rattle.style_types.specs.Tree as styled
use Rattle.style_types.specs.Tree.{Nodes}
use Rattle.style_types.specs.declared.position.Position.{Position}
use Rattle.dom_store.specs.State.{State}
use Rattle.dom_store.specs.Edits.{EditOf, after, set_text, set_style, set_class, insert, remove, move_to}
use Rattle.dom_store.specs.Exact.{ExactEditOf, exact_text, exact_style, exact_class, exact_move, take_nodes, restore, exactly}
use Rattle.edits.specs.State as edited
use Rattle.style_tree.specs.Styling.{AreBounded, styled_document}
use Rattle.rel_shift.specs.Positions.{has_insets, positions_of}
use Rattle.box_gen.specs.Boxes.{root_boxes}
use Rattle.box_gen.specs.Tree.{Boxes}
use Rattle.box_arena.specs.At.{IsSound}
use Rattle.box_arena.specs.Boxes.{Stands}
use Rattle.box_arena.specs.declared.entry.Entry.{Entry}
use Rattle.para_prepare.specs.Preparation.{Preparation}
use Rattle.relayout.specs.Named.{FindsResult, FindsText, IsPageUnder}
use Rattle.text_boxes.specs.Boxes.{boxes_with}
use Rattle.text_boxes.specs.Documents.{HasLetters, nodes_with}
use Rattle.text_boxes.specs.Laws.{TextsAreSetInArenas, TextsAreSetInPages}
use Rattle.text_boxes.specs.Setting.{SetsText, SetsTextIn}
use Rattle.session.specs.declared.keeping.KeptBoxes.{KeptBoxes}
use Rattle.session.specs.declared.keeping.KeptBoxes.TheVariants.{Current, Former}
use Rattle.session.specs.declared.planting.Rooted.{Rooted}
use Rattle.session.specs.Document.{CanBeOpen, most_bytes}
use Rattle.session.specs.Found.{KeepsAll}
use Rattle.session.specs.Kept.{ArePositions}
use Rattle.session.specs.Limits.{BoxesFit, DocumentsFit, IsWithin}
use Rattle.session.specs.Setting.{CanSet, CanSetBy, CanSetExactly, GetsAlike, IsInLimits, SetsAlike, SetsExactlyAlike}
use Rattle.session.specs.State.{AreKept, AreReady, AreRooted}
use Rattle.session.proofs.Former.{tree_of}

-- the numbers of all styles stay within their bounds, since no style changes
bounded_with : (number : ℕ) (letters : List ℕ) (nodes : Nodes) → AreBounded nodes → AreBounded (nodes_with number letters nodes)
unfolding AreBounded
bounded_with number letters styled.none bounded = bounded
bounded_with number letters (styled.node node kind style inner next) (own, inside, behind) = (own, bounded_with number letters inner inside, bounded_with number letters next behind)

-- what is kept of positions is that of each styled tree with the same ones
positions_as : {A : Type 0} (kept : Option (Vec Position A)) (was is : Nodes) → positions_of is ≡ positions_of was → ArePositions kept was → ArePositions kept is
positions_as None was is same kept = ap (list_any has_insets) same ∙ kept
positions_as (Some positions) was is same kept = kept ∙ sym same

-- boxes that are kept stand, with those inside them
pub are_rooted : (faces : List (Option Table)) (view : View) (nodes : Nodes) (boxes : Option KeptBoxes) → IfSome boxes (AreKept faces view nodes) → IfSome boxes AreRooted
are_rooted faces view nodes None kept = kept
are_rooted faces view nodes (Some (Current made)) kept = tree_of made.arena.slots made.root (root_boxes nodes) kept.stands
are_rooted faces view nodes (Some (Former made)) kept = kept.tree

-- letters alike can be set where the document can be open before and behind
can_set : (state opened : edited.State) (number : ℕ) (letters : List ℕ) → CanBeOpen most_bytes state → CanBeOpen most_bytes opened → opened.tree ≡ after state.tree (set_text number letters)
    → GetsAlike state.tree number letters → CanSet state.tree number letters
can_set state opened number letters before behind is alike = record {
  rooted = before.rooted;
  whole = before.whole;
  reached = before.reached;
  leaves = before.leaves;
  alike = alike;
  limits = subst IsInLimits is (record { whole = behind.whole; few = behind.few; short = behind.short });
}

-- so by an edit
pub can_set_by : (state opened : edited.State) (edit : EditOf) → CanBeOpen most_bytes state → CanBeOpen most_bytes opened → opened.tree ≡ after state.tree edit → SetsAlike state.tree edit
    → CanSetBy state.tree edit
can_set_by state opened (set_text number letters) before behind is alike = can_set state opened number letters before behind is alike
can_set_by state opened (set_style number own) before behind is alike = alike
can_set_by state opened (set_class number words) before behind is alike = alike
can_set_by state opened (insert parent index nodes own) before behind is alike = alike
can_set_by state opened (remove number) before behind is alike = alike
can_set_by state opened (move_to number parent index) before behind is alike = alike

-- and by an exact one
pub can_set_exactly : (state opened : edited.State) (edit : ExactEditOf) → CanBeOpen most_bytes state → CanBeOpen most_bytes opened → opened.tree ≡ exactly state.tree edit
    → SetsExactlyAlike state.tree edit → CanSetExactly state.tree edit
can_set_exactly state opened (exact_text number letters) before behind is alike = can_set state opened number letters before behind is alike
can_set_exactly state opened (exact_style number own) before behind is alike = alike
can_set_exactly state opened (exact_class number words) before behind is alike = alike
can_set_exactly state opened (exact_move number parent index) before behind is alike = alike
can_set_exactly state opened (take_nodes parent numbers) before behind is alike = alike
can_set_exactly state opened (restore parent index nodes) before behind is alike = alike

has_letters : (state : State) (number : ℕ) (letters : List ℕ) → (can : CanSet state number letters) → HasLetters state number can.alike.was
has_letters state number letters can = record { rooted = can.rooted; whole = can.whole; reached = can.reached; leaves = can.leaves; entry = can.alike.entry; here = can.alike.here; text = can.alike.text }

module _ (arenas : TextsAreSetInArenas) (pages : TextsAreSetInPages) (documents_fit : DocumentsFit) (boxes_fit : BoxesFit) (old : Rooted) (arena : Slab (Entry Preparation)) (sets_now : ℕ)
    (number : ℕ) (letters : List ℕ) (before : IsSound old.arena.slots) (behind : IsSound arena.slots) (sets : SetsText old.arena arena old.root number letters)
    (faces : List (Option Table)) (view : View) (rules : List Ruling) (state : State) (can : CanSet state number letters) (ready : AreReady faces view (styled_document rules state) old) where
  under : SetsTextIn old.arena arena old.root number letters (root_boxes (styled_document rules state))
  under = record { under = record { stands = ready.stands; free = ready.free; named = ready.named; sound = before }; sound = behind; sets = sets }

  same_boxes : root_boxes (styled_document rules (after state (set_text number letters))) ≡ boxes_with number letters (root_boxes (styled_document rules state))
  same_boxes = pages.boxes rules state number can.alike.was letters (has_letters state number letters can) can.alike.blank

  page_set : IsPageUnder arena.slots old.root (boxes_with number letters (root_boxes (styled_document rules state)))
  page_set = arenas.page old.arena arena old.root number letters (root_boxes (styled_document rules state)) under

  within_set : IsWithin (styled_document rules (after state (set_text number letters)))
  within_set =
      documents_fit rules (after state (set_text number letters)) can.limits.whole can.limits.few can.limits.short
      (subst AreBounded (sym (pages.styled rules state number can.alike.was letters (has_letters state number letters can))) (bounded_with number letters (styled_document rules state) ready.within.bounded))

  -- the boxes are those of the document in which the text has these letters
  pub ready_set : AreReady faces view (styled_document rules (after state (set_text number letters))) (record old { arena = arena; sets = sets_now })
  ready_set = record {
    stands = subst (λ (page : Boxes). Stands arena.slots old.root page) (sym same_boxes) page_set.stands;
    free = page_set.free;
    fit = boxes_fit (styled_document rules (after state (set_text number letters))) within_set;
    named = page_set.named;
    right = arenas.right faces view old.arena arena old.root number letters (root_boxes (styled_document rules state)) under ready.right;
    founded = arenas.founded faces view old.arena arena old.root number letters (root_boxes (styled_document rules state)) under ready.founded;
    within = within_set;
    positions =
        positions_as old.positions (styled_document rules state) (styled_document rules (after state (set_text number letters)))
        (pages.positions rules state number can.alike.was letters (has_letters state number letters can)) ready.positions;
  }

  -- and all that was found for them is found still
  pub keeps_set : KeepsAll (Some (Current old)) (Some (Current (record old { arena = arena; sets = sets_now }))) (root_boxes (styled_document rules (after state (set_text number letters))))
  keeps_set = record {
    texts = λ name has.
        subst (λ (page : Boxes). FindsText arena.slots old.root page name) (sym same_boxes)
        (arenas.texts old.arena arena old.root number letters (root_boxes (styled_document rules state)) name under (subst (λ (page : Boxes). FindsText old.arena.slots old.root page name) same_boxes has));
    results = λ pair has.
        subst (λ (page : Boxes). FindsResult arena.slots old.root page pair) (sym same_boxes)
        (arenas.results old.arena arena old.root number letters (root_boxes (styled_document rules state)) pair under (subst (λ (page : Boxes). FindsResult old.arena.slots old.root page pair) same_boxes has));
  }
