-- What becomes of a page where a text is set to other letters, and of what was kept of its boxes.
use Rattle.std.specs.Prelude.{◌≡◌, ℕ, List, Option}
use Rattle.slab.specs.Slab.{Slab}
use Rattle.css_types.specs.Rule.{Ruling}
use Rattle.face_api.specs.Table.{Table}
use Rattle.wm_units.specs.declared.view.View.{View}
use Rattle.fragment_types.specs.declared.item.BoxName.{BoxName}
use Rattle.dom_store.specs.State.{State}
use Rattle.style_tree.specs.Styling.{styled_document}
use Rattle.rel_shift.specs.Positions.{positions_of}
use Rattle.box_gen.specs.Boxes.{is_blank, root_boxes}
use Rattle.box_gen.specs.Tree.{Boxes}
use Rattle.box_arena.specs.declared.entry.Entry.{Entry}
use Rattle.para_prepare.specs.Preparation.{Preparation}
use Rattle.relayout.specs.Asks.{Pair}
use Rattle.relayout.specs.Counts.{AreFoundedUnder}
use Rattle.relayout.specs.Named.{FindsResult, FindsText, IsPageUnder}
use Rattle.relayout.specs.Relayout.{AreRightUnder}
use Rattle.text_boxes.specs.Boxes.{boxes_with}
use Rattle.text_boxes.specs.Documents.{HasLetters, document_with, nodes_with}
use Rattle.text_boxes.specs.Setting.{SetsTextIn}

-- Where a text of a document gets other letters, its styled tree is the one that it was, with these letters, and no position changes; where these
-- are white space alone exactly where the old ones are, so are the boxes of its page.
pub record TextsAreSetInPages : Type 0 where
  pub styled : (rules : List Ruling) (state : State) (number : ℕ) (was letters : List ℕ) → HasLetters state number was
      → styled_document rules (document_with number letters state) ≡ nodes_with number letters (styled_document rules state)
  pub boxes : (rules : List Ruling) (state : State) (number : ℕ) (was letters : List ℕ) → HasLetters state number was → is_blank letters ≡ is_blank was
      → root_boxes (styled_document rules (document_with number letters state)) ≡ boxes_with number letters (root_boxes (styled_document rules state))
  pub positions : (rules : List Ruling) (state : State) (number : ℕ) (was letters : List ℕ) → HasLetters state number was
      → positions_of (styled_document rules (document_with number letters state)) ≡ positions_of (styled_document rules state)

-- Where a text is set in the boxes of a page that stand in an arena, the page with these letters stands there. What is kept is right and with each
-- result is all on which it rests, if it was so; and all that was found for the page with these letters is found still.
pub record TextsAreSetInArenas : Type 0 where
  pub page : (old new : Slab (Entry Preparation)) (root number : ℕ) (letters : List ℕ) (page : Boxes) → SetsTextIn old new root number letters page
      → IsPageUnder new.slots root (boxes_with number letters page)
  pub right : (faces : List (Option Table)) (view : View) (old new : Slab (Entry Preparation)) (root number : ℕ) (letters : List ℕ) (page : Boxes)
      → SetsTextIn old new root number letters page → AreRightUnder faces view old.slots root → AreRightUnder faces view new.slots root
  pub founded : (faces : List (Option Table)) (view : View) (old new : Slab (Entry Preparation)) (root number : ℕ) (letters : List ℕ) (page : Boxes)
      → SetsTextIn old new root number letters page → AreFoundedUnder faces view old.slots root → AreFoundedUnder faces view new.slots root
  pub texts : (old new : Slab (Entry Preparation)) (root number : ℕ) (letters : List ℕ) (page : Boxes) (name : BoxName) → SetsTextIn old new root number letters page
      → FindsText old.slots root (boxes_with number letters page) name → FindsText new.slots root (boxes_with number letters page) name
  pub results : (old new : Slab (Entry Preparation)) (root number : ℕ) (letters : List ℕ) (page : Boxes) (pair : Pair) → SetsTextIn old new root number letters page
      → FindsResult old.slots root (boxes_with number letters page) pair → FindsResult new.slots root (boxes_with number letters page) pair
