-- What a session has for its next page, told by the names of boxes: which texts a page prepares, which contents it arranges, and what an edit
-- loses of them.
use Rattle.std.specs.Prelude.{◌≡◌, ℕ, ◌+◌, ◌≤◌, Bool, false, List, Contains, filter, length, Option, Some, None, IfSome}
use Rattle.face_api.specs.Table.{Table}
use Rattle.css_types.specs.Rule.{Ruling}
use Rattle.wm_units.specs.declared.view.View.{View}
use Rattle.fragment_types.specs.declared.item.BoxName.{BoxName}
use Rattle.dom_store.specs.State as dom
use Rattle.style_tree.specs.Styling.{styled_document}
use Rattle.box_gen.specs.Boxes.{root_boxes}
use Rattle.box_gen.specs.Places.{names, paragraphs}
use Rattle.box_gen.specs.Tree.{Boxes}
use Rattle.edits.specs.Change.{Change}
use Rattle.edits.specs.Exact.{ExactChange, StepOf}
use Rattle.edit_scope.specs.Exactly.{exact_reached, exact_scope}
use Rattle.edit_scope.specs.Scope.{reached, scope}
use Rattle.relayout.specs.Asks.{Pair, asks}
use Rattle.relayout.specs.Named.{FindsResult, FindsText}
use Rattle.undo_log.specs.Log.{next_ahead, next_back}
use Rattle.session.specs.declared.keeping.KeptBoxes.{KeptBoxes}
use Rattle.session.specs.declared.keeping.KeptBoxes.TheVariants.{Current, Former}
use Rattle.session.specs.declared.session.Session.{Session}
use Rattle.session.specs.State.{AreKept, state_in, styled_in}

-- ---- what is kept

-- the text of the box of this name in a page is found, among the boxes as they are or as they were
abbrev pub HasTextIn : Option KeptBoxes → (page : Boxes) → BoxName → Type 0
HasTextIn None page name = ⊥
HasTextIn (Some (Current made)) page name = FindsText made.arena.slots made.root page name
HasTextIn (Some (Former made)) page name = FindsText made.arena.slots made.root page name

-- what the box of this name in a page comes to under this constraint is found there
abbrev pub HasResultIn : Option KeptBoxes → (page : Boxes) → Pair → Type 0
HasResultIn None page pair = ⊥
HasResultIn (Some (Current made)) page pair = FindsResult made.arena.slots made.root page pair
HasResultIn (Some (Former made)) page pair = FindsResult made.arena.slots made.root page pair

-- all that was found for a page is found still
pub record KeepsAll (old new : Option KeptBoxes) (page : Boxes) : Type 0 where
  pub texts : (name : BoxName) → HasTextIn old page name → HasTextIn new page name
  pub results : (pair : Pair) → HasResultIn old page pair → HasResultIn new page pair

-- Where a document is one of these and another one is next, what is kept of its boxes leads to what is kept of those of the next one, and all
-- that was found for the page of that one is found still.
pub record GoOn (Is : dom.State → Type 0) (next : dom.State → dom.State) (boxes left : Option KeptBoxes) : Type 0 where
  pub keeps : (faces : List (Option Table)) (view : View) (rules : List Ruling) (state : dom.State) → Is state → IfSome boxes (AreKept faces view (styled_document rules state))
      → KeepsAll boxes left (root_boxes (styled_document rules (next state)))
  pub kept : (faces : List (Option Table)) (view : View) (rules : List Ruling) (state : dom.State) → Is state → IfSome boxes (AreKept faces view (styled_document rules state))
      → IfSome left (AreKept faces view (styled_document rules (next state)))

-- ---- what a session has

module _ {I : Type 0} {D : I → Type 0} where
  -- the boxes of its page
  abbrev pub page_boxes_in : Session I D → Boxes
  page_boxes_in session = root_boxes (styled_in session)

  -- it has the text of the box of this name
  abbrev pub HasText : Session I D → BoxName → Type 0
  HasText session name = HasTextIn session.boxes (page_boxes_in session) name

  -- it has what the box of this name comes to under this constraint
  abbrev pub HasResult : Session I D → Pair → Type 0
  HasResult session pair = HasResultIn session.boxes (page_boxes_in session) pair

  -- it has the text of each paragraph of its page, and what each pair comes to that is met in the layout of the page
  pub record HasAll (faces : List (Option Table)) (session : Session I D) : Type 0 where
    pub texts : (name : BoxName) → Contains (paragraphs (page_boxes_in session)) name → HasText session name
    pub results : (pair : Pair) → Contains (asks faces session.view (page_boxes_in session)) pair → HasResult session pair

  -- ---- a page

  -- A counter of prepared texts rises by no more than there are paragraphs in the page that are owed, whichever are, as long as the session
  -- has the text of each other one.
  abbrev pub PreparesFor : Session I D → (was is : ℕ) → Type 0
  PreparesFor session was is =
      (owed : BoxName → Bool) → ((name : BoxName) → Contains (paragraphs (page_boxes_in session)) name → owed name ≡ false → HasText session name)
      → is ≤ was + length (filter owed (paragraphs (page_boxes_in session)))

  -- A counter of arranged contents rises by no more than there are pairs met in its layout that are owed, whichever are, as long as the
  -- session has what each other one comes to.
  abbrev pub ArrangesFor : (faces : List (Option Table)) → Session I D → (was is : ℕ) → Type 0
  ArrangesFor faces session was is =
      (owed : Pair → Bool) → ((pair : Pair) → Contains (asks faces session.view (page_boxes_in session)) pair → owed pair ≡ false → HasResult session pair)
      → is ≤ was + length (filter owed (asks faces session.view (page_boxes_in session)))

  -- ---- an edit

  -- a paragraph was one before, and its text isn't lost
  pub record KeepsText (old new : Session I D) (name : BoxName) : Type 0 where
    pub was : Contains (paragraphs (page_boxes_in old)) name
    pub has : HasText old name → HasText new name

  -- a box was one before, and what it comes to under a constraint isn't lost
  pub record KeepsResult (old new : Session I D) (pair : Pair) : Type 0 where
    pub was : Contains (names (page_boxes_in old)) pair.name
    pub has : HasResult old pair → HasResult new pair

  -- Each paragraph of the later page that isn't of one of the scoped elements was one before, and its text isn't lost; each box there that isn't
  -- of one of the touched elements stood before, and no result of it is lost.
  pub record Loses (old new : Session I D) (scoped touched : List ℕ) : Type 0 where
    pub texts : (name : BoxName) → Contains (paragraphs (page_boxes_in new)) name → (Contains scoped name.node → ⊥) → KeepsText old new name
    pub results : (pair : Pair) → Contains (names (page_boxes_in new)) pair.name → (Contains touched pair.name.node → ⊥) → KeepsResult old new pair

  -- an edit loses no more than the texts of the elements in its scope and the results of those that it touches; `before` has the tables of the
  -- faces before it
  abbrev pub LosesTouched : (before : List (Option Table)) → (old new : Session I D) → Change → Type 0
  LosesTouched before old new change = Loses old new (scope (state_in before old) change) (reached (state_in before old) change)

  -- so does an exact edit
  abbrev pub LosesExactly : (before : List (Option Table)) → (old new : Session I D) → ExactChange → Type 0
  LosesExactly before old new edit = Loses old new (exact_scope (state_in before old) edit) (exact_reached (state_in before old) edit)

  -- undo and redo lose by the exact edit that they do
  abbrev pub LosesDown : (before : List (Option Table)) → (old new : Session I D) → Type 0
  LosesDown before old new = (step : StepOf) → next_back old.log ≡ Some step → LosesExactly before old new step.back

  abbrev pub LosesUp : (before : List (Option Table)) → (old new : Session I D) → Type 0
  LosesUp before old new = (step : StepOf) → next_ahead old.log ≡ Some step → LosesExactly before old new step.again
