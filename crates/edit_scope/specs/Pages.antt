-- What an edit leaves of the boxes of a page, told by where they stand.
use Rattle.std.specs.Prelude.{◌≡◌, List}
use Rattle.std.specs.List.{Contains}
use Rattle.css_types.specs.Rule.{Ruling}
use Rattle.dom_store.specs.State as dom
use Rattle.dom_store.specs.State.{IsRooted}
use Rattle.tree_laws.specs.Reached.{IsReached}
use Rattle.tree_laws.specs.Wholeness.{IsWhole}
use Rattle.style_tree.specs.Styling.{styled_document}
use Rattle.box_gen.specs.Boxes.{root_boxes}
use Rattle.box_gen.specs.Places.{AreAlike, AreNamedOnce, IsPlaceOf, Place, tree_of}
use Rattle.box_gen.specs.Tree.{Boxes}
use Rattle.edits.specs.Change.{Change}
use Rattle.edits.specs.Edited.{after}
use Rattle.edits.specs.State.{State}
use Rattle.edit_scope.specs.Boxes.{box_of}
use Rattle.edit_scope.specs.Laws.{Takes}
use Rattle.edit_scope.specs.Scope.{element_style, every_element, reached, scope}

-- the boxes of the page of a document
abbrev pub page_boxes : State → Boxes
page_boxes state = root_boxes (styled_document state.rules state.tree)

-- a box of a page that is an element's own is the box of that element, with all inside it
abbrev pub PagesHaveBoxes : Type 0
PagesHaveBoxes = (rules : List Ruling) (state : dom.State) (place : Place) → IsRooted state → IsWhole state → IsReached state → IsPlaceOf (root_boxes (styled_document rules state)) place
    → place.name.ordinal ≡ 0 → tree_of place ≡ box_of rules state 63 place.name.node

-- no two boxes of a page have one name
abbrev pub PagesNameBoxesOnce : Type 0
PagesNameBoxesOnce = (rules : List Ruling) (state : dom.State) → IsRooted state → IsWhole state → AreNamedOnce (root_boxes (styled_document rules state))

-- each box of a page is of an element of the document
abbrev pub BoxesAreOfElements : Type 0
BoxesAreOfElements = (rules : List Ruling) (state : dom.State) (place : Place) → IsRooted state → IsWhole state → IsReached state
    → IsPlaceOf (root_boxes (styled_document rules state)) place → Contains (every_element state) place.name.node

-- a box that is after the edit what it was before: it has the name, the style and the content of one that stood then
pub record WasBox (page : Boxes) (place : Place) : Type 0 where
  pub was : Place
  pub stood : IsPlaceOf page was
  pub name : was.name ≡ place.name
  pub style : was.style ≡ place.style
  pub content : was.content ≡ place.content

-- a box that stood with those inside it, in a box whose lines run alike
pub record WasTree (page : Boxes) (place : Place) : Type 0 where
  pub was : Place
  pub stood : IsPlaceOf page was
  pub tree : place ≡ record was { around = place.around }
  pub around : AreAlike was.around place.around

-- `html` has the mode that it had
abbrev pub KeepsMode : (old new : State) → Type 0
KeepsMode old new = (element_style new.rules new.tree 0).mode ≡ (element_style old.rules old.tree 0).mode

-- a box of an element that isn't in the scope of an edit was there
abbrev pub UnscopedPlaces : Type 0
UnscopedPlaces = (state : State) (change : Change) (place : Place) → Takes state change → IsPlaceOf (page_boxes (after state change)) place
    → (Contains (scope state change) place.name.node → ⊥) → WasBox (page_boxes state) place × KeepsMode state (after state change)

-- a box of an element that isn't touched was there with all inside it
abbrev pub UntouchedPlaces : Type 0
UntouchedPlaces = (state : State) (change : Change) (place : Place) → Takes state change → IsPlaceOf (page_boxes (after state change)) place
    → (Contains (reached state change) place.name.node → ⊥) → WasTree (page_boxes state) place × KeepsMode state (after state change)
