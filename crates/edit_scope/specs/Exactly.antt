-- The elements that an exact edit of an open document touches, and what it leaves as it is: as its namesake among the edits, where nodes that
-- are taken count as removed, and nodes that are restored as inserted. CSS 2, 9.2.
use Rattle.std.specs.Prelude.{ℕ, List, [], ◌∷◌, flat_map}
use Rattle.std.specs.List.{Contains}
use Rattle.css_types.specs.Rule.{Ruling}
use Rattle.dom_store.specs.State as dom
use Rattle.dom_store.specs.State.{IsRooted}
use Rattle.dom_store.specs.Standing.{inclusive_ancestors}
use Rattle.dom_store.specs.Edits.{set_text, set_style, set_class, move_to}
use Rattle.dom_store.specs.Exact as tree
use Rattle.dom_store.specs.Exact.{ExactEditOf, exact_text, exact_style, exact_class, exact_move, take_nodes, restore, numbers_under}
use Rattle.tree_laws.specs.Reached.{IsReached}
use Rattle.tree_laws.specs.Wholeness.{IsWhole}
use Rattle.box_gen.specs.Places.{IsPlaceOf, Place}
use Rattle.edits.specs.Exact.{CanBeDone, ExactChange, exact_tree, put_rules, take_rules, exactly}
use Rattle.edits.specs.State.{State}
use Rattle.edit_scope.specs.Leaves.{TextsAreLeaves}
use Rattle.edit_scope.specs.Pages.{KeepsMode, WasBox, WasTree, page_boxes}
use Rattle.edit_scope.specs.Scope.{content_scope, every_element, tree_scope}

-- ---- the scope of an exact edit

abbrev pub exact_tree_scope : List Ruling → dom.State → ExactEditOf → List ℕ
exact_tree_scope rules state (exact_text number letters) = tree_scope rules state (set_text number letters)
exact_tree_scope rules state (exact_style number own) = tree_scope rules state (set_style number own)
exact_tree_scope rules state (exact_class number words) = tree_scope rules state (set_class number words)
exact_tree_scope rules state (exact_move number parent index) = tree_scope rules state (move_to number parent index)
exact_tree_scope rules state (take_nodes parent numbers) = content_scope rules (tree.exactly state (take_nodes parent numbers)) (parent ∷ []) []
exact_tree_scope rules state (restore parent index nodes) =
    content_scope rules (tree.exactly state (restore parent index nodes)) (parent ∷ []) (numbers_under parent nodes)

abbrev pub exact_scope : State → ExactChange → List ℕ
exact_scope state (exact_tree edit) = exact_tree_scope state.rules state.tree edit
exact_scope state (put_rules index rules) = every_element state.tree
exact_scope state (take_rules index count) = every_element state.tree

-- those in its scope, and all elements above them after it
abbrev pub exact_reached : State → ExactChange → List ℕ
exact_reached state edit = flat_map (inclusive_ancestors (exactly state edit).tree) (exact_scope state edit)

-- ---- what it leaves as it is

-- a document that is whole, in which each node stands below `html`, and no text has children
pub record IsDocument (state : dom.State) : Type 0 where
  pub rooted : IsRooted state
  pub whole : IsWhole state
  pub reached : IsReached state
  pub leaves : TextsAreLeaves state

-- an exact edit leads from such a document to another one
pub record TakesExactly (state : State) (edit : ExactChange) : Type 0 where
  pub can : CanBeDone state edit
  pub before : IsDocument state.tree
  pub later : IsDocument (exactly state edit).tree

-- a box of an element that isn't in the scope was there
abbrev pub ExactUnscopedPlaces : Type 0
ExactUnscopedPlaces = (state : State) (edit : ExactChange) (place : Place) → TakesExactly state edit → IsPlaceOf (page_boxes (exactly state edit)) place
    → (Contains (exact_scope state edit) place.name.node → ⊥) → WasBox (page_boxes state) place × KeepsMode state (exactly state edit)

-- a box of an element that isn't touched was there with all inside it
abbrev pub ExactUntouchedPlaces : Type 0
ExactUntouchedPlaces = (state : State) (edit : ExactChange) (place : Place) → TakesExactly state edit → IsPlaceOf (page_boxes (exactly state edit)) place
    → (Contains (exact_reached state edit) place.name.node → ⊥) → WasTree (page_boxes state) place × KeepsMode state (exactly state edit)
