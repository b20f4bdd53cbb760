-- What an edit leaves as it is.
use Rattle.std.specs.Prelude.{◌≡◌, ℕ, true, None}
use Rattle.std.specs.List.{Contains}
use Rattle.dom_store.specs.State as dom
use Rattle.dom_store.specs.State.{IsRooted, line, tree_to}
use Rattle.dom_store.specs.Standing.{children_at, inclusive_ancestors, inclusive_descendants, lives, parent_at}
use Rattle.dom_store.specs.Refusals.{is_element, is_of}
use Rattle.tree_laws.specs.Reached.{IsReached}
use Rattle.tree_laws.specs.Wholeness.{IsWhole}
use Rattle.edits.specs.Change.{Change, IsFitting}
use Rattle.edits.specs.Edited.{after, refusal}
use Rattle.edits.specs.State.{State}
use Rattle.edit_scope.specs.Boxes.{box_of, own_boxes}
use Rattle.edit_scope.specs.Leaves.{TextsAreLeaves}
use Rattle.edit_scope.specs.Scope.{element_style, has_box, holder_above, reached, scope}

-- a document takes an edit
pub record Takes (state : State) (change : Change) : Type 0 where
  pub fitting : IsFitting change
  pub rooted : IsRooted state.tree
  pub whole : IsWhole state.tree
  pub reached : IsReached state.tree
  pub leaves : TextsAreLeaves state.tree
  pub unrefused : refusal state change ≡ None

-- an element of the document after the edit that isn't in the scope
pub record IsUnscoped (state : State) (change : Change) (number : ℕ) : Type 0 where
  pub element : is_of is_element (after state change).tree number ≡ true
  pub outside : Contains (scope state change) number → ⊥

-- an element of the document after the edit that has a box of its own, where it isn't in the scope, nor is one below it
pub record IsUntouched (state : State) (change : Change) (number : ℕ) : Type 0 where
  pub box : has_box (after state change).rules (after state change).tree number ≡ true
  pub outside : Contains (reached state change) number → ⊥

-- ---- lines

-- a node stands where it stood, below the same nodes, which are what they were
pub record KeepsLine (old new : dom.State) (number : ℕ) : Type 0 where
  pub lived : lives old number ≡ true
  pub parent : parent_at new number ≡ parent_at old number
  pub ancestors : inclusive_ancestors new number ≡ inclusive_ancestors old number
  pub line : line new number ≡ line old number

abbrev pub UnscopedLines : Type 0
UnscopedLines = (state : State) (change : Change) (number : ℕ) → Takes state change → IsUnscoped state change number → KeepsLine state.tree (after state change).tree number

abbrev pub UntouchedLines : Type 0
UntouchedLines = (state : State) (change : Change) (number : ℕ) → Takes state change → IsUntouched state change number → KeepsLine state.tree (after state change).tree number

-- ---- what is below

-- a node and all below it are what they were, with their lines
pub record KeepsBelow (old new : dom.State) (number : ℕ) : Type 0 where
  pub nodes : (other : ℕ) → Contains (inclusive_descendants new number) other → new.node_at other ≡ old.node_at other
  pub lines : (other : ℕ) → Contains (inclusive_descendants new number) other → line new other ≡ line old other
  pub trees : (depth : ℕ) → tree_to depth new (children_at new number) ≡ tree_to depth old (children_at old number)

abbrev pub UntouchedBelow : Type 0
UntouchedBelow = (state : State) (change : Change) (number : ℕ) → Takes state change → IsUntouched state change number → KeepsBelow state.tree (after state change).tree number

-- ---- boxes

-- an element has the style that it had, and so has the holder round it, which is the same; its box is the one that it was
pub record KeepsBox (old new : State) (number : ℕ) : Type 0 where
  pub style : element_style new.rules new.tree number ≡ element_style old.rules old.tree number
  pub holder : holder_above new.rules new.tree number ≡ holder_above old.rules old.tree number
  pub around : element_style new.rules new.tree (holder_above new.rules new.tree number) ≡ element_style old.rules old.tree (holder_above old.rules old.tree number)
  pub box : (depth : ℕ) → box_of new.rules new.tree depth number ≡ box_of old.rules old.tree depth number

abbrev pub UntouchedBoxes : Type 0
UntouchedBoxes = (state : State) (change : Change) (number : ℕ) → Takes state change → IsUntouched state change number → KeepsBox state (after state change) number

-- an element with a box of its own that isn't in the scope: its box and the anonymous blocks in it have the names, the styles and the content
-- that they had. A content names the boxes of others that it holds.
abbrev pub UnscopedContent : Type 0
UnscopedContent = (state : State) (change : Change) (number : ℕ) → Takes state change → IsUnscoped state change number → has_box (after state change).rules (after state change).tree number ≡ true
    → (depth : ℕ) → own_boxes (box_of (after state change).rules (after state change).tree depth number) ≡ own_boxes (box_of state.rules state.tree depth number)
