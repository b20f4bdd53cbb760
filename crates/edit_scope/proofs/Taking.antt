-- What is used of an edit, of whichever kind: how a document and the one after it belong together.
use Rattle.std.proofs.Common.{◌≡◌, ◌⊎◌, ℕ, true, List, Option, Some, None, option_map}
use Rattle.css_types.specs.Rule.{Ruling}
use Rattle.dom_store.specs.State.{What, Entry, State}
use Rattle.dom_store.specs.Standing.{children_at, inclusive_descendants, lives}
use Rattle.dom_store.specs.Refusals.{is_element, is_of}
use Rattle.box_limits.proofs.Among.{IsIn}
use Rattle.box_limits.proofs.Origins.{IsRetold, Stays}
use Rattle.edit_scope.specs.Exactly.{IsDocument}
use Rattle.edit_scope.specs.Scope.{holder}

abbrev pub what_at : State → (number : ℕ) → Option What
what_at state number = option_map (λ entry. entry.what) (state.node_at number)

-- a node and all elements below it are among these
abbrev pub IsCovered : (next : State) (elements : List ℕ) (number : ℕ) → Type 0
IsCovered next elements number = (other : ℕ) → is_of is_element next other ≡ true → IsIn other (inclusive_descendants next number) → IsIn other elements

-- it came with its parent
abbrev pub ComesBelow : State → Entry → Type 0
ComesBelow state entry = (parent : ℕ) × (entry.parent ≡ Some parent) × (state.node_at parent ≡ None)

-- it comes, or is changed, with all below it; or it came with its parent; or its text is another; or it is what it was, but for its children
abbrev pub Source : (state next : State) (scoped : List ℕ) (number : ℕ) → Entry → Type 0
Source state next scoped number entry = IsCovered next scoped number ⊎ (ComesBelow state entry ⊎ (IsRetold state number entry ⊎ Stays state number entry))

-- a node has the children that it had, and each of them is what it was
pub record IsKept (state next : State) (number : ℕ) : Type 0 where
  pub children : children_at next number ≡ children_at state number
  pub whats : (child : ℕ) → IsIn child (children_at next number) → what_at next child ≡ what_at state child

-- an edit that has these elements in its scope leads from a document to the next one. Where some element isn't in the scope, the nodes of which
-- the holders aren't either keep their children.
pub record IsTaken (rules : List Ruling) (state next : State) (scoped : List ℕ) : Type 0 where
  pub before : IsDocument state
  pub later : IsDocument next
  pub source : (number : ℕ) (entry : Entry) → next.node_at number ≡ Some entry → Source state next scoped number entry
  pub keeps : (element upper : ℕ) → is_of is_element next element ≡ true → (IsIn element scoped → ⊥) → lives state upper ≡ true → lives next upper ≡ true → (IsIn (holder rules next upper) scoped → ⊥) → IsKept state next upper
