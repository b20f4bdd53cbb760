-- What holds of states.
use Rattle.std.specs.Prelude.{◌≡◌, ℕ, true, nat_eq, Some, None}
use Rattle.std.specs.List.{list_any}
use Rattle.dom_store.specs.State.{IsRooted, IsSaidState, State, line, tree_of}
use Rattle.dom_store.specs.Standing.{children_at, parent_at}
use Rattle.dom_store.specs.Edits.{EditOf, after}
use Rattle.dom_store.specs.Refusals.{refusal}
use Rattle.dom_store.specs.Edited.{IsSaidEdit}
use Rattle.dom_store.specs.Opening.{AreSame}

-- states that are the same have the same tree, and the same line at each number
pub record AnswerAlike : Type 0 where
  pub trees : (one other : State) → AreSame one other → tree_of one ≡ tree_of other
  pub lines : (one other : State) (number : ℕ) → AreSame one other → line one number ≡ line other number

-- each child stands in the node of which it is one
abbrev pub HaveParents : State → Type 0
HaveParents state = (number child : ℕ) → list_any (nat_eq child) (children_at state number) ≡ true → parent_at state child ≡ Some number

-- an edit that isn't refused leaves `html` and `body` where they stand
abbrev pub KeepRoots : Type 0
KeepRoots = (state : State) (edit : EditOf) → IsRooted state → HaveParents state → refusal state edit ≡ None → IsRooted (after state edit)

-- an edit that brings such declarations leaves such
abbrev pub KeepSaid : Type 0
KeepSaid = (state : State) (edit : EditOf) → IsSaidState state → IsSaidEdit edit → IsSaidState (after state edit)
