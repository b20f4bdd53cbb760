-- Documents stay whole, and how much they have is known.
use Rattle.std.specs.Prelude.{◌≡◌, ℕ, ◌+◌, ◌≤◌, List, length, None}
use Rattle.css_types.specs.declared.value.Declaration.{Declaration}
use Rattle.html_read.specs.Shape.{IsShaped, text_bytes}
use Rattle.html_read.specs.Values.{Node}
use Rattle.dom_store.specs.State.{What, State, tree_of}
use Rattle.dom_store.specs.Laws.{HaveParents}
use Rattle.dom_store.specs.Opening.{AreSame, greatest_count, opened}
use Rattle.dom_store.specs.Standing.{live_count}
use Rattle.dom_store.specs.Edits.{EditOf, after}
use Rattle.dom_store.specs.Edited.{accepted, bytes_brought, edited}
use Rattle.dom_store.specs.Refusals.{refusal}
use Rattle.tree_laws.specs.Weight.{bytes, one, total, weight_in}
use Rattle.tree_laws.specs.Wholeness.{IsWhole}

-- each child of a node of a whole document has it as its parent
abbrev pub ChildrenHaveParents : Type 0
ChildrenHaveParents = (state : State) → IsWhole state → HaveParents state

-- each node of the tree is one that lives, met once
abbrev pub TreesWeighNoMore : Type 0
TreesWeighNoMore = (weight : What → ℕ) (state : State) → IsWhole state → weight_in weight (tree_of state) ≤ total weight state

-- how many nodes live is a total
abbrev pub CountsAreTotals : Type 0
CountsAreTotals = (state : State) → total one state ≡ live_count state

-- a document that was opened has the nodes that were read
abbrev pub OpenedAreWhole : Type 0
OpenedAreWhole = (nodes : List Node) (own : List (List Declaration)) (state : State) → IsShaped nodes → AreSame state (opened nodes own) → IsWhole state × (total one state ≡ length nodes) × (total bytes state ≡ text_bytes nodes)

-- an edit that is accepted is one that nothing refuses, and it is done
abbrev pub AcceptedAreDone : Type 0
AcceptedAreDone = (state next : State) (edit : EditOf) (elements : List ℕ) → edited state edit ≡ accepted next elements → (refusal state edit ≡ None) × (next ≡ after state edit)

abbrev pub EditsKeepWhole : Type 0
EditsKeepWhole = (state : State) (edit : EditOf) → IsWhole state → refusal state edit ≡ None → IsWhole (after state edit)

-- no more nodes live than may, and no more bytes come than the edit brings
abbrev pub EditsWeigh : Type 0
EditsWeigh = (state : State) (edit : EditOf) → refusal state edit ≡ None → (live_count state ≤ greatest_count → live_count (after state edit) ≤ greatest_count) × (total bytes (after state edit) ≤ total bytes state + bytes_brought edit)
