-- Texts have nothing inside them. DOM, 4.2.
use Rattle.std.specs.Prelude.{◌≡◌, ℕ, false, List, [], None}
use Rattle.css_types.specs.declared.value.Declaration.{Declaration}
use Rattle.html_read.specs.Shape.{IsShaped}
use Rattle.html_read.specs.Values.{Node}
use Rattle.dom_store.specs.State.{State}
use Rattle.dom_store.specs.Standing.{children_at}
use Rattle.dom_store.specs.Opening.{AreSame, opened}
use Rattle.dom_store.specs.Edits.{EditOf, after}
use Rattle.dom_store.specs.Edited.{IsFitting}
use Rattle.dom_store.specs.Refusals.{is_element, is_of, refusal}
use Rattle.tree_laws.specs.Wholeness.{IsWhole}

-- a node that is no element has no children
abbrev pub TextsAreLeaves : State → Type 0
TextsAreLeaves state = (number : ℕ) → is_of is_element state number ≡ false → children_at state number ≡ []

-- ---- laws

-- in a document that was opened
abbrev pub OpenedTextsAreLeaves : Type 0
OpenedTextsAreLeaves = (nodes : List Node) (own : List (List Declaration)) (state : State) → IsShaped nodes → AreSame state (opened nodes own) → TextsAreLeaves state

-- and after each edit that isn't refused, where it brings nodes of a fragment
abbrev pub EditsKeepLeaves : Type 0
EditsKeepLeaves = (state : State) (edit : EditOf) → IsFitting edit → IsWhole state → refusal state edit ≡ None → TextsAreLeaves state → TextsAreLeaves (after state edit)
