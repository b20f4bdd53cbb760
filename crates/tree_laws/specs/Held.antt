-- Nodes stand in elements other than `br` alone. DOM, 4.2, narrowed.
use Rattle.std.specs.Prelude.{◌≡◌, ℕ, true, List, Some}
use Rattle.css_types.specs.declared.value.Declaration.{Declaration}
use Rattle.html_read.specs.Shape.{IsShaped}
use Rattle.html_read.specs.Values.{Node}
use Rattle.dom_store.specs.State.{State}
use Rattle.dom_store.specs.Standing.{parent_at}
use Rattle.dom_store.specs.Opening.{AreSame, opened}
use Rattle.dom_store.specs.Edits.{EditOf, after}
use Rattle.dom_store.specs.Refusals.{is_of, may_hold}
use Rattle.tree_laws.specs.Stepped.{CanStep}

-- each parent is an element in which nodes may stand
abbrev pub AreHeld : State → Type 0
AreHeld state = (number parent : ℕ) → parent_at state number ≡ Some parent → is_of may_hold state parent ≡ true

-- ---- laws

-- a document that was opened
abbrev pub OpenedAreHeld : Type 0
OpenedAreHeld = (nodes : List Node) (own : List (List Declaration)) (state : State) → IsShaped nodes → AreSame state (opened nodes own) → AreHeld state

-- and after each edit that isn't refused
abbrev pub EditsKeepHeld : Type 0
EditsKeepHeld = (state : State) (edit : EditOf) → CanStep state edit → AreHeld state → AreHeld (after state edit)
