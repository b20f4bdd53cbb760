-- Each node that lives can be reached from `html`. DOM, 4.2.
use Rattle.std.specs.Prelude.{◌≡◌, ℕ, zero, suc, ◌<◌, ◌≤◌, true, List, None}
use Rattle.std.specs.List.{All, Contains}
use Rattle.css_types.specs.declared.value.Declaration.{Declaration}
use Rattle.html_read.specs.Shape.{IsInDocumentOrder, IsShaped}
use Rattle.html_read.specs.Values.{Node}
use Rattle.dom_store.specs.State.{State, IsRooted, greatest_depth}
use Rattle.dom_store.specs.Standing.{children_at, lives}
use Rattle.dom_store.specs.Opening.{AreSame, depths, opened}
use Rattle.dom_store.specs.Edits.{EditOf, after}
use Rattle.dom_store.specs.Edited.{IsFitting}
use Rattle.dom_store.specs.Refusals.{refusal}
use Rattle.tree_laws.specs.Wholeness.{IsWhole}

-- a node is so many levels below `html`
abbrev pub IsAtLevel : State → (level number : ℕ) → Type 0
IsAtLevel state zero number = number ≡ 0
IsAtLevel state (suc level) number = (parent : ℕ) × IsAtLevel state level parent × Contains (children_at state parent) number

-- no node that lives is deeper than 64, where `html` is at 1
pub record IsReached (state : State) : Type 0 where
  pub reached : (number : ℕ) → lives state number ≡ true → (level : ℕ) × (level < greatest_depth) × IsAtLevel state level number

-- ---- laws

-- a document that was opened
abbrev pub OpenedAreReached : Type 0
OpenedAreReached = (nodes : List Node) (own : List (List Declaration)) (state : State) → IsShaped nodes → IsInDocumentOrder nodes → All (λ depth. depth ≤ greatest_depth) (depths nodes)
    → AreSame state (opened nodes own) → IsReached state

-- and after each edit that isn't refused, where it brings nodes of a fragment: others could stand in themselves
abbrev pub EditsKeepReached : Type 0
EditsKeepReached = (state : State) (edit : EditOf) → IsFitting edit → IsRooted state → IsWhole state → IsReached state → refusal state edit ≡ None → IsReached (after state edit)
