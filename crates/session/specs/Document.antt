-- A document that can be open in a session.
use Rattle.std.specs.Prelude.{ℕ, ◌≤◌}
use Rattle.style_types.specs.Tree.{Nodes}
use Rattle.dom_store.specs.Opening.{greatest_count}
use Rattle.dom_store.specs.Standing.{live_count}
use Rattle.dom_store.specs.State.{IsRooted, IsSaidState}
use Rattle.tree_laws.specs.Held.{AreHeld}
use Rattle.tree_laws.specs.Reached.{IsReached}
use Rattle.tree_laws.specs.Weight.{bytes, total}
use Rattle.tree_laws.specs.Wholeness.{IsWhole}
use Rattle.cascade.specs.Winners.{AreSaidRules}
use Rattle.style_tree.specs.Styling.{styled_document}
use Rattle.box_gen.specs.Limit.{IsWithinLimits}
use Rattle.edits.specs.State.{State}
use Rattle.edit_scope.specs.Leaves.{TextsAreLeaves}

-- how many bytes the texts of a document may hold
abbrev pub most_bytes : ℕ
most_bytes = 1048576

-- the document of a state as a styled tree
abbrev pub styled_of : State → Nodes
styled_of state = styled_document state.rules state.tree

-- Its tree is one that was read and edited: whole, below `html`, with texts as leaves; the numbers of declarations are such as a style sheet can
-- say; nodes and boxes are within their limits, and its texts together hold at most so many bytes.
pub record CanBeOpen (most : ℕ) (state : State) : Type 0 where
  pub rooted : IsRooted state.tree
  pub said : IsSaidState state.tree
  pub whole : IsWhole state.tree
  pub reached : IsReached state.tree
  pub held : AreHeld state.tree
  pub leaves : TextsAreLeaves state.tree
  pub few : live_count state.tree ≤ greatest_count
  pub short : total bytes state.tree ≤ most
  pub rules : AreSaidRules state.rules
  pub within : IsWithinLimits (styled_of state)
