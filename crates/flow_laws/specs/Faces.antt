-- No face turns a box. CSS Writing Modes 4, 7.3.
use Rattle.std.specs.Prelude.{◌≡◌, ℕ, Bool}
use Rattle.box_gen.specs.Orthogonal.{root_past}
use Rattle.edits.specs.Change.{Change, metric, retire}
use Rattle.edits.specs.Edited.{after}
use Rattle.edits.specs.State.{State}
use Rattle.style_tree.specs.Styling.{styled_document}
use Rattle.style_types.specs.Tree.{Nodes}

-- the document of a state as a styled tree
abbrev pub styled_of : State → Nodes
styled_of state = styled_document state.rules state.tree

-- after such an edit the same nodes pass the limit of boxes: none, where none did before it
abbrev pub TurnsNoBox : Change → Type 0
TurnsNoBox change = (state : State) → root_past (styled_of (after state change)) ≡ root_past (styled_of state)

-- an edit of a face is never refused for boxes: styles hang on no table, nor do the boxes that they make
pub record FacesTurnNoBox : Type 0 where
  pub metrics : (face c : ℕ) (upright : Bool) (value : ℕ) → TurnsNoBox (metric face c upright value)
  pub retirements : (face : ℕ) → TurnsNoBox (retire face)
