-- How a document is opened: which are refused, and what the others are.
use Rattle.std.specs.Prelude.{◌≡◌, ◌⊎◌, ℕ, ◌≤◌, ◌<◌, ⊤, List, length, Result, Ok, Err}
use Rattle.std.specs.List.{All}
use Rattle.css_types.specs.declared.value.Declaration.{Declaration}
use Rattle.css_types.specs.Rule.{Ruling}
use Rattle.style_types.specs.Tree.{Nodes}
use Rattle.html_read.specs.Values.{Node}
use Rattle.dom_store.specs.declared.document.Document.{Document}
use Rattle.dom_store.specs.declared.error.EditError.{EditError}
use Rattle.dom_store.specs.declared.error.EditError.TheVariants as edit
use Rattle.dom_store.specs.Opening.{IsTooDeep, depths, greatest_count, opened}
use Rattle.dom_store.specs.State.{greatest_depth, state_of}
use Rattle.style_tree.specs.Styling.{styled_document}
use Rattle.box_gen.specs.Boxes.{root_boxes}
use Rattle.box_gen.specs.Limit.{IsWithinLimits, Passes}
use Rattle.box_gen.specs.Tree.{boxes_of}
use Rattle.session.specs.Kept.{ArePositions}
use Rattle.session.specs.declared.generated.Generated.{Generated}
use Rattle.session.specs.declared.error.OpenError.{OpenError}
use Rattle.session.specs.declared.error.OpenError.TheVariants.{TooManyNodes, TooDeep, Limit, Memory}

-- the others are never answered where a document is opened
abbrev pub of_edit_error : EditError → OpenError
of_edit_error (edit.TooManyNodes number) = TooManyNodes number
of_edit_error (edit.TooDeep number) = TooDeep number
of_edit_error other = Memory

-- the nodes that were read are within the limits
pub record AreFew (nodes : List Node) : Type 0 where
  pub few : length nodes ≤ greatest_count
  pub low : All (λ depth. depth ≤ greatest_depth) (depths nodes)

-- a document of the nodes that were read, each with its own declarations; its limits are judged first
abbrev pub Stores : List Node → List (List Declaration) → Result Document OpenError → Type 0
Stores nodes own (Ok document) = AreFew nodes × (state_of document ≡ opened nodes own)
Stores nodes own (Err (TooManyNodes number)) = (greatest_count < length nodes) × (number ≡ greatest_count)
Stores nodes own (Err (TooDeep number)) = (length nodes ≤ greatest_count) × IsTooDeep nodes number × ((other : ℕ) → IsTooDeep nodes other → number ≤ other)
Stores nodes own (Err (Limit limit)) = ⊥
Stores nodes own (Err Memory) = ⊤

-- the boxes of a styled tree, where they are within their limit, and its positions
abbrev pub MakesBoxes : Nodes → Result Generated OpenError → Type 0
MakesBoxes nodes (Ok made) = IsWithinLimits nodes × (boxes_of made.tree ≡ root_boxes nodes) × ArePositions made.positions nodes
MakesBoxes nodes (Err (TooManyNodes number)) = ⊥
MakesBoxes nodes (Err (TooDeep number)) = ⊥
MakesBoxes nodes (Err (Limit limit)) = Passes nodes limit
MakesBoxes nodes (Err Memory) = ⊤

-- ---- the answers

-- the document that was read, with its styles, as a styled tree
abbrev pub styled_as_read : List Node → List (List Declaration) → List Ruling → Nodes
styled_as_read nodes own rules = styled_document rules (opened nodes own)

-- it can be opened
pub record CanOpen (nodes : List Node) (own : List (List Declaration)) (rules : List Ruling) : Type 0 where
  pub few : AreFew nodes
  pub within : IsWithinLimits (styled_as_read nodes own rules)

-- it can't, for this reason: nodes are judged first, then boxes
abbrev pub IsRefused : List Node → List (List Declaration) → List Ruling → OpenError → Type 0
IsRefused nodes own rules (TooManyNodes number) = (greatest_count < length nodes) × (number ≡ greatest_count)
IsRefused nodes own rules (TooDeep number) = (length nodes ≤ greatest_count) × IsTooDeep nodes number × ((other : ℕ) → IsTooDeep nodes other → number ≤ other)
IsRefused nodes own rules (Limit limit) = AreFew nodes × Passes (styled_as_read nodes own rules) limit
IsRefused nodes own rules Memory = ⊥

-- a document can be opened, or is refused, and for one reason alone
pub record HasOneAnswer : Type 0 where
  pub some : (nodes : List Node) (own : List (List Declaration)) (rules : List Ruling) → CanOpen nodes own rules ⊎ ((error : OpenError) × IsRefused nodes own rules error)
  pub only : (nodes : List Node) (own : List (List Declaration)) (rules : List Ruling) (error : OpenError) → IsRefused nodes own rules error
      → (CanOpen nodes own rules → ⊥) × ((other : OpenError) → IsRefused nodes own rules other → other ≡ error)
