-- Which nodes of a document break the limit of boxes, and which of them is told.
use Rattle.std.specs.Prelude.{◌≡◌, ◌↔◌, ℕ, ◌≤◌, Bool, true, false, List, [], ◌∷◌, flat_map, Option, Some, None, Result, Ok, Err, ⊤}
use Rattle.std.specs.List.{Contains}
use Rattle.css_types.specs.Rule.{Ruling}
use Rattle.dom_store.specs.State.{State, IsRooted, greatest_depth, line}
use Rattle.dom_store.specs.Standing.{below_levels, lives}
use Rattle.dom_store.specs.Edited.{IsFitting}
use Rattle.dom_store.specs.Edits.{EditOf, set_text, set_style, set_class, insert, remove, move_to, after}
use Rattle.dom_store.specs.Building.{tops_from}
use Rattle.dom_store.specs.Refusals.{refusal}
use Rattle.style_tree.specs.Styling.{styled_document}
use Rattle.box_gen.specs.Limit.{IsWithinLimits, Passes}
use Rattle.box_gen.specs.Orthogonal.{root_past}
use Rattle.tree_laws.specs.Wholeness.{IsWhole}
use Rattle.tree_laws.specs.Reached.{IsReached}
use Rattle.box_limits.specs.declared.error.LimitError.{LimitError}
use Rattle.box_limits.specs.declared.error.LimitError.TheVariants.{Limit, Memory}
use Rattle.box_limits.specs.Lines.{is_past}

-- the box of this node breaks the limit
abbrev pub breaks : List Ruling → State → (number : ℕ) → Bool
breaks rules state number = is_past rules (line state number)

-- ---- a whole document

-- these are the nodes that live and break the limit
abbrev pub AreThoseThatBreak : List Ruling → State → List ℕ → Type 0
AreThoseThatBreak rules state numbers = (number : ℕ) → Contains numbers number ↔ ((lives state number ≡ true) × (breaks rules state number ≡ true))

-- the boxes of a document break the limit exactly where the line of a node says so
abbrev pub DocumentsAreJudgedByLines : Type 0
DocumentsAreJudgedByLines = (rules : List Ruling) (state : State) → IsRooted state → IsWhole state → IsReached state
    → AreThoseThatBreak rules state (root_past (styled_document rules state))

-- ---- some nodes

-- the nodes of these numbers and all below them
abbrev pub all_below : State → (numbers : List ℕ) → List ℕ
all_below state numbers = flat_map (below_levels 0 greatest_depth state) numbers

-- the least of these nodes that breaks the limit; none where none does
abbrev pub IsLeastAmong : List Ruling → State → (among : List ℕ) → Option ℕ → Type 0
IsLeastAmong rules state among None = (number : ℕ) → Contains among number → breaks rules state number ≡ false
IsLeastAmong rules state among (Some number) = Contains among number × (breaks rules state number ≡ true)
    × ((other : ℕ) → Contains among other → breaks rules state other ≡ true → number ≤ other)

-- no other node breaks it
abbrev pub AreCovered : List Ruling → State → (among : List ℕ) → Type 0
AreCovered rules state among = (number : ℕ) → lives state number ≡ true → breaks rules state number ≡ true → Contains among number

-- ---- edits

-- the topmost of the nodes on which the boxes hang that an edit makes or changes
abbrev pub touched : State → EditOf → List ℕ
touched state (set_text number letters) = []
touched state (set_style number own) = number ∷ []
touched state (set_class number words) = number ∷ []
touched state (insert parent index nodes own) = tops_from state.next nodes
touched state (remove number) = []
touched state (move_to number parent index) = number ∷ []

-- those and all below them, after the edit
abbrev pub part : State → EditOf → List ℕ
part state edit = all_below (after state edit) (touched state edit)

-- where no node broke the limit, only such a node can break it after an edit that the document takes
abbrev pub EditsAreJudgedByTheirParts : Type 0
EditsAreJudgedByTheirParts = (rules : List Ruling) (state : State) (edit : EditOf) → IsFitting edit → IsRooted state → IsWhole state → IsReached state → refusal state edit ≡ None
    → IsWithinLimits (styled_document rules state) → AreCovered rules (after state edit) (part state edit)

-- a document is what this edit made of one whose boxes were within the limit
pub record IsEditedFrom (rules : List Ruling) (edit : EditOf) (next state : State) : Type 0 where
  pub fitting : IsFitting edit
  pub rooted : IsRooted state
  pub whole : IsWhole state
  pub reached : IsReached state
  pub taken : refusal state edit ≡ None
  pub within : IsWithinLimits (styled_document rules state)
  pub is : next ≡ after state edit

-- the boxes of a document are within the limit, or pass it so
abbrev pub Answers : List Ruling → State → Result ⊤ LimitError → Type 0
Answers rules state (Ok done) = IsWithinLimits (styled_document rules state)
Answers rules state (Err (Limit limit)) = Passes (styled_document rules state) limit
Answers rules state (Err Memory) = ⊤
