-- Boxes that turn inside boxes: how many on a line of ancestors are orthogonal to their containing blocks. CSS Writing Modes 4, 7.3,
-- with a limit of this project's own.
use Rattle.std.specs.Prelude.{◌≡◌, ℕ, suc, min, nat_lt, ◌≤◌, Bool, true, false, List, [], ◌∷◌, ◌++◌, Option, Some, None}
use Rattle.std.specs.List.{Contains}
use Rattle.wm_modes.specs.Mode.{are_parallel}
use Rattle.wm_modes.specs.declared.mode.WritingMode.{WritingMode}
use Rattle.style_types.specs.Tree as styled
use Rattle.style_types.specs.Tree.{Nodes}
use Rattle.box_gen.specs.Boxes.{Role, atom, block_level, inline_box, line_break, nothing, role_of, words}

-- so many may be
abbrev pub most_orthogonal : ℕ
most_orthogonal = 6

-- one more, unless it is parallel; beyond the first that is too many they aren't told apart
abbrev pub turns_by : (parallel : Bool) → (turns : ℕ) → ℕ
turns_by true turns = turns
turns_by false turns = min (suc turns) 7

-- with a box of its own mode in a containing block of this mode
abbrev pub turns_in : (mode own : WritingMode) → (turns : ℕ) → ℕ
turns_in mode own turns = turns_by (are_parallel mode own) turns

abbrev pub put_if : Bool → ℕ → List ℕ → List ℕ
put_if true number others = number ∷ others
put_if false number others = others

-- the number of a box with so many, where these are too many, and those inside it
abbrev pub past_box : (number turns : ℕ) → (inner : ℕ → List ℕ) → List ℕ
past_box number turns inner = put_if (nat_lt most_orthogonal turns) number (inner turns)

-- by the node's role; what stands in an inline box has the containing block of that
abbrev pub past_by : Role → (number : ℕ) → (mode own : WritingMode) → (turns : ℕ) → (inner : WritingMode → ℕ → List ℕ) → List ℕ
past_by nothing number mode own turns inner = []
past_by (words letters) number mode own turns inner = []
past_by line_break number mode own turns inner = []
past_by inline_box number mode own turns inner = inner mode turns
past_by atom number mode own turns inner = past_box number (turns_in mode own turns) (inner own)
past_by block_level number mode own turns inner = past_box number (turns_in mode own turns) (inner own)

-- the nodes with too many, in document order, where they stand in a containing block of this mode with so many
unfoldable pub past : Nodes → (mode : WritingMode) → (turns : ℕ) → List ℕ
past styled.none mode turns = []
past (styled.node number kind style inner next) mode turns = past_by (role_of kind style) number mode style.mode turns (past inner) ++ past next mode turns

-- those below the root, which is no such box
abbrev pub root_past : Nodes → List ℕ
root_past styled.none = []
root_past (styled.node number kind style inner next) = past inner style.mode 0

-- the least of some numbers; none where there are none
abbrev pub IsLeastOf : List ℕ → Option ℕ → Type 0
IsLeastOf numbers None = numbers ≡ []
IsLeastOf numbers (Some number) = Contains numbers number × ((other : ℕ) → Contains numbers other → number ≤ other)
