-- The step of an edit that isn't refused: what leads back from it, and what leads there again.
use Rattle.std.specs.Prelude.{◌≡◌, ◌⊎◌, ℕ, ◌+◌, List, [], ◌∷◌, drop, get_or, nat_eq, Option, None, Some, Result, Ok, Err, option_map, unwrap_or, filter_map}
use Rattle.std.specs.List.{position_or_len}
use Rattle.css_types.specs.declared.value.Declaration.{Declaration}
use Rattle.html_read.specs.Values.{Node}
use Rattle.dom_store.specs.declared.error.EditError.{EditError}
use Rattle.dom_store.specs.declared.error.EditError.TheVariants.{Memory}
use Rattle.dom_store.specs.declared.exact.Step as code
use Rattle.dom_store.specs.State.{What, element, text, State}
use Rattle.dom_store.specs.Opening.{children_from, what_of}
use Rattle.dom_store.specs.Standing.{children_at, inclusive_descendants, parent_at}
use Rattle.dom_store.specs.Edits.{EditOf, set_text, set_style, set_class, insert, remove, move_to, under}
use Rattle.dom_store.specs.Refusals.{refusal}
use Rattle.dom_store.specs.Exact.{NumberedOf, ExactEditOf, exact_text, exact_style, exact_class, exact_move, take_nodes, restore, exact_of}

pub record StepOf : Type 0 where
  pub back : ExactEditOf
  pub again : ExactEditOf

abbrev pub step_as : code.Step → StepOf
step_as step = record { back = exact_of step.back; again = exact_of step.again }

-- ---- what stands under a number

abbrev pub letters_of : What → List ℕ
letters_of (element tag id classes dir own) = []
letters_of (text letters) = letters

abbrev pub own_of : What → List Declaration
own_of (element tag id classes dir own) = own
own_of (text letters) = []

abbrev pub classes_of : What → List (List ℕ)
classes_of (element tag id classes dir own) = classes
classes_of (text letters) = []

-- of a node that lives
abbrev pub told_of : {X : Type 0} → (What → List X) → State → (number : ℕ) → List X
told_of tells state number = unwrap_or (option_map (λ entry. tells entry.what) (state.node_at number)) []

-- of a node that has a parent: that one, and its place among the children
abbrev pub holder : State → (number : ℕ) → ℕ
holder state number = unwrap_or (parent_at state number) 0

abbrev pub place_in : (number : ℕ) → List ℕ → ℕ
place_in number children = position_or_len (λ child. nat_eq child number) children

abbrev pub place : State → (number : ℕ) → ℕ
place state number = place_in number (children_at state (holder state number))

-- ---- nodes with their numbers

abbrev pub numbered_of : State → (number : ℕ) → Option NumberedOf
numbered_of state number = option_map (λ entry. record { number = number; parent = unwrap_or entry.parent 0; what = entry.what }) (state.node_at number)

-- a node and those below it, in document order
abbrev pub numbered_below : State → (number : ℕ) → List NumberedOf
numbered_below state number = filter_map (numbered_of state) (inclusive_descendants state number)

-- nodes that are inserted, the first of them with this number, each with its own declarations
unfoldable pub numbered_from : (number : ℕ) → List Node → List (List Declaration) → List NumberedOf
numbered_from number [] own = []
numbered_from number (node ∷ nodes) own = record { number = number; parent = unwrap_or node.parent 0; what = what_of node.kind (get_or own 0 []) } ∷ numbered_from (number + 1) nodes (drop 1 own)

-- ---- the step

abbrev pub step_of : State → EditOf → StepOf
step_of state (set_text number letters) = record { back = exact_text number (told_of letters_of state number); again = exact_text number letters }
step_of state (set_style number own) = record { back = exact_style number (told_of own_of state number); again = exact_style number own }
step_of state (set_class number words) = record { back = exact_class number (told_of classes_of state number); again = exact_class number words }
step_of state (insert parent index nodes own) =
    let placed = under parent state.next nodes in
    record { back = take_nodes parent (children_from state.next parent placed); again = restore parent index (numbered_from state.next placed own) }
step_of state (remove number) =
    let parent = holder state number in
    record { back = restore parent (place state number) (numbered_below state number); again = take_nodes parent (number ∷ []) }
step_of state (move_to number parent index) = record { back = exact_move number (holder state number) (place state number); again = exact_move number parent index }

-- an edit that isn't refused gives its step
abbrev pub GivesStep : State → EditOf → Result code.Step EditError → Type 0
GivesStep state edit (Ok step) = (refusal state edit ≡ None) × (step_as step ≡ step_of state edit)
GivesStep state edit (Err error) = (error ≡ Memory) ⊎ (refusal state edit ≡ Some error)
