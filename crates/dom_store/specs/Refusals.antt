-- Why an edit is refused: the first reason that there is, in the order of the list.
use Rattle.std.specs.Prelude.{ℕ, ◌+◌, ◌-◌, ◌^◌, min, Bool, true, false, not, ◌||◌, List, [], ◌∷◌, ◌++◌, length, fold, nat_eq, nat_lt, Option, Some, None, option_map, unwrap_or, position}
use Rattle.std.specs.List.{list_all, list_any}
use Rattle.html_tokens.specs.declared.tag.Tag.{Tag}
use Rattle.html_tokens.specs.declared.tag.Tag.TheVariants.{Br}
use Rattle.html_read.specs.Values.{Node}
use Rattle.dom_store.specs.declared.error.EditError.{EditError}
use Rattle.dom_store.specs.declared.error.EditError.TheVariants.{NoNode, IsRoot, NotText, NotElement, Inside, BadIndex, TooManyNodes, TooDeep}
use Rattle.dom_store.specs.State.{What, element, text, State, greatest_depth}
use Rattle.dom_store.specs.Opening.{depths, greatest_count}
use Rattle.dom_store.specs.Standing.{lives, children_at, depth_at, inclusive_ancestors, below_levels, live_count}
use Rattle.dom_store.specs.Edits.{EditOf, set_text, set_style, set_class, insert, remove, move_to, without}

abbrev pub refused_if : Bool → EditError → Option EditError
refused_if true error = Some error
refused_if false error = None

-- the first that there is
abbrev pub first_of : List (Option EditError) → Option EditError
first_of [] = None
first_of (None ∷ others) = first_of others
first_of (Some error ∷ others) = Some error

-- ---- what a named node is

abbrev pub is_element : What → Bool
is_element (element tag id classes dir own) = true
is_element (text letters) = false

abbrev pub is_br : Tag → Bool
is_br Br = true
is_br other = false

-- nodes may stand in it
abbrev pub may_hold : What → Bool
may_hold (element tag id classes dir own) = not (is_br tag)
may_hold (text letters) = false

-- of a node that lives
abbrev pub is_of : (What → Bool) → State → (number : ℕ) → Bool
is_of test state number = unwrap_or (option_map (λ entry. test entry.what) (state.node_at number)) false

-- ---- the reasons

-- a named node doesn't live
abbrev pub no_node : State → (numbers : List ℕ) → Option EditError
no_node state numbers = refused_if (not (list_all (lives state) numbers)) NoNode

-- `html` or `body` would be removed or moved
abbrev pub is_root : (number : ℕ) → Option EditError
is_root number = refused_if (nat_eq number 0 || nat_eq number 1) IsRoot

-- nodes would stand beside `body`
abbrev pub in_html : (parent : ℕ) → Option EditError
in_html parent = refused_if (nat_eq parent 0) IsRoot

abbrev pub not_text : State → (number : ℕ) → Option EditError
not_text state number = refused_if (is_of is_element state number) NotText

abbrev pub not_element : State → (number : ℕ) → Option EditError
not_element state number = refused_if (not (is_of is_element state number)) NotElement

-- a text or a `br` is named as a parent
abbrev pub not_holder : State → (parent : ℕ) → Option EditError
not_holder state parent = refused_if (not (is_of may_hold state parent)) NotElement

-- a node would stand in itself or in one below it
abbrev pub inside : State → (number parent : ℕ) → Option EditError
inside state number parent = refused_if (list_any (nat_eq number) (inclusive_ancestors state parent)) Inside

-- the index is above the count of these children
abbrev pub bad_index : (index : ℕ) → (children : List ℕ) → Option EditError
bad_index index children = refused_if (nat_lt (length children) index) BadIndex

-- how many numbers may be drawn
abbrev pub greatest_numbers : ℕ
greatest_numbers = 2 ^ 32 - 1

-- how many nodes may still be inserted
abbrev pub room_left : State → ℕ
room_left state = min (greatest_count - live_count state) (greatest_numbers - state.next)

-- more nodes would live, or more numbers would have been drawn, than may: the first number past the limit
abbrev pub too_many : State → (count : ℕ) → Option EditError
too_many state count = refused_if (nat_lt (room_left state) count) (TooManyNodes (state.next + room_left state))

-- an inserted node would stand too deep: the first in order, which has the least number
abbrev pub too_deep_under : State → (parent : ℕ) → List Node → Option EditError
too_deep_under state parent nodes = option_map (λ place. TooDeep (state.next + place)) (position (λ depth. nat_lt greatest_depth (depth_at state parent + depth)) (depths nodes))

abbrev pub lesser : Option ℕ → ℕ → Option ℕ
lesser None number = Some number
lesser (Some other) number = Some (min other number)

abbrev pub least : List ℕ → Option ℕ
least numbers = fold lesser None numbers

-- a node that is moved, or one below it, would stand too deep: the least number of such a one
abbrev pub too_deep_moved : State → (number parent : ℕ) → Option EditError
too_deep_moved state number parent = option_map TooDeep (least (below_levels (greatest_depth - depth_at state parent) greatest_depth state number))

-- ---- the reasons of each edit, in order

-- a node can't stand in this parent, wherever in it
abbrev pub placing : State → (number parent : ℕ) → List (Option EditError)
placing state number parent = no_node state (number ∷ parent ∷ []) ∷ is_root number ∷ in_html parent ∷ not_holder state parent ∷ inside state number parent ∷ []

-- nodes can't be inserted in this parent, the first of them at this index
abbrev pub entering : State → (parent index : ℕ) → List (Option EditError)
entering state parent index = no_node state (parent ∷ []) ∷ in_html parent ∷ not_holder state parent ∷ bad_index index (children_at state parent) ∷ []

abbrev pub reasons : State → EditOf → List (Option EditError)
reasons state (set_text number letters) = no_node state (number ∷ []) ∷ not_text state number ∷ []
reasons state (set_style number own) = no_node state (number ∷ []) ∷ not_element state number ∷ []
reasons state (set_class number words) = no_node state (number ∷ []) ∷ not_element state number ∷ []
reasons state (insert parent index nodes own) = entering state parent index ++ too_many state (length nodes) ∷ too_deep_under state parent nodes ∷ []
reasons state (remove number) = no_node state (number ∷ []) ∷ is_root number ∷ []
reasons state (move_to number parent index) = placing state number parent ++ bad_index index (without number (children_at state parent)) ∷ too_deep_moved state number parent ∷ []

abbrev pub refusal : State → EditOf → Option EditError
refusal state edit = first_of (reasons state edit)
