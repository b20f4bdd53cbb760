-- What flow layout asks for: which boxes of a tree are laid out, and under which sizes of their containing blocks. A box is met once for each
-- way that leads to it, and is laid out once for each pair of its name and a constraint.
use Rattle.std.specs.Prelude.{Bool, true, false, ◌&&◌, List, [], ◌∷◌, ◌++◌, nat_eq, if◌then◌else◌, Option, Some, None, ℤ}
use Rattle.std.specs.Option.{option_cmp}
use Rattle.std.specs.Ordering.{int_cmp, is_eq}
use Rattle.face_api.specs.Table.{Table}
use Rattle.wm_modes.specs.Mode.{is_horizontal}
use Rattle.wm_units.specs.declared.view.View.{View}
use Rattle.fragment_types.specs.declared.constraint.Constraint.{Constraint}
use Rattle.fragment_types.specs.declared.item.BoxName.{BoxName}
use Rattle.box_arena.specs.At.{Node}
use Rattle.box_gen.specs.Tree.{Boxes, box, none as no_boxes}
use Rattle.relayout.specs.declared.sizes.Containing.{Containing}
use Rattle.relayout.specs.Boxed.{handed_on}
use Rattle.relayout.specs.Flow.{members, on_page}
use Rattle.relayout.specs.Inline.{Outside, inline_size}
use Rattle.relayout.specs.Sizes.{containing_of}
use Rattle.relayout.specs.Step.{definite_under, is_measured, under}

-- ---- what a box asks of its children

abbrev pub contributes_by : (definite handed : Option ℤ) → Option Constraint
contributes_by None handed = Some (under None handed)
contributes_by (Some size) handed = None

-- the constraint under which they are laid out for their contributions: none, where its inline size doesn't depend on them
abbrev pub contributes_under : Containing → Node → Constraint → Option Constraint
contributes_under containing node c = contributes_by (definite_under (is_measured containing node.style c) containing node.style c) (handed_on containing node c)

abbrev pub put_by : (measures : Bool) → Outside → Containing → Node → Constraint → (inner : Boxes) → Option Constraint
put_by true outside containing node c inner = None
put_by false outside containing node c inner =
    let handed = handed_on containing node c in
    Some (under (Some (inline_size outside containing node.style node.content c handed (members outside (containing_of node.style) inner))) handed)

-- the constraint under which they are put in it: none, where it is measured alone
abbrev pub put_under : Outside → Containing → Node → Constraint → (inner : Boxes) → Option Constraint
put_under outside containing node c inner = put_by (is_measured containing node.style c) outside containing node c inner

-- ---- pairs of a box and a constraint

pub record Pair : Type 0 where
  pub name : BoxName
  pub constraint : Constraint

abbrev pub those_under : Option Constraint → (Constraint → List Pair) → List Pair
those_under None below = []
those_under (Some c) below = below c

-- the pairs that are met where boxes are laid out under a constraint, each as often as it is met: a box, its children for their contributions,
-- then in it, and the boxes behind it
abbrev pub met : Outside → Containing → Boxes → Constraint → List Pair
met outside containing no_boxes c = []
met outside containing (box name style content inner next) c =
    let node : Node = record { name = name; style = style; content = content } in
    record { name = name; constraint = c }
    ∷ (those_under (contributes_under containing node c) (met outside (containing_of style) inner)
    ++ (those_under (put_under outside containing node c inner) (met outside (containing_of style) inner)
    ++ met outside containing next c))

abbrev pub same_size : (one other : Option ℤ) → Bool
same_size one other = is_eq (option_cmp int_cmp one other)

abbrev pub same_pair : (one other : Pair) → Bool
same_pair one other =
    nat_eq one.name.node other.name.node && nat_eq one.name.ordinal other.name.ordinal
    && same_size one.constraint.inline other.constraint.inline && same_size one.constraint.block other.constraint.block

abbrev pub is_among : Pair → List Pair → Bool
is_among pair [] = false
is_among pair (other ∷ pairs) = if same_pair pair other then true else is_among pair pairs

-- each pair once: where it is met last
abbrev pub each_once : List Pair → List Pair
each_once [] = []
each_once (pair ∷ pairs) = let others = each_once pairs in if is_among pair others then others else pair ∷ others

-- the pairs that are met for a tree in a view of these sizes, which are told in its root's mode
abbrev pub asks : (faces : List (Option Table)) → View → Boxes → List Pair
asks faces view no_boxes = []
asks faces view (box name style content inner next) =
    each_once (met (on_page (is_horizontal style.mode) faces view.inline view.block) (containing_of style) (box name style content inner no_boxes) (under (Some view.inline) (Some view.block)))
