-- The boxes of a page that are containing blocks, by the elements that they are of. CSS Positioned Layout 3, 2.1.
use Rattle.std.specs.Prelude.{ℕ, ◌==◌, if◌then◌else◌, ℤ, Option, Some, None}
use Rattle.std.specs.Option.{option_or}
use Rattle.wm_modes.specs.Mode.{are_parallel}
use Rattle.wm_modes.specs.declared.mode.Direction.{Direction}
use Rattle.wm_modes.specs.declared.mode.WritingMode.{WritingMode}
use Rattle.wm_modes.specs.declared.rects.FlowRect.{FlowRect}
use Rattle.fragment_types.specs.Fragment.{Kind, block, line, span, run, measure}
use Rattle.fragment_types.specs.declared.item.BoxName.{BoxName}
use Rattle.place_map.specs.Placed.{Page, Parts, none, part, direction_of, mode_of}
use Rattle.rel_shift.specs.declared.containing.Containing.{Containing}

-- the view, in the mode and the direction of the root
abbrev pub view_block : Page → Containing
view_block page = record { mode = mode_of page; dir = direction_of page; inline = page.view.inline; block = Some page.view.block }

-- the inline size of a content area that is told on the axes of another mode
abbrev pub inline_size : (told own : WritingMode) → FlowRect → ℤ
inline_size told own content = if are_parallel told own then content.inline else content.block

abbrev pub block_in : (told own : WritingMode) → Direction → (content : FlowRect) → (definite : Option ℤ) → Containing
block_in told own dir content definite = record { mode = own; dir = dir; inline = inline_size told own content; block = definite }

-- the own box of an element: the one of ordinal 0
abbrev pub own_box : (told : WritingMode) → BoxName → Kind → Option Containing
own_box told name (block own dir content definite start end_ through) = if name.ordinal == 0 then Some (block_in told own dir content definite) else None
own_box told name (line index base own baseline) = None
own_box told name span = None
own_box told name (run form level natural units) = None
own_box told name (measure min max) = None

-- where it is of this element
abbrev pub own_box_of : (node : ℕ) → (told : WritingMode) → BoxName → Kind → Option Containing
own_box_of node told name kind = if name.node == node then own_box told name kind else None

-- the mode on whose axes what stands inside a fragment is told
abbrev pub mode_inside : WritingMode → Kind → WritingMode
mode_inside mode (block own dir content definite start end_ through) = own
mode_inside mode (line index base own baseline) = own
mode_inside mode span = mode
mode_inside mode (run form level natural units) = mode
mode_inside mode (measure min max) = mode

-- the own box of an element among these fragments and inside them: the last one, where there were several
abbrev pub box_in : (told : WritingMode) → (node : ℕ) → Parts → Option Containing
box_in told node none = None
box_in told node (part name rect kind inner next) =
    option_or (box_in told node next) (option_or (box_in (mode_inside told kind) node inner) (own_box_of node told name kind))

abbrev pub box_of : Page → (node : ℕ) → Option Containing
box_of page node = box_in (mode_of page) node page.parts
