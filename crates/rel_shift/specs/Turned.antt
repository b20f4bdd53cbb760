-- Shifts on a page of the flow that is turned to another mode. CSS Positioned Layout 3, 3.2; CSS Writing Modes 4, 6.2 and 6.4.
use Rattle.std.specs.Prelude.{◌≡◌, map, neg_ℤ, option_map}
use Rattle.wm_modes.specs.declared.mode.WritingMode.{WritingMode}
use Rattle.wm_modes.specs.declared.mode.WritingMode.TheVariants.{HorizontalTb, VerticalRl, VerticalLr, SidewaysRl, SidewaysLr}
use Rattle.style_types.specs.Tree.{Nodes}
use Rattle.style_types.specs.declared.position.Position.{Position}
use Rattle.mode_ways.specs.Ways.{Way, insets_in, mode_of, nodes_in}
use Rattle.place_map.specs.Placed.{Page, Parts, none, part}
use Rattle.page_turn.specs.Laws.{IsBox}
use Rattle.page_turn.specs.Turning.{turned}
use Rattle.rel_shift.specs.Positions.{positions_of}
use Rattle.rel_shift.specs.Shifting.{shift}
use Rattle.rel_shift.specs.declared.insets.Shift.{Shift}

-- a shift of the flow's page on the page of another mode: what goes to the right there goes from line-left on, what goes down goes from
-- block-start on
abbrev pub shift_turned : WritingMode → Shift → Shift
shift_turned HorizontalTb by = by
shift_turned VerticalRl by = record { dx = neg_ℤ by.dy; dy = by.dx }
shift_turned VerticalLr by = record { dx = by.dy; dy = by.dx }
shift_turned SidewaysRl by = record { dx = neg_ℤ by.dy; dy = by.dx }
shift_turned SidewaysLr by = record { dx = by.dy; dy = neg_ℤ by.dx }

-- a position with its insets in a way
abbrev pub position_in : Way → Position → Position
position_in way p = record { node = p.node; parent = p.parent; holder = p.holder; insets = option_map (insets_in way) p.insets }

-- the root of a page is a box
abbrev pub HasRoot : Parts → Type 0
HasRoot none = ⊥
HasRoot (part name rect kind inner next) = IsBox kind

-- a styled tree in a way has the positions of the tree, in that way
abbrev pub PositionsTurn : Type 0
PositionsTurn = (way : Way) (nodes : Nodes) → positions_of (nodes_in way nodes) ≡ map (position_in way) (positions_of nodes)

-- a page of the flow whose root is a box, turned and then shifted by the positions of a document in the way, is what it is in horizontal-tb,
-- shifted by those of the document and then turned
abbrev pub ShiftsTurn : Type 0
ShiftsTurn = (way : Way) (page : Page) (nodes : Nodes) → HasRoot page.parts
    → shift (turned (mode_of way) page) (positions_of (nodes_in way nodes)) ≡ turned (mode_of way) (shift (turned HorizontalTb page) (positions_of nodes))
