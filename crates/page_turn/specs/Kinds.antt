-- Kinds of fragments of the flow in another mode. CSS Writing Modes 4, 5.1 and 6.2.
use Rattle.wm_modes.specs.declared.mode.WritingMode.{WritingMode}
use Rattle.wm_modes.specs.declared.mode.WritingMode.TheVariants.{HorizontalTb, VerticalRl, VerticalLr, SidewaysRl, SidewaysLr}
use Rattle.fragment_types.specs.Fragment.{Kind, block, line, span, run, measure, Pieces, none, piece}
use Rattle.fragment_types.specs.declared.unit_kind.UnitKind.{UnitKind}
use Rattle.fragment_types.specs.declared.unit_kind.UnitKind.TheVariants.{Along, Turned, Upright, Combined}

-- sideways text: what is along a line of horizontal-tb is turned by a quarter in a line of vertical-rl, and the other way round
abbrev pub sideways : UnitKind → UnitKind
sideways Along = Turned
sideways Turned = Along
sideways Upright = Upright
sideways Combined = Combined

-- the lines of the other modes have no upright text, so that all text is along them
abbrev pub form_in : WritingMode → UnitKind → UnitKind
form_in HorizontalTb form = form
form_in VerticalRl form = sideways form
form_in VerticalLr form = sideways form
form_in SidewaysRl form = form
form_in SidewaysLr form = form

-- boxes and lines are of that mode
abbrev pub kind_in : WritingMode → Kind → Kind
kind_in mode (block _ dir content definite start end_ through) = block mode dir content definite start end_ through
kind_in mode (line index base _ baseline) = line index base mode baseline
kind_in mode span = span
kind_in mode (run form level natural units) = run (form_in mode form) level natural units
kind_in mode (measure min max) = measure min max

-- trees of fragments whose boxes and lines are all of that mode
abbrev pub pieces_in : WritingMode → Pieces → Pieces
pieces_in mode none = none
pieces_in mode (piece name rect kind inner next) = piece name rect (kind_in mode kind) (pieces_in mode inner) (pieces_in mode next)
