-- A page of the flow, turned to another mode. CSS Writing Modes 4, 6.2 and 6.4.
use Rattle.wm_modes.specs.declared.mode.WritingMode.{WritingMode}
use Rattle.wm_units.specs.declared.view.View.{View}
use Rattle.place_map.specs.Placed.{Page, Parts, none, part}
use Rattle.page_turn.specs.Kinds.{kind_in}
use Rattle.page_turn.specs.Rects.{rect_turned}

-- fragments of the flow's page, each with those inside it
abbrev pub turned_parts : WritingMode → View → Parts → Parts
turned_parts mode view none = none
turned_parts mode view (part name rect kind inner next) =
    part name (rect_turned mode view rect) (kind_in mode kind) (turned_parts mode view inner) (turned_parts mode view next)

abbrev pub turned : WritingMode → Page → Page
turned mode flow = record { view = flow.view; parts = turned_parts mode flow.view flow.parts }
