-- One line in each mode. CSS 2, 9.4.2; CSS Writing Modes 4, 5.1.
use Rattle.std.specs.Prelude.{◌≡◌, map}
use Rattle.wm_modes.specs.declared.mode.WritingMode.{WritingMode}
use Rattle.line_place.specs.Line.{Content, Item, Line, atom, combined, nothing, unit}
use Rattle.line_place.specs.Placing.{parts}
use Rattle.page_turn.specs.Kinds.{form_in, pieces_in}

-- an item of a line in a mode: text stands as sideways text does, an inline-block is of that mode, and no length changes
abbrev pub shown_in : WritingMode → Content → Content
shown_in mode (unit node first end_ form glyphs) = unit node first end_ (form_in mode form) glyphs
shown_in mode (combined node first end_ natural glyphs) = combined node first end_ natural glyphs
shown_in mode (atom fragment left_margin over_margin over under) = atom (pieces_in mode fragment) left_margin over_margin over under
shown_in mode nothing = nothing

abbrev pub line_item_in : WritingMode → Item → Item
line_item_in mode item = record item { what = shown_in mode item.what }

abbrev pub line_in : WritingMode → Line → Line
line_in mode line = record line { items = map (line_item_in mode) line.items }

-- whatever line: its fragments in a mode are its fragments, in that mode
abbrev pub LineFragmentsAlike : Type 0
LineFragmentsAlike = (mode : WritingMode) (line : Line) → parts (line_in mode line) ≡ pieces_in mode (parts line)
