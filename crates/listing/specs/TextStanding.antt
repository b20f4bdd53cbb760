-- What the text of a listing stands in: a mode of the page, or the flow, of which no mode is told.
use Rattle.wm_modes.specs.declared.mode.WritingMode.{WritingMode}
use Rattle.fragment_types.specs.Fragment.{Kind, block, line, span, run, measure}
use Rattle.listing.specs.declared.text_standing.TextStanding.{TextStanding}
use Rattle.listing.specs.declared.text_standing.TextStanding.TheVariants.{InMode, OnFlow}

-- the mode of the text in a fragment: that of its box, and of its line
abbrev pub mode_inside : WritingMode → Kind → WritingMode
mode_inside mode (block own dir content definite start end_ through) = own
mode_inside mode (line index base own baseline) = own
mode_inside mode span = mode
mode_inside mode (run form level natural units) = mode
mode_inside mode (measure min max) = mode

-- what the text in a fragment stands in: a mode goes to the fragment's own, the flow stays the flow
abbrev pub standing_inside : TextStanding → Kind → TextStanding
standing_inside (InMode mode) kind = InMode (mode_inside mode kind)
standing_inside OnFlow kind = OnFlow
