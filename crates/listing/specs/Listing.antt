-- The listing of a page, and of a page of the flow: its first line, a line for each fragment in tree order, a last line.
use Rattle.std.specs.Prelude.{ℕ, List, [], ◌++◌, codes}
use Rattle.place_map.specs.Frame.{page_of}
use Rattle.place_map.specs.Placed.{Page, Parts, none, part, mode_of, direction_of}
use Rattle.listing.specs.Lines.{flow_line, line_of, page_line}
use Rattle.listing.specs.TextStanding.{standing_inside}
use Rattle.listing.specs.declared.text_standing.TextStanding.{TextStanding}
use Rattle.listing.specs.declared.text_standing.TextStanding.TheVariants.{InMode, OnFlow}

-- fragments one after the other, each before those inside it
abbrev pub lines : TextStanding → Parts → List ℕ
lines standing none = []
lines standing (part name rect kind inner next) =
    line_of standing name rect kind ++ lines (standing_inside standing kind) inner ++ lines standing next

-- a page whose text stands in the mode of its root
unfoldable pub listing : Page → List ℕ
listing page = page_line (page_of page.view (mode_of page)) (mode_of page) (direction_of page) ++ lines (InMode (mode_of page)) page.parts ++ codes "end\n"

-- a page of the flow, before it is set in any mode
unfoldable pub flow_listing : Page → List ℕ
flow_listing page = flow_line page.view (direction_of page) ++ lines OnFlow page.parts ++ codes "end\n"
