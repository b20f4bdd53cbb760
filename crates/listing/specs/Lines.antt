-- The line of each kind of fragment. What was measured alone has none.
use Rattle.std.specs.Prelude.{ℕ, List, [], ◌++◌, ℤ, codes}
use Rattle.wm_modes.specs.Words.{mode_word, direction_word}
use Rattle.wm_modes.specs.declared.mode.Direction.{Direction}
use Rattle.wm_modes.specs.declared.mode.WritingMode.{WritingMode}
use Rattle.wm_modes.specs.declared.rects.Rect.{Rect}
use Rattle.wm_units.specs.declared.view.View.{View}
use Rattle.fragment_types.specs.Fragment.{Kind, block, line, span, run, measure}
use Rattle.fragment_types.specs.RunUnit.{RunUnit}
use Rattle.fragment_types.specs.declared.item.BoxName.{BoxName}
use Rattle.place_map.specs.Parts.{Part}
use Rattle.listing.specs.Runs.{combined_width, end_of, first_of, space, standing_word, units}
use Rattle.listing.specs.Words.{count, name_words, pair, rect_words, word}
use Rattle.listing.specs.declared.text_standing.TextStanding.{TextStanding}

-- the page: its size, and the mode and the used direction of the root
unfoldable pub page_line : Rect → WritingMode → Direction → List ℕ
page_line page mode direction =
    codes "page" ++ pair page.w page.h ++ (codes " " ++ mode_word mode) ++ (codes " " ++ direction_word direction) ++ codes "\n"

-- the flow: the inline and the block size of the view, and the used direction of the root
unfoldable pub flow_line : View → Direction → List ℕ
flow_line view direction = codes "flow" ++ pair view.inline view.block ++ (codes " " ++ direction_word direction) ++ codes "\n"

-- a border box
unfoldable pub box_line : BoxName → Rect → List ℕ
box_line name rect = codes "box" ++ name_words name ++ rect_words rect ++ codes "\n"

-- a line of the paragraph that the box of this name holds: which one, and how far its baseline lies from line-over
unfoldable pub line_line : BoxName → Rect → (index : ℕ) (base : ℤ) → List ℕ
line_line name rect index base = codes "line" ++ name_words name ++ count index ++ rect_words rect ++ word base ++ codes "\n"

-- a fragment of an inline box
unfoldable pub span_line : BoxName → Rect → List ℕ
span_line name rect = codes "span" ++ name_words name ++ rect_words rect ++ codes "\n"

-- a run: its text node, its bounds there and its rectangle
unfoldable pub run_place : (node : ℕ) → Rect → List RunUnit → List ℕ
run_place node rect run_units = codes "run" ++ count node ++ count (first_of run_units) ++ count (end_of run_units) ++ rect_words rect

-- how it stands, its level, and its characters
unfoldable pub run_line : (node : ℕ) → Rect → (form : List ℕ) (level : ℕ) → List RunUnit → List ℕ
run_line node rect form level run_units =
    run_place node rect run_units ++ (codes " " ++ form) ++ count level ++ units space run_units ++ codes "\n"

-- a fragment in text that stands so
unfoldable pub line_of : TextStanding → BoxName → Rect → Kind → List ℕ
line_of standing name rect (block own dir content definite start end_ through) = box_line name rect
line_of standing name rect (line index base own baseline) = line_line name rect index base
line_of standing name rect span = span_line name rect
line_of standing name rect (run form level natural run_units) =
    run_line name.node rect (standing_word standing form (combined_width natural run_units)) level run_units
line_of standing name rect (measure min max) = []

abbrev pub line_at : TextStanding → Part → List ℕ
line_at standing p = line_of standing p.name p.rect p.kind
