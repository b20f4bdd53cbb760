-- Inline-blocks in a paragraph: their margin boxes on a line, and their baselines. CSS 2, 10.8.1.
use Rattle.std.specs.Prelude.{Bool, true, false, ◌&&◌, Option, Some, None, ℤ, pos, neg_ℤ, ◌^◌, ◌+ℤ◌, ◌-ℤ◌}
use Rattle.std.specs.Int.{int_max, int_min}
use Rattle.wm_units.specs.Numbers.{half}
use Rattle.wm_modes.specs.Sides.{block_start, line_left, line_over}
use Rattle.wm_modes.specs.declared.mode.WritingMode.{WritingMode}
use Rattle.wm_modes.specs.declared.mode.WritingMode.TheVariants.{HorizontalTb, VerticalRl, VerticalLr, SidewaysRl, SidewaysLr}
use Rattle.wm_modes.specs.declared.rects.FlowRect.{FlowRect}
use Rattle.wm_modes.specs.declared.sides.Side.{Side}
use Rattle.wm_modes.specs.declared.sides.Side.TheVariants.{Top, Right, Bottom, Left}
use Rattle.style_types.specs.declared.style.Baseline.{Baseline}
use Rattle.style_types.specs.declared.style.Baseline.TheVariants.{Alphabetic, Central}
use Rattle.style_types.specs.declared.style.Style.{Style}
use Rattle.fragment_types.specs.Fragment.{Kind, block, line, span, run, measure, Pieces, none, piece}
use Rattle.style_types.specs.Style.{baseline_of}
use Rattle.para_lines.specs.Lines.{Atom}
use Rattle.relayout.specs.declared.atoms.LastLine.{LastLine}
use Rattle.relayout.specs.Edges.{margin_or_zero, margins_along, margins_over}
use Rattle.relayout.specs.Flowed.{Laid, Part, at}

abbrev pub same_mode : WritingMode → WritingMode → Bool
same_mode HorizontalTb HorizontalTb = true
same_mode VerticalRl VerticalRl = true
same_mode VerticalLr VerticalLr = true
same_mode SidewaysRl SidewaysRl = true
same_mode SidewaysLr SidewaysLr = true
same_mode _ _ = false

abbrev pub same_side : Side → Side → Bool
same_side Top Top = true
same_side Right Right = true
same_side Bottom Bottom = true
same_side Left Left = true
same_side _ _ = false

abbrev pub same_baseline : Baseline → Baseline → Bool
same_baseline Alphabetic Alphabetic = true
same_baseline Central Central = true
same_baseline _ _ = false

abbrev pub or_later : (earlier later : Option LastLine) → Option LastLine
or_later earlier None = earlier
or_later earlier (Some found) = Some found

abbrev pub further : (distance : ℤ) → Option LastLine → Option LastLine
further distance None = None
further distance (Some found) = Some (record found { from = distance +ℤ found.from })

abbrev pub if_same : Bool → Option LastLine → Option LastLine
if_same true found = found
if_same false found = None

-- the last line of a fragment in a box of this mode, from the last one of what stands in it: a line itself, or that of a block child
-- in exactly its mode
abbrev pub line_of : WritingMode → FlowRect → Kind → (inner : Option LastLine) → Option LastLine
line_of mode rect (line index base m baseline) inner =
    Some (record { from = rect.b; extent = rect.block; over = base; baseline = baseline })
line_of mode rect (block m dir content definite start end_ through) inner =
    if_same (same_mode m mode) (further (rect.b +ℤ content.b) inner)
line_of mode rect span inner = None
line_of mode rect (run form level natural units) inner = None
line_of mode rect (measure min max) inner = None

-- the last line of what stands in a box of this mode
abbrev pub last_line : WritingMode → Pieces → Option LastLine
last_line mode none = None
last_line mode (piece name rect kind inner next) =
    or_later (line_of mode rect kind (last_line mode inner)) (last_line mode next)

abbrev pub own_line : WritingMode → Part → Option LastLine
own_line mode part = line_of mode part.rect part.kind (last_line mode part.inner)

-- where it ends
abbrev pub end_of : LastLine → ℤ
end_of found = found.from +ℤ found.extent

-- the distance of a line from the line-over edge of the content area, which begins at block-start or ends there
abbrev pub from_over : (over_at_start : Bool) → (content : FlowRect) → LastLine → ℤ
from_over true content found = found.from
from_over false content found = content.block -ℤ end_of found

-- the same from the line-over edge of the border box of a box of this mode
abbrev pub from_edge : (m : WritingMode) → (content : FlowRect) → LastLine → ℤ
from_edge m content found = content.b +ℤ from_over (same_side (block_start m) (line_over m)) content found

abbrev pub from_border : (m : WritingMode) → (content : FlowRect) → LastLine → LastLine
from_border m content found = record found { from = from_edge m content found }

-- it goes along the paragraph's lines and has their kind of baseline
abbrev pub fits : (m mode : WritingMode) → (own baseline : Baseline) → Bool
fits m mode own baseline = same_side (line_over m) (line_over mode) && same_baseline own baseline

abbrev pub where_it_fits : (m mode : WritingMode) → (content : FlowRect) → Baseline → Option LastLine → Option LastLine
where_it_fits m mode content baseline None = None
where_it_fits m mode content baseline (Some found) = if_same (fits m mode found.baseline baseline) (Some (from_border m content found))

-- the last line of an inline-block in a paragraph of this mode and kind of baseline
abbrev pub own_baseline : WritingMode → Baseline → Kind → Pieces → Option LastLine
own_baseline mode baseline (block m dir content definite start end_ through) inner = where_it_fits m mode content baseline (last_line m inner)
own_baseline mode baseline (line index base m kind) inner = None
own_baseline mode baseline span inner = None
own_baseline mode baseline (run form level natural units) inner = None
own_baseline mode baseline (measure min max) inner = None

-- without such a line a box stands on the alphabetic baseline, and has the central one in its middle
abbrev pub by_middle : Baseline → (whole : ℤ) → ℤ
by_middle Alphabetic whole = whole
by_middle Central whole = half whole

abbrev pub over_baseline : (margin whole : ℤ) → Baseline → Option LastLine → ℤ
over_baseline margin whole baseline None = by_middle baseline whole
over_baseline margin whole baseline (Some found) = margin +ℤ (found.from +ℤ found.over)

abbrev pub held_distance : ℤ → ℤ
held_distance distance = int_max (neg_ℤ (pos (2 ^ 33))) (int_min distance (pos (2 ^ 33)))

-- its margin box, along the lines of a mode and across them, where they have this inline size
abbrev pub extent_along : (size : ℤ) → WritingMode → Laid → ℤ
extent_along size mode laid = laid.flowed.part.rect.inline +ℤ margins_along laid.style (Some size) mode

abbrev pub extent_across : (size : ℤ) → WritingMode → Laid → ℤ
extent_across size mode laid = laid.flowed.part.rect.block +ℤ margins_over laid.style (Some size) mode

-- how far it reaches over its baseline in a paragraph of this style
abbrev pub over_of : Style → (size : ℤ) → Laid → ℤ
over_of paragraph size laid =
    let part = laid.flowed.part in
    let baseline = baseline_of paragraph.mode paragraph.orientation in
    held_distance (
    over_baseline (margin_or_zero laid.style (Some size) (line_over paragraph.mode)) (extent_across size paragraph.mode laid) baseline
    (own_baseline paragraph.mode baseline part.kind part.inner))

-- an inline-block in a paragraph of this style, whose lines have this inline size
abbrev pub atom_in : Style → (size : ℤ) → Laid → Atom
atom_in paragraph size laid = record {
  fragment = at (pos 0) (pos 0) laid.flowed.part none;
  extent = extent_along size paragraph.mode laid;
  left_margin = margin_or_zero laid.style (Some size) (line_left paragraph.mode);
  over_margin = margin_or_zero laid.style (Some size) (line_over paragraph.mode);
  over = over_of paragraph size laid;
  under = extent_across size paragraph.mode laid -ℤ over_of paragraph size laid;
  shift = laid.style.shift;
}
