-- What fills a box, from its block-start edge on.
use Rattle.std.proofs.Common.{◌≡◌, ◌∙◌, refl, sym, ap, subst, arith, ℕ, ◌-◌, Bool, true, false, List, [], ◌∷◌, fold, map, drop, take, Option, Some, unwrap_or, ℤ, pos, negsuc, ◌+ℤ◌, ◌-ℤ◌, ◌≤ℤ◌}
use Rattle.std.specs.Prelude.{All}
use Rattle.std.specs.Int.{int_max}
use Rattle.std.specs.List.{flat_map}
use Rattle.std.proofs.lemmas.Int.{ints, clamps}
use Rattle.std.proofs.lemmas.List.Elements.{All-cons, All-nil}
use Rattle.face_api.specs.Table.{Table}
use Rattle.face_api.specs.Living.{used_table}
use Rattle.wm_modes.specs.declared.rects.FlowRect.{FlowRect}
use Rattle.wm_modes.specs.declared.mode.Direction.{Direction}
use Rattle.wm_modes.specs.declared.mode.WritingMode.{WritingMode}
use Rattle.wm_units.specs.Numbers.{cap, scaled}
use Rattle.fragment_types.specs.declared.constraint.Constraint.{Constraint}
use Rattle.fragment_types.specs.declared.item.BoxName.{BoxName}
use Rattle.style_types.specs.declared.style.Baseline.{Baseline}
use Rattle.style_types.specs.declared.style.Baseline.TheVariants.{Alphabetic, Central}
use Rattle.style_types.specs.declared.style.LineHeight.{LineHeight}
use Rattle.style_types.specs.declared.style.LineHeight.TheVariants as heights
use Rattle.style_types.specs.declared.style.Style.{Style}
use Rattle.fragment_types.specs.Fragment.{Kind, block, line as line_kind, measure, run, span, Pieces, none, piece}
use Rattle.fragment_types.specs.Item.{Entry}
use Rattle.style_types.specs.Style.{IsBounded, IsLineHeight, baseline_of}
use Rattle.block_flow.specs.declared.boxes.ParentEdges.{ParentEdges}
use Rattle.margin_collapse.specs.declared.margins.Margins.{Margins}
use Rattle.block_flow.specs.Adjoining.{edges, is_through}
use Rattle.box_arena.specs.At.{Node}
use Rattle.box_gen.specs.Tree.{Boxes, Content, blocks, box, inline, none as no_boxes}
use Rattle.line_place.specs.Leading.{by_baseline, line_height, over_baseline, share, used_height}
use Rattle.line_place.specs.Line.{Line}
use Rattle.line_place.specs.Marks.{marks}
use Rattle.line_place.specs.Placing.{line_over, line_under, over_of, under_of}
use Rattle.para_prepare.specs.Parts.{used_direction}
use Rattle.para_prepare.specs.Preparation.{Preparation}
use Rattle.para_lines.specs.declared.paragraph.Container.{Container}
use Rattle.para_lines.specs.Lines.{Atom, Standing, chain_of_first, extents_in, line, lines_from, paragraph_lines}
use Rattle.relayout.specs.Atoms.{atom_in}
use Rattle.relayout.specs.Boxed.{block_box, block_size, boxed, content_area, edge_on, ends_with, handed_on, near_block, near_inline, starts_with, turned}
use Rattle.relayout.specs.Content.{AreStacked, Filled, block_extent, filled, paragraph, stack}
use Rattle.relayout.specs.Flow.{flow_step, laid_out, laid_under, members}
use Rattle.relayout.specs.Flowed.{Flowed, Laid, Member, pair_of}
use Rattle.relayout.specs.Inline.{Outside, inline_size}
use Rattle.relayout.specs.Intrinsic.{prepared}
use Rattle.relayout.specs.Sizes.{block_sizes, containing_of, hold, is_atom, is_parallel}
use Rattle.relayout.proofs.ContentLaws.{chained}
use Rattle.relayout.proofs.FlowLaws.{step_margins}
use Rattle.flow_laws.specs.Placing.{given}
use Rattle.flow_laws.specs.Standing.{AreAsHigh, AutoIsAsContent, ContentStandsInside, EachIsInside, EndsBefore, InOrderIsInside, HasNoNegative, HaveNoNegative, LinesStandInside, StandBetween, content_of, ends_at, own_block_size, strut_height}
use Rattle.flow_laws.proofs.PlacingLaws.{step_laid}
use Rattle.flow_laws.proofs.StackLaws.{HasOwnMargins, stack_stands}

-- ---- lines one under the other

low_of : (kind : Kind) (rect : FlowRect) → HasNoNegative rect kind → pos 0 ≤ℤ rect.block
low_of (block mode dir content base start end_ through) rect up = up.0
low_of (line_kind index base mode baseline) rect up = up
low_of span rect up = up
low_of (run form level natural units) rect up = up
low_of (measure min max) rect up = up

ends_before : (kind : Kind) (rect : FlowRect) (from : ℤ) → from ≤ℤ rect.b → pos 0 ≤ℤ rect.block → ends_at kind from rect ≤ℤ (rect.b +ℤ rect.block)
ends_before (block mode dir content base start end_ true) rect from low up = omega (arith, ints)
ends_before (block mode dir content base start end_ false) rect from low up = omega (arith, ints)
ends_before (line_kind index base mode baseline) rect from low up = omega (arith, ints)
ends_before span rect from low up = omega (arith, ints)
ends_before (run form level natural units) rect from low up = omega (arith, ints)
ends_before (measure min max) rect from low up = omega (arith, ints)

no_more : (from y : ℤ) → from ≤ℤ y → from ≤ℤ (y +ℤ pos 0)
no_more from y low = omega (arith, ints)

place_there : (from b y : ℤ) → from ≤ℤ y → b ≡ y → from ≤ℤ b
place_there from b y low is = omega (arith, ints)

end_there : (end b size y : ℤ) → end ≤ℤ (b +ℤ size) → b ≡ y → end ≤ℤ (y +ℤ size)
end_there end b size y low is = omega (arith, ints)

summed : (y size rest : ℤ) → (y +ℤ size) +ℤ rest ≡ y +ℤ (size +ℤ rest)
summed y size rest = omega (arith, ints)

stacked_stand : (ps : Pieces) (from y : ℤ) → from ≤ℤ y → AreStacked y ps → HaveNoNegative ps → StandBetween from (y +ℤ block_extent ps) ps
stacked_stand none from y low stacked up = no_more from y low
stacked_stand (piece name rect kind inner next) from y low stacked up =
    let there = place_there from rect.b y low stacked.0 in
    let P : ℤ → Type 0 = λ to. StandBetween (ends_at kind from rect) to next in (
      there,
      subst P (summed y rect.block (block_extent next))
          (stacked_stand next (ends_at kind from rect) (y +ℤ rect.block)
          (end_there (ends_at kind from rect) rect.b rect.block y (ends_before kind rect from there (low_of kind rect up.0)) stacked.0) stacked.1 up.1),
    )

-- ---- each of them

both_low : (a b c : ℤ) → a ≤ℤ b → b ≤ℤ c → a ≤ℤ c
both_low a b c low high = omega (arith, ints)

ends_behind : (kind : Kind) (rect : FlowRect) (from : ℤ) → from ≤ℤ rect.b → pos 0 ≤ℤ rect.block → from ≤ℤ ends_at kind from rect
ends_behind (block mode dir content base start end_ true) rect from low up = omega (arith, ints)
ends_behind (block mode dir content base start end_ false) rect from low up = omega (arith, ints)
ends_behind (line_kind index base mode baseline) rect from low up = omega (arith, ints)
ends_behind span rect from low up = omega (arith, ints)
ends_behind (run form level natural units) rect from low up = omega (arith, ints)
ends_behind (measure min max) rect from low up = omega (arith, ints)

in_order : (ps : Pieces) (from to : ℤ) → HaveNoNegative ps → StandBetween from to ps → from ≤ℤ to
in_order none from to up stand = stand
in_order (piece name rect kind inner next) from to up stand =
    both_low from (ends_at kind from rect) to (ends_behind kind rect from stand.0 (low_of kind rect up.0)) (in_order next (ends_at kind from rect) to up.1 stand.1)

before_end : (kind : Kind) (rect : FlowRect) (from to : ℤ) → ends_at kind from rect ≤ℤ to → EndsBefore to rect kind
before_end (block mode dir content base start end_ true) rect from to high = λ is. absurd (cc)
before_end (block mode dir content base start end_ false) rect from to high = λ is. high
before_end (line_kind index base mode baseline) rect from to high = high
before_end span rect from to high = high
before_end (run form level natural units) rect from to high = high
before_end (measure min max) rect from to high = high

each_inside : (ps : Pieces) (low from to : ℤ) → low ≤ℤ from → HaveNoNegative ps → StandBetween from to ps → EachIsInside low to ps
each_inside none low from to less up stand = tt
each_inside (piece name rect kind inner next) low from to less up stand = (
  both_low low from rect.b less stand.0,
  before_end kind rect from to (in_order next (ends_at kind from rect) to up.1 stand.1),
  each_inside next low (ends_at kind from rect) to (both_low low from (ends_at kind from rect) less (ends_behind kind rect from stand.0 (low_of kind rect up.0))) up.1 stand.1,
)

same_low : (z : ℤ) → z ≤ℤ z
same_low z = omega (arith, ints)

pub in_order_is_inside : InOrderIsInside
in_order_is_inside from to pieces up stand = each_inside pieces from from to (same_low from) up stand

-- ---- how high lines are

fold_high : (first : ℤ) (others : List ℤ) → first ≤ℤ fold int_max first others
fold_high first [] = omega (arith, ints)
fold_high first (z ∷ zs) = let h = fold_high (int_max first z) zs in omega (arith, ints, clamps)

sums_high : (a b over under height : ℤ) → a +ℤ b ≡ height → a ≤ℤ over → b ≤ℤ under → height ≤ℤ (over +ℤ under)
sums_high a b over under height is low less = omega (arith, ints)

-- a strut reaches as far over and under its baseline together as its line height is
strut_sum : (faces : List (Option Table)) (container : Container)
    → (extents_in faces container container.style (pos 0)).over +ℤ (extents_in faces container container.style (pos 0)).under ≡ strut_height faces container.style
strut_sum faces container =
    let style = container.style in
    let table = used_table faces style.face in
    let text = by_baseline (share table.metrics.ascent style.font_size) (share table.metrics.descent style.font_size) (baseline_of style.mode style.orientation) in
    let height = line_height style (text.over +ℤ text.under) in
    apart height (over_baseline text.over text.under height) where
      apart : (height over : ℤ) → (over +ℤ pos 0) +ℤ (height -ℤ over -ℤ pos 0) ≡ height
      apart height over = omega (arith, ints)

line_high : (l : Line) (height : ℤ) → l.strut.over +ℤ l.strut.under ≡ height → height ≤ℤ (line_over l +ℤ line_under l)
line_high l height is =
    sums_high l.strut.over l.strut.under (line_over l) (line_under l) height is
    (fold_high l.strut.over (flat_map (over_of l.boxes) (marks l))) (fold_high l.strut.under (flat_map (under_of l.boxes) (marks l)))

lines_high : (faces : List (Option Table)) (container : Container) (entries : List Entry) (ends : List ℕ) (index from : ℕ) (y : ℤ) (before : List ℕ) (standings : List Standing)
    → AreAsHigh (strut_height faces container.style) (lines_from faces container entries index from y before standings ends)
lines_high faces container entries [] index from y before standings = tt
lines_high faces container entries (end_ ∷ ends) index from y before standings = (
  line_high (line faces container entries before (chain_of_first (drop (end_ - from) standings)) (take (end_ - from) standings)) (strut_height faces container.style) (strut_sum faces container),
  lines_high faces container entries ends _ _ _ _ _,
)

lines_up : (faces : List (Option Table)) (container : Container) (entries : List Entry) (ends : List ℕ) (index from : ℕ) (y : ℤ) (before : List ℕ) (standings : List Standing)
    → pos 0 ≤ℤ strut_height faces container.style → HaveNoNegative (lines_from faces container entries index from y before standings ends)
lines_up faces container entries [] index from y before standings up = tt
lines_up faces container entries (end_ ∷ ends) index from y before standings up = (
  up_to (line_high (line faces container entries before (chain_of_first (drop (end_ - from) standings)) (take (end_ - from) standings)) (strut_height faces container.style) (strut_sum faces container)),
  lines_up faces container entries ends _ _ _ _ _ up,
) where
  up_to : {z : ℤ} → strut_height faces container.style ≤ℤ z → pos 0 ≤ℤ z
  up_to high = omega (arith, ints, up, high)

-- ---- line heights aren't negative

share_up : (thousandths : ℕ) (size : ℤ) → pos 0 ≤ℤ size → pos 0 ≤ℤ share thousandths size
share_up thousandths (pos size) low = omega (arith, ints)
share_up thousandths (negsuc size) low = absurd (omega (arith, ints, low))

text_up : (ascent descent : ℤ) (baseline : Baseline) → pos 0 ≤ℤ ascent → pos 0 ≤ℤ descent → pos 0 ≤ℤ ((by_baseline ascent descent baseline).over +ℤ (by_baseline ascent descent baseline).under)
text_up ascent descent Alphabetic a d = omega (arith, ints)
text_up ascent descent Central a d = omega (arith, ints)

scaled_up : (hundredths size : ℤ) → pos 0 ≤ℤ hundredths → pos 0 ≤ℤ size → pos 0 ≤ℤ cap (scaled hundredths size)
scaled_up (pos hundredths) (pos size) a b = omega (arith, ints, clamps)
scaled_up (pos hundredths) (negsuc size) a b = absurd (omega (arith, ints, b))
scaled_up (negsuc hundredths) size a b = absurd (omega (arith, ints, a))

height_up : (height : LineHeight) (size text : ℤ) → IsLineHeight height → pos 0 ≤ℤ size → pos 0 ≤ℤ text → pos 0 ≤ℤ used_height height size text
height_up heights.Normal size text is a b = b
height_up (heights.Number hundredths) size text is a b = scaled_up hundredths size is.0 a
height_up (heights.Length length) size text is a b = is.0

strut_up : (faces : List (Option Table)) (style : Style) → IsBounded style → pos 0 ≤ℤ strut_height faces style
strut_up faces style bounded =
    let table = used_table faces style.face in
    let low = bounded.font_size_low in
    height_up style.line_height style.font_size _ bounded.line_height low
    (text_up (share table.metrics.ascent style.font_size) (share table.metrics.descent style.font_size) (baseline_of style.mode style.orientation) (share_up table.metrics.ascent style.font_size low) (share_up table.metrics.descent style.font_size low))

-- ---- paragraphs

from_there : (z : ℤ) → pos 0 +ℤ z ≡ z
from_there z = omega (arith, ints)

zero_low : pos 0 ≤ℤ pos 0
zero_low = omega (arith, ints)

stand_in_lines : (faces : List (Option Table)) (container : Container) (entries : List Entry) (text : Preparation) (atoms : List Atom)
    → let lines = paragraph_lines faces container entries text atoms in HaveNoNegative lines → StandBetween (pos 0) (block_extent lines) lines
stand_in_lines faces container entries text atoms up =
    let lines = paragraph_lines faces container entries text atoms in
    let P : ℤ → Type 0 = λ to. StandBetween (pos 0) to lines in
    subst P (from_there (block_extent lines)) (stacked_stand lines (pos 0) (pos 0) zero_low (chained faces container entries text atoms) up)

pub lines_stand_inside : LinesStandInside
unfolding paragraph paragraph_lines
lines_stand_inside faces name style size entries laid bounded =
    let container : Container = record { name = name; style = style; size = size } in
    record {
      high = lines_high faces container entries _ _ _ _ _ _;
      inside = stand_in_lines faces container entries (prepared faces style entries) (map (atom_in style size) laid) (lines_up faces container entries _ _ _ _ _ _ (strut_up faces style bounded));
    }

-- ---- what fills a box

filled_stands : (faces : List (Option Table)) (name : BoxName) (style : Style) (joins : ParentEdges) (size : ℤ) (content : Content) (laid : List Laid) → All HasOwnMargins laid
    → let own = filled faces name style joins size content laid in HaveNoNegative own.parts → StandBetween (pos 0) own.extent own.parts
unfolding filled stack paragraph
filled_stands faces name style joins size blocks laid tells up = stack_stands style size joins.start_joins joins.end_joins laid tells up
filled_stands faces name style joins size (inline entries) laid tells up =
    stand_in_lines faces (record { name = name; style = style; size = size }) entries (prepared faces style entries) (map (atom_in style size) laid) up

pub laid_tell : (outside : Outside) (parent : Style) (boxes : Boxes) (size : ℤ) (handed : Option ℤ)
    → All HasOwnMargins (map (laid_under (record { inline = Some size; block = handed })) (members outside (containing_of parent) boxes))
laid_tell outside parent no_boxes size handed = All-nil HasOwnMargins
laid_tell outside parent (box name style content inner next) size handed =
    All-cons HasOwnMargins _ _ (step_margins outside (containing_of parent) (record { name = name; style = style; content = content }) (members outside (containing_of style) inner) size handed)
    (laid_tell outside parent next size handed)

inner_is : (outside : Outside) (parent : Style) (node : Node) (ms : List Member) (c : Constraint) → (laid_out outside (containing_of parent) node c ms).part.inner ≡ (content_of outside parent node c ms).parts
unfolding laid_out boxed
inner_is outside parent node ms c = refl

pub content_stands_inside : ContentStandsInside
content_stands_inside outside parent name style content inner c is up =
    let node : Node = record { name = name; style = style; content = content } in
    let inside = members outside (containing_of style) inner in
    let same : (flow_step outside (containing_of parent) node inside c).part.inner ≡ (content_of outside parent node c inside).parts =
    ap (λ (f : Flowed). f.part.inner) (step_laid outside parent node inside c is) ∙ inner_is outside parent node inside c in
    let P : Pieces → Type 0 = λ ps. StandBetween (pos 0) (content_of outside parent node c inside).extent ps in
    subst P (sym same)
    (filled_stands outside.faces name style (edges (block_box (containing_of parent) style c false)) (inline_size outside (containing_of parent) style content c (handed_on (containing_of parent) node c) inside) content
    (map (laid_under (given outside parent node c inside)) inside)
    (laid_tell outside style inner _ _) (subst HaveNoNegative same up))

-- ---- the block size

kind_size : (parallel : Bool) (mode : WritingMode) (dir : Direction) (i b size extent : ℤ) (known : Option ℤ) (start end_ : Margins) (through : Bool)
    → own_block_size parallel (block mode dir (turned parallel i b size extent) known start end_ through) ≡ Some extent
kind_size true mode dir i b size extent known start end_ through = refl
kind_size false mode dir i b size extent known start end_ through = refl

boxed_block : (parent : Style) (node : Node) (c : Constraint) (size : ℤ) (content : Filled)
    → own_block_size (is_parallel (containing_of parent) node.style) (boxed (containing_of parent) node c size content).part.kind ≡ Some (block_size (containing_of parent) node.style c content.extent)
unfolding boxed content_area
boxed_block parent node c size content =
    let style = node.style in
    let atom = is_atom style.display in
    let through = is_through (block_box (containing_of parent) style c content.lines) content.through in
    kind_size (is_parallel (containing_of parent) style) style.mode (used_direction style) (edge_on (containing_of parent) style c (near_inline atom)) (edge_on (containing_of parent) style c (near_block atom)) size
    (block_size (containing_of parent) style c content.extent) (handed_on (containing_of parent) node c) (pair_of (starts_with (containing_of parent) style c content.starts)) (pair_of (ends_with (containing_of parent) style c through content.ends)) through

laid_block : (outside : Outside) (parent : Style) (node : Node) (ms : List Member) (c : Constraint)
    → own_block_size (is_parallel (containing_of parent) node.style) (laid_out outside (containing_of parent) node c ms).part.kind ≡ Some (block_size (containing_of parent) node.style c (content_of outside parent node c ms).extent)
unfolding laid_out
laid_block outside parent node ms c =
    boxed_block parent node c (inline_size outside (containing_of parent) node.style node.content c (handed_on (containing_of parent) node c) ms) (content_of outside parent node c ms)

pub auto_is_as_content : AutoIsAsContent
auto_is_as_content outside parent node ms c is auto =
    ap (λ (f : Flowed). own_block_size (is_parallel (containing_of parent) node.style) f.part.kind) (step_laid outside parent node ms c is)
    ∙ laid_block outside parent node ms c
    ∙ ap (λ (size : Option ℤ). Some (unwrap_or size (hold (block_sizes (containing_of parent) node.style c) (content_of outside parent node c ms).extent))) auto
