-- Where what fills a box stands on its block axis. CSS 2, 8.3.1, 9.4.1, 10.6.3 and 10.8.
use Rattle.std.specs.Prelude.{◌≡◌, ⊤, Bool, true, false, cond, List, map, Option, Some, None, ℤ, pos, ◌+ℤ◌, ◌≤ℤ◌}
use Rattle.wm_modes.specs.declared.rects.FlowRect.{FlowRect}
use Rattle.face_api.specs.Table.{Table}
use Rattle.face_api.specs.Living.{used_table}
use Rattle.fragment_types.specs.declared.constraint.Constraint.{Constraint}
use Rattle.fragment_types.specs.declared.item.BoxName.{BoxName}
use Rattle.style_types.specs.declared.style.Style.{Style}
use Rattle.fragment_types.specs.Fragment.{Kind, block, line, measure, run, span, Pieces, none, piece}
use Rattle.fragment_types.specs.Item.{Entry}
use Rattle.style_types.specs.Style.{IsBounded, baseline_of}
use Rattle.block_flow.specs.Adjoining.{edges}
use Rattle.box_arena.specs.At.{Node}
use Rattle.box_gen.specs.Tree.{Boxes, Content}
use Rattle.line_place.specs.Leading.{by_baseline, line_height, share}
use Rattle.relayout.specs.Boxed.{block_box, handed_on}
use Rattle.relayout.specs.Content.{Filled, filled, paragraph}
use Rattle.relayout.specs.Flow.{flow_step, laid_under, members}
use Rattle.relayout.specs.Flowed.{Laid, Member}
use Rattle.relayout.specs.Inline.{Outside, inline_size}
use Rattle.relayout.specs.Sizes.{block_sizes, containing_of, definite, hold, is_parallel}
use Rattle.relayout.specs.Step.{is_measured}
use Rattle.flow_laws.specs.Placing.{given}

-- where the next fragment may begin: where this one ends, but a box that is collapsed through takes no place
abbrev pub ends_at : Kind → (from : ℤ) → FlowRect → ℤ
ends_at (block mode dir content definite start end_ through) from rect = cond through from (rect.b +ℤ rect.block)
ends_at (line index base mode baseline) from rect = rect.b +ℤ rect.block
ends_at span from rect = rect.b +ℤ rect.block
ends_at (run form level natural units) from rect = rect.b +ℤ rect.block
ends_at (measure min max) from rect = rect.b +ℤ rect.block

-- fragments one behind another: none begins before the one before it ends, the first not before `from`, and the last ends not behind `to`
abbrev pub StandBetween : (from to : ℤ) → Pieces → Type 0
StandBetween from to none = from ≤ℤ to
StandBetween from to (piece name rect kind inner next) = (from ≤ℤ rect.b) × StandBetween (ends_at kind from rect) to next

-- its block size isn't negative, and none of the margins that adjoin its start or its end
abbrev pub HasNoNegative : FlowRect → Kind → Type 0
HasNoNegative rect (block mode dir content definite start end_ through) = (pos 0 ≤ℤ rect.block) × (start.negative ≡ pos 0) × (end_.negative ≡ pos 0)
HasNoNegative rect (line index base mode baseline) = pos 0 ≤ℤ rect.block
HasNoNegative rect span = pos 0 ≤ℤ rect.block
HasNoNegative rect (run form level natural units) = pos 0 ≤ℤ rect.block
HasNoNegative rect (measure min max) = pos 0 ≤ℤ rect.block

abbrev pub HaveNoNegative : Pieces → Type 0
HaveNoNegative none = ⊤
HaveNoNegative (piece name rect kind inner next) = HasNoNegative rect kind × HaveNoNegative next

-- it ends there at the latest, unless it is collapsed through
abbrev pub EndsBefore : (to : ℤ) → FlowRect → Kind → Type 0
EndsBefore to rect (block mode dir content definite start end_ through) = through ≡ false → (rect.b +ℤ rect.block) ≤ℤ to
EndsBefore to rect (line index base mode baseline) = (rect.b +ℤ rect.block) ≤ℤ to
EndsBefore to rect span = (rect.b +ℤ rect.block) ≤ℤ to
EndsBefore to rect (run form level natural units) = (rect.b +ℤ rect.block) ≤ℤ to
EndsBefore to rect (measure min max) = (rect.b +ℤ rect.block) ≤ℤ to

-- each fragment stands between two places
abbrev pub EachIsInside : (from to : ℤ) → Pieces → Type 0
EachIsInside from to none = ⊤
EachIsInside from to (piece name rect kind inner next) = (from ≤ℤ rect.b) × EndsBefore to rect kind × EachIsInside from to next

-- so it is with fragments one behind another
abbrev pub InOrderIsInside : Type 0
InOrderIsInside = (from to : ℤ) (pieces : Pieces) → HaveNoNegative pieces → StandBetween from to pieces → EachIsInside from to pieces

-- what fills a box: the boxes in it under the constraint that it gives them, or the lines of its paragraph
abbrev pub content_of : Outside → (parent : Style) → Node → Constraint → List Member → Filled
content_of outside parent node c members =
    filled outside.faces node.name node.style (edges (block_box (containing_of parent) node.style c false))
    (inline_size outside (containing_of parent) node.style node.content c (handed_on (containing_of parent) node c) members) node.content
    (map (laid_under (given outside parent node c members)) members)

-- fragments in a box without negative margins and block sizes stand one behind another, and inside the block extent of its content
abbrev pub ContentStandsInside : Type 0
ContentStandsInside = (outside : Outside) (parent : Style) (name : BoxName) (style : Style) (content : Content) (inner : Boxes) (c : Constraint) → is_measured (containing_of parent) style c ≡ false
    → let node : Node = record { name = name; style = style; content = content } in
    let inside = members outside (containing_of style) inner in
    let own = flow_step outside (containing_of parent) node inside c in
    HaveNoNegative own.part.inner → StandBetween (pos 0) (content_of outside parent node c inside).extent own.part.inner

-- the line height of a block container, by its used face
abbrev pub strut_height : List (Option Table) → Style → ℤ
strut_height faces style =
    let table = used_table faces style.face in
    let text = by_baseline (share table.metrics.ascent style.font_size) (share table.metrics.descent style.font_size) (baseline_of style.mode style.orientation) in
    line_height style (text.over +ℤ text.under)

-- each of these reaches as far on the block axis
abbrev pub AreAsHigh : (height : ℤ) → Pieces → Type 0
AreAsHigh height none = ⊤
AreAsHigh height (piece name rect kind inner next) = (height ≤ℤ rect.block) × AreAsHigh height next

pub record AreLinesInside (height : ℤ) (content : Filled) : Type 0 where
  pub high : AreAsHigh height content.parts
  pub inside : StandBetween (pos 0) content.extent content.parts

-- the lines of a paragraph, in a container whose style has the numbers of a computed one
abbrev pub LinesStandInside : Type 0
LinesStandInside = (faces : List (Option Table)) (name : BoxName) (style : Style) (size : ℤ) (entries : List Entry) (laid : List Laid) → IsBounded style
    → AreLinesInside (strut_height faces style) (paragraph faces name style size entries laid)

-- the block size of a box's content area, told on the axes of its containing block
abbrev pub own_block_size : (parallel : Bool) → Kind → Option ℤ
own_block_size true (block mode dir content definite start end_ through) = Some content.block
own_block_size false (block mode dir content definite start end_ through) = Some content.inline
own_block_size parallel (line index base mode baseline) = None
own_block_size parallel span = None
own_block_size parallel (run form level natural units) = None
own_block_size parallel (measure min max) = None

-- a block size that isn't definite is the extent of the content, within the box's limits
abbrev pub AutoIsAsContent : Type 0
AutoIsAsContent = (outside : Outside) (parent : Style) (node : Node) (members : List Member) (c : Constraint) → is_measured (containing_of parent) node.style c ≡ false → definite (containing_of parent) node.style c ≡ None
    → own_block_size (is_parallel (containing_of parent) node.style) (flow_step outside (containing_of parent) node members c).part.kind
    ≡ Some (hold (block_sizes (containing_of parent) node.style c) (content_of outside parent node c members).extent)
