-- Flow layout in each way: what a box asks for, what is in it, what it comes to, and a whole tree of boxes. CSS 2, 8.3.1, 9.4.1, 10.3, 10.6
-- and 10.7.
use Rattle.std.specs.Prelude.{◌≡◌, List, map, Option, ℤ}
use Rattle.face_api.specs.Table.{Table}
use Rattle.fragment_types.specs.declared.constraint.Constraint.{Constraint}
use Rattle.fragment_types.specs.declared.item.BoxName.{BoxName}
use Rattle.style_types.specs.declared.style.Style.{Style}
use Rattle.block_flow.specs.declared.boxes.ParentEdges.{ParentEdges}
use Rattle.box_arena.specs.At.{Node}
use Rattle.box_gen.specs.Tree.{Boxes, Content}
use Rattle.page_turn.specs.Kinds.{pieces_in}
use Rattle.relayout.specs.Boxed.{handed_on}
use Rattle.relayout.specs.Content.{Filled, filled}
use Rattle.relayout.specs.Flow.{asked, flow_step, layout}
use Rattle.relayout.specs.Flowed.{Laid, Member}
use Rattle.relayout.specs.Inline.{Outside, inline_size}
use Rattle.relayout.specs.Sizes.{containing_of}
use Rattle.flow_modes.specs.Sizes.{flowed_in, laid_in}
use Rattle.mode_ways.specs.Ways.{Way, boxes_in, content_in, mode_of, plain, size_across, style_in}

abbrev pub node_in : Way → Node → Node
node_in way node = record { name = node.name; style = style_in way node.style; content = content_in way node.content }

-- a box inside another, which comes under each constraint to what it comes to in the flow, in a way
abbrev pub member_in : Way → Member → Member
member_in way member = record { style = style_in way member.style; flow = λ c. flowed_in way (member.flow c) }

-- what layout is given from outside: the view is told across the page and down the page
abbrev pub outside_in : Way → Outside → Outside
outside_in way outside = record outside {
  view = record { across = size_across way outside.view.across outside.view.down; down = size_across way outside.view.down outside.view.across };
}

abbrev pub filled_in : Way → Filled → Filled
filled_in way filled = record filled { parts = pieces_in (mode_of way) filled.parts }

-- a box hands the same block size on to its children, and asks its content for the same sizes: for the min-content and the max-content one,
-- where its containing block's inline size isn't known, else for its inline size
pub record BoxesAskAlike : Type 0 where
  pub handed : (way : Way) (parent : Style) (node : Node) (c : Constraint)
      → handed_on (containing_of (style_in way parent)) (node_in way node) c ≡ handed_on (containing_of (style_in plain parent)) (node_in plain node) c
  pub intrinsic : (way : Way) (outside : Outside) (parent : Style) (node : Node) (c : Constraint) (children : List Member)
      → asked (outside_in way outside) (containing_of (style_in way parent)) (node_in way node) c (map (member_in way) children)
      ≡ asked outside (containing_of (style_in plain parent)) (node_in plain node) c (map (member_in plain) children)
  pub size : (way : Way) (outside : Outside) (parent style : Style) (content : Content) (c : Constraint) (handed : Option ℤ) (children : List Member)
      → inline_size (outside_in way outside) (containing_of (style_in way parent)) (style_in way style) (content_in way content) c handed (map (member_in way) children)
      ≡ inline_size outside (containing_of (style_in plain parent)) (style_in plain style) (content_in plain content) c handed (map (member_in plain) children)

-- what is in a box, its children one under the other or the lines of its paragraph, is in a way what is in it in a horizontal flow, with the
-- same extent, and the same margins of children adjoin its own
abbrev pub ContentsAlike : Type 0
ContentsAlike = (way : Way) (faces : List (Option Table)) (name : BoxName) (style : Style) (joins : ParentEdges) (size : ℤ) (content : Content) (children : List Laid)
    → filled faces name (style_in way style) joins size (content_in way content) (map (laid_in way) children)
    ≡ filled_in way (filled faces name (style_in plain style) joins size (content_in plain content) (map (laid_in plain) children))

-- under each constraint a box comes in a way to what it comes to in a horizontal flow, whatever its children come to
abbrev pub BoxesAlike : Type 0
BoxesAlike = (way : Way) (outside : Outside) (parent : Style) (node : Node) (children : List Member) (c : Constraint)
    → flow_step (outside_in way outside) (containing_of (style_in way parent)) (node_in way node) (map (member_in way) children) c
    ≡ flowed_in way (flow_step outside (containing_of (style_in plain parent)) (node_in plain node) (map (member_in plain) children) c)

-- the layout of boxes in a way is their layout in a horizontal flow, in that way
abbrev pub LayoutsAlike : Type 0
LayoutsAlike = (faces : List (Option Table)) (inline_size block_size : ℤ) (way : Way) (boxes : Boxes)
    → layout faces inline_size block_size (boxes_in way boxes) ≡ pieces_in (mode_of way) (layout faces inline_size block_size (boxes_in plain boxes))
