-- No layout depends on an inset. CSS Positioned Layout 3, 2.
use Rattle.std.specs.Prelude.{◌≡◌, false, List, map, Option, ℤ}
use Rattle.face_api.specs.Table.{Table}
use Rattle.style_types.specs.declared.style.Style.{Style}
use Rattle.style_types.specs.Initial.{initial}
use Rattle.style_types.specs.Tree as styled
use Rattle.style_types.specs.Tree.{Nodes}
use Rattle.fragment_types.specs.Item.{Entry, text, begins, ends, atom, line_break}
use Rattle.box_gen.specs.Boxes.{root_boxes}
use Rattle.box_gen.specs.Tree.{Boxes, Content, blocks, box, inline, none}
use Rattle.relayout.specs.Flow.{layout}

-- a style as that of a static box
abbrev pub as_static : Style → Style
as_static style = record style { relative = false; insets = initial.insets }

abbrev pub static_item : Entry → Entry
static_item (text node letters style) = text node letters (as_static style)
static_item (begins node style edges) = begins node (as_static style) edges
static_item (ends node edges) = ends node edges
static_item (atom name) = atom name
static_item (line_break node) = line_break node

abbrev pub static_content : Content → Content
static_content blocks = blocks
static_content (inline items) = inline (map static_item items)

-- each box, each item of a paragraph and each node as a static one
unfoldable pub static_boxes : Boxes → Boxes
static_boxes none = none
static_boxes (box name style content inner next) = box name (as_static style) (static_content content) (static_boxes inner) (static_boxes next)

unfoldable pub static_nodes : Nodes → Nodes
static_nodes styled.none = styled.none
static_nodes (styled.node number kind style inner next) = styled.node number kind (as_static style) (static_nodes inner) (static_nodes next)

-- whatever boxes: their layout is that of static ones
abbrev pub LayoutsAreOfStaticBoxes : Type 0
LayoutsAreOfStaticBoxes = (faces : List (Option Table)) (inline_size block_size : ℤ) (boxes : Boxes)
    → layout faces inline_size block_size (static_boxes boxes) ≡ layout faces inline_size block_size boxes

-- the boxes of static nodes are the static boxes
abbrev pub StaticNodesMakeStaticBoxes : Type 0
StaticNodesMakeStaticBoxes = (nodes : Nodes) → root_boxes (static_nodes nodes) ≡ static_boxes (root_boxes nodes)

-- two documents that differ in positions and insets alone have one flow
abbrev pub FlowsAreOfStaticNodes : Type 0
FlowsAreOfStaticNodes = (faces : List (Option Table)) (inline_size block_size : ℤ) (one other : Nodes) → static_nodes one ≡ static_nodes other
    → layout faces inline_size block_size (root_boxes one) ≡ layout faces inline_size block_size (root_boxes other)
