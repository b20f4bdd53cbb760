-- The ways in which one flow can be written: styles, boxes and nodes of a horizontal flow, given in another mode. CSS Writing Modes 4, 6.2 and 6.4.
use Rattle.std.specs.Prelude.{List, map}
use Rattle.wm_modes.specs.declared.mode.WritingMode.{WritingMode}
use Rattle.wm_modes.specs.declared.mode.WritingMode.TheVariants.{HorizontalTb, VerticalRl, SidewaysRl, SidewaysLr}
use Rattle.style_types.specs.declared.style.Combine.{Combine}
use Rattle.style_types.specs.declared.style.Combine.TheVariants.{Never}
use Rattle.style_types.specs.declared.style.Insets.{Insets}
use Rattle.style_types.specs.declared.style.SideSizes.{SideSizes}
use Rattle.style_types.specs.declared.style.SideWidths.{SideWidths}
use Rattle.style_types.specs.declared.style.Style.{Style}
use Rattle.style_types.specs.declared.style.TextOrientation.{TextOrientation}
use Rattle.style_types.specs.declared.style.TextOrientation.TheVariants.{Mixed, Sideways}
use Rattle.style_types.specs.Tree as styled
use Rattle.style_types.specs.Tree.{Nodes}
use Rattle.fragment_types.specs.Item.{Entry, text, begins, ends, atom, line_break}
use Rattle.box_gen.specs.Tree.{Boxes, Content, blocks, box, inline, none}

-- a mode with what text does there: horizontal-tb, vertical-rl with sideways text, sideways-rl, sideways-lr. Only vertical modes read the
-- orientation of text and the combining of digits, so those of the others are any.
pub data Way : Type 0 where
  across : (orientation : TextOrientation) (combine : Combine) → Way
  down : Way
  right : (orientation : TextOrientation) (combine : Combine) → Way
  left : (orientation : TextOrientation) (combine : Combine) → Way

-- that of a document that says nothing of modes
abbrev pub plain : Way
plain = across Mixed Never

abbrev pub mode_of : Way → WritingMode
mode_of (across orientation combine) = HorizontalTb
mode_of down = VerticalRl
mode_of (right orientation combine) = SidewaysRl
mode_of (left orientation combine) = SidewaysLr

abbrev pub orientation_of : Way → TextOrientation
orientation_of (across orientation combine) = orientation
orientation_of down = Sideways
orientation_of (right orientation combine) = orientation
orientation_of (left orientation combine) = orientation

abbrev pub combine_of : Way → Combine
combine_of (across orientation combine) = combine
combine_of down = Never
combine_of (right orientation combine) = combine
combine_of (left orientation combine) = combine

-- what there is across the page, of what there is along the lines and across them in the flow
abbrev pub size_across : {Length : Type 0} → Way → (along over : Length) → Length
size_across (across orientation combine) along over = along
size_across down along over = over
size_across (right orientation combine) along over = over
size_across (left orientation combine) along over = over

-- where lines go down the page, line-left is the top and block-start the right, and in sideways-lr line-left is the bottom and block-start the left
abbrev pub sides_in : Way → SideSizes → SideSizes
sides_in (across orientation combine) sides = record { top = sides.top; right = sides.right; bottom = sides.bottom; left = sides.left }
sides_in down sides = record { top = sides.left; right = sides.top; bottom = sides.right; left = sides.bottom }
sides_in (right orientation combine) sides = record { top = sides.left; right = sides.top; bottom = sides.right; left = sides.bottom }
sides_in (left orientation combine) sides = record { top = sides.right; right = sides.bottom; bottom = sides.left; left = sides.top }

abbrev pub widths_in : Way → SideWidths → SideWidths
widths_in (across orientation combine) sides = record { top = sides.top; right = sides.right; bottom = sides.bottom; left = sides.left }
widths_in down sides = record { top = sides.left; right = sides.top; bottom = sides.right; left = sides.bottom }
widths_in (right orientation combine) sides = record { top = sides.left; right = sides.top; bottom = sides.right; left = sides.bottom }
widths_in (left orientation combine) sides = record { top = sides.right; right = sides.bottom; bottom = sides.left; left = sides.top }

abbrev pub insets_in : Way → Insets → Insets
insets_in (across orientation combine) sides = record { top = sides.top; right = sides.right; bottom = sides.bottom; left = sides.left }
insets_in down sides = record { top = sides.left; right = sides.top; bottom = sides.right; left = sides.bottom }
insets_in (right orientation combine) sides = record { top = sides.left; right = sides.top; bottom = sides.right; left = sides.bottom }
insets_in (left orientation combine) sides = record { top = sides.right; right = sides.bottom; bottom = sides.left; left = sides.top }

-- a style of a horizontal flow, given in a way: its sizes and edges are those of the same sides of the flow
abbrev pub style_in : Way → Style → Style
style_in way style = record style {
  mode = mode_of way;
  orientation = orientation_of way;
  combine = combine_of way;
  width = size_across way style.width style.height;
  height = size_across way style.height style.width;
  min_width = size_across way style.min_width style.min_height;
  min_height = size_across way style.min_height style.min_width;
  max_width = size_across way style.max_width style.max_height;
  max_height = size_across way style.max_height style.max_width;
  margin = sides_in way style.margin;
  padding = sides_in way style.padding;
  border = widths_in way style.border;
  insets = insets_in way style.insets;
}

-- items of a paragraph, contents, boxes and nodes, with the styles in them given so
abbrev pub entry_in : Way → Entry → Entry
entry_in way (text node letters style) = text node letters (style_in way style)
entry_in way (begins node style edges) = begins node (style_in way style) edges
entry_in way (ends node edges) = ends node edges
entry_in way (atom name) = atom name
entry_in way (line_break node) = line_break node

abbrev pub entries_in : Way → List Entry → List Entry
entries_in way entries = map (entry_in way) entries

abbrev pub content_in : Way → Content → Content
content_in way blocks = blocks
content_in way (inline items) = inline (entries_in way items)

unfoldable pub boxes_in : Way → Boxes → Boxes
boxes_in way none = none
boxes_in way (box name style content inner next) = box name (style_in way style) (content_in way content) (boxes_in way inner) (boxes_in way next)

unfoldable pub nodes_in : Way → Nodes → Nodes
nodes_in way styled.none = styled.none
nodes_in way (styled.node number kind style inner next) = styled.node number kind (style_in way style) (nodes_in way inner) (nodes_in way next)
