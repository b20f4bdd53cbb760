-- Box trees, without where they lie in memory.
use Rattle.std.specs.Prelude.{ℕ, suc, ◌+◌, max, List, [], ◌∷◌, map}
use Rattle.fragment_types.specs.declared.item.BoxName.{BoxName}
use Rattle.style_types.specs.declared.style.Style.{Style}
use Rattle.fragment_types.specs.Item.{Entry, entries_of}
use Rattle.box_gen.specs.declared.tree.Content as code_content
use Rattle.box_gen.specs.declared.tree.Content.TheVariants as code_contents
use Rattle.box_gen.specs.declared.tree.BoxTree.{BoxTree, fold-BoxTree}
use Rattle.box_gen.specs.declared.tree.BoxTree.TheOpen.{BoxTree-F}

-- what a block container holds: block-level boxes, or a paragraph of these items
pub data Content : Type 0 where
  blocks : Content
  inline : (items : List Entry) → Content

-- boxes that stand one after the other, each with those inside it
pub data Boxes : Type 0 where
  none : Boxes
  box : (name : BoxName) (style : Style) (content : Content) (inner next : Boxes) → Boxes

abbrev pub content_of : code_content.Content → Content
content_of code_contents.Blocks = blocks
content_of (code_contents.Inline items) = inline (entries_of items.items)

-- one after the other, each put before those that follow it
abbrev pub in_line : List (Boxes → Boxes) → Boxes
in_line [] = none
in_line (before ∷ others) = before (in_line others)

abbrev pub box_step : BoxTree-F (Boxes → Boxes) → Boxes → Boxes
box_step b next = box b.node.name b.node.style (content_of b.node.content) (in_line b.children.items) next

-- a box before others
abbrev pub before : BoxTree → Boxes → Boxes
before = fold-BoxTree (Boxes → Boxes) box_step

-- the tree of a box
abbrev pub boxes_of : BoxTree → Boxes
boxes_of root = before root none

-- the trees of boxes that stand one after the other
abbrev pub all_boxes_of : List BoxTree → Boxes
all_boxes_of roots = in_line (map before roots)

-- ---- sizes of trees

-- how many boxes there are, with all inside them
abbrev pub count : Boxes → ℕ
count none = 0
count (box name style content inner next) = suc (count inner + count next)

-- how many stand side by side
abbrev pub siblings : Boxes → ℕ
siblings none = 0
siblings (box name style content inner next) = suc (siblings next)

-- how many stand one inside the other, at most
abbrev pub height : Boxes → ℕ
height none = 0
height (box name style content inner next) = max (suc (height inner)) (height next)
