-- The text of a node, set to other letters in the boxes that a styled tree makes.
use Rattle.std.specs.Prelude.{ℕ, Bool, false, nat_eq, if◌then◌else◌, List, map}
use Rattle.std.specs.List.{list_any}
use Rattle.fragment_types.specs.Item as item
use Rattle.fragment_types.specs.Item.{Entry}
use Rattle.box_gen.specs.Tree.{Boxes, Content, blocks, box, inline, none}
use Rattle.box_arena.specs.At.{Node}

abbrev pub entry_with : (number : ℕ) → (letters : List ℕ) → Entry → Entry
entry_with number letters (item.text node was style) = item.text node (if nat_eq node number then letters else was) style
entry_with number letters (item.begins node style edges) = item.begins node style edges
entry_with number letters (item.ends node edges) = item.ends node edges
entry_with number letters (item.atom name) = item.atom name
entry_with number letters (item.line_break node) = item.line_break node

-- the content in which the text of this node has these letters
abbrev pub content_with : (number : ℕ) → (letters : List ℕ) → Content → Content
content_with number letters blocks = blocks
content_with number letters (inline items) = inline (map (entry_with number letters) items)

-- the boxes in which it has them
abbrev pub boxes_with : (number : ℕ) → (letters : List ℕ) → Boxes → Boxes
boxes_with number letters none = none
boxes_with number letters (box name style content inner next) =
    box name style (content_with number letters content) (boxes_with number letters inner) (boxes_with number letters next)

-- the box of an arena in which it has them
abbrev pub node_with : (number : ℕ) → (letters : List ℕ) → Node → Node
node_with number letters node = record node { content = content_with number letters node.content }

abbrev pub is_text_of : (number : ℕ) → Entry → Bool
is_text_of number (item.text node letters style) = nat_eq node number
is_text_of number (item.begins node style edges) = false
is_text_of number (item.ends node edges) = false
is_text_of number (item.atom name) = false
is_text_of number (item.line_break node) = false

-- a content holds a text of this node
abbrev pub has_text : (number : ℕ) → Content → Bool
has_text number blocks = false
has_text number (inline items) = list_any (is_text_of number) items
