-- The boxes that a styled tree makes. CSS 2, 9.2.1 and 9.2.2.
use Rattle.std.specs.Prelude.{ℕ, suc, Bool, true, false, ◌||◌, ◌&&◌, eqb, List, [], ◌∷◌, ◌++◌}
use Rattle.fragment_types.specs.declared.item.BoxName.{BoxName}
use Rattle.style_types.specs.declared.style.Display.{Display}
use Rattle.style_types.specs.declared.style.Display.TheVariants.{Block, Inline, InlineBlock, FlowRoot, Hidden}
use Rattle.style_types.specs.declared.style.Style.{Style}
use Rattle.style_types.specs.Initial.{initial}
use Rattle.fragment_types.specs.Item as item
use Rattle.fragment_types.specs.Item.{Entry}
use Rattle.style_types.specs.Tree as styled
use Rattle.style_types.specs.Tree.{Nodes, NodeKind}
use Rattle.box_gen.specs.declared.opened.Opened.{Opened}
use Rattle.box_gen.specs.Parts as part
use Rattle.box_gen.specs.Parts.{Part, around}
use Rattle.box_gen.specs.Tree.{blocks, inline, Boxes, none, box}

-- ---- what a node is to its container

pub data Role : Type 0 where
  nothing : Role
  words : (letters : List ℕ) → Role
  line_break : Role
  inline_box : Role
  atom : Role
  block_level : Role

abbrev pub role_by : Display → (shown : Role) → Role
role_by Hidden shown = nothing
role_by Block shown = shown
role_by Inline shown = shown
role_by InlineBlock shown = shown
role_by FlowRoot shown = shown

abbrev pub element_role : Display → Role
element_role Block = block_level
element_role Inline = inline_box
element_role InlineBlock = atom
element_role FlowRoot = block_level
element_role Hidden = nothing

-- a hidden element or `br` is nothing; a text always shows
abbrev pub role_of : NodeKind → Style → Role
role_of styled.element style = element_role style.display
role_of styled.line_break style = role_by style.display line_break
role_of (styled.text letters) style = words letters

-- ---- inline content

-- inline content that stands together: its items, the boxes of its atoms, and whether it is white space alone
pub record Run : Type 0 where
  pub items : List Entry
  pub atoms : Boxes
  pub blank : Bool

abbrev pub no_run : Run
no_run = record { items = []; atoms = none; blank = true }

unfoldable pub join : Boxes → Boxes → Boxes
join none others = others
join (box name style content inner next) others = box name style content inner (join next others)

-- content before a run
abbrev pub before_run : (items : List Entry) → (atoms : Boxes) → (blank : Bool) → Run → Run
before_run items atoms blank run = record { items = items ++ run.items; atoms = join atoms run.atoms; blank = blank && run.blank }

-- tab, line feed, form feed, carriage return and space (CSS 2, 16.6.1)
abbrev pub is_space : ℕ → Bool
is_space byte = eqb byte 9 || (eqb byte 10 || (eqb byte 12 || (eqb byte 13 || eqb byte 32)))

unfoldable pub is_blank : List ℕ → Bool
is_blank [] = true
is_blank (byte ∷ letters) = is_space byte && is_blank letters

-- ---- a container's content: a run, and then block-level boxes, each with the run behind it

pub data Blocks : Type 0 where
  no_more : Blocks
  then : (block : Boxes) (run : Run) (others : Blocks) → Blocks

pub record Held : Type 0 where
  pub first : Run
  pub others : Blocks

abbrev pub own_name : ℕ → BoxName
own_name number = record { node = number; ordinal = 0 }

-- an anonymous block inherits what is inherited, takes the `unicode-bidi` of its container, and is initial else
abbrev pub anonymous : Style → Style
anonymous container = record initial {
  display = Block;
  mode = container.mode;
  direction = container.direction;
  orientation = container.orientation;
  combine = container.combine;
  bidi = container.bidi;
  font_size = container.font_size;
  face = container.face;
  line_height = container.line_height;
  align = container.align;
}

-- a run between blocks makes an anonymous block, the next in order, but where it is white space alone
abbrev pub wrapped : (blank : Bool) → (number ordinal : ℕ) → Style → Run → (others : ℕ → Boxes) → Boxes
wrapped true number ordinal container run others = others ordinal
wrapped false number ordinal container run others =
    box (record { node = number; ordinal = suc ordinal }) (anonymous container) (inline run.items) run.atoms (others (suc ordinal))

-- the block-level boxes and the anonymous blocks between them; the ordinal is that of the last anonymous block before
unfoldable pub stacked : (number : ℕ) → Style → Blocks → (ordinal : ℕ) → Boxes
stacked number container no_more ordinal = none
stacked number container (then block run others) ordinal = join block (wrapped run.blank number ordinal container run (stacked number container others))

-- a container whose content is all inline holds a paragraph, another one blocks
abbrev pub container : (number : ℕ) → Style → (first : Run) → Blocks → Boxes
container number style first no_more = box (own_name number) style (inline first.items) first.atoms none
container number style first (then block run others) =
    box (own_name number) style blocks (wrapped first.blank number 0 style first (stacked number style (then block run others))) none

-- ---- the content cut at its block-level boxes

-- the innermost of some open inline boxes is the first; from it outwards they end, each without its inline-end edges
unfoldable pub closed : List Opened → List Entry
closed [] = []
closed (innermost ∷ opened) = item.ends innermost.node false ∷ closed opened

-- and from the outermost inwards they begin, each without its inline-start edges
unfoldable pub opened_again : List Opened → List Entry
opened_again [] = []
opened_again (innermost ∷ opened) = opened_again opened ++ (item.begins innermost.node innermost.style false ∷ [])

abbrev pub without_innermost : List Opened → List Opened
without_innermost [] = []
without_innermost (innermost ∷ opened) = opened

-- inline content before what follows it
abbrev pub in_front : (items : List Entry) → (atoms : Boxes) → (blank : Bool) → Held → Held
in_front items atoms blank held = record { first = before_run items atoms blank held.first; others = held.others }

-- where these inline boxes are open, what is left of the content. Each of them ends before a block-level box and begins again behind
-- it; only where it starts and stops itself it has its edges. One that is cut counts as white space, and one that isn't as an element.
unfoldable pub runs : (opened : List Opened) → List Part → Held
runs opened [] = record { first = no_run; others = no_more }
runs opened (part.words number letters style ∷ parts) = in_front (item.text number letters style ∷ []) none (is_blank letters) (runs opened parts)
runs opened (part.line_break number ∷ parts) = in_front (item.line_break number ∷ []) none false (runs opened parts)
runs opened (part.atom number own ∷ parts) = in_front (item.atom (own_name number) ∷ []) own false (runs opened parts)
runs opened (part.starts number style ∷ parts) =
    in_front (item.begins number style true ∷ []) none true (runs ((record { node = number; style = style }) ∷ opened) parts)
runs opened (part.stops number is_cut ∷ parts) = in_front (item.ends number true ∷ []) none is_cut (runs (without_innermost opened) parts)
runs opened (part.block_level own ∷ parts) =
    let behind = in_front (opened_again opened) none true (runs opened parts) in
    record { first = before_run (closed opened) none true no_run; others = then own behind.first behind.others }

-- ---- the boxes of a tree

-- the box of a block container with this content
abbrev pub made : (number : ℕ) → Style → List Part → Boxes
made number style parts = container number style (runs [] parts).first (runs [] parts).others

-- what a node is in its container, by its role and its own content
abbrev pub parts_by : Role → (number : ℕ) → Style → (inner : List Part) → List Part
parts_by nothing number style inner = []
parts_by (words letters) number style inner = part.words number letters style ∷ []
parts_by line_break number style inner = part.line_break number ∷ []
parts_by inline_box number style inner = around number style inner
parts_by atom number style inner = part.atom number (made number style inner) ∷ []
parts_by block_level number style inner = part.block_level (made number style inner) ∷ []

-- the content of these nodes
unfoldable pub content : Nodes → List Part
content styled.none = []
content (styled.node number kind style inner next) = parts_by (role_of kind style) number style (content inner) ++ content next

-- the box of the root, whatever its display
abbrev pub root_boxes : Nodes → Boxes
root_boxes styled.none = none
root_boxes (styled.node number kind style inner next) = made number style (content inner)
