-- Where the boxes of a tree stand, the names that tell them apart, and which of them hold a paragraph.
use Rattle.std.specs.Prelude.{◌≡◌, ◌⊎◌, ℕ, Bool, ◌&&◌, nat_eq, Option, Some, None, List, [], ◌∷◌, ◌++◌, ⊤}
use Rattle.std.specs.List.{Contains, IsDistinct}
use Rattle.fragment_types.specs.declared.item.BoxName.{BoxName}
use Rattle.fragment_types.specs.Item.{Entry}
use Rattle.style_types.specs.declared.style.Style.{Style}
use Rattle.style_types.specs.Tree as styled
use Rattle.style_types.specs.Tree.{Nodes}
use Rattle.box_gen.specs.Boxes.{root_boxes}
use Rattle.box_gen.specs.Tree.{Boxes, Content, none, box, blocks, inline}

-- ---- places

-- a box where it stands: the style of the box around it, none for that of the root, what it is, and the boxes inside it
pub record Place : Type 0 where
  pub around : Option Style
  pub name : BoxName
  pub style : Style
  pub content : Content
  pub inner : Boxes

-- it is one of these boxes, which stand in a box of that style, or stands inside one of them
abbrev pub IsAmong : (around : Option Style) → Boxes → Place → Type 0
IsAmong around none place = ⊥
IsAmong around (box name style content inner next) place =
    (place ≡ record { around = around; name = name; style = style; content = content; inner = inner }) ⊎ (IsAmong (Some style) inner place ⊎ IsAmong around next place)

-- it stands in this tree of boxes, which stands in no other
abbrev pub IsPlaceOf : Boxes → Place → Type 0
IsPlaceOf page place = IsAmong None page place

-- the box with those inside it
abbrev pub tree_of : Place → Boxes
tree_of place = box place.name place.style place.content place.inner none

-- ---- what is around a box

-- the lines of both run alike
pub record RunAlike (one other : Style) : Type 0 where
  pub mode : one.mode ≡ other.mode
  pub direction : one.direction ≡ other.direction
  pub orientation : one.orientation ≡ other.orientation

-- neither box stands in another one, or both in boxes whose lines run alike
abbrev pub AreAlike : (one other : Option Style) → Type 0
AreAlike None None = ⊤
AreAlike None (Some other) = ⊥
AreAlike (Some one) None = ⊥
AreAlike (Some one) (Some other) = RunAlike one other

-- ---- names

-- the names of boxes, in tree order
abbrev pub names : Boxes → List BoxName
names none = []
names (box name style content inner next) = name ∷ (names inner ++ names next)

abbrev pub same_name : (one other : BoxName) → Bool
same_name one other = nat_eq one.node other.node && nat_eq one.ordinal other.ordinal

-- no two boxes have one name
abbrev pub AreNamedOnce : Boxes → Type 0
AreNamedOnce boxes = IsDistinct same_name (names boxes)

-- ---- paragraphs

abbrev pub with_paragraph : BoxName → Content → List BoxName → List BoxName
with_paragraph name blocks others = others
with_paragraph name (inline items) others = name ∷ others

-- the boxes that hold a paragraph, in tree order
abbrev pub paragraphs : Boxes → List BoxName
paragraphs none = []
paragraphs (box name style content inner next) = with_paragraph name content (paragraphs inner ++ paragraphs next)

-- ---- laws

-- the numbers of nodes, in tree order
abbrev pub numbers : Nodes → List ℕ
numbers styled.none = []
numbers (styled.node number kind style inner next) = number ∷ (numbers inner ++ numbers next)

-- where no two nodes have one number, no two boxes have one name
abbrev pub BoxesAreNamedOnce : Type 0
BoxesAreNamedOnce = (nodes : Nodes) → IsDistinct nat_eq (numbers nodes) → AreNamedOnce (root_boxes nodes)

-- a name is that of a box where it stands, and that of a box that holds a paragraph is among those of paragraphs
pub record NamesAreOfPlaces : Type 0 where
  pub place : (page : Boxes) (name : BoxName) → Contains (names page) name → (place : Place) × IsPlaceOf page place × (place.name ≡ name)
  pub name : (page : Boxes) (place : Place) → IsPlaceOf page place → Contains (names page) place.name
  pub holds : (page : Boxes) (name : BoxName) → Contains (paragraphs page) name
      → (place : Place) × (items : List Entry) × IsPlaceOf page place × (place.name ≡ name) × (place.content ≡ inline items)
  pub paragraph : (page : Boxes) (place : Place) (items : List Entry) → IsPlaceOf page place → place.content ≡ inline items → Contains (paragraphs page) place.name
