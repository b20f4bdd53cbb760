-- Boxes in an arena that stand side by side, and what has been laid out of them.
use Rattle.std.specs.Prelude.{◌≡◌, ℕ, suc, ◌≤◌, ◌-◌, ◌^◌, List, [], ◌∷◌, Option, Some, IfSome, IsSome, option_copied, ℤ}
use Rattle.slab.specs.Slab.{Slab}
use Rattle.face_api.specs.declared.face.Face.{Ghosts}
use Rattle.face_api.specs.Faces.{faces_of}
use Rattle.face_api.specs.Table.{Table}
use Rattle.fragment_types.specs.declared.constraint.Constraint.{Constraint}
use Rattle.fragment_types.specs.declared.item.BoxName.{BoxName}
use Rattle.style_types.specs.declared.style.Style.{Style}
use Rattle.box_arena.specs.declared.entry.Entry.{Entry}
use Rattle.box_arena.specs.Arena.{LiveOn, SameLinks, SameNodes, SameRoom}
use Rattle.box_arena.specs.At.{Node, Slots, first_at, kept_at, links_at, node_at, node_of, text_at}
use Rattle.box_arena.specs.Boxes.{StandFrom}
use Rattle.box_arena.specs.Links.{IsLinked}
use Rattle.box_gen.specs.Tree.{Boxes, Content, box, none, count, height}
use Rattle.para_prepare.specs.Preparation.{Preparation}
use Rattle.relayout.specs.declared.flowed.LaidBox.{LaidBox}
use Rattle.relayout.specs.declared.inline.PageView.{PageView}
use Rattle.relayout.specs.declared.row.Page.{Page}
use Rattle.relayout.specs.declared.row.Row.{Row}
use Rattle.relayout.specs.declared.row.RowBox.{RowBox}
use Rattle.relayout.specs.declared.sizes.Containing.{Containing}
use Rattle.relayout.specs.declared.flow_box.FlowBox.{FlowBox}
use Rattle.relayout.specs.declared.sizing.Sizing.{Sizing}
use Rattle.relayout.specs.Fit.{AreFit, IsFit, reach_of, weight}
use Rattle.relayout.specs.Flow.{flow_step, members}
use Rattle.relayout.specs.Flowed.{part_of}
use Rattle.relayout.specs.Inline.{Outside}
use Rattle.relayout.specs.Kept.{AreRight, containing_at}
use Rattle.relayout.specs.Near.{HasReach}
use Rattle.relayout.specs.Paragraph.{IsReadyIn}
use Rattle.relayout.specs.Reach.{IsBounded}
use Rattle.relayout.specs.Sizes.{containing_of}
use Rattle.relayout.specs.Step.{under}

abbrev pub from_outside : List (Option Table) → PageView → Outside
from_outside faces view = record { faces = faces; view = view }

module _ {I : Type 0} {D : I → Type 0} (members : (x : I) → Ghosts (D x)) where
  -- what a page gives to its boxes
  abbrev pub outside_of : Page I D → Outside
  outside_of page = from_outside (faces_of members page.faces.now) page.view

-- the box of a row under a key
abbrev pub box_in : Row → (key : ℕ) → RowBox
box_in row key = record { key = key; containing = row.containing; c = row.c; depth = row.depth }

-- the children of a box from one on, where its content area has this inline size
abbrev pub row_in : RowBox → Sizing → (from : Option ℕ) → (size : Option ℤ) → Row
row_in own sizing from size = record { from = from; containing = sizing.own; c = under size sizing.handed; depth = own.depth - 1 }

-- from there on stands a tree that can be laid out, with so many boxes one inside the other at most
pub record HasRow (slots : Slots Preparation) (from : Option ℕ) (depth : ℕ) : Type 0 where
  pub tree : Boxes
  pub stand : StandFrom slots from tree
  pub low : height tree ≤ depth
  pub few : count tree ≤ 2 ^ 18
  pub light : weight tree ≤ 2 ^ 60 - 2 ^ 38
  pub fit : AreFit tree

-- the box under a key, where one is meant, stands in such a containing block
abbrev pub StandsIn : Slots Preparation → (key : Option ℕ) → Containing → Type 0
StandsIn slots key containing = IfSome key (λ k. (node : Node) → node_at slots k ≡ Some node → containing_at slots k node.style ≡ containing)

-- a box that can be laid out stands under its key, in such a containing block, with a tree of boxes inside it
pub record HasBox (slots : Slots Preparation) (own : RowBox) : Type 0 where
  pub node : Node
  pub inner : Boxes
  pub is : node_at slots own.key ≡ Some node
  pub within : StandFrom slots (first_at slots own.key) inner
  pub low : suc (height inner) ≤ own.depth
  pub few : count inner ≤ 2 ^ 18
  pub light : weight inner ≤ 2 ^ 60 - 2 ^ 38
  pub fit : IsFit node.style node.content inner
  pub fit_within : AreFit inner
  pub place : containing_at slots own.key node.style ≡ own.containing
  pub sizes : IsBounded own.c
  pub ready : IsReadyIn node.content (text_at slots own.key)

-- the code's value for that box
pub record IsBoxAt (slots : Slots Preparation) (own : RowBox) (code : FlowBox) : Type 0 where
  pub node : node_at slots own.key ≡ Some (node_of code.node.now)
  pub text : option_copied code.text ≡ text_at slots own.key
  pub containing : code.containing ≡ own.containing
  pub sizes : code.c ≡ own.c
  pub linked : IsLinked (links_at slots)

-- the same boxes stand as before, and what is kept is right; for what a result or a text was kept still one is
pub record IsSteady (outside : Outside) (old new : Slab (Entry Preparation)) : Type 0 where
  pub links : SameLinks old.slots new.slots
  pub nodes : SameNodes old.slots new.slots
  pub live : LiveOn old new
  pub room : SameRoom old new
  pub texts : (k : ℕ) → IsSome (text_at old.slots k) → IsSome (text_at new.slots k)
  pub kept : (k : ℕ) (c : Constraint) → IsSome (kept_at old.slots k c) → IsSome (kept_at new.slots k c)
  pub right : AreRight outside new.slots

-- a box is laid out under a constraint
pub record IsFlowed (outside : Outside) (containing : Containing) (c : Constraint) (own : LaidBox) (name : BoxName) (style : Style) (content : Content) (inner : Boxes) : Type 0 where
  pub same : own.style ≡ style
  pub part : part_of own.fragment ≡ (flow_step outside containing (record { name = name; style = style; content = content }) (members outside (containing_of style) inner) c).part
  pub reach : HasReach (reach_of content inner) own

-- the first of these boxes are laid out, and the others are left
abbrev pub Lead : Outside → Containing → Constraint → List LaidBox → (all left : Boxes) → Type 0
Lead outside containing c [] all left = all ≡ left
Lead outside containing c (own ∷ laid) none left = ⊥
Lead outside containing c (own ∷ laid) (box name style content inner next) left =
    IsFlowed outside containing c own name style content inner × Lead outside containing c laid next left

-- all boxes of each tree that stands from there on are laid out
abbrev pub AreFlowed : Outside → Slots Preparation → (from : Option ℕ) → Containing → Constraint → List LaidBox → Type 0
AreFlowed outside slots from containing c laid = (tree : Boxes) → StandFrom slots from tree → Lead outside containing c laid tree none

-- a box is laid out, whatever tree stands inside it
abbrev pub IsFlowedAt : Outside → Slots Preparation → RowBox → LaidBox → Type 0
IsFlowedAt outside slots own laid =
    (name : BoxName) (style : Style) (content : Content) (inner : Boxes) → node_at slots own.key ≡ Some (record { name = name; style = style; content = content })
    → StandFrom slots (first_at slots own.key) inner → IsFlowed outside own.containing own.c laid name style content inner
