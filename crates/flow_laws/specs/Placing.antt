-- What a box does with what the boxes in it come to: it puts each somewhere, and changes nothing else. CSS 2, 9.4.1; CSS Writing Modes 4, 7.
use Rattle.std.specs.Prelude.{◌≡◌, ⊤, ◌⊎◌, false, List, [], ◌∷◌, map, Some, pos}
use Rattle.wm_modes.specs.declared.rects.FlowRect.{FlowRect}
use Rattle.fragment_types.specs.declared.constraint.Constraint.{Constraint}
use Rattle.fragment_types.specs.declared.item.BoxName.{BoxName}
use Rattle.style_types.specs.declared.style.Style.{Style}
use Rattle.fragment_types.specs.Fragment.{block, line, measure, run, span, Pieces, none, piece}
use Rattle.fragment_types.specs.Item.{Entry}
use Rattle.box_arena.specs.At.{Node}
use Rattle.box_gen.specs.Tree.{Boxes, blocks, inline}
use Rattle.relayout.specs.Boxed.{handed_on}
use Rattle.relayout.specs.Flow.{flow_step, members}
use Rattle.relayout.specs.Flowed.{Member, Part}
use Rattle.relayout.specs.Inline.{Outside, inline_size}
use Rattle.relayout.specs.Sizes.{containing_of}
use Rattle.relayout.specs.Step.{is_measured}

-- a border box of the same sizes at 0
abbrev pub at_origin : FlowRect → FlowRect
at_origin rect = record { i = pos 0; b = pos 0; inline = rect.inline; block = rect.block }

-- a fragment with its border box at 0
abbrev pub at_zero : Part → Part
at_zero part = record { name = part.name; rect = at_origin part.rect; kind = part.kind; inner = part.inner }

-- fragments side by side, wherever they stand
abbrev pub wherever : Pieces → List Part
wherever none = []
wherever (piece name rect kind inner next) = at_zero (record { name = name; rect = rect; kind = kind; inner = inner }) ∷ wherever next

-- what boxes come to under one constraint
abbrev pub come_to : Constraint → List Member → List Part
come_to c members = map (λ member. (member.flow c).part) members

-- the one constraint that a box gives those in it: its inline size, and the block size that percentages refer to
abbrev pub given : Outside → (parent : Style) → Node → Constraint → List Member → Constraint
given outside parent node c members =
    let handed = handed_on (containing_of parent) node c in
    record { inline = Some (inline_size outside (containing_of parent) node.style node.content c handed members); block = handed }

-- what boxes come to stands at 0, until their containing block puts it somewhere
abbrev pub ComeAtZero : Type 0
ComeAtZero = (outside : Outside) (parent : Style) (boxes : Boxes) (c : Constraint)
    → map at_zero (come_to c (members outside (containing_of parent) boxes)) ≡ come_to c (members outside (containing_of parent) boxes)

-- the fragments in a box that holds block-level boxes are, wherever they stand, what these come to under the constraint that it gives them.
-- A box that is measured alone holds none.
abbrev pub BoxesAreMovedAlone : Type 0
BoxesAreMovedAlone = (outside : Outside) (parent : Style) (name : BoxName) (style : Style) (inner : Boxes) (c : Constraint) → is_measured (containing_of parent) style c ≡ false
    → let node : Node = record { name = name; style = style; content = blocks } in
    let inside = members outside (containing_of style) inner in
    wherever (flow_step outside (containing_of parent) node inside c).part.inner ≡ come_to (given outside parent node c inside) inside

-- it is one of these
abbrev pub IsOneOf : List Part → Part → Type 0
IsOneOf [] part = ⊥
IsOneOf (own ∷ others) part = (part ≡ own) ⊎ IsOneOf others part

-- each box among these fragments, and in the lines, inline boxes and texts among them, is one of those, wherever it stands
abbrev pub AreBoxesOf : List Part → Pieces → Type 0
AreBoxesOf parts none = ⊤
AreBoxesOf parts (piece name rect (block mode dir content definite start end_ through) inner next) =
    IsOneOf parts (at_zero (record { name = name; rect = rect; kind = block mode dir content definite start end_ through; inner = inner })) × AreBoxesOf parts next
AreBoxesOf parts (piece name rect (line index base mode baseline) inner next) = AreBoxesOf parts inner × AreBoxesOf parts next
AreBoxesOf parts (piece name rect span inner next) = AreBoxesOf parts inner × AreBoxesOf parts next
AreBoxesOf parts (piece name rect (run form level natural units) inner next) = AreBoxesOf parts inner × AreBoxesOf parts next
AreBoxesOf parts (piece name rect (measure min max) inner next) = ⊥

-- the inline-blocks on the lines of a box that holds a paragraph are, wherever they stand, among what its boxes come to under the constraint
-- that it gives them
abbrev pub InlineBlocksAreMovedAlone : Type 0
InlineBlocksAreMovedAlone = (outside : Outside) (parent : Style) (name : BoxName) (style : Style) (entries : List Entry) (inner : Boxes) (c : Constraint) → is_measured (containing_of parent) style c ≡ false
    → let node : Node = record { name = name; style = style; content = inline entries } in
    let inside = members outside (containing_of style) inner in
    AreBoxesOf (come_to (given outside parent node c inside) inside) (flow_step outside (containing_of parent) node inside c).part.inner
