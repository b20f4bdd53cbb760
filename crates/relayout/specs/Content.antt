-- The content of a box: block-level children one under the other, or the lines of a paragraph. CSS 2, 8.3.1, 9.4.1 and 9.4.2.
use Rattle.std.specs.Prelude.{◌≡◌, ⊤, Bool, true, false, List, [], ◌∷◌, map, Option, ℤ, pos, ◌+ℤ◌}
use Rattle.std.specs.List.{list_all}
use Rattle.face_api.specs.Table.{Table}
use Rattle.fragment_types.specs.declared.item.BoxName.{BoxName}
use Rattle.style_types.specs.declared.style.Style.{Style}
use Rattle.fragment_types.specs.Fragment.{Kind, block, line, measure, run, span, Pieces, none, piece, pieces_of}
use Rattle.fragment_types.specs.Item.{Entry}
use Rattle.margin_collapse.specs.Pairs.{IsPairOf}
use Rattle.block_flow.specs.declared.boxes.ChildBox.{ChildBox}
use Rattle.block_flow.specs.declared.boxes.ParentEdges.{ParentEdges}
use Rattle.block_flow.specs.Children.{Child}
use Rattle.block_flow.specs.Stacking.{extent, handed, places_of, stacked}
use Rattle.box_gen.specs.Tree.{Content, blocks, inline}
use Rattle.para_lines.specs.declared.paragraph.Container.{Container}
use Rattle.para_lines.specs.Lines.{paragraph_lines}
use Rattle.para_prepare.specs.Preparation.{Preparation}
use Rattle.relayout.specs.declared.sizes.Containing.{Containing}
use Rattle.relayout.specs.declared.content.Filling as code
use Rattle.relayout.specs.declared.flowed.LaidBox.{LaidBox}
use Rattle.relayout.specs.Atoms.{atom_in}
use Rattle.relayout.specs.Flowed.{Laid, at, pair_of, part_of}
use Rattle.relayout.specs.Inline.{inline_place}
use Rattle.relayout.specs.Intrinsic.{prepared}
use Rattle.relayout.specs.Sizes.{containing_of}

-- what stands in a box; its block extent; the margins of children that adjoin the box's start and its end; whether there are lines; whether
-- all children collapse through
pub record Filled : Type 0 where
  pub parts : Pieces
  pub extent : ℤ
  pub starts : List ℤ
  pub ends : List ℤ
  pub lines : Bool
  pub through : Bool

abbrev pub child_of : Laid → Child
child_of laid = record {
  size = laid.flowed.part.rect.block;
  start_margins = laid.flowed.starts;
  end_margins = laid.flowed.ends;
  through = laid.flowed.through;
}

-- a child at this place on the block axis, before others
abbrev pub put : Containing → (size : ℤ) → Laid → (place : ℤ) → (next : Pieces) → Pieces
put own size laid place next = at (inline_place own size laid.style laid.flowed.part.rect.inline) place laid.flowed.part next

-- children at these places
abbrev pub set_down : Containing → (size : ℤ) → List Laid → (places : List ℤ) → Pieces
set_down own size (laid ∷ others) (place ∷ places) = put own size laid place (set_down own size others places)
set_down own size _ _ = none

unfoldable pub stack : Containing → ParentEdges → (size : ℤ) → List Laid → Filled
stack own joins size laid =
    let children = map child_of laid in
    let end_ = stacked joins.start_joins children in
    record {
      parts = set_down own size laid (places_of joins.start_joins children);
      extent = extent joins.end_joins end_;
      starts = end_.start_margins;
      ends = handed joins.end_joins end_;
      lines = false;
      through = list_all (λ child. child.through) children;
    }

abbrev pub block_extent : Pieces → ℤ
block_extent none = pos 0
block_extent (piece name rect kind inner next) = rect.block +ℤ block_extent next

abbrev pub are_some : Pieces → Bool
are_some none = false
are_some (piece name rect kind inner next) = true

-- the lines of a paragraph whose text is prepared so
abbrev pub lines_in : List (Option Table) → Container → List Entry → Preparation → List Laid → Filled
lines_in faces container entries text laid =
    let lines = paragraph_lines faces container entries text (map (atom_in container.style container.size) laid) in
    record { parts = lines; extent = block_extent lines; starts = []; ends = []; lines = are_some lines; through = true }

unfoldable pub paragraph : List (Option Table) → BoxName → Style → (size : ℤ) → List Entry → List Laid → Filled
paragraph faces name style size entries laid =
    lines_in faces (record { name = name; style = style; size = size }) entries (prepared faces style entries) laid

unfoldable pub filled : List (Option Table) → BoxName → Style → ParentEdges → (size : ℤ) → Content → List Laid → Filled
filled faces name style joins size blocks laid = stack (containing_of style) joins size laid
filled faces name style joins size (inline entries) laid = paragraph faces name style size entries laid

-- ---- the code's values

-- what has been filled is such a content
pub record IsFilled (own : code.Filling) (content : Filled) : Type 0 where
  pub parts : pieces_of own.parts.items ≡ content.parts
  pub extent : own.extent ≡ content.extent
  pub start : IsPairOf own.start content.starts
  pub end_ : IsPairOf own.end content.ends
  pub lines : own.lines ≡ content.lines
  pub through : own.through ≡ content.through

-- fragments that stand each where the one before it ends, the first of them there
abbrev pub AreStacked : (from : ℤ) → Pieces → Type 0
AreStacked from none = ⊤
AreStacked from (piece name rect kind inner next) = (rect.b ≡ from) × AreStacked (from +ℤ rect.block) next

-- a child as its container stacks it
abbrev pub child_in : (size : ℤ) → Kind → ChildBox
child_in size (block mode dir content definite start end_ through) = record { size = size; start = start; end = end_; through = through }
child_in size (line index base mode baseline) = record { size = size; start = pair_of []; end = pair_of []; through = false }
child_in size span = record { size = size; start = pair_of []; end = pair_of []; through = false }
child_in size (run form level natural units) = record { size = size; start = pair_of []; end = pair_of []; through = false }
child_in size (measure min max) = record { size = size; start = pair_of []; end = pair_of []; through = false }

abbrev pub child_box : LaidBox → ChildBox
child_box laid = child_in (part_of laid.fragment).rect.block (part_of laid.fragment).kind
