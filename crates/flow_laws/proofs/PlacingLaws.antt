-- Boxes as they come, and as their parent puts them.
use Rattle.std.proofs.Common.{◌≡◌, ◌∙◌, refl, ap, Bool, true, false, List, [], ◌∷◌, map, ℤ, pos}
use Rattle.wm_modes.specs.declared.rects.FlowRect.{FlowRect}
use Rattle.fragment_types.specs.declared.constraint.Constraint.{Constraint}
use Rattle.fragment_types.specs.declared.item.BoxName.{BoxName}
use Rattle.style_types.specs.declared.style.Style.{Style}
use Rattle.block_flow.specs.Stacking.{Progress, after, begin, places_from}
use Rattle.block_flow.specs.Adjoining.{edges}
use Rattle.box_arena.specs.At.{Node}
use Rattle.box_gen.specs.Tree.{blocks, box, none as no_boxes}
use Rattle.line_fill.specs.declared.item.Intrinsic.{Intrinsic}
use Rattle.relayout.specs.Boxed.{block_box, block_size, border_across, border_along, border_box, boxed, handed_on, measured, turned}
use Rattle.relayout.specs.Content.{Filled, child_of, filled, set_down, stack}
use Rattle.relayout.specs.Flow.{answered, asked, flow_step, laid_out, laid_under, members}
use Rattle.relayout.specs.Flowed.{Flowed, Laid, Member, Part}
use Rattle.relayout.specs.Inline.{Outside, inline_size}
use Rattle.relayout.specs.Sizes.{containing_of, is_parallel}
use Rattle.relayout.specs.Step.{is_measured}
use Rattle.flow_laws.specs.Placing.{BoxesAreMovedAlone, ComeAtZero, at_origin, at_zero, come_to, given, wherever}

-- ---- at 0

origin : (parallel : Bool) (along across : ℤ) → at_origin (turned parallel (pos 0) (pos 0) along across) ≡ turned parallel (pos 0) (pos 0) along across
origin true along across = refl
origin false along across = refl

part_at : (part : Part) → at_origin part.rect ≡ part.rect → at_zero part ≡ part
part_at part is =
    let P : FlowRect → Part = λ r. record { name = part.name; rect = r; kind = part.kind; inner = part.inner } in
    ap P is

boxed_zero : (parent : Style) (node : Node) (c : Constraint) (size : ℤ) (content : Filled) → at_zero (boxed (containing_of parent) node c size content).part ≡ (boxed (containing_of parent) node c size content).part
unfolding boxed border_box
boxed_zero parent node c size content =
    part_at (boxed (containing_of parent) node c size content).part
    (origin (is_parallel (containing_of parent) node.style) (border_along node.style c size) (border_across node.style c (block_size (containing_of parent) node.style c content.extent)))

measured_zero : (parent : Style) (node : Node) (asks : Intrinsic) → at_zero (measured (containing_of parent) node asks).part ≡ (measured (containing_of parent) node asks).part
unfolding measured
measured_zero parent node asks = refl

pub step_zero : (outside : Outside) (parent : Style) (node : Node) (ms : List Member) (c : Constraint) → at_zero (flow_step outside (containing_of parent) node ms c).part ≡ (flow_step outside (containing_of parent) node ms c).part
unfolding flow_step laid_out
step_zero outside parent node ms c = by (is_measured (containing_of parent) node.style c) where
  by : (measures : Bool) → at_zero (answered measures outside (containing_of parent) node c ms).part ≡ (answered measures outside (containing_of parent) node c ms).part
  by true = measured_zero parent node (asked outside (containing_of parent) node c ms)
  by false = boxed_zero parent node c _ _

pub cons_is : (p q : Part) (ps qs : List Part) → p ≡ q → ps ≡ qs → p ∷ ps ≡ q ∷ qs
cons_is p q ps qs e f = rw (e, f) refl

pub come_at_zero : ComeAtZero
come_at_zero outside parent no_boxes c = refl
come_at_zero outside parent (box name style content inner next) c =
    cons_is _ _ _ _ (step_zero outside parent (record { name = name; style = style; content = content }) (members outside (containing_of style) inner) c)
    (come_at_zero outside parent next c)

-- ---- set down

abbrev pub own_part : Laid → Part
own_part laid = laid.flowed.part

set_down_wherever : (own : Style) (size : ℤ) (laid : List Laid) (s : Progress) → wherever (set_down (containing_of own) size laid (places_from s (map child_of laid))) ≡ map at_zero (map own_part laid)
set_down_wherever own size [] s = refl
set_down_wherever own size (l ∷ ls) s = cons_is _ _ _ _ refl (set_down_wherever own size ls (after s (child_of l)))

pub parts_under : (c : Constraint) (ms : List Member) → map own_part (map (laid_under c) ms) ≡ come_to c ms
parts_under c [] = refl
parts_under c (m ∷ ms) = cons_is _ _ _ _ refl (parts_under c ms)

-- a box that isn't measured alone is laid out
pub step_laid : (outside : Outside) (parent : Style) (node : Node) (ms : List Member) (c : Constraint) → is_measured (containing_of parent) node.style c ≡ false
    → flow_step outside (containing_of parent) node ms c ≡ laid_out outside (containing_of parent) node c ms
unfolding flow_step
step_laid outside parent node ms c is = ap (λ (measures : Bool). answered measures outside (containing_of parent) node c ms) is

laid_parts : (outside : Outside) (parent : Style) (name : BoxName) (style : Style) (c : Constraint) (ms : List Member)
    → let node : Node = record { name = name; style = style; content = blocks } in
    wherever (laid_out outside (containing_of parent) node c ms).part.inner ≡ map at_zero (come_to (given outside parent node c ms) ms)
unfolding laid_out boxed filled stack
laid_parts outside parent name style c ms =
    let node : Node = record { name = name; style = style; content = blocks } in
    let under = given outside parent node c ms in
    set_down_wherever style (inline_size outside (containing_of parent) style blocks c (handed_on (containing_of parent) node c) ms) (map (laid_under under) ms)
    (begin (edges (block_box (containing_of parent) style c false)).start_joins)
    ∙ ap (map at_zero) (parts_under under ms)

pub boxes_are_moved_alone : BoxesAreMovedAlone
boxes_are_moved_alone outside parent name style inner c is =
    let node : Node = record { name = name; style = style; content = blocks } in
    let inside = members outside (containing_of style) inner in
    ap (λ (f : Part). wherever f.inner) (ap (λ (f : Flowed). f.part) (step_laid outside parent node inside c is))
    ∙ laid_parts outside parent name style c inside
    ∙ come_at_zero outside style inner (given outside parent node c inside)
