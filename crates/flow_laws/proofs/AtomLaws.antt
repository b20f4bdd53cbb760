-- Inline-blocks are moved alone on their way into lines.
use Rattle.std.proofs.Common.{◌≡◌, ◌∙◌, refl, sym, ap, subst, arith, Bool, inl, inr, List, [], ◌∷◌, map, Option, ℤ, pos}
use Rattle.std.specs.Prelude.{All}
use Rattle.std.proofs.lemmas.List.Elements.{All-tail}
use Rattle.face_api.specs.Table.{Table}
use Rattle.wm_modes.specs.declared.rects.FlowRect.{FlowRect}
use Rattle.fragment_types.specs.declared.constraint.Constraint.{Constraint}
use Rattle.fragment_types.specs.declared.item.BoxName.{BoxName}
use Rattle.style_types.specs.declared.style.Style.{Style}
use Rattle.fragment_types.specs.Fragment.{Kind, block as block_kind, line as line_kind, measure as measure_kind, run as run_kind, span as span_kind, Pieces, none, piece}
use Rattle.fragment_types.specs.Item.{Entry}
use Rattle.box_arena.specs.At.{Node}
use Rattle.box_gen.specs.Tree.{inline}
use Rattle.line_place.specs.Placing.{atom_at}
use Rattle.para_lines.specs.declared.paragraph.Container.{Container}
use Rattle.relayout.specs.Atoms.{atom_in}
use Rattle.relayout.specs.Boxed.{boxed, handed_on}
use Rattle.relayout.specs.Content.{filled, paragraph}
use Rattle.relayout.specs.Flow.{laid_out, laid_under, members}
use Rattle.relayout.specs.Flowed.{Flowed, HasMargins, Laid, Member, Part, at}
use Rattle.relayout.specs.Inline.{Outside, inline_size}
use Rattle.relayout.specs.Intrinsic.{prepared}
use Rattle.relayout.specs.Sizes.{containing_of}
use Rattle.relayout.proofs.LinePieces.{AreAtoms, IsByAtoms, lines_by_atoms}
use Rattle.flow_laws.specs.Placing.{AreBoxesOf, InlineBlocksAreMovedAlone, IsOneOf, at_zero, come_to, given}
use Rattle.flow_laws.proofs.PlacingLaws.{come_at_zero, own_part, parts_under, step_laid}
use Rattle.flow_laws.proofs.StackLaws.{HasOwnMargins}
use Rattle.flow_laws.proofs.StandingLaws.{laid_tell}

-- ---- a line's fragments

moved : (ps : List Part) (i b : ℤ) (f next : Pieces) → AreBoxesOf ps f → AreBoxesOf ps next → AreBoxesOf ps (atom_at i b f next)
moved ps i b none next fine others = others
moved ps i b (piece name rect (block_kind mode dir content known start end_ through) inner _) next fine others = (fine.0, others)
moved ps i b (piece name rect (line_kind index base mode baseline) inner _) next fine others = (fine.0, others)
moved ps i b (piece name rect span_kind inner _) next fine others = (fine.0, others)
moved ps i b (piece name rect (run_kind form level natural units) inner _) next fine others = (fine.0, others)
moved ps i b (piece name rect (measure_kind min max) inner _) next fine others = absurd fine

line_pieces : (ps : List Part) → IsByAtoms (AreBoxesOf ps)
line_pieces ps = record {
  empty = tt;
  texts = λ name rect form level natural units next others. (tt, others);
  spans = λ name rect inner next own others. (own, others);
  lines = λ name rect index over mode baseline inner next own others. (own, others);
  atoms = moved ps;
}

-- ---- a paragraph

one_fine : (ps : List Part) (name : BoxName) (rect : FlowRect) (kind : Kind) (inner : Pieces) (starts ends_ : List ℤ) (through : Bool) → HasMargins kind starts ends_ through
    → IsOneOf ps (at_zero (record { name = name; rect = rect; kind = kind; inner = inner }))
    → AreBoxesOf ps (at (pos 0) (pos 0) (record { name = name; rect = rect; kind = kind; inner = inner }) none)
one_fine ps name rect (block_kind mode dir content known start end_ own) inner starts ends_ through tells one = (one, tt)
one_fine ps name rect (line_kind index base mode baseline) inner starts ends_ through tells one = absurd tells
one_fine ps name rect span_kind inner starts ends_ through tells one = absurd tells
one_fine ps name rect (run_kind form level natural units) inner starts ends_ through tells one = absurd tells
one_fine ps name rect (measure_kind min max) inner starts ends_ through tells one = absurd tells

atoms_fine : (ps : List Part) (style : Style) (size : ℤ) (laid : List Laid) → All HasOwnMargins laid → ((part : Part) → IsOneOf (map at_zero (map own_part laid)) part → IsOneOf ps part)
    → AreAtoms (AreBoxesOf ps) (map (atom_in style size) laid)
atoms_fine ps style size [] tells among = tt
atoms_fine ps style size (l ∷ ls) tells among =
    let part = l.flowed.part in (
      one_fine ps part.name part.rect part.kind part.inner l.flowed.starts l.flowed.ends l.flowed.through (tells 0 l (omega arith)) (among (at_zero part) (inl refl)),
      atoms_fine ps style size ls (All-tail HasOwnMargins l ls tells) (λ p is. among p (inr is)),
    )

paragraph_fine : (faces : List (Option Table)) (name : BoxName) (style : Style) (size : ℤ) (entries : List Entry) (laid : List Laid) → All HasOwnMargins laid
    → AreBoxesOf (map at_zero (map own_part laid)) (paragraph faces name style size entries laid).parts
unfolding paragraph
paragraph_fine faces name style size entries laid tells =
    let ps = map at_zero (map own_part laid) in
    let container : Container = record { name = name; style = style; size = size } in
    lines_by_atoms (AreBoxesOf ps) (line_pieces ps) faces container entries (prepared faces style entries) (map (atom_in style size) laid) (atoms_fine ps style size laid tells (λ part is. is))

laid_fine : (outside : Outside) (parent : Style) (name : BoxName) (style : Style) (entries : List Entry) (c : Constraint) (ms : List Member)
    → let node : Node = record { name = name; style = style; content = inline entries } in
    All HasOwnMargins (map (laid_under (given outside parent node c ms)) ms)
    → AreBoxesOf (map at_zero (map own_part (map (laid_under (given outside parent node c ms)) ms))) (laid_out outside (containing_of parent) node c ms).part.inner
unfolding laid_out boxed filled
laid_fine outside parent name style entries c ms tells =
    let node : Node = record { name = name; style = style; content = inline entries } in
    paragraph_fine outside.faces name style (inline_size outside (containing_of parent) style (inline entries) c (handed_on (containing_of parent) node c) ms) entries
    (map (laid_under (given outside parent node c ms)) ms) tells

pub inline_blocks_are_moved_alone : InlineBlocksAreMovedAlone
inline_blocks_are_moved_alone outside parent name style entries inner c is =
    let node : Node = record { name = name; style = style; content = inline entries } in
    let ms = members outside (containing_of style) inner in
    let under = given outside parent node c ms in
    let P : List Part → Type 0 = λ ps. AreBoxesOf ps (laid_out outside (containing_of parent) node c ms).part.inner in
    let Q : Flowed → Type 0 = λ f. AreBoxesOf (come_to under ms) f.part.inner in
    let same : map at_zero (map own_part (map (laid_under under) ms)) ≡ come_to under ms = ap (map at_zero) (parts_under under ms) ∙ come_at_zero outside style inner under in
    subst Q (sym (step_laid outside parent node ms c is)) (subst P same (laid_fine outside parent name style entries c ms (laid_tell outside style inner _ _)))
