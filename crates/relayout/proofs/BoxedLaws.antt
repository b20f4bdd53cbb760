-- A box from its parts.
use Rattle.std.proofs.Common.{◌≡◌, ◌∙◌, refl, sym, ap, ℕ, zero, suc, Bool, false, List, ◌∷◌, Option, ℤ, pos, ◌+ℤ◌}
use Rattle.wm_modes.specs.declared.mode.Direction.{Direction}
use Rattle.wm_modes.specs.declared.rects.FlowRect.{FlowRect}
use Rattle.wm_modes.specs.Sides.{block_start, opposite}
use Rattle.margin_collapse.specs.declared.margins.Margins.{Margins}
use Rattle.margin_collapse.specs.Pairs.{IsPairOf}
use Rattle.fragment_types.specs.declared.constraint.Constraint.{Constraint}
use Rattle.fragment_types.specs.declared.item.BoxName.{BoxName}
use Rattle.style_types.specs.declared.style.Style.{Style}
use Rattle.fragment_types.specs.Fragment.{Kind, Pieces, block, measure, none}
use Rattle.block_flow.specs.declared.adjoining.BlockBox.{BlockBox}
use Rattle.block_flow.specs.declared.adjoining.Edge.{Edge}
use Rattle.block_flow.specs.Adjoining.{is_through}
use Rattle.box_arena.specs.At.{Node}
use Rattle.line_fill.specs.declared.item.Intrinsic.{Intrinsic}
use Rattle.para_prepare.specs.Parts.{used_direction}
use Rattle.relayout.specs.declared.content.Filling as code
use Rattle.relayout.specs.declared.sizes.Containing.{Containing}
use Rattle.relayout.specs.Boxed.{around, block_box, block_size, border_along, border_across, border_box, boxed, content_area, edge_at, edge_on, ends_with, handed_by, handed_on, measured, near_block, near_inline, starts_with, turned}
use Rattle.relayout.specs.Content.{Filled, IsFilled}
use Rattle.relayout.specs.Edges.{margin_or_zero}
use Rattle.relayout.specs.Flowed.{Part, pair_of}
use Rattle.relayout.specs.Sizes.{block_sizes, definite, is_atom, is_flow_root, is_parallel}

-- ---- what its children's percentages refer to

pub handed_own : (containing : Containing) (node : Node) (c : Constraint) (own : Option ℤ) → own ≡ definite containing node.style c → node.name.ordinal ≡ 0 → own ≡ handed_on containing node c
unfolding handed_on
handed_own containing node c own is zeroth = is ∙ ap (λ n. handed_by n c.block (definite containing node.style c)) (sym zeroth)

outer_by : (n : ℕ) (outer definite : Option ℤ) → (n ≡ 0 → ⊥) → outer ≡ handed_by n outer definite
outer_by zero outer definite not = absurd (not refl)
outer_by (suc n) outer definite not = refl

pub handed_outer : (containing : Containing) (node : Node) (c : Constraint) → (node.name.ordinal ≡ 0 → ⊥) → c.block ≡ handed_on containing node c
unfolding handed_on
handed_outer containing node c not = outer_by node.name.ordinal c.block (definite containing node.style c) not

-- ---- what was measured

abbrev pub part_with : BoxName → FlowRect → Kind → Pieces → Part
part_with name rect kind inner = record { name = name; rect = rect; kind = kind; inner = inner }

pub measured_is : (containing : Containing) (node : Node) (content : Intrinsic) (part : Part) (kind : Kind) (inner : Pieces) (i b along across edges : ℤ)
    → part ≡ part_with node.name (record { i = i; b = b; inline = along; block = across }) kind inner → i ≡ pos 0 → b ≡ pos 0 → along ≡ pos 0 → across ≡ pos 0
    → kind ≡ measure (content.min +ℤ edges) (content.max +ℤ edges) → edges ≡ around containing node.style → inner ≡ none → part ≡ (measured containing node content).part
unfolding measured
measured_is containing node content part kind inner i b along across edges is p q r s t u v = is ∙ rw (p, q, r, s, t, u, v) refl

-- ---- its margins

pair_from : (pair : Margins) (margins : List ℤ) → IsPairOf pair margins → pair ≡ pair_of margins
pair_from pair margins is = rw (sym is.positive, sym is.negative) refl

pub starts_are : (containing : Containing) (style : Style) (c : Constraint) (starts : List ℤ) (margin : ℤ) (pair : Margins) → IsPairOf pair (margin ∷ starts)
    → margin ≡ margin_or_zero style c.inline (block_start containing.mode) → pair ≡ pair_of (starts_with containing style c starts)
starts_are containing style c starts margin pair is same = pair_from pair (margin ∷ starts) is ∙ ap (λ m. pair_of (m ∷ starts)) same

pub ends_are : (containing : Containing) (style : Style) (c : Constraint) (ends : List ℤ) (margin : ℤ) (pair : Margins) → IsPairOf pair (margin ∷ ends)
    → margin ≡ margin_or_zero style c.inline (opposite (block_start containing.mode)) → pair ≡ pair_of (ends_with containing style c false ends)
ends_are containing style c ends margin pair is same = pair_from pair (margin ∷ ends) is ∙ ap (λ m. pair_of (m ∷ ends)) same

abbrev box_with : Bool → Edge → Edge → Option ℤ → ℤ → Bool → BlockBox
box_with flow_root start finish size min lines = record { is_flow_root = flow_root; start = start; end = finish; size = size; min = min; has_lines = lines }

pub block_box_is : (containing : Containing) (style : Style) (c : Constraint) (lines flow_root : Bool) (start finish : Edge) (size : Option ℤ) (min : ℤ)
    → flow_root ≡ is_flow_root style.display → start ≡ edge_at style c.inline (block_start style.mode) → finish ≡ edge_at style c.inline (opposite (block_start style.mode))
    → size ≡ definite containing style c → min ≡ (block_sizes containing style c).min → box_with flow_root start finish size min lines ≡ block_box containing style c lines
unfolding block_box
block_box_is containing style c lines flow_root start finish size min p q r s t = rw (p, q, r, s, t) refl

-- ---- its border box and its content area

pub border_box_is : (containing : Containing) (style : Style) (c : Constraint) (size extent : ℤ) (rect : FlowRect) (parallel : Bool) (i b along across : ℤ)
    → rect ≡ turned parallel i b along across → parallel ≡ is_parallel containing style → i ≡ pos 0 → b ≡ pos 0 → along ≡ border_along style c size → across ≡ border_across style c extent
    → rect ≡ border_box containing style c size extent
unfolding border_box
border_box_is containing style c size extent rect parallel i b along across is p q r s t = is ∙ rw (p, q, r, s, t) refl

pub content_area_is : (containing : Containing) (style : Style) (c : Constraint) (size extent : ℤ) (rect : FlowRect) (parallel : Bool) (i b along across : ℤ)
    → rect ≡ turned parallel i b along across → parallel ≡ is_parallel containing style → i ≡ edge_on containing style c (near_inline (is_atom style.display))
    → b ≡ edge_on containing style c (near_block (is_atom style.display)) → along ≡ size → across ≡ extent → rect ≡ content_area containing style c size extent
unfolding content_area
content_area_is containing style c size extent rect parallel i b along across is p q r s t = is ∙ rw (p, q, r, s, t) refl

pub same_sizes : (rect : ℤ → ℤ → FlowRect) (size s extent e : ℤ) → s ≡ size → e ≡ extent → rect s e ≡ rect size extent
same_sizes rect size s extent e p q = rw (p, q) refl

-- ---- the whole

abbrev kind_with : Style → Direction → FlowRect → Option ℤ → Margins → Margins → Bool → Kind
kind_with style dir content definite start finish through = block style.mode dir content definite start finish through

pub boxed_is : (containing : Containing) (node : Node) (c : Constraint) (size : ℤ) (own : code.Filling) (filled : Filled) (part : Part) (rect content : FlowRect) (dir : Direction) (handed : Option ℤ)
    (start finish : Margins) (through : Bool) (inner : Pieces) (extent : ℤ) (bx : BlockBox) → IsFilled own filled
    → part ≡ part_with node.name rect (kind_with node.style dir content handed start finish through) inner
    → inner ≡ filled.parts → extent ≡ block_size containing node.style c own.extent → bx ≡ block_box containing node.style c own.lines → through ≡ is_through bx own.through
    → rect ≡ border_box containing node.style c size extent → content ≡ content_area containing node.style c size extent → dir ≡ used_direction node.style → handed ≡ handed_on containing node c
    → start ≡ pair_of (starts_with containing node.style c filled.starts) → finish ≡ pair_of (ends_with containing node.style c through filled.ends)
    → part ≡ (boxed containing node c size filled).part
unfolding boxed
boxed_is containing node c size own filled part rect content dir handed start finish through inner extent bx is made inside e b t r a d h s f =
    let extent_is : extent ≡ block_size containing node.style c filled.extent = e ∙ ap (block_size containing node.style c) is.extent in
    let through_is : through ≡ is_through (block_box containing node.style c filled.lines) filled.through =
    t ∙ ap (λ (x : BlockBox). is_through x own.through) (b ∙ ap (block_box containing node.style c) is.lines) ∙ ap (is_through (block_box containing node.style c filled.lines)) is.through in
    let rect_is : rect ≡ border_box containing node.style c size (block_size containing node.style c filled.extent) = r ∙ ap (border_box containing node.style c size) extent_is in
    let content_is : content ≡ content_area containing node.style c size (block_size containing node.style c filled.extent) = a ∙ ap (content_area containing node.style c size) extent_is in
    let finish_is : finish ≡ pair_of (ends_with containing node.style c (is_through (block_box containing node.style c filled.lines) filled.through) filled.ends) =
    f ∙ ap (λ th. pair_of (ends_with containing node.style c th filled.ends)) through_is in
    made ∙ rw (rect_is, content_is, d, h, s, finish_is, through_is, inside) refl
