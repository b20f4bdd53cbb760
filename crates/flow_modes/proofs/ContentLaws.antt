-- A box and what is in it, its children one under the other or the lines of its paragraph, are in each way those of a horizontal flow, in that way.
use Rattle.std.proofs.Common.{◌≡◌, ◌∙◌, refl, ap, Bool, true, false, cond, List, [], ◌∷◌, map, Option, unwrap_or, ℤ, pos, ◌+ℤ◌}
use Rattle.std.specs.List.{list_all}
use Rattle.face_api.specs.Table.{Table}
use Rattle.wm_modes.specs.Sides.{side_of}
use Rattle.wm_modes.specs.declared.mode.Direction.TheVariants.{Ltr}
use Rattle.wm_modes.specs.declared.mode.WritingMode.{WritingMode}
use Rattle.wm_modes.specs.declared.sides.FlowSide.{FlowSide}
use Rattle.wm_modes.specs.declared.sides.FlowSide.TheVariants.{BlockEnd, BlockStart}
use Rattle.style_types.specs.declared.style.Style.{Style}
use Rattle.size_rules.specs.Resolving.{resolved_margin, resolved_or_zero}
use Rattle.fragment_types.specs.Fragment as fragments
use Rattle.fragment_types.specs.Fragment.{Pieces, piece}
use Rattle.fragment_types.specs.Item.{Entry}
use Rattle.fragment_types.specs.declared.constraint.Constraint.{Constraint}
use Rattle.fragment_types.specs.declared.item.BoxName.{BoxName}
use Rattle.block_flow.specs.Adjoining.{is_through}
use Rattle.block_flow.specs.Children.{Child}
use Rattle.block_flow.specs.Stacking.{extent, handed, places_of, stacked}
use Rattle.block_flow.specs.declared.boxes.ParentEdges.{ParentEdges}
use Rattle.box_arena.specs.At.{Node}
use Rattle.box_gen.specs.Tree.{blocks, inline}
use Rattle.para_prepare.specs.Preparation.{preparation}
use Rattle.para_lines.specs.Lines.{paragraph_lines}
use Rattle.para_lines.specs.declared.paragraph.Container.{Container}
use Rattle.line_fill.specs.declared.item.Intrinsic.{Intrinsic}
use Rattle.page_turn.specs.Kinds.{pieces_in}
use Rattle.relayout.specs.Atoms.{atom_in}
use Rattle.relayout.specs.Boxed.{block_box, block_size, border_box, boxed, content_area, edge_at, edge_on, handed_by, handed_on, measured, near_block, near_inline, turned}
use Rattle.relayout.specs.Content.{Filled, are_some, block_extent, child_of, filled, paragraph, set_down, stack}
use Rattle.relayout.specs.Edges.{inner_edge, margin_or_zero}
use Rattle.relayout.specs.Flowed.{Laid, pair_of}
use Rattle.relayout.specs.Inline.{inline_place, inline_place_by}
use Rattle.relayout.specs.Intrinsic.{base_by, prepared}
use Rattle.relayout.specs.Sizes.{block_base, block_sizes, containing_of, definite, given, hold, inline_base, inline_sizes, is_atom, is_flow_root, sizes_across, sizes_along}
use Rattle.flow_modes.specs.Flow.{ContentsAlike, filled_in, node_in}
use Rattle.flow_modes.specs.Paragraphs.{container_in, inline_block_in}
use Rattle.flow_modes.specs.Sizes.{flowed_in, laid_in}
use Rattle.mode_ways.specs.Ways.{Way, across, down, left, right, entries_in, mode_of, plain, style_in}
use Rattle.flow_modes.proofs.ParagraphLaws.{paragraphs_alike}
use Rattle.flow_modes.proofs.SideLaws.{direction_same, size_side, width_side}
use Rattle.flow_modes.proofs.SizeLaws.{across_same, along_same, equations_alike, inline_blocks_alike, inner_along_same, inner_over_same, kind_twice, parallel_same, pieces_twice}

-- ---- sizes and edges

module _ (way : Way) (parent style : Style) where
  pub inline_sizes_same : (c : Constraint) → inline_sizes (containing_of (style_in way parent)) (style_in way style) c ≡ inline_sizes (containing_of (style_in plain parent)) (style_in plain style) c
  inline_sizes_same c = (λ i. sizes_along (mode_of way) (style_in way style) (inline_base (parallel_same way parent style i) c)) ∙ along_same way style c.inline

  block_sizes_same : (c : Constraint) → block_sizes (containing_of (style_in way parent)) (style_in way style) c ≡ block_sizes (containing_of (style_in plain parent)) (style_in plain style) c
  block_sizes_same c = (λ i. sizes_across (mode_of way) (style_in way style) (block_base (parallel_same way parent style i) c)) ∙ across_same way style c.block

  definite_same : (c : Constraint) → definite (containing_of (style_in way parent)) (style_in way style) c ≡ definite (containing_of (style_in plain parent)) (style_in plain style) c
  definite_same c = λ i. given (block_sizes_same c i)

  block_size_same : (c : Constraint) (extent : ℤ) → block_size (containing_of (style_in way parent)) (style_in way style) c extent ≡ block_size (containing_of (style_in plain parent)) (style_in plain style) c extent
  block_size_same c extent = λ i. unwrap_or (definite_same c i) (hold (block_sizes_same c i) extent)

  edge_on_same : (c : Constraint) (side : FlowSide) → edge_on (containing_of (style_in way parent)) (style_in way style) c side ≡ edge_on (containing_of (style_in plain parent)) (style_in plain style) c side
  edge_on_same c side =
      (λ i. inner_edge (style_in way style) c.inline (side_of (mode_of way) (direction_same way parent i) side))
      ∙ (λ i. width_side way style.border parent.direction side i +ℤ resolved_or_zero (size_side way style.padding parent.direction side i) c.inline)

  border_box_same : (c : Constraint) (size one other : ℤ) → one ≡ other
      → border_box (containing_of (style_in way parent)) (style_in way style) c size one ≡ border_box (containing_of (style_in plain parent)) (style_in plain style) c size other
  unfolding border_box
  border_box_same c size one other same =
      λ i. turned (parallel_same way parent style i) (pos 0) (pos 0) (size +ℤ inner_along_same way style c.inline i) (same i +ℤ inner_over_same way style c.inline i)

  content_area_same : (c : Constraint) (size one other : ℤ) → one ≡ other
      → content_area (containing_of (style_in way parent)) (style_in way style) c size one ≡ content_area (containing_of (style_in plain parent)) (style_in plain style) c size other
  unfolding content_area
  content_area_same c size one other same =
      let is_inline_block = is_atom style.display in
      λ i. turned (parallel_same way parent style i) (edge_on_same c (near_inline is_inline_block) i) (edge_on_same c (near_block is_inline_block) i) size (same i)

  pub inline_place_same : (size extent : ℤ) → inline_place (containing_of (style_in way parent)) size (style_in way style) extent ≡ inline_place (containing_of (style_in plain parent)) size (style_in plain style) extent
  unfolding inline_place
  inline_place_same size extent =
      (λ i. inline_place_by (parallel_same way parent style i) (containing_of (style_in way parent)) size (style_in way style) extent)
      ∙ (λ i. (equations_alike way parent style size i).start)

-- ---- margins that adjoin

pub margin_side : (way : Way) (style : Style) (base : Option ℤ) (side : FlowSide)
    → margin_or_zero (style_in way style) base (side_of (mode_of way) Ltr side) ≡ margin_or_zero (style_in plain style) base (side_of (mode_of plain) Ltr side)
margin_side way style base side = λ i. unwrap_or (resolved_margin (size_side way style.margin Ltr side i) base) (pos 0)

edge_at_same : (way : Way) (style : Style) (base : Option ℤ) (side : FlowSide)
    → edge_at (style_in way style) base (side_of (mode_of way) Ltr side) ≡ edge_at (style_in plain style) base (side_of (mode_of plain) Ltr side)
edge_at_same way style base side = λ i. record { border = width_side way style.border Ltr side i; padding = resolved_or_zero (size_side way style.padding Ltr side i) base }

pub block_box_same : (way : Way) (parent style : Style) (c : Constraint) (lines : Bool)
    → block_box (containing_of (style_in way parent)) (style_in way style) c lines ≡ block_box (containing_of (style_in plain parent)) (style_in plain style) c lines
unfolding block_box
block_box_same way parent style c lines =
    λ i. record {
      is_flow_root = is_flow_root style.display;
      start = edge_at_same way style c.inline BlockStart i;
      end = edge_at_same way style c.inline BlockEnd i;
      size = definite_same way parent style c i;
      min = (block_sizes_same way parent style c i).min;
      has_lines = lines;
    }

through_same : (way : Way) (parent style : Style) (c : Constraint) (lines children : Bool)
    → is_through (block_box (containing_of (style_in way parent)) (style_in way style) c lines) children ≡ is_through (block_box (containing_of (style_in plain parent)) (style_in plain style) c lines) children
through_same way parent style c lines children = λ i. is_through (block_box_same way parent style c lines i) children

-- ---- a box round its content

pub handed_same : (way : Way) (parent : Style) (node : Node) (c : Constraint)
    → handed_on (containing_of (style_in way parent)) (node_in way node) c ≡ handed_on (containing_of (style_in plain parent)) (node_in plain node) c
unfolding handed_on
handed_same way parent node c = ap (handed_by node.name.ordinal c.block) (definite_same way parent node.style c)

pub measured_same : (way : Way) (parent : Style) (node : Node) (content : Intrinsic)
    → measured (containing_of (style_in way parent)) (node_in way node) content ≡ flowed_in way (measured (containing_of (style_in plain parent)) (node_in plain node) content)
unfolding measured
measured_same (across orientation combine) parent node content = refl
measured_same down parent node content = refl
measured_same (right orientation combine) parent node content = refl
measured_same (left orientation combine) parent node content = refl

pub boxed_same : (way : Way) (parent : Style) (node : Node) (c : Constraint) (size : ℤ) (content : Filled)
    → boxed (containing_of (style_in way parent)) (node_in way node) c size (filled_in way content) ≡ flowed_in way (boxed (containing_of (style_in plain parent)) (node_in plain node) c size content)
unfolding boxed
boxed_same way parent node c size content =
    let style = node.style in
    let extents = block_size_same way parent style c content.extent in
    let start = margin_side way style c.inline BlockStart in
    let end_ = margin_side way style c.inline BlockEnd in
    let through = through_same way parent style c content.lines content.through in
    λ i. record {
      part = record {
        name = node.name;
        rect = border_box_same way parent style c size _ _ extents i;
        kind = fragments.block (mode_of way) (direction_same way style i) (content_area_same way parent style c size _ _ extents i) (handed_same way parent node c i)
            (pair_of (start i ∷ content.starts)) (pair_of (end_ i ∷ cond (through i) [] content.ends)) (through i);
        inner = pieces_in (mode_of way) content.parts;
      };
      starts = start i ∷ content.starts;
      ends = end_ i ∷ cond (through i) [] content.ends;
      through = through i;
    }

module _ (way : Way) (style : Style) where
  -- ---- children one under the other

  children_same : (laid : List Laid) → map child_of (map (laid_in way) laid) ≡ map child_of (map (laid_in plain) laid)
  children_same [] = refl
  children_same (own ∷ laid) = ap (λ (others : List Child). child_of own ∷ others) (children_same laid)

  set_down_same : (size : ℤ) (laid : List Laid) (places : List ℤ)
      → set_down (containing_of (style_in way style)) size (map (laid_in way) laid) places ≡ pieces_in (mode_of way) (set_down (containing_of (style_in plain style)) size (map (laid_in plain) laid) places)
  set_down_same size [] [] = refl
  set_down_same size [] (place ∷ places) = refl
  set_down_same size (own ∷ laid) [] = refl
  set_down_same size (own ∷ laid) (place ∷ places) =
      let part = own.flowed.part in
      λ i. piece part.name (record { i = inline_place_same way style own.style size part.rect.inline i; b = place; inline = part.rect.inline; block = part.rect.block })
      (kind_twice way part.kind i) (pieces_twice way part.inner i) (set_down_same size laid places i)

  stack_same : (joins : ParentEdges) (size : ℤ) (laid : List Laid)
      → stack (containing_of (style_in way style)) joins size (map (laid_in way) laid) ≡ filled_in way (stack (containing_of (style_in plain style)) joins size (map (laid_in plain) laid))
  unfolding stack
  stack_same joins size laid =
      let children = children_same laid in
      let parts = (λ i. set_down (containing_of (style_in way style)) size (map (laid_in way) laid) (places_of joins.start_joins (children_same laid i)))
      ∙ set_down_same size laid (places_of joins.start_joins (map child_of (map (laid_in plain) laid))) in
      λ i. record {
        parts = parts i;
        extent = extent joins.end_joins (stacked joins.start_joins (children i));
        starts = (stacked joins.start_joins (children i)).start_margins;
        ends = handed joins.end_joins (stacked joins.start_joins (children i));
        lines = false;
        through = list_all (λ (child : Child). child.through) (children i);
      }

  -- ---- the lines of a paragraph

  atoms_same : (size : ℤ) (laid : List Laid)
      → map (atom_in (style_in way style) size) (map (laid_in way) laid) ≡ map (inline_block_in way) (map (atom_in (style_in plain style) size) (map (laid_in plain) laid))
  atoms_same size [] = refl
  atoms_same size (own ∷ laid) = λ i. inline_blocks_alike way style size own i ∷ atoms_same size laid i

  -- the paragraph's base level is by the computed direction
  pub based_same : (faces : List (Option Table)) (entries : List Entry)
      → prepared faces (style_in way style) (entries_in way entries) ≡ preparation faces (base_by style.bidi style.direction) (style_in way style) (entries_in way entries)
  based_same faces entries = λ i. preparation faces (base_by style.bidi (direction_same way style i)) (style_in way style) (entries_in way entries)

  lines_same : (faces : List (Option Table)) (name : BoxName) (size : ℤ) (entries : List Entry) (laid : List Laid)
      → paragraph_lines faces (record { name = name; style = style_in way style; size = size }) (entries_in way entries) (prepared faces (style_in way style) (entries_in way entries)) (map (atom_in (style_in way style) size) (map (laid_in way) laid))
      ≡ pieces_in (mode_of way)
      (paragraph_lines faces (record { name = name; style = style_in plain style; size = size }) (entries_in plain entries) (prepared faces (style_in plain style) (entries_in plain entries)) (map (atom_in (style_in plain style) size) (map (laid_in plain) laid)))
  lines_same faces name size entries laid =
      let container : Container = record { name = name; style = style; size = size } in
      (λ i. paragraph_lines faces (container_in way container) (entries_in way entries) (based_same faces entries i) (atoms_same size laid i))
      ∙ paragraphs_alike faces (base_by style.bidi style.direction) way container entries (map (atom_in (style_in plain style) size) (map (laid_in plain) laid))

extents_stay : (mode : WritingMode) (pieces : Pieces) → block_extent (pieces_in mode pieces) ≡ block_extent pieces
extents_stay mode fragments.none = refl
extents_stay mode (piece name rect kind inner next) = ap (λ (behind : ℤ). rect.block +ℤ behind) (extents_stay mode next)

some_stay : (mode : WritingMode) (pieces : Pieces) → are_some (pieces_in mode pieces) ≡ are_some pieces
some_stay mode fragments.none = refl
some_stay mode (piece name rect kind inner next) = refl

-- a content of these lines
abbrev by_lines : Pieces → Filled
by_lines lines = record { parts = lines; extent = block_extent lines; starts = []; ends = []; lines = are_some lines; through = true }

by_lines_same : (way : Way) (made lines : Pieces) → made ≡ pieces_in (mode_of way) lines → by_lines made ≡ filled_in way (by_lines lines)
by_lines_same way made lines same =
    ap by_lines same
    ∙ (λ i. record { parts = pieces_in (mode_of way) lines; extent = extents_stay (mode_of way) lines i; starts = []; ends = []; lines = some_stay (mode_of way) lines i; through = true })

paragraph_same : (way : Way) (style : Style) (faces : List (Option Table)) (name : BoxName) (size : ℤ) (entries : List Entry) (laid : List Laid)
    → paragraph faces name (style_in way style) size (entries_in way entries) (map (laid_in way) laid) ≡ filled_in way (paragraph faces name (style_in plain style) size (entries_in plain entries) (map (laid_in plain) laid))
unfolding paragraph
paragraph_same way style faces name size entries laid = by_lines_same way _ _ (lines_same way style faces name size entries laid)

pub contents_alike : ContentsAlike
unfolding filled
contents_alike way faces name style joins size blocks laid = stack_same way style joins size laid
contents_alike way faces name style joins size (inline entries) laid = paragraph_same way style faces name size entries laid
