-- Sizes and margins of boxes, the inline equation, and the margin boxes and baselines of inline-blocks are in each way those of a horizontal flow.
use Rattle.std.proofs.Common.{◌≡◌, ◌∙◌, refl, ap, true, Option, None, Some, ℤ, pos, ◌+ℤ◌, ◌-ℤ◌}
use Rattle.wm_modes.specs.Sides.{line_left, line_over, side_of}
use Rattle.wm_modes.specs.declared.rects.FlowRect.{FlowRect}
use Rattle.wm_modes.specs.declared.sides.FlowSide.TheVariants.{InlineEnd, InlineStart}
use Rattle.style_types.specs.Style.{baseline_of}
use Rattle.style_types.specs.declared.style.Baseline.{Baseline}
use Rattle.style_types.specs.declared.style.Baseline.TheVariants.{Alphabetic}
use Rattle.style_types.specs.declared.style.Style.{Style}
use Rattle.fragment_types.specs.Fragment.{Kind, Pieces, block, line, measure, none, piece, run, span}
use Rattle.size_rules.specs.Equation.{equation}
use Rattle.size_rules.specs.Resolving.{resolved_margin}
use Rattle.page_turn.specs.Kinds.{kind_in, pieces_in}
use Rattle.relayout.specs.Atoms.{further, held_distance, if_same, last_line, line_of, or_later, over_baseline, own_baseline, same_mode, where_it_fits}
use Rattle.relayout.specs.Edges.{inner_edges_across, inner_edges_along, margin, margin_or_zero, margins_along, margins_over}
use Rattle.relayout.specs.Inline.{equation_of}
use Rattle.relayout.specs.Sizes.{containing_of, is_parallel, sizes_across, sizes_along}
use Rattle.flow_modes.specs.Sizes.{BoxSizesAlike, EquationsAlike, InlineBlocksAlike}
use Rattle.mode_ways.specs.Ways.{Way, across, down, left, right, mode_of, plain, style_in}
use Rattle.flow_modes.proofs.SideLaws.{direction_same, size_side}

pub along_same : (way : Way) (style : Style) (base : Option ℤ) → sizes_along (mode_of way) (style_in way style) base ≡ sizes_along (mode_of plain) (style_in plain style) base
along_same (across orientation combine) style base = refl
along_same down style base = refl
along_same (right orientation combine) style base = refl
along_same (left orientation combine) style base = refl

pub across_same : (way : Way) (style : Style) (base : Option ℤ) → sizes_across (mode_of way) (style_in way style) base ≡ sizes_across (mode_of plain) (style_in plain style) base
across_same (across orientation combine) style base = refl
across_same down style base = refl
across_same (right orientation combine) style base = refl
across_same (left orientation combine) style base = refl

pub margins_along_same : (way : Way) (style : Style) (inline : Option ℤ) → margins_along (style_in way style) inline (mode_of way) ≡ margins_along (style_in plain style) inline (mode_of plain)
margins_along_same (across orientation combine) style inline = refl
margins_along_same down style inline = refl
margins_along_same (right orientation combine) style inline = refl
margins_along_same (left orientation combine) style inline = refl

margins_over_same : (way : Way) (style : Style) (inline : Option ℤ) → margins_over (style_in way style) inline (mode_of way) ≡ margins_over (style_in plain style) inline (mode_of plain)
margins_over_same (across orientation combine) style inline = refl
margins_over_same down style inline = refl
margins_over_same (right orientation combine) style inline = refl
margins_over_same (left orientation combine) style inline = refl

pub inner_along_same : (way : Way) (style : Style) (inline : Option ℤ) → inner_edges_along (style_in way style) inline (mode_of way) ≡ inner_edges_along (style_in plain style) inline (mode_of plain)
inner_along_same (across orientation combine) style inline = refl
inner_along_same down style inline = refl
inner_along_same (right orientation combine) style inline = refl
inner_along_same (left orientation combine) style inline = refl

pub inner_over_same : (way : Way) (style : Style) (inline : Option ℤ) → inner_edges_across (style_in way style) inline (mode_of way) ≡ inner_edges_across (style_in plain style) inline (mode_of plain)
inner_over_same (across orientation combine) style inline = refl
inner_over_same down style inline = refl
inner_over_same (right orientation combine) style inline = refl
inner_over_same (left orientation combine) style inline = refl

pub parallel_same : (way : Way) (parent style : Style) → is_parallel (containing_of (style_in way parent)) (style_in way style) ≡ true
parallel_same (across orientation combine) parent style = refl
parallel_same down parent style = refl
parallel_same (right orientation combine) parent style = refl
parallel_same (left orientation combine) parent style = refl

pub box_sizes_alike : BoxSizesAlike
box_sizes_alike = record {
  along = along_same;
  over = across_same;
  margins_along = margins_along_same;
  margins_over = margins_over_same;
  inner_along = inner_along_same;
  inner_over = inner_over_same;
  parallel = parallel_same;
}

pub equations_alike : EquationsAlike
unfolding equation_of
equations_alike way parent style inline =
    (λ i. equation inline (inner_edges_along (style_in way style) (Some inline) (mode_of way)) (sizes_along (mode_of way) (style_in way style) (Some inline)).size
    (sizes_along (mode_of way) (style_in way style) (Some inline)).min (sizes_along (mode_of way) (style_in way style) (Some inline)).max
    (margin (style_in way style) (Some inline) (side_of (mode_of way) (direction_same way parent i) InlineStart))
    (margin (style_in way style) (Some inline) (side_of (mode_of way) (direction_same way parent i) InlineEnd)))
    ∙ (λ i. equation inline (inner_along_same way style (Some inline) i) (along_same way style (Some inline) i).size (along_same way style (Some inline) i).min (along_same way style (Some inline) i).max
    (resolved_margin (size_side way style.margin parent.direction InlineStart i) (Some inline)) (resolved_margin (size_side way style.margin parent.direction InlineEnd i) (Some inline)))

-- ---- fragments in a way after another

pub kind_twice : (way : Way) (kind : Kind) → kind_in (mode_of way) kind ≡ kind_in (mode_of way) (kind_in (mode_of plain) kind)
kind_twice way (block mode dir content definite start end_ through) = refl
kind_twice way (line index base mode baseline) = refl
kind_twice way span = refl
kind_twice way (run form level natural units) = refl
kind_twice way (measure min max) = refl

pub pieces_twice : (way : Way) (pieces : Pieces) → pieces_in (mode_of way) pieces ≡ pieces_in (mode_of way) (pieces_in (mode_of plain) pieces)
pieces_twice way none = refl
pieces_twice way (piece name rect kind inner next) = λ i. piece name rect (kind_twice way kind i) (pieces_twice way inner i) (pieces_twice way next i)

-- ---- baselines of inline-blocks

mode_same : (way : Way) → same_mode (mode_of way) (mode_of way) ≡ true
mode_same (across orientation combine) = refl
mode_same down = refl
mode_same (right orientation combine) = refl
mode_same (left orientation combine) = refl

last_same : (way : Way) (pieces : Pieces) → last_line (mode_of way) (pieces_in (mode_of way) pieces) ≡ last_line (mode_of plain) (pieces_in (mode_of plain) pieces)
last_same way none = refl
last_same way (piece name rect (block mode dir content definite start end_ through) inner next) =
    λ i. or_later (if_same (mode_same way i) (further (rect.b +ℤ content.b) (last_same way inner i))) (last_same way next i)
last_same way (piece name rect (line index base mode baseline) inner next) = ap (or_later (line_of (mode_of plain) rect (line index base (mode_of plain) baseline) None)) (last_same way next)
last_same way (piece name rect span inner next) = ap (or_later None) (last_same way next)
last_same way (piece name rect (run form level natural units) inner next) = ap (or_later None) (last_same way next)
last_same way (piece name rect (measure min max) inner next) = ap (or_later None) (last_same way next)

-- lines of a box in the same way go along those of the paragraph
fits_same : (way : Way) (content : FlowRect) (baseline : Baseline) (found : Option _)
    → where_it_fits (mode_of way) (mode_of way) content baseline found ≡ where_it_fits (mode_of plain) (mode_of plain) content baseline found
fits_same (across orientation combine) content baseline None = refl
fits_same (across orientation combine) content baseline (Some found) = refl
fits_same down content baseline None = refl
fits_same down content baseline (Some found) = refl
fits_same (right orientation combine) content baseline None = refl
fits_same (right orientation combine) content baseline (Some found) = refl
fits_same (left orientation combine) content baseline None = refl
fits_same (left orientation combine) content baseline (Some found) = refl

own_same : (way : Way) (baseline : Baseline) (kind : Kind) (inner : Pieces)
    → own_baseline (mode_of way) baseline (kind_in (mode_of way) kind) (pieces_in (mode_of way) inner) ≡ own_baseline (mode_of plain) baseline (kind_in (mode_of plain) kind) (pieces_in (mode_of plain) inner)
own_same way baseline (block mode dir content definite start end_ through) inner =
    (λ i. where_it_fits (mode_of way) (mode_of way) content baseline (last_same way inner i))
    ∙ fits_same way content baseline (last_line (mode_of plain) (pieces_in (mode_of plain) inner))
own_same way baseline (line index base mode kind) inner = refl
own_same way baseline span inner = refl
own_same way baseline (run form level natural units) inner = refl
own_same way baseline (measure min max) inner = refl

baseline_same : (way : Way) (style : Style) → baseline_of (style_in way style).mode (style_in way style).orientation ≡ Alphabetic
baseline_same (across orientation combine) style = refl
baseline_same down style = refl
baseline_same (right orientation combine) style = refl
baseline_same (left orientation combine) style = refl

left_margin_same : (way : Way) (style : Style) (size : ℤ) → margin_or_zero (style_in way style) (Some size) (line_left (mode_of way)) ≡ margin_or_zero (style_in plain style) (Some size) (line_left (mode_of plain))
left_margin_same (across orientation combine) style size = refl
left_margin_same down style size = refl
left_margin_same (right orientation combine) style size = refl
left_margin_same (left orientation combine) style size = refl

over_margin_same : (way : Way) (style : Style) (size : ℤ) → margin_or_zero (style_in way style) (Some size) (line_over (mode_of way)) ≡ margin_or_zero (style_in plain style) (Some size) (line_over (mode_of plain))
over_margin_same (across orientation combine) style size = refl
over_margin_same down style size = refl
over_margin_same (right orientation combine) style size = refl
over_margin_same (left orientation combine) style size = refl

pub inline_blocks_alike : InlineBlocksAlike
inline_blocks_alike way paragraph size laid =
    let part = laid.flowed.part in
    (λ i. record {
      fragment = piece part.name (record { i = pos 0; b = pos 0; inline = part.rect.inline; block = part.rect.block }) (kind_twice way part.kind i) (pieces_twice way part.inner i) none;
      extent = part.rect.inline +ℤ margins_along_same way laid.style (Some size) i;
      left_margin = left_margin_same way laid.style size i;
      over_margin = over_margin_same way laid.style size i;
      over = held_distance (over_baseline (over_margin_same way laid.style size i) (part.rect.block +ℤ margins_over_same way laid.style (Some size) i) (baseline_same way paragraph i) (own_baseline (mode_of way) (baseline_same way paragraph i) (kind_in (mode_of way) part.kind) (pieces_in (mode_of way) part.inner)));
      under = (part.rect.block +ℤ margins_over_same way laid.style (Some size) i) -ℤ held_distance (over_baseline (over_margin_same way laid.style size i) (part.rect.block +ℤ margins_over_same way laid.style (Some size) i) (baseline_same way paragraph i) (own_baseline (mode_of way) (baseline_same way paragraph i) (kind_in (mode_of way) part.kind) (pieces_in (mode_of way) part.inner)));
      shift = laid.style.shift;
    })
    ∙ (λ i. record {
      fragment = piece part.name (record { i = pos 0; b = pos 0; inline = part.rect.inline; block = part.rect.block }) (kind_in (mode_of way) (kind_in (mode_of plain) part.kind)) (pieces_in (mode_of way) (pieces_in (mode_of plain) part.inner)) none;
      extent = part.rect.inline +ℤ margins_along (style_in plain laid.style) (Some size) (mode_of plain);
      left_margin = margin_or_zero (style_in plain laid.style) (Some size) (line_left (mode_of plain));
      over_margin = margin_or_zero (style_in plain laid.style) (Some size) (line_over (mode_of plain));
      over = held_distance (over_baseline (margin_or_zero (style_in plain laid.style) (Some size) (line_over (mode_of plain))) (part.rect.block +ℤ margins_over (style_in plain laid.style) (Some size) (mode_of plain)) Alphabetic (own_same way Alphabetic part.kind part.inner i));
      under = (part.rect.block +ℤ margins_over (style_in plain laid.style) (Some size) (mode_of plain)) -ℤ held_distance (over_baseline (margin_or_zero (style_in plain laid.style) (Some size) (line_over (mode_of plain))) (part.rect.block +ℤ margins_over (style_in plain laid.style) (Some size) (mode_of plain)) Alphabetic (own_same way Alphabetic part.kind part.inner i));
      shift = laid.style.shift;
    })
