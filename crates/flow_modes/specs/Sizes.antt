-- Sizes and margins of boxes in each way, the inline equation, and the margin boxes and baselines of inline-blocks. CSS 2, 8.3, 10.3.3 and
-- 10.8.1.
use Rattle.std.specs.Prelude.{◌≡◌, true, Option, ℤ}
use Rattle.style_types.specs.declared.style.Style.{Style}
use Rattle.page_turn.specs.Kinds.{kind_in, pieces_in}
use Rattle.relayout.specs.Atoms.{atom_in}
use Rattle.relayout.specs.Edges.{inner_edges_across, inner_edges_along, margins_along, margins_over}
use Rattle.relayout.specs.Flowed.{Flowed, Laid, Part}
use Rattle.relayout.specs.Inline.{equation_of}
use Rattle.relayout.specs.Sizes.{containing_of, is_parallel, sizes_across, sizes_along}
use Rattle.flow_modes.specs.Paragraphs.{inline_block_in}
use Rattle.mode_ways.specs.Ways.{Way, mode_of, plain, style_in}

-- what a style asks for along the lines and across them, and its margins, borders and paddings together, are those of a horizontal flow
pub record BoxSizesAlike : Type 0 where
  pub along : (way : Way) (style : Style) (base : Option ℤ) → sizes_along (mode_of way) (style_in way style) base ≡ sizes_along (mode_of plain) (style_in plain style) base
  pub over : (way : Way) (style : Style) (base : Option ℤ) → sizes_across (mode_of way) (style_in way style) base ≡ sizes_across (mode_of plain) (style_in plain style) base
  pub margins_along : (way : Way) (style : Style) (inline : Option ℤ) → margins_along (style_in way style) inline (mode_of way) ≡ margins_along (style_in plain style) inline (mode_of plain)
  pub margins_over : (way : Way) (style : Style) (inline : Option ℤ) → margins_over (style_in way style) inline (mode_of way) ≡ margins_over (style_in plain style) inline (mode_of plain)
  pub inner_along : (way : Way) (style : Style) (inline : Option ℤ) → inner_edges_along (style_in way style) inline (mode_of way) ≡ inner_edges_along (style_in plain style) inline (mode_of plain)
  pub inner_over : (way : Way) (style : Style) (inline : Option ℤ) → inner_edges_across (style_in way style) inline (mode_of way) ≡ inner_edges_across (style_in plain style) inline (mode_of plain)
  pub parallel : (way : Way) (parent style : Style) → is_parallel (containing_of (style_in way parent)) (style_in way style) ≡ true

-- a block-level box fills its containing block as in a horizontal flow
abbrev pub EquationsAlike : Type 0
EquationsAlike = (way : Way) (parent style : Style) (inline : ℤ) → equation_of (containing_of (style_in way parent)) (style_in way style) inline ≡ equation_of (containing_of (style_in plain parent)) (style_in plain style) inline

-- what a box has come to, in a way
abbrev pub part_in : Way → Part → Part
part_in way part = record part { kind = kind_in (mode_of way) part.kind; inner = pieces_in (mode_of way) part.inner }

abbrev pub flowed_in : Way → Flowed → Flowed
flowed_in way flowed = record flowed { part = part_in way flowed.part }

abbrev pub laid_in : Way → Laid → Laid
laid_in way laid = record { style = style_in way laid.style; flowed = flowed_in way laid.flowed }

-- an inline-block in a paragraph has the margin box and the baseline that it has in a horizontal flow
abbrev pub InlineBlocksAlike : Type 0
InlineBlocksAlike = (way : Way) (paragraph : Style) (size : ℤ) (laid : Laid)
    → atom_in (style_in way paragraph) size (laid_in way laid) ≡ inline_block_in way (atom_in (style_in plain paragraph) size (laid_in plain laid))
