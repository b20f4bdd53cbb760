-- The inline axis of a block-level box in its containing block. CSS 2, 10.3.3, where left and right are the inline-start and inline-end sides.
use Rattle.std.specs.Prelude.{◌≡◌, true, List, Option, Some, None, unwrap_or, ℤ, pos, ◌+ℤ◌, ◌-ℤ◌, ◌≤ℤ◌, ◌<ℤ◌}
use Rattle.style_types.specs.declared.style.Style.{Style}
use Rattle.box_arena.specs.At.{Node}
use Rattle.relayout.specs.Edges.{inner_edges_along}
use Rattle.relayout.specs.Flow.{flow_step}
use Rattle.relayout.specs.Flowed.{Member}
use Rattle.relayout.specs.Inline.{Outside, end_margin, equation_of, fills, inline_place, start_margin}
use Rattle.relayout.specs.Sizes.{containing_of, hold, sizes_along}

abbrev or_zero : Option ℤ → ℤ
or_zero margin = unwrap_or margin (pos 0)

-- what the margins that aren't auto leave of the room beside a border box
abbrev pub left_in : (room : ℤ) → (start finish : Option ℤ) → ℤ
left_in room start finish = room -ℤ or_zero start -ℤ or_zero finish

-- margins that are given, or auto, in the room beside a border box, and what is used of them: start_used at inline-start, finish_used at
-- inline-end
pub record AreUsed (start finish : Option ℤ) (room start_used finish_used : ℤ) : Type 0 where
  -- the one at inline-start is used where it is given: where both are, the one at inline-end gives way
  pub start_given : (margin : ℤ) → start ≡ Some margin → start_used ≡ margin
  -- the one at inline-end is used where that at inline-start is auto and takes what is left
  pub finish_given : (margin : ℤ) → start ≡ None → finish ≡ Some margin → margin ≤ℤ room → finish_used ≡ margin
  -- two auto margins are equal, but for a unit that can't be halved
  pub both_auto : start ≡ None → finish ≡ None → pos 0 ≤ℤ room → (start_used ≤ℤ finish_used) × (finish_used ≤ℤ (start_used +ℤ pos 1))
  -- where too little is left, an auto margin at inline-start is 0
  pub none_left : left_in room start finish <ℤ pos 0 → start_used ≡ or_zero start
  -- where nothing is left, all are used as they are, auto ones as 0
  pub all_taken : left_in room start finish ≡ pos 0 → (start_used ≡ or_zero start) × (finish_used ≡ or_zero finish)

-- a border box of this inline size, from where its parent puts it to its containing block's inline-end edge
pub record FillsInline (parent style : Style) (inline extent : ℤ) : Type 0 where
  pub whole : inline_place (containing_of parent) inline style extent +ℤ extent +ℤ (equation_of (containing_of parent) style inline).end ≡ inline
  pub margins : AreUsed (start_margin (containing_of parent) style inline) (end_margin (containing_of parent) style inline) (inline -ℤ extent)
      (inline_place (containing_of parent) inline style extent) (equation_of (containing_of parent) style inline).end

-- a block-level box that goes along its containing block's lines, of which the inline size is known
abbrev pub FillsContainingBlock : Type 0
FillsContainingBlock = (outside : Outside) (parent : Style) (node : Node) (members : List Member) (inline : ℤ) (handed : Option ℤ) → fills (containing_of parent) node.style ≡ true
    → FillsInline parent node.style inline (flow_step outside (containing_of parent) node members (record { inline = Some inline; block = handed })).part.rect.inline

-- what is left for the content area between given margins, borders and paddings
abbrev pub between : (parent style : Style) → (inline : ℤ) → ℤ
between parent style inline =
    left_in (inline -ℤ inner_edges_along style (Some inline) parent.mode) (start_margin (containing_of parent) style inline) (end_margin (containing_of parent) style inline)

abbrev pub AutoFillsBetweenMargins : Type 0
AutoFillsBetweenMargins = (outside : Outside) (parent : Style) (node : Node) (members : List Member) (inline : ℤ) (handed : Option ℤ) → fills (containing_of parent) node.style ≡ true
    → let sizes = sizes_along parent.mode node.style (Some inline) in
    sizes.size ≡ None → hold sizes (between parent node.style inline) ≡ between parent node.style inline
    → (flow_step outside (containing_of parent) node members (record { inline = Some inline; block = handed })).part.rect.inline
    ≡ left_in inline (start_margin (containing_of parent) node.style inline) (end_margin (containing_of parent) node.style inline)
