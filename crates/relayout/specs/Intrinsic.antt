-- Intrinsic sizes: the min-content and max-content contributions of a box to its containing block's inline axis, and those sizes of its
-- content.
-- CSS 2, 10.3.5; CSS Writing Modes 4, 7.3.
use Rattle.std.specs.Prelude.{◌≡◌, ℕ, ⊤, List, map, fold, Option, Some, None, ℤ, pos}
use Rattle.std.specs.Int.{int_max}
use Rattle.wm_units.specs.Numbers.{cap_size}
use Rattle.wm_modes.specs.declared.mode.Direction.{Direction}
use Rattle.wm_modes.specs.declared.mode.Direction.TheVariants.{Ltr, Rtl}
use Rattle.wm_modes.specs.declared.mode.WritingMode.{WritingMode}
use Rattle.wm_modes.specs.declared.rects.FlowRect.{FlowRect}
use Rattle.face_api.specs.Table.{Table}
use Rattle.style_types.specs.declared.style.Style.{Style}
use Rattle.style_types.specs.declared.style.UnicodeBidi.{UnicodeBidi}
use Rattle.style_types.specs.declared.style.UnicodeBidi.TheVariants as bidis
use Rattle.fragment_types.specs.Fragment.{Kind, block, line, measure, run, span}
use Rattle.fragment_types.specs.Item.{Entry}
use Rattle.box_gen.specs.Tree.{Content, blocks, inline}
use Rattle.line_fill.specs.declared.item.Intrinsic.{Intrinsic}
use Rattle.ortho_flow.specs.Orthogonal as orthogonal
use Rattle.para_prepare.specs.Parts.{used_direction}
use Rattle.para_prepare.specs.Preparation.{Preparation, preparation}
use Rattle.para_lines.specs.Filling.{paragraph_sizes}
use Rattle.relayout.specs.Edges.{inner_edges_across, margins_along}
use Rattle.relayout.specs.Flowed.{Member}

-- the contribution of an orthogonal child with this content area to a containing block of this mode: its margin box, which its block size makes
abbrev pub orthogonal_contribution : WritingMode → Style → (content : FlowRect) → Intrinsic
orthogonal_contribution mode style content =
    let extent = orthogonal.contribution content.inline (inner_edges_across style None style.mode) (margins_along style None mode) in
    record { min = extent; max = extent }

-- a parallel child contributes as it was measured, an orthogonal one as it is laid out; there are no other children
abbrev pub contributed : WritingMode → Style → Kind → Intrinsic
contributed mode style (measure min max) = record { min = min; max = max }
contributed mode style (block own dir content definite start end_ through) = orthogonal_contribution mode style content
contributed mode style (line index base own baseline) = record { min = pos 0; max = pos 0 }
contributed mode style span = record { min = pos 0; max = pos 0 }
contributed mode style (run form level natural units) = record { min = pos 0; max = pos 0 }

-- the contribution of a child to a containing block of this mode, whose inline size isn't known
unfoldable pub contribution : WritingMode → (handed : Option ℤ) → Member → Intrinsic
contribution mode handed member =
    let part = (member.flow (record { inline = None; block = handed })).part in
    contributed mode member.style part.kind

abbrev pub level_of : Direction → ℕ
level_of Ltr = 0
level_of Rtl = 1

-- the base level of a paragraph in a block container; none where each of its bidi paragraphs has its own
abbrev pub base_by : UnicodeBidi → Direction → Option ℕ
base_by bidis.Plaintext dir = None
base_by _ dir = Some (level_of dir)

abbrev pub prepared : List (Option Table) → Style → List Entry → Preparation
prepared faces style entries = preparation faces (base_by style.bidi (used_direction style)) style entries

abbrev pub greater : Intrinsic → Intrinsic → Intrinsic
greater one other = record { min = int_max one.min other.min; max = int_max one.max other.max }

-- the greatest contributions of block-level children
abbrev pub greatest : List Intrinsic → Intrinsic
greatest contributions = fold greater (record { min = pos 0; max = pos 0 }) contributions

-- of a paragraph, by the widths of its pieces and the contributions of its inline-blocks
abbrev pub paragraph_content : List Entry → Preparation → List Intrinsic → Intrinsic
paragraph_content entries text contributions = paragraph_sizes entries text (map (λ a. a.min) contributions) (map (λ a. a.max) contributions)

abbrev pub together : List (Option Table) → Style → Content → List Intrinsic → Intrinsic
together faces style blocks contributions = greatest contributions
together faces style (inline entries) contributions = paragraph_content entries (prepared faces style entries) contributions

abbrev pub cap_both : Intrinsic → Intrinsic
cap_both sizes = record { min = cap_size sizes.min; max = cap_size sizes.max }

abbrev pub inner_by : List (Option Table) → Style → Content → List Intrinsic → Intrinsic
inner_by faces style content contributions = cap_both (together faces style content contributions)

-- the min-content and the max-content size of a box's content
unfoldable pub inner : List (Option Table) → Style → Content → (handed : Option ℤ) → List Member → Intrinsic
inner faces style content handed members = inner_by faces style content (map (contribution style.mode handed) members)

-- what is prepared of a paragraph that a box holds
abbrev pub IsTextOf : List (Option Table) → Style → Content → Option Preparation → Type 0
IsTextOf faces style blocks text = ⊤
IsTextOf faces style (inline entries) text = text ≡ Some (prepared faces style entries)
