-- How far what boxes come to reaches, whatever they are laid out under.
use Rattle.std.proofs.Common.{◌≡◌, refl, arith, ◌≤◌, ◌^◌, Bool, true, false, not, ◌&&◌, cond, List, [], ◌∷◌, ◌++◌, map, fold, Option, Some, None, unwrap_or, option_map, ℤ, pos, ◌+ℤ◌, ◌-ℤ◌, ◌≤ℤ◌, unsigned_abs}
use Rattle.std.specs.Prelude.{All, IfSome, is_none, if◌then◌else◌}
use Rattle.std.proofs.lemmas.Int.{clamps, ints}
use Rattle.std.proofs.lemmas.List.Elements.{All-append, All-cons, All-map, All-nil, All-tail}
use Rattle.face_api.specs.Table.{Table}
use Rattle.wm_units.specs.Numbers.{cap, cap_size, percent}
use Rattle.wm_modes.specs.declared.mode.WritingMode.{WritingMode}
use Rattle.wm_modes.specs.declared.sides.Side.{Side}
use Rattle.wm_modes.specs.declared.sides.Side.TheVariants.{Top, Right, Bottom, Left}
use Rattle.wm_modes.specs.Sides.{block_start, line_left, opposite, side_of}
use Rattle.margin_collapse.specs.Margins.{greatest, least}
use Rattle.fragment_types.specs.declared.constraint.Constraint.{Constraint}
use Rattle.fragment_types.specs.declared.item.BoxName.{BoxName}
use Rattle.style_types.specs.declared.style.SideSizes.{SideSizes}
use Rattle.style_types.specs.declared.style.SideWidths.{SideWidths}
use Rattle.style_types.specs.declared.style.Size.{Size}
use Rattle.style_types.specs.declared.style.Size.TheVariants as sizes
use Rattle.style_types.specs.declared.style.Style.{Style}
use Rattle.style_types.specs.Style.{AreBorders, IsBounded, IsLength, IsMargin, IsPadding, OnSides}
use Rattle.size_rules.specs.Equation as equation
use Rattle.size_rules.specs.Limits.{fit, held}
use Rattle.size_rules.specs.Resolving.{resolved_margin, resolved_or_zero}
use Rattle.block_flow.specs.declared.boxes.ParentEdges.{ParentEdges}
use Rattle.block_flow.specs.Adjoining.{edges, is_through}
use Rattle.block_flow.specs.Children.{Child}
use Rattle.block_flow.specs.Stacking.{Progress, adjoin, after, begin, handed, joined_margins, margins_of, place_in, stacked}
use Rattle.box_gen.specs.Tree.{Boxes, Content, blocks, box, inline as paragraph_of, none as no_boxes}
use Rattle.box_arena.specs.At.{Node}
use Rattle.line_fill.specs.declared.item.Intrinsic.{Intrinsic}
use Rattle.para_lines.specs.Edges.{size_on, width_on}
use Rattle.relayout.specs.declared.sizes.Containing.{Containing}
use Rattle.relayout.specs.declared.sizes.Sizes.{Sizes}
use Rattle.relayout.specs.Boxed.{block_box, block_size, border_across, border_along, border_box, boxed, content_area, edge_on, ends_with, handed_on, measured, near_block, near_inline, starts_with, turned}
use Rattle.relayout.specs.Content.{Filled, child_of, filled, paragraph, stack}
use Rattle.relayout.specs.Edges.{inner_edge, inner_edges_across, inner_edges_along, margin_or_zero, margins_along}
use Rattle.relayout.specs.Flow.{answered, asked, asked_by, flow_step, laid_out, laid_under, members}
use Rattle.relayout.specs.Flowed.{HasMargins, Laid, Member, pair_of}
use Rattle.relayout.specs.Inline.{Outside, around, end_margin, equation_of, inline_size, known_by, known_or_shrunk, known_size, room, shrunk, start_margin}
use Rattle.relayout.specs.Intrinsic.{inner}
use Rattle.relayout.specs.Near.{AreBounded, AreNearMargins, IsNearArea, IsNearFlowed, IsNearMember}
use Rattle.relayout.specs.Sizes.{block_sizes, containing_of, given, hold, inline_sizes, is_atom, is_parallel, sizes_along}

-- ---- edges

cap_near : (z : ℤ) → unsigned_abs (cap z) ≤ 2 ^ 32
cap_near z = omega (arith, ints, clamps)

resolved_near : (size : Size) (base : Option ℤ) → IsMargin size → unsigned_abs (resolved_or_zero size base) ≤ 2 ^ 32
resolved_near sizes.Auto base is = omega arith
resolved_near (sizes.Length length) base is = is
resolved_near (sizes.Percent hundredths) None is = omega arith
resolved_near (sizes.Percent hundredths) (Some base) is = cap_near (percent hundredths base)

margin_near_of : (size : Size) (base : Option ℤ) → IsMargin size → unsigned_abs (unwrap_or (resolved_margin size base) (pos 0)) ≤ 2 ^ 32
margin_near_of sizes.Auto base is = omega arith
margin_near_of (sizes.Length length) base is = is
margin_near_of (sizes.Percent hundredths) None is = omega arith
margin_near_of (sizes.Percent hundredths) (Some base) is = cap_near (percent hundredths base)

padding_is_margin : (size : Size) → IsPadding size → IsMargin size
padding_is_margin sizes.Auto is = absurd is
padding_is_margin (sizes.Length length) is = let low = is.0 in let high = is.1 in omega (arith, ints)
padding_is_margin (sizes.Percent hundredths) is = is.1

on_side : (P : Size → Type 0) (sides : SideSizes) (side : Side) → OnSides P sides → P (size_on sides side)
on_side P sides Top all = all.top
on_side P sides Right all = all.right
on_side P sides Bottom all = all.bottom
on_side P sides Left all = all.left

border_near : (border : SideWidths) (side : Side) → AreBorders border → unsigned_abs (width_on border side) ≤ 2 ^ 32
border_near border Top all = let low = all.top.0 in let high = all.top.1 in omega (arith, ints)
border_near border Right all = let low = all.right.0 in let high = all.right.1 in omega (arith, ints)
border_near border Bottom all = let low = all.bottom.0 in let high = all.bottom.1 in omega (arith, ints)
border_near border Left all = let low = all.left.0 in let high = all.left.1 in omega (arith, ints)

pub margin_near : (style : Style) (inline : Option ℤ) (side : Side) → IsBounded style → unsigned_abs (margin_or_zero style inline side) ≤ 2 ^ 32
margin_near style inline side bounded = margin_near_of (size_on style.margin side) inline (on_side IsMargin style.margin side bounded.margin)

edge_near : (style : Style) (inline : Option ℤ) (side : Side) → IsBounded style → unsigned_abs (inner_edge style inline side) ≤ 2 ^ 33
edge_near style inline side bounded =
    let b = border_near style.border side bounded.border in
    let p = resolved_near (size_on style.padding side) inline (padding_is_margin (size_on style.padding side) (on_side IsPadding style.padding side bounded.padding)) in
    omega (arith, ints)

pub along_near : (style : Style) (inline : Option ℤ) (mode : WritingMode) → IsBounded style → unsigned_abs (inner_edges_along style inline mode) ≤ 2 ^ 34
along_near style inline mode bounded =
    let a = edge_near style inline (line_left mode) bounded in let b = edge_near style inline (opposite (line_left mode)) bounded in omega (arith, ints)

across_near : (style : Style) (inline : Option ℤ) (mode : WritingMode) → IsBounded style → unsigned_abs (inner_edges_across style inline mode) ≤ 2 ^ 34
across_near style inline mode bounded =
    let a = edge_near style inline (block_start mode) bounded in let b = edge_near style inline (opposite (block_start mode)) bounded in omega (arith, ints)

margins_near : (style : Style) (inline : Option ℤ) (mode : WritingMode) → IsBounded style → unsigned_abs (margins_along style inline mode) ≤ 2 ^ 33
margins_near style inline mode bounded =
    let a = margin_near style inline (line_left mode) bounded in let b = margin_near style inline (opposite (line_left mode)) bounded in omega (arith, ints)

-- ---- sizes

size_low : (z : ℤ) → pos 0 ≤ℤ cap_size z
size_low z = omega (arith, ints, clamps)

size_high : (z : ℤ) → cap_size z ≤ℤ pos (2 ^ 32)
size_high z = omega (arith, ints, clamps)

size_near : (z : ℤ) → unsigned_abs (cap_size z) ≤ 2 ^ 32
size_near z = let low = size_low z in let high = size_high z in omega (arith, ints)

hold_near : (own : Sizes) (z : ℤ) → unsigned_abs (hold own z) ≤ 2 ^ 32
hold_near own z = size_near (held z own.min own.max)

given_near : (own : Sizes) (z : ℤ) → unsigned_abs (unwrap_or (given own) (hold own z)) ≤ 2 ^ 32
given_near own z = by own.size where
  by : (size : Option ℤ) → unsigned_abs (unwrap_or (option_map (hold own) size) (hold own z)) ≤ 2 ^ 32
  by None = size_near (held z own.min own.max)
  by (Some size) = size_near (held size own.min own.max)

pub equation_near : (containing : Containing) (style : Style) (inline : ℤ) → unsigned_abs (equation_of containing style inline).size ≤ 2 ^ 32
unfolding equation_of
equation_near containing style inline =
    let own = sizes_along containing.mode style (Some inline) in
    let room = inline -ℤ inner_edges_along style (Some inline) containing.mode in
    size_near (held (equation.asked room own.size (start_margin containing style inline) (end_margin containing style inline)) own.min own.max)

known_near : (fills : Bool) (containing : Containing) (style : Style) (c : Constraint) → IfSome (known_by fills containing style c) (λ z. unsigned_abs z ≤ 2 ^ 32)
known_near true containing style c = equation_near containing style (unwrap_or c.inline (pos 0))
known_near false containing style c = held_by (inline_sizes containing style c).size where
  own : Sizes
  own = inline_sizes containing style c

  held_by : (size : Option ℤ) → IfSome (option_map (hold own) size) (λ z. unsigned_abs z ≤ 2 ^ 32)
  held_by None = tt
  held_by (Some size) = hold_near own size

inline_size_near : (outside : Outside) (containing : Containing) (style : Style) (content : Content) (c : Constraint) (handed : Option ℤ) (ms : List Member)
    → unsigned_abs (inline_size outside containing style content c handed ms) ≤ 2 ^ 32
unfolding inline_size known_size shrunk
inline_size_near outside containing style content c handed ms = by _ (known_near (is_parallel containing style && not (is_atom style.display)) containing style c) where
  shrunk_near : unsigned_abs (shrunk outside.view containing style c (inner outside.faces style content handed ms)) ≤ 2 ^ 32
  shrunk_near =
      let sizes = inner outside.faces style content handed ms in
      hold_near (inline_sizes containing style c) (fit sizes.min sizes.max (room outside.view (is_parallel containing style) c style.mode (around style c)))

  by : (known : Option ℤ) → IfSome known (λ z. unsigned_abs z ≤ 2 ^ 32) → unsigned_abs (known_or_shrunk known outside containing style content c handed ms) ≤ 2 ^ 32
  by None near = shrunk_near
  by (Some size) near = near

-- ---- margins that adjoin

greatest_near : (margins : List ℤ) → All IsLength margins → unsigned_abs (greatest margins) ≤ 2 ^ 32
greatest_near [] near = omega arith
greatest_near (m ∷ margins) near = let first : IsLength m = near 0 m (omega arith) in let others = greatest_near margins (All-tail IsLength m margins near) in omega (arith, ints, clamps)

least_near : (margins : List ℤ) → All IsLength margins → unsigned_abs (least margins) ≤ 2 ^ 32
least_near [] near = omega arith
least_near (m ∷ margins) near = let first : IsLength m = near 0 m (omega arith) in let others = least_near margins (All-tail IsLength m margins near) in omega (arith, ints, clamps)

pair_near : (margins : List ℤ) → All IsLength margins → AreNearMargins (pair_of margins)
pair_near margins near = record { positive = greatest_near margins near; negative = least_near margins near }

no_margins : All IsLength []
no_margins = All-nil IsLength

-- the margins of a child
record IsNearChild (child : Child) : Type 0 where
  pub start : All IsLength child.start_margins
  pub end_ : All IsLength child.end_margins

record IsNearProgress (progress : Progress) : Type 0 where
  pub pending : All IsLength progress.pending
  pub start : All IsLength progress.start_margins

joined_near : (joined : Bool) (xs ys : List ℤ) → All IsLength xs → All IsLength ys → All IsLength (if joined then (xs ++ ys) else xs)
joined_near true xs ys a b = All-append IsLength xs ys a b
joined_near false xs ys a b = a

after_near : (progress : Progress) (child : Child) → IsNearProgress progress → IsNearChild child → IsNearProgress (after progress child)
after_near progress child p c = by child.through where
  joins : (margins : List ℤ) → All IsLength margins → All IsLength (joined_margins progress margins)
  joins margins near = joined_near progress.joined progress.start_margins margins p.start near

  by : (through : Bool) → IsNearProgress (if through then (adjoin progress (margins_of child)) else (record { y = place_in progress child +ℤ child.size; pending = child.end_margins; joined = false; start_margins = joined_margins progress child.start_margins }))
  by true = record { pending = All-append IsLength progress.pending (margins_of child) p.pending (All-append IsLength child.start_margins child.end_margins c.start c.end_); start = joins (margins_of child) (All-append IsLength child.start_margins child.end_margins c.start c.end_) }
  by false = record { pending = c.end_; start = joins child.start_margins c.start }

all_after_near : (children : List Child) (progress : Progress) → IsNearProgress progress → All IsNearChild children → IsNearProgress (fold after progress children)
all_after_near [] progress p near = p
all_after_near (child ∷ children) progress p near =
    all_after_near children (after progress child) (after_near progress child p (near 0 child (omega arith))) (All-tail IsNearChild child children near)

-- ---- what fills a box

record IsNearFilled (content : Filled) : Type 0 where
  pub starts : All IsLength content.starts
  pub ends : All IsLength content.ends

abbrev IsNearLaidOut : Laid → Type 0
IsNearLaidOut laid = IsNearFlowed laid.flowed

children_near_of : (laid : List Laid) → All IsNearLaidOut laid → All IsNearChild (map child_of laid)
children_near_of laid near = All-map IsNearChild child_of laid (λ k d lt. record { start = (near k d lt).starts; end_ = (near k d lt).ends })

handed_near : (joins : Bool) (progress : Progress) → IsNearProgress progress → All IsLength (handed joins progress)
handed_near true progress p = p.pending
handed_near false progress p = no_margins

filled_near : (tables : List (Option Table)) (name : BoxName) (style : Style) (joins : ParentEdges) (size : ℤ) (content : Content) (laid : List Laid)
    → All IsNearLaidOut laid → IsNearFilled (filled tables name style joins size content laid)
unfolding filled stack paragraph
filled_near tables name style joins size blocks laid near =
    let p = all_after_near (map child_of laid) (begin joins.start_joins) (record { pending = no_margins; start = no_margins }) (children_near_of laid near) in
    record { starts = p.start; ends = handed_near joins.end_joins (stacked joins.start_joins (map child_of laid)) p }
filled_near tables name style joins size (paragraph_of entries) laid near = record { starts = no_margins; ends = no_margins }

-- ---- boxes

turned_near : (parallel : Bool) (i b along across : ℤ) → unsigned_abs along ≤ 2 ^ 36 → unsigned_abs across ≤ 2 ^ 36
    → (unsigned_abs (turned parallel i b along across).inline ≤ 2 ^ 36) × (unsigned_abs (turned parallel i b along across).block ≤ 2 ^ 36)
turned_near true i b along across p q = (p, q)
turned_near false i b along across p q = (q, p)

turned_at : (parallel : Bool) (i b along across : ℤ) → ((turned parallel i b along across).i ≡ i) × ((turned parallel i b along across).b ≡ b)
turned_at true i b along across = (refl, refl)
turned_at false i b along across = (refl, refl)

area_near : (containing : Containing) (style : Style) (c : Constraint) (size extent : ℤ) → IsBounded style → unsigned_abs size ≤ 2 ^ 32 → unsigned_abs extent ≤ 2 ^ 32 → IsNearArea (content_area containing style c size extent)
unfolding content_area
area_near containing style c size extent bounded s e =
    let atom = is_atom style.display in
    let i = edge_on containing style c (near_inline atom) in
    let b = edge_on containing style c (near_block atom) in
    let near = turned_near (is_parallel containing style) i b size extent (omega arith) (omega arith) in
    let at = turned_at (is_parallel containing style) i b size extent in
    let first = edge_near style c.inline (side_of containing.mode containing.dir (near_inline atom)) bounded in
    let second = edge_near style c.inline (side_of containing.mode containing.dir (near_block atom)) bounded in
    record { i = rw at.0 (omega arith); b = rw at.1 (omega arith); inline = near.0; block = near.1 }

ends_near : (through : Bool) (ends : List ℤ) → All IsLength ends → All IsLength (cond through [] ends)
ends_near true ends near = no_margins
ends_near false ends near = near

boxed_near : (containing : Containing) (node : Node) (c : Constraint) (size : ℤ) (content : Filled) → IsBounded node.style → unsigned_abs size ≤ 2 ^ 32 → IsNearFilled content
    → IsNearFlowed (boxed containing node c size content)
unfolding boxed border_box
boxed_near containing node c size content bounded s near =
    let extent = block_size containing node.style c content.extent in
    let e : unsigned_abs extent ≤ 2 ^ 32 = given_near (block_sizes containing node.style c) content.extent in
    let along = along_near node.style c.inline node.style.mode bounded in
    let across = across_near node.style c.inline node.style.mode bounded in
    let through = is_through (block_box containing node.style c content.lines) content.through in
    let starts : All IsLength (starts_with containing node.style c content.starts) = All-cons IsLength _ content.starts (margin_near node.style c.inline (block_start containing.mode) bounded) near.starts in
    let ends : All IsLength (ends_with containing node.style c through content.ends) =
    All-cons IsLength _ (cond through [] content.ends) (margin_near node.style c.inline (opposite (block_start containing.mode)) bounded) (ends_near through content.ends near.ends) in
    let border = turned_near (is_parallel containing node.style) (pos 0) (pos 0) (border_along node.style c size) (border_across node.style c extent) (omega (arith, ints)) (omega (arith, ints)) in
    record {
      part = record { inline = border.0; block = border.1; kind = (area_near containing node.style c size extent bounded s e, pair_near (starts_with containing node.style c content.starts) starts, pair_near (ends_with containing node.style c through content.ends) ends) };
      starts = starts;
      ends = ends;
    }

measured_near : (containing : Containing) (node : Node) (asked : Intrinsic) → IsBounded node.style → unsigned_abs asked.min ≤ 2 ^ 32 → unsigned_abs asked.max ≤ 2 ^ 32 → IsNearFlowed (measured containing node asked)
unfolding measured
measured_near containing node asked bounded min max =
    let margins = margins_near node.style None containing.mode bounded in
    let edges = along_near node.style None containing.mode bounded in
    record {
      part = record { inline = omega arith; block = omega arith; kind = (omega (arith, ints), omega (arith, ints)) };
      starts = no_margins;
      ends = no_margins;
    }

asked_near : (size : Option ℤ) (own : Sizes) (outside : Outside) (node : Node) (handed : Option ℤ) (ms : List Member) → IfSome size (λ z. unsigned_abs z ≤ 2 ^ 32)
    → (unsigned_abs (asked_by size own outside node handed ms).min ≤ 2 ^ 32) × (unsigned_abs (asked_by size own outside node handed ms).max ≤ 2 ^ 32)
asked_near None own outside node handed ms near =
    let content = inner outside.faces node.style node.content handed ms in (hold_near own content.min, hold_near own content.max)
asked_near (Some size) own outside node handed ms near = (near, near)

-- ---- the recursion

all_laid_near : (c : Constraint) (ms : List Member) → All IsNearMember ms → All IsNearLaidOut (map (laid_under c) ms)
all_laid_near c ms near = All-map IsNearLaidOut (laid_under c) ms (λ k d lt. near k d lt c)

step_near : (outside : Outside) (containing : Containing) (node : Node) (ms : List Member) (c : Constraint) → IsBounded node.style → All IsNearMember ms → IsNearFlowed (flow_step outside containing node ms c)
unfolding flow_step asked laid_out
step_near outside containing node ms c bounded near = by (is_parallel containing node.style && is_none c.inline) where
  own : Sizes
  own = sizes_along containing.mode node.style None

  held_by : (size : Option ℤ) → IfSome (option_map (hold own) size) (λ z. unsigned_abs z ≤ 2 ^ 32)
  held_by None = tt
  held_by (Some size) = size_near (held size own.min own.max)

  asks : (unsigned_abs (asked outside containing node c ms).min ≤ 2 ^ 32) × (unsigned_abs (asked outside containing node c ms).max ≤ 2 ^ 32)
  asks = asked_near (given own) own outside node (handed_on containing node c) ms (held_by own.size)

  laid : IsNearFlowed (laid_out outside containing node c ms)
  laid =
      let handed = handed_on containing node c in
      let size = inline_size outside containing node.style node.content c handed ms in
      let under : Constraint = record { inline = Some size; block = handed } in
      let joins = edges (block_box containing node.style c false) in
      boxed_near containing node c size (filled outside.faces node.name node.style joins size node.content (map (laid_under under) ms)) bounded
      (inline_size_near outside containing node.style node.content c handed ms)
      (filled_near outside.faces node.name node.style joins size node.content (map (laid_under under) ms) (all_laid_near under ms near))

  by : (measures : Bool) → IsNearFlowed (answered measures outside containing node c ms)
  by true = measured_near containing node (asked outside containing node c ms) bounded asks.0 asks.1
  by false = laid

abbrev member_of : Outside → Containing → BoxName → Style → Content → (inner : Boxes) → Member
member_of outside containing name style content inner =
    record { style = style; flow = flow_step outside containing (record { name = name; style = style; content = content }) (members outside (containing_of style) inner) }

-- whatever boxes of bounded styles are laid out under, what they come to is near
pub flows_near : (outside : Outside) (containing : Containing) (boxes : Boxes) → AreBounded boxes → All IsNearMember (members outside containing boxes)
flows_near outside containing no_boxes bounded = All-nil IsNearMember
flows_near outside containing (box name style content inner next) bounded =
    let inside = flows_near outside (containing_of style) inner bounded.1 in
    All-cons IsNearMember (member_of outside containing name style content inner) (members outside containing next)
    (λ c. step_near outside containing (record { name = name; style = style; content = content }) (members outside (containing_of style) inner) c bounded.0 inside)
    (flows_near outside containing next bounded.2)

-- ---- margins of boxes

-- a box's kind tells the margins of its lists
pub boxed_margins : (containing : Containing) (node : Node) (c : Constraint) (size : ℤ) (content : Filled)
    → let made = boxed containing node c size content in HasMargins made.part.kind made.starts made.ends made.through
unfolding boxed
boxed_margins containing node c size content = (refl, refl, refl)

-- under an inline size that is known each box has been laid out
pub step_margins : (outside : Outside) (containing : Containing) (node : Node) (ms : List Member) (size : ℤ) (handed : Option ℤ)
    → let made = flow_step outside containing node ms (record { inline = Some size; block = handed }) in HasMargins made.part.kind made.starts made.ends made.through
unfolding flow_step laid_out
step_margins outside containing node ms size handed = by (is_parallel containing node.style) where
  c : Constraint
  c = record { inline = Some size; block = handed }

  by : (parallel : Bool) → let made = answered (parallel && false) outside containing node c ms in HasMargins made.part.kind made.starts made.ends made.through
  by true = boxed_margins containing node c _ _
  by false = boxed_margins containing node c _ _
