-- The flow of boxes hangs on no position and no inset.
use Rattle.std.proofs.Common.{◌≡◌, ◌∙◌, refl, ap, Bool, true, false, not, ◌&&◌, unwrap_or, List, [], ◌∷◌, map, Option, Some, None, ℤ, pos}
use Rattle.std.specs.Prelude.{is_none}
use Rattle.std.specs.List.{list_all}
use Rattle.std.proofs.lemmas.Simd.{map-map}
use Rattle.face_api.specs.Table.{Table}
use Rattle.wm_modes.specs.Mode.{is_horizontal}
use Rattle.wm_modes.specs.Sides.{block_start}
use Rattle.wm_modes.specs.declared.mode.WritingMode.{WritingMode}
use Rattle.fragment_types.specs.declared.constraint.Constraint.{Constraint}
use Rattle.fragment_types.specs.declared.item.BoxName.{BoxName}
use Rattle.fragment_types.specs.Fragment.{Kind, Pieces, block, line, measure, none, run, span}
use Rattle.fragment_types.specs.Item.{Entry}
use Rattle.style_types.specs.declared.style.Style.{Style}
use Rattle.block_flow.specs.declared.boxes.ParentEdges.{ParentEdges}
use Rattle.block_flow.specs.Adjoining.{edges, is_through}
use Rattle.block_flow.specs.Children.{Child}
use Rattle.block_flow.specs.Stacking.{extent, handed, places_of, stacked}
use Rattle.box_arena.specs.At.{Node}
use Rattle.box_gen.specs.Tree.{Boxes, Content, blocks, box, inline, none as no_boxes}
use Rattle.size_rules.specs.Definite.{definite_block}
use Rattle.size_rules.specs.Equation.{equation}
use Rattle.size_rules.specs.Limits.{fit}
use Rattle.size_rules.specs.Resolving.{resolved, resolved_or_zero}
use Rattle.line_fill.specs.declared.item.Intrinsic.{Intrinsic}
use Rattle.para_lines.specs.declared.paragraph.Container.{Container}
use Rattle.para_lines.specs.Lines.{paragraph_lines}
use Rattle.para_prepare.specs.Parts.{used_direction}
use Rattle.relayout.specs.Atoms.{atom_in}
use Rattle.relayout.specs.Boxed.{block_box, border_box, boxed, content_area, ends_with, handed_by, handed_on, measured, starts_with}
use Rattle.relayout.specs.Content.{Filled, are_some, block_extent, child_of, filled, paragraph, set_down, stack}
use Rattle.relayout.specs.Flow.{answered, asked, asked_by, flow_step, laid_out, laid_under, members, on_page, view_of}
use Rattle.relayout.specs.Edges.{inner_edges_along, margin_or_zero}
use Rattle.relayout.specs.Flowed.{Flowed, Laid, Member, at, pair_of}
use Rattle.relayout.specs.Inline.{Outside, around, end_margin, equation_of, fills, inline_place, inline_place_by, inline_size, known_by, known_or_shrunk, known_size, room, shrunk, start_margin}
use Rattle.relayout.specs.Intrinsic.{cap_both, contributed, contribution, inner, prepared, together}
use Rattle.relayout.specs.Sizes.{block_base, block_sizes, containing_of, declared_on, given, hold, hold_both, inline_base, inline_sizes, is_parallel, sizes_along}
use Rattle.flow_laws.specs.Static.{LayoutsAreOfStaticBoxes, as_static, static_boxes, static_content, static_item}
use Rattle.flow_laws.proofs.StaticLines.{same_paragraph_lines, same_paragraph_sizes, static_container}
use Rattle.flow_laws.proofs.StaticText.{same_preparation}

abbrev static_laid : Laid → Laid
static_laid laid = record laid { style = as_static laid.style }

abbrev static_member : Member → Member
static_member member = record member { style = as_static member.style }

abbrev static_node : Node → Node
static_node node = record { name = node.name; style = as_static node.style; content = static_content node.content }

same_prepared : (faces : List (Option Table)) (style : Style) (entries : List Entry) → prepared faces (as_static style) (map static_item entries) ≡ prepared faces style entries
same_prepared faces style entries = same_preparation faces _ style entries

-- ---- sizes

same_declared : (across : Bool) (style : Style) → declared_on across (as_static style) ≡ declared_on across style
same_declared true style = refl
same_declared false style = refl

same_sizes_along : (mode : WritingMode) (style : Style) (base : Option ℤ) → sizes_along mode (as_static style) base ≡ sizes_along mode style base
same_sizes_along mode style base =
    λ i. let declared = same_declared (is_horizontal mode) style i in
    record { size = resolved declared.size base; min = resolved_or_zero declared.min base; max = resolved declared.max base }

same_block_sizes : (parent style : Style) (c : Constraint) → block_sizes (containing_of parent) (as_static style) c ≡ block_sizes (containing_of parent) style c
same_block_sizes parent style c =
    λ i. let declared = same_declared (not (is_horizontal style.mode)) style i in
    let base = block_base (is_parallel (containing_of parent) style) c in
    record { size = definite_block declared.size base; min = resolved_or_zero declared.min base; max = resolved declared.max base }

same_inline_sizes : (parent style : Style) (c : Constraint) → inline_sizes (containing_of parent) (as_static style) c ≡ inline_sizes (containing_of parent) style c
same_inline_sizes parent style c = same_sizes_along style.mode style (inline_base (is_parallel (containing_of parent) style) c)

same_equation : (parent style : Style) (size : ℤ) → equation_of (containing_of parent) (as_static style) size ≡ equation_of (containing_of parent) style size
unfolding equation_of
same_equation parent style size =
    λ i. let sizes = same_sizes_along parent.mode style (Some size) i in
    equation size (inner_edges_along style (Some size) parent.mode) sizes.size sizes.min sizes.max
    (start_margin (containing_of parent) style size) (end_margin (containing_of parent) style size)

same_inline_place : (parent : Style) (size : ℤ) (style : Style) (own : ℤ)
    → inline_place (containing_of parent) size (as_static style) own ≡ inline_place (containing_of parent) size style own
unfolding inline_place
same_inline_place parent size style own = by (is_parallel (containing_of parent) style) where
  by : (parallel : Bool) → inline_place_by parallel (containing_of parent) size (as_static style) own ≡ inline_place_by parallel (containing_of parent) size style own
  by true = λ i. (same_equation parent style size i).start
  by false = refl

same_handed_on : (parent : Style) (node : Node) (c : Constraint) → handed_on (containing_of parent) (static_node node) c ≡ handed_on (containing_of parent) node c
unfolding handed_on
same_handed_on parent node c = λ i. handed_by node.name.ordinal c.block (given (same_block_sizes parent node.style c i))

same_block_box : (parent style : Style) (c : Constraint) (lines : Bool) → block_box (containing_of parent) (as_static style) c lines ≡ block_box (containing_of parent) style c lines
unfolding block_box
same_block_box parent style c lines =
    λ i. record (block_box (containing_of parent) style c lines) { size = given (same_block_sizes parent style c i); min = (same_block_sizes parent style c i).min }

same_known_by : (fills : Bool) (parent style : Style) (c : Constraint) → known_by fills (containing_of parent) (as_static style) c ≡ known_by fills (containing_of parent) style c
same_known_by true parent style c = λ i. Some (same_equation parent style (unwrap_or c.inline (pos 0)) i).size
same_known_by false parent style c = λ i. given (same_inline_sizes parent style c i)

same_known_size : (parent style : Style) (c : Constraint) → known_size (containing_of parent) (as_static style) c ≡ known_size (containing_of parent) style c
unfolding known_size
same_known_size parent style c = same_known_by (fills (containing_of parent) style) parent style c

same_shrunk : (outside : Outside) (parent style : Style) (c : Constraint) (asks : Intrinsic)
    → shrunk outside.view (containing_of parent) (as_static style) c asks ≡ shrunk outside.view (containing_of parent) style c asks
unfolding shrunk
same_shrunk outside parent style c asks =
    λ i. hold (same_inline_sizes parent style c i) (fit asks.min asks.max (room outside.view (is_parallel (containing_of parent) style) c style.mode (around style c)))

-- ---- the content of a box

same_children : (laid : List Laid) → map child_of (map static_laid laid) ≡ map child_of laid
same_children laid = map-map child_of static_laid laid

same_set_down : (own : Style) (size : ℤ) (laid : List Laid) (places : List ℤ) → set_down (containing_of own) size (map static_laid laid) places ≡ set_down (containing_of own) size laid places
same_set_down own size [] places = refl
same_set_down own size (l ∷ laid) [] = refl
same_set_down own size (l ∷ laid) (place ∷ places) = λ i. at (same_inline_place own size l.style l.flowed.part.rect.inline i) place l.flowed.part (same_set_down own size laid places i)

-- what children come to that are put down so
abbrev stacked_by : ParentEdges → List Child → Pieces → Filled
stacked_by joins children parts =
    let end_ = stacked joins.start_joins children in
    record {
      parts = parts;
      extent = extent joins.end_joins end_;
      starts = end_.start_margins;
      ends = handed joins.end_joins end_;
      lines = false;
      through = list_all (λ child. child.through) children;
    }

same_stack : (own : Style) (joins : ParentEdges) (size : ℤ) (laid : List Laid) → stack (containing_of own) joins size (map static_laid laid) ≡ stack (containing_of own) joins size laid
unfolding stack
same_stack own joins size laid =
    λ i. stacked_by joins (same_children laid i) (same_set_down own size laid (places_of joins.start_joins (same_children laid i)) i)

same_atoms : (style : Style) (size : ℤ) (laid : List Laid) → map (atom_in (as_static style) size) (map static_laid laid) ≡ map (atom_in style size) laid
same_atoms style size laid = map-map (atom_in (as_static style) size) static_laid laid

same_paragraph : (faces : List (Option Table)) (name : BoxName) (style : Style) (size : ℤ) (entries : List Entry) (laid : List Laid)
    → paragraph faces name (as_static style) size (map static_item entries) (map static_laid laid) ≡ paragraph faces name style size entries laid
unfolding paragraph
same_paragraph faces name style size entries laid =
    let container : Container = record { name = name; style = style; size = size } in
    let same : paragraph_lines faces (static_container container) (map static_item entries) (prepared faces (as_static style) (map static_item entries)) (map (atom_in (as_static style) size) (map static_laid laid))
    ≡ paragraph_lines faces container entries (prepared faces style entries) (map (atom_in style size) laid) =
    λ i. same_paragraph_lines faces container entries (same_prepared faces style entries i) (same_atoms style size laid i) i in
    λ i. record { parts = same i; extent = block_extent (same i); starts = []; ends = []; lines = are_some (same i); through = true }

same_filled : (faces : List (Option Table)) (name : BoxName) (style : Style) (joins : ParentEdges) (size : ℤ) (content : Content) (laid : List Laid)
    → filled faces name (as_static style) joins size (static_content content) (map static_laid laid) ≡ filled faces name style joins size content laid
unfolding filled
same_filled faces name style joins size blocks laid = same_stack style joins size laid
same_filled faces name style joins size (inline entries) laid = same_paragraph faces name style size entries laid

-- ---- the sizes of a box

same_together : (faces : List (Option Table)) (style : Style) (content : Content) (contributions : List Intrinsic)
    → together faces (as_static style) (static_content content) contributions ≡ together faces style content contributions
same_together faces style blocks contributions = refl
same_together faces style (inline entries) contributions =
    λ i. same_paragraph_sizes entries (same_prepared faces style entries i) (map (λ a. a.min) contributions) (map (λ a. a.max) contributions) i

same_contributed : (mode : WritingMode) (style : Style) (kind : Kind) → contributed mode (as_static style) kind ≡ contributed mode style kind
same_contributed mode style (measure min max) = refl
same_contributed mode style (block own dir content definite start end_ through) = refl
same_contributed mode style (line index base own baseline) = refl
same_contributed mode style span = refl
same_contributed mode style (run form level natural units) = refl

same_contributions : (mode : WritingMode) (handed : Option ℤ) (ms : List Member) → map (contribution mode handed) (map static_member ms) ≡ map (contribution mode handed) ms
unfolding contribution
same_contributions mode handed [] = refl
same_contributions mode handed (m ∷ ms) =
    λ i. same_contributed mode m.style (m.flow (record { inline = None; block = handed })).part.kind i ∷ same_contributions mode handed ms i

same_inner : (faces : List (Option Table)) (style : Style) (content : Content) (handed : Option ℤ) (ms : List Member)
    → inner faces (as_static style) (static_content content) handed (map static_member ms) ≡ inner faces style content handed ms
unfolding inner
same_inner faces style content handed ms = λ i. cap_both (same_together faces style content (same_contributions style.mode handed ms i) i)

same_known : (known : Option ℤ) (outside : Outside) (parent style : Style) (content : Content) (c : Constraint) (handed : Option ℤ) (ms : List Member)
    → known_or_shrunk known outside (containing_of parent) (as_static style) (static_content content) c handed (map static_member ms)
    ≡ known_or_shrunk known outside (containing_of parent) style content c handed ms
same_known (Some size) outside parent style content c handed ms = refl
same_known None outside parent style content c handed ms = λ i. same_shrunk outside parent style c (same_inner outside.faces style content handed ms i) i

same_inline_size : (outside : Outside) (parent style : Style) (content : Content) (c : Constraint) (handed : Option ℤ) (ms : List Member)
    → inline_size outside (containing_of parent) (as_static style) (static_content content) c handed (map static_member ms) ≡ inline_size outside (containing_of parent) style content c handed ms
unfolding inline_size
same_inline_size outside parent style content c handed ms = λ i. same_known (same_known_size parent style c i) outside parent style content c handed ms i

same_asked_by : (size : Option ℤ) (mode : WritingMode) (outside : Outside) (node : Node) (handed : Option ℤ) (ms : List Member)
    → asked_by size (sizes_along mode node.style None) outside (static_node node) handed (map static_member ms) ≡ asked_by size (sizes_along mode node.style None) outside node handed ms
same_asked_by (Some size) mode outside node handed ms = refl
same_asked_by None mode outside node handed ms = ap (hold_both (sizes_along mode node.style None)) (same_inner outside.faces node.style node.content handed ms)

same_asked : (outside : Outside) (parent : Style) (node : Node) (c : Constraint) (ms : List Member)
    → asked outside (containing_of parent) (static_node node) c (map static_member ms) ≡ asked outside (containing_of parent) node c ms
unfolding asked
same_asked outside parent node c ms =
    (λ i. let sizes = same_sizes_along parent.mode node.style None i in asked_by (given sizes) sizes outside (static_node node) (same_handed_on parent node c i) (map static_member ms))
    ∙ same_asked_by (given (sizes_along parent.mode node.style None)) parent.mode outside node (handed_on (containing_of parent) node c) ms

-- ---- a box, and the recursion

-- a box of this block size and with these margins
abbrev boxed_by : (parent : Style) → Node → Constraint → (size : ℤ) → Filled → (extent : ℤ) → (through : Bool) → (handed : Option ℤ) → Flowed
boxed_by parent node c size content extent through handed =
    let starts = starts_with (containing_of parent) node.style c content.starts in
    let ends = ends_with (containing_of parent) node.style c through content.ends in
    record {
      part = record {
        name = node.name;
        rect = border_box (containing_of parent) node.style c size extent;
        kind = block node.style.mode (used_direction node.style) (content_area (containing_of parent) node.style c size extent) handed (pair_of starts) (pair_of ends) through;
        inner = content.parts;
      };
      starts = starts;
      ends = ends;
      through = through;
    }

same_boxed : (parent : Style) (node : Node) (c : Constraint) (size : ℤ) (content : Filled) → boxed (containing_of parent) (static_node node) c size content ≡ boxed (containing_of parent) node c size content
unfolding boxed border_box content_area
same_boxed parent node c size content =
    λ i. let sizes = same_block_sizes parent node.style c i in
    boxed_by parent node c size content (unwrap_or (given sizes) (hold sizes content.extent))
    (is_through (same_block_box parent node.style c content.lines i) content.through) (same_handed_on parent node c i)

same_laid : (c : Constraint) (ms : List Member) → map (laid_under c) (map static_member ms) ≡ map static_laid (map (laid_under c) ms)
same_laid c [] = refl
same_laid c (m ∷ ms) = ap (λ (laid : List Laid). static_laid (laid_under c m) ∷ laid) (same_laid c ms)

same_inside : (faces : List (Option Table)) (name : BoxName) (style : Style) (joins : ParentEdges) (size : ℤ) (content : Content) (c : Constraint) (ms : List Member)
    → filled faces name (as_static style) joins size (static_content content) (map (laid_under c) (map static_member ms)) ≡ filled faces name style joins size content (map (laid_under c) ms)
same_inside faces name style joins size content c ms =
    ap (filled faces name (as_static style) joins size (static_content content)) (same_laid c ms) ∙ same_filled faces name style joins size content (map (laid_under c) ms)

same_laid_out : (outside : Outside) (parent : Style) (node : Node) (c : Constraint) (ms : List Member)
    → laid_out outside (containing_of parent) (static_node node) c (map static_member ms) ≡ laid_out outside (containing_of parent) node c ms
unfolding laid_out
same_laid_out outside parent node c ms =
    λ i. let handed = same_handed_on parent node c i in
    let size = same_inline_size outside parent node.style node.content c handed ms i in
    same_boxed parent node c size
    (same_inside outside.faces node.name node.style (edges (same_block_box parent node.style c false i)) size node.content (record { inline = Some size; block = handed }) ms i) i

same_step : (outside : Outside) (parent : Style) (node : Node) (ms : List Member) (c : Constraint)
    → flow_step outside (containing_of parent) (static_node node) (map static_member ms) c ≡ flow_step outside (containing_of parent) node ms c
unfolding flow_step measured
same_step outside parent node ms c = by (is_parallel (containing_of parent) node.style && is_none c.inline) where
  by : (measures : Bool) → answered measures outside (containing_of parent) (static_node node) c (map static_member ms) ≡ answered measures outside (containing_of parent) node c ms
  by true = ap (measured (containing_of parent) node) (same_asked outside parent node c ms)
  by false = same_laid_out outside parent node c ms

static_members : (outside : Outside) (parent : Style) (boxes : Boxes) → members outside (containing_of parent) (static_boxes boxes) ≡ map static_member (members outside (containing_of parent) boxes)
unfolding static_boxes
static_members outside parent no_boxes = refl
static_members outside parent (box name style content inner next) =
    let node : Node = record { name = name; style = style; content = content } in
    let ms = members outside (containing_of style) inner in
    let flows : flow_step outside (containing_of parent) (static_node node) (members outside (containing_of style) (static_boxes inner)) ≡ flow_step outside (containing_of parent) node ms =
    ap (flow_step outside (containing_of parent) (static_node node)) (static_members outside style inner) ∙ (λ i. λ c. same_step outside parent node ms c i) in
    λ i. (record { style = as_static style; flow = flows i }) ∷ static_members outside parent next i

same_view : (style : Style) (across down : ℤ) (ms : List Member) → view_of (as_static style) across down (map static_member ms) ≡ view_of style across down ms
same_view style across down [] = refl
same_view style across down (m ∷ ms) =
    let part = (laid_under (record { inline = Some across; block = Some down }) m).flowed.part in
    λ i. at (same_inline_place style across style part.rect.inline i) (margin_or_zero style (Some across) (block_start style.mode)) part none

pub layouts_are_of_static_boxes : LayoutsAreOfStaticBoxes
unfolding static_boxes
layouts_are_of_static_boxes faces inline_size block_size no_boxes = refl
layouts_are_of_static_boxes faces inline_size block_size (box name style content inner next) =
    let page = on_page (is_horizontal style.mode) faces inline_size block_size in
    ap (view_of (as_static style) inline_size block_size) (static_members page style (box name style content inner no_boxes))
    ∙ same_view style inline_size block_size (members page (containing_of style) (box name style content inner no_boxes))
