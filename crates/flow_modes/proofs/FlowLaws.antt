-- What a box asks for, what it comes to, and the layout of a tree of boxes are in each way those of a horizontal flow, in that way.
use Rattle.std.proofs.Common.{◌≡◌, ◌∙◌, refl, sym, ap, Bool, true, false, ◌&&◌, not, List, [], ◌∷◌, map, Option, None, Some, is_none, unwrap_or, ℤ, pos, ◌+ℤ◌}
use Rattle.face_api.specs.Table.{Table}
use Rattle.wm_modes.specs.Mode.{is_horizontal}
use Rattle.wm_modes.specs.declared.sides.FlowSide.TheVariants.{BlockStart}
use Rattle.style_types.specs.declared.style.Style.{Style}
use Rattle.size_rules.specs.Limits.{fit}
use Rattle.fragment_types.specs.Fragment as fragments
use Rattle.fragment_types.specs.Fragment.{Kind, block, line, measure, run, span, piece}
use Rattle.fragment_types.specs.declared.constraint.Constraint.{Constraint}
use Rattle.block_flow.specs.Adjoining.{edges}
use Rattle.box_arena.specs.At.{Node}
use Rattle.box_gen.specs.Tree.{Boxes, Content, blocks, box, inline, none}
use Rattle.line_fill.specs.declared.item.Intrinsic.{Intrinsic}
use Rattle.ortho_flow.specs.Orthogonal as orthogonal
use Rattle.para_lines.specs.Filling.{paragraph_sizes}
use Rattle.para_prepare.specs.Preparation.{preparation}
use Rattle.page_turn.specs.Kinds.{kind_in, pieces_in}
use Rattle.relayout.specs.Boxed.{block_box, boxed, handed_on, measured}
use Rattle.relayout.specs.Content.{filled}
use Rattle.relayout.specs.Flow.{answered, asked, asked_by, flow_step, laid_out, laid_under, members, on_page, view_of}
use Rattle.relayout.specs.Flowed.{Laid, Member}
use Rattle.relayout.specs.Inline.{Outside, around, inline_size, known_by, known_or_shrunk, known_size, room, shrunk}
use Rattle.relayout.specs.Intrinsic.{base_by, cap_both, contributed, contribution, inner as inner_sizes, inner_by, together}
use Rattle.relayout.specs.Sizes.{containing_of, given, hold, hold_both, is_atom, sizes_along}
use Rattle.relayout.specs.Step.{under}
use Rattle.flow_modes.specs.Flow.{BoxesAlike, BoxesAskAlike, LayoutsAlike, member_in, node_in, outside_in}
use Rattle.flow_modes.specs.Sizes.{flowed_in, laid_in}
use Rattle.mode_ways.specs.Ways.{Way, across, down, left, right, boxes_in, content_in, entries_in, mode_of, plain, style_in}
use Rattle.flow_modes.proofs.ContentLaws.{based_same, block_box_same, boxed_same, contents_alike, handed_same, inline_place_same, inline_sizes_same, margin_side, measured_same}
use Rattle.flow_modes.proofs.ParagraphLaws.{paragraph_sizes_alike}
use Rattle.flow_modes.proofs.PreparedLaws.{preparations_alike}
use Rattle.flow_modes.proofs.SizeLaws.{along_same, equations_alike, inner_along_same, inner_over_same, margins_along_same, parallel_same}
use Rattle.ortho_flow.specs.Orthogonal.{available}

-- ---- contributions and intrinsic sizes

contributed_same : (way : Way) (style : Style) (kind : Kind) → contributed (mode_of way) (style_in way style) (kind_in (mode_of way) kind) ≡ contributed (mode_of plain) (style_in plain style) (kind_in (mode_of plain) kind)
contributed_same way style (measure min max) = refl
contributed_same way style (block mode dir content definite start end_ through) =
    λ i. record {
      min = orthogonal.contribution content.inline (inner_over_same way style None i) (margins_along_same way style None i);
      max = orthogonal.contribution content.inline (inner_over_same way style None i) (margins_along_same way style None i);
    }
contributed_same way style (line index base mode baseline) = refl
contributed_same way style span = refl
contributed_same way style (run form level natural units) = refl

contributions_same : (way : Way) (handed : Option ℤ) (children : List Member)
    → map (contribution (mode_of way) handed) (map (member_in way) children) ≡ map (contribution (mode_of plain) handed) (map (member_in plain) children)
unfolding contribution
contributions_same way handed [] = refl
contributions_same way handed (own ∷ children) =
    λ i. contributed_same way own.style (own.flow (record { inline = None; block = handed })).part.kind i ∷ contributions_same way handed children i

together_same : (way : Way) (faces : List (Option Table)) (style : Style) (content : Content) (sizes : List Intrinsic)
    → together faces (style_in way style) (content_in way content) sizes ≡ together faces (style_in plain style) (content_in plain content) sizes
together_same way faces style blocks sizes = refl
together_same way faces style (inline entries) sizes =
    let mins = map (λ (a : Intrinsic). a.min) sizes in
    let maxs = map (λ (a : Intrinsic). a.max) sizes in
    let given = base_by style.bidi style.direction in
    (λ i. paragraph_sizes (entries_in way entries) (based_same way style faces entries i) mins maxs)
    ∙ (λ i. paragraph_sizes (entries_in way entries) (preparations_alike faces given way style entries i) mins maxs)
    ∙ paragraph_sizes_alike way entries (preparation faces given (style_in plain style) (entries_in plain entries)) mins maxs

inner_same : (way : Way) (faces : List (Option Table)) (style : Style) (content : Content) (handed : Option ℤ) (children : List Member)
    → inner_sizes faces (style_in way style) (content_in way content) handed (map (member_in way) children)
    ≡ inner_sizes faces (style_in plain style) (content_in plain content) handed (map (member_in plain) children)
unfolding inner_sizes
inner_same way faces style content handed children =
    (λ i. inner_by faces (style_in way style) (content_in way content) (contributions_same way handed children i))
    ∙ (λ i. cap_both (together_same way faces style content (map (contribution (mode_of plain) handed) (map (member_in plain) children)) i))

asked_by_same : (way : Way) (outside : Outside) (node : Node) (sizes : _) (handed : Option ℤ) (children : List Member) (size : Option ℤ)
    → asked_by size sizes (outside_in way outside) (node_in way node) handed (map (member_in way) children) ≡ asked_by size sizes outside (node_in plain node) handed (map (member_in plain) children)
asked_by_same way outside node sizes handed children (Some size) = refl
asked_by_same way outside node sizes handed children None = ap (hold_both sizes) (inner_same way outside.faces node.style node.content handed children)

asked_same : (way : Way) (outside : Outside) (parent : Style) (node : Node) (c : Constraint) (children : List Member)
    → asked (outside_in way outside) (containing_of (style_in way parent)) (node_in way node) c (map (member_in way) children)
    ≡ asked outside (containing_of (style_in plain parent)) (node_in plain node) c (map (member_in plain) children)
unfolding asked
asked_same way outside parent node c children =
    let sizes = sizes_along (mode_of plain) (style_in plain node.style) None in
    (λ i. asked_by (given (along_same way node.style None i)) (along_same way node.style None i) (outside_in way outside) (node_in way node) (handed_same way parent node c i) (map (member_in way) children))
    ∙ asked_by_same way outside node sizes (handed_on (containing_of (style_in plain parent)) (node_in plain node) c) children (given sizes)

-- ---- the inline size

module _ (way : Way) (outside : Outside) (parent style : Style) (c : Constraint) where
  around_same : around (style_in way style) c ≡ around (style_in plain style) c
  around_same = λ i. inner_along_same way style c.inline i +ℤ margins_along_same way style c.inline i

  -- no box goes across the lines of its containing block, so the view leaves no room
  shrunk_same : (content : Intrinsic) → shrunk (outside_in way outside).view (containing_of (style_in way parent)) (style_in way style) c content ≡ shrunk outside.view (containing_of (style_in plain parent)) (style_in plain style) c content
  unfolding shrunk
  shrunk_same content =
      let rooms = (λ i. room (outside_in way outside).view (parallel_same way parent style i) c (mode_of way) (around (style_in way style) c))
      ∙ (λ i. available c.inline (pos 0) (around_same i)) in
      λ i. hold (inline_sizes_same way parent style c i) (fit content.min content.max (rooms i))

  known_by_same : (fills : Bool) → known_by fills (containing_of (style_in way parent)) (style_in way style) c ≡ known_by fills (containing_of (style_in plain parent)) (style_in plain style) c
  known_by_same true = λ i. Some (equations_alike way parent style (unwrap_or c.inline (pos 0)) i).size
  known_by_same false = λ i. given (inline_sizes_same way parent style c i)

  pub known_same : known_size (containing_of (style_in way parent)) (style_in way style) c ≡ known_size (containing_of (style_in plain parent)) (style_in plain style) c
  unfolding known_size
  known_same =
      let in_flow = not (is_atom style.display) in
      (λ i. known_by (parallel_same way parent style i && in_flow) (containing_of (style_in way parent)) (style_in way style) c) ∙ known_by_same in_flow

  known_or_shrunk_same : (content : Content) (handed : Option ℤ) (children : List Member) (known : Option ℤ)
      → known_or_shrunk known (outside_in way outside) (containing_of (style_in way parent)) (style_in way style) (content_in way content) c handed (map (member_in way) children)
      ≡ known_or_shrunk known outside (containing_of (style_in plain parent)) (style_in plain style) (content_in plain content) c handed (map (member_in plain) children)
  known_or_shrunk_same content handed children (Some size) = refl
  known_or_shrunk_same content handed children None =
      (λ i. shrunk (outside_in way outside).view (containing_of (style_in way parent)) (style_in way style) c (inner_same way outside.faces style content handed children i))
      ∙ shrunk_same (inner_sizes outside.faces (style_in plain style) (content_in plain content) handed (map (member_in plain) children))

  pub inline_size_same : (content : Content) (handed : Option ℤ) (children : List Member)
      → inline_size (outside_in way outside) (containing_of (style_in way parent)) (style_in way style) (content_in way content) c handed (map (member_in way) children)
      ≡ inline_size outside (containing_of (style_in plain parent)) (style_in plain style) (content_in plain content) c handed (map (member_in plain) children)
  unfolding inline_size
  inline_size_same content handed children =
      (λ i. known_or_shrunk (known_same i) (outside_in way outside) (containing_of (style_in way parent)) (style_in way style) (content_in way content) c handed (map (member_in way) children))
      ∙ known_or_shrunk_same content handed children (known_size (containing_of (style_in plain parent)) (style_in plain style) c)

pub boxes_ask_alike : BoxesAskAlike
boxes_ask_alike = record {
  handed = handed_same;
  intrinsic = asked_same;
  size = λ way outside parent style content c handed children. inline_size_same way outside parent style c content handed children;
}

-- ---- a box

laid_under_same : (way : Way) (c : Constraint) (children : List Member) → map (laid_under c) (map (member_in way) children) ≡ map (laid_in way) (map (laid_under c) children)
laid_under_same way c [] = refl
laid_under_same way c (own ∷ children) = ap (λ (others : List Laid). laid_in way (laid_under c own) ∷ others) (laid_under_same way c children)

module _ (way : Way) (outside : Outside) (parent : Style) (node : Node) (c : Constraint) (children : List Member) where
  laid_out_same : laid_out (outside_in way outside) (containing_of (style_in way parent)) (node_in way node) c (map (member_in way) children)
      ≡ flowed_in way (laid_out outside (containing_of (style_in plain parent)) (node_in plain node) c (map (member_in plain) children))
  unfolding laid_out
  laid_out_same =
      let style = node.style in
      let outer = containing_of (style_in way parent) in
      let flow = containing_of (style_in plain parent) in
      let handed = handed_on flow (node_in plain node) c in
      let size = inline_size outside flow (style_in plain style) (content_in plain node.content) c handed (map (member_in plain) children) in
      let joins = edges (block_box flow (style_in plain style) c false) in
      let within = under (Some size) handed in
      let filled_by = filled outside.faces node.name (style_in way style) joins size (content_in way node.content) in
      let filled_in_flow = filled outside.faces node.name (style_in plain style) joins size (content_in plain node.content) in
      let sizes = (λ i. inline_size (outside_in way outside) outer (style_in way style) (content_in way node.content) c (handed_same way parent node c i) (map (member_in way) children))
      ∙ inline_size_same way outside parent style c node.content handed children in
      (λ i. boxed outer (node_in way node) c (sizes i)
      (filled outside.faces node.name (style_in way style) (edges (block_box_same way parent style c false i)) (sizes i) (content_in way node.content)
      (map (laid_under (under (Some (sizes i)) (handed_same way parent node c i))) (map (member_in way) children))))
      ∙ ap (λ (laid : List Laid). boxed outer (node_in way node) c size (filled_by laid)) (laid_under_same way within children)
      ∙ ap (boxed outer (node_in way node) c size) (contents_alike way outside.faces node.name style joins size node.content (map (laid_under within) children))
      ∙ boxed_same way parent node c size (filled_in_flow (map (laid_in plain) (map (laid_under within) children)))
      ∙ ap (λ (laid : List Laid). flowed_in way (boxed flow (node_in plain node) c size (filled_in_flow laid))) (sym (laid_under_same plain within children))

  answered_same : (measures : Bool) → answered measures (outside_in way outside) (containing_of (style_in way parent)) (node_in way node) c (map (member_in way) children)
      ≡ flowed_in way (answered measures outside (containing_of (style_in plain parent)) (node_in plain node) c (map (member_in plain) children))
  answered_same true =
      ap (measured (containing_of (style_in way parent)) (node_in way node)) (asked_same way outside parent node c children)
      ∙ measured_same way parent node (asked outside (containing_of (style_in plain parent)) (node_in plain node) c (map (member_in plain) children))
  answered_same false = laid_out_same

pub boxes_alike : BoxesAlike
unfolding flow_step
boxes_alike way outside parent node children c =
    (λ i. answered (parallel_same way parent node.style i && is_none c.inline) (outside_in way outside) (containing_of (style_in way parent)) (node_in way node) c (map (member_in way) children))
    ∙ answered_same way outside parent node c children (is_none c.inline)

-- ---- trees of boxes

-- from what the boxes in a box come to, in the way and in the plain one
member_same : (way : Way) (outside : Outside) (parent : Style) (node : Node) (made own : List Member) → made ≡ map (member_in way) own → own ≡ map (member_in plain) own
    → (c : Constraint) → flow_step (outside_in way outside) (containing_of (style_in way parent)) (node_in way node) made c ≡ flowed_in way (flow_step outside (containing_of (style_in plain parent)) (node_in plain node) own c)
member_same way outside parent node made own same flow c =
    ap (λ (children : List Member). flow_step (outside_in way outside) (containing_of (style_in way parent)) (node_in way node) children c) same
    ∙ boxes_alike way outside parent node own c
    ∙ ap (λ (children : List Member). flowed_in way (flow_step outside (containing_of (style_in plain parent)) (node_in plain node) children c)) (sym flow)

pub members_same : (way : Way) (outside : Outside) (parent : Style) (boxes : Boxes)
    → members (outside_in way outside) (containing_of (style_in way parent)) (boxes_in way boxes) ≡ map (member_in way) (members outside (containing_of (style_in plain parent)) (boxes_in plain boxes))
unfolding boxes_in
members_same way outside parent none = refl
members_same way outside parent (box name style content inner next) =
    let node : Node = record { name = name; style = style; content = content } in
    λ i. record {
      style = style_in way style;
      flow = λ c. member_same way outside parent node _ _ (members_same way outside style inner) (members_same plain outside style inner) c i;
    } ∷ members_same way outside parent next i

pub page_same : (way : Way) (faces : List (Option Table)) (inline_size block_size : ℤ) → on_page (is_horizontal (mode_of way)) faces inline_size block_size ≡ outside_in way (on_page true faces inline_size block_size)
page_same (across orientation combine) faces inline_size block_size = refl
page_same down faces inline_size block_size = refl
page_same (right orientation combine) faces inline_size block_size = refl
page_same (left orientation combine) faces inline_size block_size = refl

view_same : (way : Way) (style : Style) (inline_size block_size : ℤ) (own : List Member)
    → view_of (style_in way style) inline_size block_size (map (member_in way) own) ≡ pieces_in (mode_of way) (view_of (style_in plain style) inline_size block_size own)
view_same way style inline_size block_size [] = refl
view_same way style inline_size block_size (root ∷ own) =
    let part = (root.flow (record { inline = Some inline_size; block = Some block_size })).part in
    λ i. piece part.name
    (record { i = inline_place_same way style style inline_size part.rect.inline i; b = margin_side way style (Some inline_size) BlockStart i; inline = part.rect.inline; block = part.rect.block })
    (kind_in (mode_of way) part.kind) (pieces_in (mode_of way) part.inner) fragments.none

pub layouts_alike : LayoutsAlike
unfolding boxes_in
layouts_alike faces inline_size block_size way none = refl
layouts_alike faces inline_size block_size way (box name style content inner next) =
    let root = box name style content inner none in
    let outside = on_page true faces inline_size block_size in
    (λ i. view_of (style_in way style) inline_size block_size (members (page_same way faces inline_size block_size i) (containing_of (style_in way style)) (boxes_in way root)))
    ∙ (λ i. view_of (style_in way style) inline_size block_size (members_same way outside style root i))
    ∙ view_same way style inline_size block_size (members outside (containing_of (style_in plain style)) (boxes_in plain root))
