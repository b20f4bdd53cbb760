-- The layout of boxes asks in each way for the same boxes under the same constraints, and for the same texts.
use Rattle.std.proofs.Common.{◌≡◌, ◌∙◌, refl, sym, ap, Bool, true, false, ◌&&◌, List, ◌∷◌, ◌++◌, Option, None, Some, is_none}
use Rattle.face_api.specs.Table.{Table}
use Rattle.wm_units.specs.declared.view.View.{View}
use Rattle.style_types.specs.declared.style.Style.{Style}
use Rattle.fragment_types.specs.declared.constraint.Constraint.{Constraint}
use Rattle.box_arena.specs.At.{Node}
use Rattle.box_gen.specs.Places.{paragraphs}
use Rattle.box_gen.specs.Tree.{Boxes, blocks, box, inline, none}
use Rattle.relayout.specs.Asks.{asks, contributes_by, contributes_under, each_once, met, put_by, put_under, those_under}
use Rattle.relayout.specs.Boxed.{handed_on}
use Rattle.relayout.specs.Flow.{members, on_page}
use Rattle.relayout.specs.Inline.{Outside, inline_size}
use Rattle.relayout.specs.Sizes.{containing_of, given}
use Rattle.relayout.specs.Step.{definite_under, under}
use Rattle.flow_modes.specs.Asks.{AsksAlike}
use Rattle.flow_modes.specs.Flow.{node_in, outside_in}
use Rattle.mode_ways.specs.Ways.{Way, boxes_in, content_in, plain, style_in}
use Rattle.flow_modes.proofs.ContentLaws.{handed_same}
use Rattle.flow_modes.proofs.FlowLaws.{inline_size_same, known_same, members_same, page_same}
use Rattle.flow_modes.proofs.SizeLaws.{along_same, parallel_same}

module _ (way : Way) (outside : Outside) (parent : Style) (node : Node) (c : Constraint) where
  -- ---- for contributions

  definite_by_same : (measures : Bool) → definite_under measures (containing_of (style_in way parent)) (style_in way node.style) c ≡ definite_under measures (containing_of (style_in plain parent)) (style_in plain node.style) c
  definite_by_same true = λ i. given (along_same way node.style None i)
  definite_by_same false = known_same way outside parent node.style c

  contributes_same : contributes_under (containing_of (style_in way parent)) (node_in way node) c ≡ contributes_under (containing_of (style_in plain parent)) (node_in plain node) c
  contributes_same =
      let sizes = (λ i. definite_under (parallel_same way parent node.style i && is_none c.inline) (containing_of (style_in way parent)) (style_in way node.style) c)
      ∙ definite_by_same (is_none c.inline) in
      λ i. contributes_by (sizes i) (handed_same way parent node c i)

  -- ---- in the box

  put_by_same : (inner : Boxes) (measures : Bool)
      → put_by measures (outside_in way outside) (containing_of (style_in way parent)) (node_in way node) c (boxes_in way inner) ≡ put_by measures outside (containing_of (style_in plain parent)) (node_in plain node) c (boxes_in plain inner)
  put_by_same inner true = refl
  put_by_same inner false =
      let outer = containing_of (style_in way parent) in
      let flow = containing_of (style_in plain parent) in
      let style = node.style in
      let content = node.content in
      let handed = handed_on flow (node_in plain node) c in
      let own = members outside (containing_of (style_in plain style)) (boxes_in plain inner) in
      let sizes = (λ i. inline_size (outside_in way outside) outer (style_in way style) (content_in way content) c (handed_same way parent node c i) (members_same way outside style inner i))
      ∙ inline_size_same way outside parent style c content handed own
      ∙ ap (inline_size outside flow (style_in plain style) (content_in plain content) c handed) (sym (members_same plain outside style inner)) in
      λ i. Some (under (Some (sizes i)) (handed_same way parent node c i))

  put_same : (inner : Boxes) → put_under (outside_in way outside) (containing_of (style_in way parent)) (node_in way node) c (boxes_in way inner) ≡ put_under outside (containing_of (style_in plain parent)) (node_in plain node) c (boxes_in plain inner)
  put_same inner =
      (λ i. put_by (parallel_same way parent node.style i && is_none c.inline) (outside_in way outside) (containing_of (style_in way parent)) (node_in way node) c (boxes_in way inner))
      ∙ put_by_same inner (is_none c.inline)

met_same : (way : Way) (outside : Outside) (parent : Style) (boxes : Boxes) (c : Constraint)
    → met (outside_in way outside) (containing_of (style_in way parent)) (boxes_in way boxes) c ≡ met outside (containing_of (style_in plain parent)) (boxes_in plain boxes) c
unfolding boxes_in
met_same way outside parent none c = refl
met_same way outside parent (box name style content inner next) c =
    let node : Node = record { name = name; style = style; content = content } in
    λ i. record { name = name; constraint = c }
    ∷ (those_under (contributes_same way outside parent node c i) (λ within. met_same way outside style inner within i)
    ++ (those_under (put_same way outside parent node c inner i) (λ within. met_same way outside style inner within i)
    ++ met_same way outside parent next c i))

pairs_same : (faces : List (Option Table)) (view : View) (way : Way) (boxes : Boxes) → asks faces view (boxes_in way boxes) ≡ asks faces view (boxes_in plain boxes)
unfolding boxes_in
pairs_same faces view way none = refl
pairs_same faces view way (box name style content inner next) =
    let root = box name style content inner none in
    let whole = under (Some view.inline) (Some view.block) in
    (λ i. each_once (met (page_same way faces view.inline view.block i) (containing_of (style_in way style)) (boxes_in way root) whole))
    ∙ (λ i. each_once (met_same way (on_page true faces view.inline view.block) style root whole i))

texts_same : (way : Way) (boxes : Boxes) → paragraphs (boxes_in way boxes) ≡ paragraphs boxes
unfolding boxes_in
texts_same way none = refl
texts_same way (box name style blocks inner next) = λ i. texts_same way inner i ++ texts_same way next i
texts_same way (box name style (inline items) inner next) = λ i. name ∷ (texts_same way inner i ++ texts_same way next i)

pub asks_alike : AsksAlike
asks_alike = record { pairs = pairs_same; texts = texts_same }
