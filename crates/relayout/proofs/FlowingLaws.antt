-- The boxes of a row, laid out one by one.
use Rattle.std.proofs.Common.{◌≡◌, ◌∙◌, refl, sym, ap, subst, arith, ℕ, ◌+◌, ◌*◌, ◌-◌, ◌≤◌, ◌^◌, Bool, true, false, List, [], ◌∷◌, ◌++◌, length, map, Option, Some, None, ℤ, pos}
use Rattle.std.specs.Prelude.{All, IsSome, option_copied}
use Rattle.std.proofs.lemmas.List.Elements.{All-nil}
use Rattle.std.proofs.lemmas.Option.{none-some, same_Some}
use Rattle.fragment_types.specs.declared.constraint.Constraint.{Constraint}
use Rattle.fragment_types.specs.declared.item.BoxName.{BoxName}
use Rattle.style_types.specs.declared.style.Style.{Style}
use Rattle.fragment_types.specs.Fragment.{Pieces, none, piece, piece_of}
use Rattle.line_place.specs.Spread.{spread}
use Rattle.line_place.proofs.Fragments.{as_piece}
use Rattle.box_arena.specs.Arena.{Keeps, KeepsText}
use Rattle.box_arena.specs.At.{Node, Slots, first_at, kept_at, links_at, next_at, node_at, node_of, text_at}
use Rattle.box_arena.specs.Boxes.{StandFrom}
use Rattle.box_arena.specs.Links.{IsLinked, first_of, next_of}
use Rattle.box_gen.specs.Tree.{Boxes, Content, blocks, box, inline, none as no_boxes, count, height, siblings}
use Rattle.para_prepare.specs.Preparation.{Preparation}
use Rattle.relayout.specs.declared.flowed.LaidBox.{LaidBox}
use Rattle.relayout.specs.declared.flowing.Begun.{Begun}
use Rattle.relayout.specs.declared.flowing.SizedBox.{SizedBox}
use Rattle.relayout.specs.declared.row.Row.{Row}
use Rattle.relayout.specs.declared.row.RowBox.{RowBox}
use Rattle.relayout.specs.declared.sizes.Containing.{Containing}
use Rattle.relayout.specs.declared.flow_box.FlowBox.{FlowBox}
use Rattle.relayout.specs.declared.sizing.InlineSize.{InlineSize}
use Rattle.relayout.specs.declared.sizing.InlineSize.TheVariants.{MinMax, Used}
use Rattle.relayout.specs.declared.sizing.Sizing.{Sizing}
use Rattle.relayout.specs.Boxed.{block_size, border_across, border_along, border_box, boxed, handed_on, measured, turned}
use Rattle.relayout.specs.Content.{Filled}
use Rattle.relayout.specs.Fit.{AreFit, heaviest, reach_of, room_in, weight}
use Rattle.relayout.specs.Flow.{flow_step, laid_under, members}
use Rattle.relayout.specs.Flowed.{AreLaid, Flowed, Laid, Member, Part, at, part_of}
use Rattle.relayout.specs.Flowing.{CanFlow, CanFlowBox, IsBegun, IsSeen, IsSized}
use Rattle.relayout.specs.Inline.{Outside}
use Rattle.relayout.specs.Intrinsic.{IsTextOf}
use Rattle.relayout.specs.Kept.{AreRight, IsResultAt, IsResultOf, containing_at, inside as inside_of, result_of}
use Rattle.relayout.specs.Near.{HasReach, IsNearLaid}
use Rattle.relayout.specs.Paragraph.{HasAtoms, HasText, IsParagraphIn, IsReadyFor, IsReadyIn}
use Rattle.relayout.specs.Reach.{IsBase, IsBounded, IsPageView}
use Rattle.relayout.specs.Row.{AreFlowed, HasBox, HasRow, IsBoxAt, IsFlowed, IsFlowedAt, IsSteady, Lead, StandsIn, box_in, row_in}
use Rattle.relayout.specs.Sizes.{containing_of, is_parallel}
use Rattle.relayout.specs.Step.{AreInside, AreUnder, HasChildren, IsInlineSize, box_by, contributing, inline_size_of, laid_inside, sizing_of, under, used_in}
use Rattle.relayout.proofs.KeptLaws.{same_containing}
use Rattle.relayout.proofs.RowLaws.{Arena, few_siblings, inside_first, inside_next, inside_on, lead_count, lead_laid, lead_more, lead_near, lead_reach, lead_under, some_of, stands_on, steady_itself, steady_kept, steady_text, steady_then, stood_from}
use Rattle.relayout.proofs.StepLaws.{step_is}

-- ---- the text of a paragraph

-- what is kept for a box is right: its text has what every such text has
pub ready_in : (outside : Outside) (slots : Slots Preparation) (key : ℕ) (node : Node) → AreRight outside slots → node_at slots key ≡ Some node → IsParagraphIn node.content → (text : Option Preparation) → text_at slots key ≡ text
    → IsReadyIn node.content text
ready_in outside slots key node right is paragraph None at = by node.content paragraph where
  by : (content : Content) → IsParagraphIn content → IsReadyIn content None
  by blocks paragraph = tt
  by (inline entries) paragraph = (paragraph, tt)
ready_in outside slots key node right is paragraph (Some text) at = by node.content ((right key).text text at node is).ready paragraph where
  by : (content : Content) → IsReadyFor content text → IsParagraphIn content → IsReadyIn content (Some text)
  by blocks ready paragraph = tt
  by (inline entries) ready paragraph = (paragraph, ready)

-- and it is the paragraph's, where it is there
text_in : (outside : Outside) (slots : Slots Preparation) (key : ℕ) (node : Node) → AreRight outside slots → node_at slots key ≡ Some node → (text : Option Preparation) → text_at slots key ≡ text → HasText node.content text
    → IsTextOf outside.faces node.style node.content text
text_in outside slots key node right is None at has = by node.content has where
  by : (content : Content) → HasText content None → IsTextOf outside.faces node.style content None
  by blocks has = tt
  by (inline entries) has = absurd (cc)
text_in outside slots key node right is (Some text) at has = ((right key).text text at node is).value

-- it stays
text_on : (outside : Outside) (old new : Arena) (key : ℕ) (node : Node) → IsSteady outside old new → node_at new.slots key ≡ Some node → IsTextOf outside.faces node.style node.content (text_at old.slots key)
    → IsTextOf outside.faces node.style node.content (text_at new.slots key)
text_on outside old new key node steady is text = text_in outside new.slots key node steady.right is (text_at new.slots key) refl (by node.content text) where
  by : (content : Content) → IsTextOf outside.faces node.style content (text_at old.slots key) → HasText content (text_at new.slots key)
  by blocks text = tt
  by (inline entries) text = steady.texts key (some_of _ (text_at old.slots key) text refl)

-- ---- where the same boxes stand

abbrev pub box_on : (outside : Outside) (old new : Arena) (own : RowBox) → IsSteady outside old new → HasBox old.slots own → HasBox new.slots own
box_on outside old new own steady has =
    let P : Option ℕ → Type 0 = λ o. StandFrom new.slots o has.inner in
    record {
      node = has.node;
      inner = has.inner;
      is = steady.nodes own.key ∙ has.is;
      within = subst P (sym (ap first_of (steady.links own.key))) (stands_on outside old new steady (first_at old.slots own.key) has.inner has.within);
      low = has.low;
      few = has.few;
      light = has.light;
      fit = has.fit;
      fit_within = has.fit_within;
      place = same_containing old.slots new.slots steady.links steady.nodes own.key has.node.style ∙ has.place;
      sizes = has.sizes;
      ready = ready_in outside new.slots own.key has.node steady.right (steady.nodes own.key ∙ has.is) has.fit.paragraph (text_at new.slots own.key) refl;
    }

module _ (outside : Outside) (old new : Arena) (own : RowBox) (steady : IsSteady outside old new) where
  same_first : first_at old.slots own.key ≡ first_at new.slots own.key
  same_first = sym (ap first_of (steady.links own.key))

  abbrev seen_on : IsSeen outside old.slots own → IsSeen outside new.slots own
  seen_on seen = record {
    view = seen.view;
    box = box_on outside old new own steady seen.box;
    right = steady.right;
    text = text_on outside old new own.key seen.box.node steady (steady.nodes own.key ∙ seen.box.is) seen.text;
  }

  pub begun_on : (begun : Begun) → IsBegun outside old.slots own begun → IsBegun outside new.slots own begun
  begun_on begun is = record {
    seen = seen_on is.seen;
    sizing = is.sizing;
    handed = is.handed;
    definite = is.definite;
    row = is.row ∙ ap (λ (o : Option ℕ). row_in own begun.sizing (contributing begun.sizing.definite o) None) same_first;
  }

  pub sized_on : (sized : SizedBox) → IsSized outside old.slots own sized → IsSized outside new.slots own sized
  sized_on sized is =
      record {
        seen = seen_on is.seen;
        size = λ inner within. let P : Option ℕ → Type 0 = λ o. StandFrom old.slots o inner in is.size inner (subst P (sym same_first) (stood_from outside old new steady (first_at new.slots own.key) inner within));
        near = is.near;
        row = is.row ∙ ap (λ (o : Option ℕ). row_in own (sizing_of own.containing is.seen.box.node own.c) (laid_inside sized.size o) (used_in sized.size)) same_first;
      }

-- what has been laid out
pub flowed_on : (outside : Outside) (old new : Arena) (row : Row) (laid : List LaidBox) → IsSteady outside old new → AreFlowed outside old.slots row.from row.containing row.c laid
    → AreFlowed outside new.slots row.from row.containing row.c laid
flowed_on outside old new row laid steady flowed tree stand = flowed tree (stood_from outside old new steady row.from tree stand)

flowed_at_on : (outside : Outside) (old new : Arena) (own : RowBox) (laid : LaidBox) → IsSteady outside old new → IsFlowedAt outside old.slots own laid → IsFlowedAt outside new.slots own laid
flowed_at_on outside old new own laid steady flowed name style content inner is within =
    let P : Option ℕ → Type 0 = λ o. StandFrom old.slots o inner in
    flowed name style content inner (sym (steady.nodes own.key) ∙ is) (subst P (ap first_of (steady.links own.key)) (stood_from outside old new steady (first_at new.slots own.key) inner within))

-- ---- the children of a box

sizing_own : (containing : Containing) (node : Node) (c : Constraint) → (sizing_of containing node c).own ≡ containing_of node.style
unfolding sizing_of
sizing_own containing node c = refl

sizing_handed : (containing : Containing) (node : Node) (c : Constraint) → (sizing_of containing node c).handed ≡ handed_on containing node c
unfolding sizing_of
sizing_handed containing node c = refl

module _ (slots : Slots Preparation) (own : RowBox) (has : HasBox slots own) where
  pub box_is : (node : Node) → node_at slots own.key ≡ Some node → has.node ≡ node
  box_is node is = same_Some has.node node (sym has.is ∙ is)

  pub box_stands : StandsIn slots (Some own.key) own.containing
  box_stands node is = let P : Node → Type 0 = λ n. containing_at slots own.key n.style ≡ own.containing in subst P (box_is node is) has.place

  row_within : HasRow slots (first_at slots own.key) (own.depth - 1)
  row_within = let low = has.low in record { tree = has.inner; stand = has.within; low = omega (arith, low); few = has.few; light = has.light; fit = has.fit_within }

  no_row : HasRow slots None (own.depth - 1)
  no_row = record { tree = no_boxes; stand = refl; low = omega arith; few = omega arith; light = omega arith; fit = tt }

  module _ (outside : Outside) (sizing : Sizing) (view : IsPageView outside.view) (right : AreRight outside slots) (linked : IsLinked (links_at slots)) (is : sizing ≡ sizing_of own.containing has.node own.c)
      (handed : IsBase sizing.handed) where
    can_from : (from : Option ℕ) (size : Option ℤ) → IsBase size → HasRow slots from (own.depth - 1) → StandsIn slots from sizing.own → CanFlow outside slots (row_in own sizing from size)
    can_from from size near boxes inside = record { view = view; sizes = record { inline = near; block = handed }; boxes = boxes; inside = inside; right = right }

    inside_within : StandsIn slots (first_at slots own.key) sizing.own
    inside_within =
        let P : Containing → Type 0 = λ x. StandsIn slots (first_at slots own.key) x in
        subst P (sym (ap (λ (s : Sizing). s.own) is ∙ sizing_own own.containing has.node own.c)) (inside_first slots own.key has.node linked has.is)

    -- they can be laid out for their contributions
    pub can_contribute : (definite : Option ℤ) → CanFlow outside slots (row_in own sizing (contributing definite (first_at slots own.key)) None)
    can_contribute None = can_from (first_at slots own.key) None tt row_within inside_within
    can_contribute (Some size) = can_from None None tt no_row tt

    -- and inside the box
    pub can_be_inside : (size : InlineSize) → IsInlineSize size → CanFlow outside slots (row_in own sizing (laid_inside size (first_at slots own.key)) (used_in size))
    can_be_inside (Used size) near = can_from (first_at slots own.key) (Some size) near row_within inside_within
    can_be_inside (MinMax content) near = can_from None None tt no_row tt

  -- what has been laid out of them
  module _ (outside : Outside) (containing : Containing) (c : Constraint) (laid : List LaidBox) where
    none_near : (boxes : List LaidBox) → AreFlowed outside slots None containing c boxes → All IsNearLaid boxes × (length boxes ≤ 2 ^ 18)
    none_near [] flowed = (All-nil IsNearLaid, omega arith)
    none_near (b ∷ boxes) flowed = absurd (flowed no_boxes refl)

    all_near : AreFlowed outside slots (first_at slots own.key) containing c laid → All IsNearLaid laid × (length laid ≤ 2 ^ 18)
    all_near flowed =
        let lead = flowed has.inner has.within in
        let few = has.few in
        let many = lead_count outside containing c laid has.inner no_boxes lead in
        let some = few_siblings has.inner in
        (lead_near outside containing c laid has.inner lead has.fit_within has.light, omega arith)

    contributing_near : (definite : Option ℤ) → AreFlowed outside slots (contributing definite (first_at slots own.key)) containing c laid → All IsNearLaid laid × (length laid ≤ 2 ^ 18)
    contributing_near None flowed = all_near flowed
    contributing_near (Some size) flowed = none_near laid flowed

    inside_near : (size : InlineSize) → AreFlowed outside slots (laid_inside size (first_at slots own.key)) containing c laid → All IsNearLaid laid × (length laid ≤ 2 ^ 18)
    inside_near (Used size) flowed = all_near flowed
    inside_near (MinMax content) flowed = none_near laid flowed

    -- its inline-blocks are all there
    inside_children : (size : InlineSize) → AreFlowed outside slots (laid_inside size (first_at slots own.key)) containing c laid → HasChildren size has.node.content (length laid)
    inside_children (Used size) flowed =
        let many : length laid + 0 ≡ siblings has.inner = lead_count outside containing c laid has.inner no_boxes (flowed has.inner has.within) in
        let same : siblings has.inner ≡ length laid = omega (arith, many) in
        let P : ℕ → Type 0 = λ n. HasAtoms has.node.content n in
        subst P same has.fit.atoms
    inside_children (MinMax content) flowed = tt

-- ---- its text

pub has_paragraph : (slots : Slots Preparation) (own : RowBox) (has : HasBox slots own) (node : Node) → node_at slots own.key ≡ Some node → IsParagraphIn node.content
has_paragraph slots own has node is = let P : Node → Type 0 = λ n. IsParagraphIn n.content in subst P (box_is slots own has node is) has.fit.paragraph

module _ (outside : Outside) (slots : Slots Preparation) (own : RowBox) (can : CanFlowBox outside slots own) where
  seen_with : HasText can.box.node.content (text_at slots own.key) → IsSeen outside slots own
  seen_with has = record {
    view = can.view;
    box = can.box;
    right = can.right;
    text = text_in outside slots own.key can.box.node can.right can.box.is (text_at slots own.key) refl has;
  }

  pub seen_there : IsSome (text_at slots own.key) → IsSeen outside slots own
  seen_there there = seen_with (by can.box.node.content) where
    by : (content : Content) → HasText content (text_at slots own.key)
    by blocks = tt
    by (inline entries) = there

  -- there is no text where it holds no paragraph
  pub seen_none : (node : Node) → node_at slots own.key ≡ Some node → IsTextOf outside.faces node.style node.content None → IsSeen outside slots own
  seen_none node is none_is =
      let P : Node → Type 0 = λ n. HasText n.content (text_at slots own.key) in
      seen_with (subst P (sym (box_is slots own can.box node is)) (by node.content none_is)) where
        by : (content : Content) → IsTextOf outside.faces node.style content None → HasText content (text_at slots own.key)
        by blocks is = tt
        by (inline entries) is = absurd (cc)

seen_kept : (outside : Outside) (old new : Arena) (own : RowBox) (text : Preparation) → CanFlowBox outside old.slots own → IsSteady outside old new → KeepsText old new own.key text → IsSeen outside new.slots own
seen_kept outside old new own text can steady keeps =
    seen_there outside new.slots own (record { view = can.view; box = box_on outside old new own steady can.box; right = steady.right }) (some_of (Some text) (text_at new.slots own.key) keeps.put.here refl)

-- a text that was prepared for it is kept
pub text_kept : (outside : Outside) (old new : Arena) (own : RowBox) (node : Node) (text : Preparation) → CanFlowBox outside old.slots own → node_at old.slots own.key ≡ Some node
    → IsTextOf outside.faces node.style node.content (Some text) → IsReadyIn node.content (Some text) → KeepsText old new own.key text → IsSteady outside old new × IsSeen outside new.slots own
text_kept outside old new own node text can there is ready keeps =
    let steady = steady_text outside old new own.key node text can.right there is ready keeps in
    (steady, seen_kept outside old new own text can steady keeps)

-- ---- a box as the code has it

-- what holds of it as the code has it holds of the box under its key, and the other way round
module _ (slots : Slots Preparation) (own : RowBox) (has : HasBox slots own) (code : FlowBox) (is : IsBoxAt slots own code) (P : Containing → Node → Constraint → Option Preparation → Type 0) where
  node_is : has.node ≡ node_of code.node.now
  node_is = box_is slots own has (node_of code.node.now) is.node

  pub from_code : P code.containing (node_of code.node.now) code.c (option_copied code.text) → P own.containing has.node own.c (text_at slots own.key)
  from_code holds =
      let A : Containing → Type 0 = λ x. P x (node_of code.node.now) code.c (option_copied code.text) in
      let B : Constraint → Type 0 = λ x. P own.containing (node_of code.node.now) x (option_copied code.text) in
      let C : Option Preparation → Type 0 = λ x. P own.containing (node_of code.node.now) own.c x in
      let D : Node → Type 0 = λ x. P own.containing x own.c (text_at slots own.key) in
      subst D (sym node_is) (subst C is.text (subst B is.sizes (subst A is.containing holds)))

  pub to_code : P own.containing has.node own.c (text_at slots own.key) → P code.containing (node_of code.node.now) code.c (option_copied code.text)
  to_code holds =
      let A : Containing → Type 0 = λ x. P x (node_of code.node.now) code.c (option_copied code.text) in
      let B : Constraint → Type 0 = λ x. P own.containing (node_of code.node.now) x (option_copied code.text) in
      let C : Option Preparation → Type 0 = λ x. P own.containing (node_of code.node.now) own.c x in
      let D : Node → Type 0 = λ x. P own.containing x own.c (text_at slots own.key) in
      subst A (sym is.containing) (subst B (sym is.sizes) (subst C (sym is.text) (subst D node_is holds)))

-- its children from one on
pub same_row : (row : Row) (own : RowBox) (sizing : Sizing) (from other : Option ℕ) (size along : Option ℤ) → row ≡ row_in own sizing from size → from ≡ other → size ≡ along → row ≡ row_in own sizing other along
same_row row own sizing from other size along is one two = is ∙ ap (λ (o : Option ℕ). row_in own sizing o size) one ∙ ap (row_in own sizing other) two

-- ---- what a box comes to

-- a border box stands at 0
turned_from : (parallel : Bool) (along across : ℤ) → (turned parallel (pos 0) (pos 0) along across).i ≡ pos 0
turned_from true along across = refl
turned_from false along across = refl

turned_down : (parallel : Bool) (along across : ℤ) → (turned parallel (pos 0) (pos 0) along across).b ≡ pos 0
turned_down true along across = refl
turned_down false along across = refl

abbrev at_zero : Part → Type 0
at_zero part = (part.rect.i ≡ pos 0) × (part.rect.b ≡ pos 0)

boxed_at_zero : (containing : Containing) (node : Node) (c : Constraint) (size : ℤ) (content : Filled) → at_zero (boxed containing node c size content).part
unfolding boxed border_box
boxed_at_zero containing node c size content =
    let along = border_along node.style c size in
    let across = border_across node.style c (block_size containing node.style c content.extent) in
    (turned_from (is_parallel containing node.style) along across, turned_down (is_parallel containing node.style) along across)

box_by_at_zero : (outside : Outside) (containing : Containing) (node : Node) (c : Constraint) (size : InlineSize) (ms : List Member) → at_zero (box_by outside containing node c size ms).part
unfolding box_by measured
box_by_at_zero outside containing node c (MinMax content) ms = (refl, refl)
box_by_at_zero outside containing node c (Used used) ms = boxed_at_zero containing node c used _

at_there : (part : Part) → at_zero part → at (pos 0) (pos 0) part none ≡ piece part.name part.rect part.kind part.inner none
at_there part is = ap (λ (i : ℤ). piece part.name (record { i = i; b = pos 0; inline = part.rect.inline; block = part.rect.block }) part.kind part.inner none) (sym is.0)
    ∙ ap (λ (b : ℤ). piece part.name (record { i = part.rect.i; b = b; inline = part.rect.inline; block = part.rect.block }) part.kind part.inner none) (sym is.1)

step_at_zero : (outside : Outside) (containing : Containing) (node : Node) (ms : List Member) (c : Constraint) → at_zero (flow_step outside containing node ms c).part
step_at_zero outside containing node ms c =
    let P : Part → Type 0 = λ p. at_zero p in
    subst P (sym (ap (λ (f : Flowed). f.part) (step_is outside containing node ms c))) (box_by_at_zero outside containing node c (inline_size_of outside containing node c ms) ms)

abbrev whole : Part → Pieces
whole part = piece part.name part.rect part.kind part.inner none

abbrev front : Part → Pieces → Part
front part none = part
front part (piece name rect kind inner next) = record { name = name; rect = rect; kind = kind; inner = inner }

-- results are what boxes come to
result_is : (outside : Outside) (containing : Containing) (name : BoxName) (style : Style) (content : Content) (inner : Boxes) (c : Constraint)
    → result_of outside containing name style content inner c ≡ whole (flow_step outside containing (record { name = name; style = style; content = content }) (members outside (containing_of style) inner) c).part
unfolding result_of
result_is outside containing name style content inner c =
    let node : Node = record { name = name; style = style; content = content } in
    at_there (flow_step outside containing node (members outside (containing_of style) inner) c).part (step_at_zero outside containing node (members outside (containing_of style) inner) c)

-- a box that is laid out may be kept
flowed_result : (outside : Outside) (slots : Slots Preparation) (own : RowBox) (laid : LaidBox) → HasBox slots own → IsFlowedAt outside slots own laid → IsResultAt outside slots own.key own.c (piece_of laid.fragment)
flowed_result outside slots own laid has flowed name style content inner (is, within, alone) =
    let node : Node = record { name = name; style = style; content = content } in
    let here = flowed name style content inner is within in
    let same : containing_at slots own.key style ≡ own.containing = box_stands slots own has node is in
    let made : piece_of laid.fragment ≡ whole (part_of laid.fragment) = as_piece laid.fragment none in
    let P : Containing → Type 0 = λ x. IsResultOf outside x name style content inner own.c (piece_of laid.fragment) in
    let Q : Pieces → Type 0 = λ p. spread (inside_of p) ≤ reach_of content inner in
    subst P (sym same) (record {
      value = made ∙ ap whole here.part ∙ sym (result_is outside own.containing name style content inner own.c);
      reach = subst Q (sym made) here.reach;
    })

-- one that is kept is laid out
pub kept_flowed : (outside : Outside) (slots : Slots Preparation) (own : RowBox) (laid : LaidBox) (here : Node) → CanFlowBox outside slots own → node_at slots own.key ≡ Some here → laid.style ≡ here.style → kept_at slots own.key own.c ≡ Some (piece_of laid.fragment)
    → IsFlowedAt outside slots own laid
kept_flowed outside slots own laid here can there same kept name style content inner is within =
    let node : Node = record { name = name; style = style; content = content } in
    let result = (can.right own.key).results own.c (piece_of laid.fragment) kept name style content inner (is, within, refl) in
    let P : Containing → Type 0 = λ x. IsResultOf outside x name style content inner own.c (piece_of laid.fragment) in
    let right = subst P (box_stands slots own can.box node is) result in
    let made : piece_of laid.fragment ≡ whole (part_of laid.fragment) = as_piece laid.fragment none in
    let Q : Pieces → Type 0 = λ p. spread (inside_of p) ≤ reach_of content inner in
    record {
      same = same ∙ ap (λ (n : Node). n.style) (same_Some here node (sym there ∙ is));
      part = ap (front (part_of laid.fragment)) (sym made ∙ right.value ∙ result_is outside own.containing name style content inner own.c);
      reach = subst Q made right.reach;
    }

-- ---- its inline size

-- the children of a box that is begun
begun_flowed : (outside : Outside) (slots : Slots Preparation) (own : RowBox) (begun : Begun) (laid : List LaidBox) → IsBegun outside slots own begun
    → AreFlowed outside slots begun.contributing.from begun.contributing.containing begun.contributing.c laid
    → AreFlowed outside slots (contributing begun.sizing.definite (first_at slots own.key)) begun.sizing.own (under None begun.sizing.handed) laid
begun_flowed outside slots own begun laid is flowed = let P : Row → Type 0 = λ r. AreFlowed outside slots r.from r.containing r.c laid in subst P is.row flowed

pub begun_near : (outside : Outside) (slots : Slots Preparation) (own : RowBox) (begun : Begun) (laid : List LaidBox) → IsBegun outside slots own begun
    → AreFlowed outside slots begun.contributing.from begun.contributing.containing begun.contributing.c laid → All IsNearLaid laid × (length laid ≤ 2 ^ 18)
begun_near outside slots own begun laid is flowed =
    contributing_near slots own is.seen.box outside begun.sizing.own (under None begun.sizing.handed) laid begun.sizing.definite (begun_flowed outside slots own begun laid is flowed)

-- what it comes to by the contributions of these
abbrev pub Sizes : Outside → Sizing → List LaidBox → InlineSize → Containing → Node → Constraint → Option Preparation → Type 0
Sizes outside sizing laid size containing node c text =
    (ms : List Member) → IsTextOf outside.faces node.style node.content text → (sizing.definite ≡ None → AreUnder (under None sizing.handed) laid ms) → size ≡ inline_size_of outside containing node c ms

pub size_is : (outside : Outside) (slots : Slots Preparation) (own : RowBox) (begun : Begun) (laid : List LaidBox) (size : InlineSize) (is : IsBegun outside slots own begun)
    → AreFlowed outside slots begun.contributing.from begun.contributing.containing begun.contributing.c laid
    → Sizes outside begun.sizing laid size own.containing is.seen.box.node own.c (text_at slots own.key)
    → (inner : Boxes) → StandFrom slots (first_at slots own.key) inner → size ≡ inline_size_of outside own.containing is.seen.box.node own.c (members outside (containing_of is.seen.box.node.style) inner)
size_is outside slots own begun laid size is flowed sizes inner within = sizes (members outside (containing_of node.style) inner) is.seen.text under_none where
  node : Node
  node = is.seen.box.node

  under_none : begun.sizing.definite ≡ None → AreUnder (under None begun.sizing.handed) laid (members outside (containing_of node.style) inner)
  under_none unknown =
      let P : Option ℤ → Type 0 = λ d. AreFlowed outside slots (contributing d (first_at slots own.key)) begun.sizing.own (under None begun.sizing.handed) laid in
      let Q : Containing → Type 0 = λ x. Lead outside x (under None begun.sizing.handed) laid inner no_boxes in
      let lead = subst P unknown (begun_flowed outside slots own begun laid is flowed) inner within in
      lead_under outside (containing_of node.style) (under None begun.sizing.handed) laid inner
      (subst Q (ap (λ (s : Sizing). s.own) is.sizing ∙ sizing_own own.containing node own.c) lead)

-- ---- a box by its children

abbrev Reaches : (r : ℕ) → Content → List LaidBox → Type 0
Reaches r content laid = (list : List Laid) (reach : ℕ) → AreLaid laid list → All (HasReach reach) laid → r ≤ reach + room_in content + (length laid + 1) * 2 ^ 38

none_reach : (content : Content) (inner : Boxes) (r : ℕ) → Reaches r content [] → r ≤ reach_of content inner
none_reach content inner r reaches = let near : r ≤ 0 + room_in content + (0 + 1) * 2 ^ 38 = reaches [] 0 tt (All-nil (HasReach 0)) in omega arith

done_reach : (outside : Outside) (own : Containing) (c : Constraint) (laid : List LaidBox) (list : List Laid) (content : Content) (inner : Boxes) (r : ℕ) → Lead outside own c laid inner no_boxes → AreLaid laid list
    → Reaches r content laid → r ≤ reach_of content inner
done_reach outside own c [] list content inner r lead are reaches = none_reach content inner r reaches
done_reach outside own c (b ∷ laid) list content inner r lead are reaches =
    let n : ℕ = heaviest inner + 2 ^ 38 in
    let many = lead_count outside own c (b ∷ laid) inner no_boxes lead in
    let near = reaches list n are (lead_reach outside own c (b ∷ laid) inner n lead (omega arith)) in
    omega (arith, many, near)

-- the children of a box that is sized
sized_flowed : (outside : Outside) (slots : Slots Preparation) (own : RowBox) (sized : SizedBox) (laid : List LaidBox) (is : IsSized outside slots own sized)
    → AreFlowed outside slots sized.inside.from sized.inside.containing sized.inside.c laid
    → AreFlowed outside slots (laid_inside sized.size (first_at slots own.key)) (containing_of is.seen.box.node.style) (under (used_in sized.size) (handed_on own.containing is.seen.box.node own.c)) laid
sized_flowed outside slots own sized laid is flowed =
    let node = is.seen.box.node in
    let P : Row → Type 0 = λ r. AreFlowed outside slots r.from r.containing r.c laid in
    let Q : Containing → Type 0 = λ x. AreFlowed outside slots (laid_inside sized.size (first_at slots own.key)) x (under (used_in sized.size) (sizing_of own.containing node own.c).handed) laid in
    let R : Option ℤ → Type 0 = λ h. AreFlowed outside slots (laid_inside sized.size (first_at slots own.key)) (containing_of node.style) (under (used_in sized.size) h) laid in
    subst R (sizing_handed own.containing node own.c) (subst Q (sizing_own own.containing node own.c) (subst P is.row flowed))

module _ (outside : Outside) (slots : Slots Preparation) (own : RowBox) (sized : SizedBox) (laid : List LaidBox) (is : IsSized outside slots own sized)
    (flowed : AreFlowed outside slots sized.inside.from sized.inside.containing sized.inside.c laid) where
  pub sized_near : All IsNearLaid laid × (length laid ≤ 2 ^ 18)
  sized_near = inside_near slots own is.seen.box outside _ _ laid sized.size (sized_flowed outside slots own sized laid is flowed)

  pub sized_children : HasChildren sized.size is.seen.box.node.content (length laid)
  sized_children = inside_children slots own is.seen.box outside _ _ laid sized.size (sized_flowed outside slots own sized laid is flowed)

-- what is known of a box when it is finished
record Finished (outside : Outside) (slots : Slots Preparation) (own : RowBox) (size : InlineSize) (below : List LaidBox) (laid : LaidBox) (node : Node) : Type 0 where
  pub same : laid.style ≡ node.style
  pub along : (inner : Boxes) → StandFrom slots (first_at slots own.key) inner → size ≡ inline_size_of outside own.containing node own.c (members outside (containing_of node.style) inner)
  pub flowed : AreFlowed outside slots (laid_inside size (first_at slots own.key)) (containing_of node.style) (under (used_in size) (handed_on own.containing node own.c)) below
  pub part : (ms : List Member) → AreInside own.containing node own.c size below ms → part_of laid.fragment ≡ (box_by outside own.containing node own.c size ms).part
  pub reach : Reaches (spread (part_of laid.fragment).inner) node.content below

finished_is : (outside : Outside) (slots : Slots Preparation) (own : RowBox) (size : InlineSize) (below : List LaidBox) (laid : LaidBox) (name : BoxName) (style : Style) (content : Content) (inner : Boxes)
    → Finished outside slots own size below laid (record { name = name; style = style; content = content }) → StandFrom slots (first_at slots own.key) inner → IsFlowed outside own.containing own.c laid name style content inner
finished_is outside slots own size below laid name style content inner finished within =
    record {
      same = finished.same;
      part = finished.part ms (are_inside size finished.flowed) ∙ ap (λ (e : InlineSize). (box_by outside own.containing node own.c e ms).part) (finished.along inner within)
          ∙ sym (ap (λ (f : Flowed). f.part) (step_is outside own.containing node ms own.c));
      reach = reach size finished.flowed finished.reach;
    } where
      node : Node
      node = record { name = name; style = style; content = content }

      ms : List Member
      ms = members outside (containing_of style) inner

      handed : Option ℤ
      handed = handed_on own.containing node own.c

      are_inside : (e : InlineSize) → AreFlowed outside slots (laid_inside e (first_at slots own.key)) (containing_of style) (under (used_in e) handed) below → AreInside own.containing node own.c e below ms
      are_inside (MinMax sizes) flowed = tt
      are_inside (Used used) flowed = lead_laid outside (containing_of style) used handed below inner (flowed inner within)

      no_below : (boxes : List LaidBox) → AreFlowed outside slots None (containing_of style) (under None handed) boxes → Reaches (spread (part_of laid.fragment).inner) content boxes
          → spread (part_of laid.fragment).inner ≤ reach_of content inner
      no_below [] flowed reaches = none_reach content inner (spread (part_of laid.fragment).inner) reaches
      no_below (b ∷ boxes) flowed reaches = absurd (flowed no_boxes refl)

      reach : (e : InlineSize) → AreFlowed outside slots (laid_inside e (first_at slots own.key)) (containing_of style) (under (used_in e) handed) below → Reaches (spread (part_of laid.fragment).inner) content below
          → spread (part_of laid.fragment).inner ≤ reach_of content inner
      reach (MinMax sizes) flowed reaches = no_below below flowed reaches
      reach (Used used) flowed reaches =
          done_reach outside (containing_of style) (under (Some used) handed) below (map (laid_under (under (Some used) handed)) ms) content inner (spread (part_of laid.fragment).inner) (flowed inner within)
          (are_inside (Used used) flowed) reaches

-- what it comes to by these children
abbrev pub Finishes : Outside → InlineSize → List LaidBox → LaidBox → Containing → Node → Constraint → Option Preparation → Type 0
Finishes outside size below laid containing node c text =
    (laid.style ≡ node.style)
    × ((ms : List Member) → IsTextOf outside.faces node.style node.content text → AreInside containing node c size below ms → part_of laid.fragment ≡ (box_by outside containing node c size ms).part)
    × Reaches (spread (part_of laid.fragment).inner) node.content below

finished_flowed : (outside : Outside) (slots : Slots Preparation) (own : RowBox) (sized : SizedBox) (below : List LaidBox) (laid : LaidBox) (is : IsSized outside slots own sized)
    → AreFlowed outside slots sized.inside.from sized.inside.containing sized.inside.c below → Finishes outside sized.size below laid own.containing is.seen.box.node own.c (text_at slots own.key) → IsFlowedAt outside slots own laid
finished_flowed outside slots own sized below laid is flowed (same, part, reach) name style content inner there within =
    let P : Node → Type 0 = λ n. Finished outside slots own sized.size below laid n in
    let here : P is.seen.box.node = record { same = same; along = is.size; flowed = sized_flowed outside slots own sized below is flowed; part = λ ms. part ms is.seen.text; reach = reach } in
    finished_is outside slots own sized.size below laid name style content inner (subst P (box_is slots own is.seen.box (record { name = name; style = style; content = content }) there) here) within

-- it is kept
pub finished : (outside : Outside) (old new : Arena) (own : RowBox) (sized : SizedBox) (below : List LaidBox) (laid : LaidBox) (copy : Pieces) (is : IsSized outside old.slots own sized)
    → AreFlowed outside old.slots sized.inside.from sized.inside.containing sized.inside.c below → Finishes outside sized.size below laid own.containing is.seen.box.node own.c (text_at old.slots own.key)
    → copy ≡ piece_of laid.fragment → Keeps old new own.key own.c copy → IsSteady outside old new × IsFlowedAt outside new.slots own laid
finished outside old new own sized below laid copy is flowed finishes same keeps =
    let here = finished_flowed outside old.slots own sized below laid is flowed finishes in
    let P : Pieces → Type 0 = λ p. IsResultAt outside old.slots own.key own.c p in
    let steady = steady_kept outside old new own.key own.c copy is.seen.right (subst P (sym same) (flowed_result outside old.slots own laid is.seen.box here)) keeps in
    (steady, flowed_at_on outside old new own laid steady here)

-- ---- the row

pub record Going (outside : Outside) (old now : Arena) (row : Row) (next : Option ℕ) (i : ℕ) (laid : List LaidBox) : Type 0 where
  pub view : IsPageView outside.view
  pub sizes : IsBounded row.c
  pub steady : IsSteady outside old now
  pub rest : Boxes
  pub stand : StandFrom now.slots next rest
  pub low : height rest ≤ row.depth
  pub few : count rest + i ≤ 2 ^ 18
  pub light : weight rest ≤ 2 ^ 60 - 2 ^ 38
  pub fit : AreFit rest
  pub inside : StandsIn now.slots next row.containing
  pub flowed : (tree : Boxes) → StandFrom old.slots row.from tree → (left : Boxes) × StandFrom old.slots next left × Lead outside row.containing row.c laid tree left

pub going_first : (outside : Outside) (old : Arena) (row : Row) → CanFlow outside old.slots row → Going outside old old row row.from 0 []
going_first outside old row can = record {
  view = can.view;
  sizes = can.sizes;
  steady = steady_itself outside old can.right;
  rest = can.boxes.tree;
  stand = can.boxes.stand;
  low = can.boxes.low;
  few = let few = can.boxes.few in omega (arith, few);
  light = can.boxes.light;
  fit = can.boxes.fit;
  inside = can.inside;
  flowed = λ tree stand. (tree, stand, refl);
}

-- the next box, and those behind it
record Head (slots : Slots Preparation) (row : Row) (key i : ℕ) : Type 0 where
  pub has : HasBox slots (box_in row key)
  pub others : Boxes
  pub behind : StandFrom slots (next_at slots key) others
  pub low : height others ≤ row.depth
  pub few : count others + (i + 1) ≤ 2 ^ 18
  pub light : weight others ≤ 2 ^ 60 - 2 ^ 38
  pub fit : AreFit others

going_head : (outside : Outside) (old now : Arena) (row : Row) (next : Option ℕ) (i : ℕ) (laid : List LaidBox) (key : ℕ) → Going outside old now row next i laid → next ≡ Some key → Head now.slots row key i
going_head outside old now row next i laid key going is = by going.rest going.stand going.low going.few going.light going.fit where
  by : (rest : Boxes) → StandFrom now.slots next rest → height rest ≤ row.depth → count rest + i ≤ 2 ^ 18 → weight rest ≤ 2 ^ 60 - 2 ^ 38 → AreFit rest → Head now.slots row key i
  by no_boxes stand low few light fit = absurd (none-some key (sym stand ∙ is))
  by (box name style content inner others) (k, at, node, within, behind) low few light fit =
      let same : k ≡ key = same_Some k key (sym at ∙ is) in
      let here : Node = record { name = name; style = style; content = content } in
      let A : ℕ → Type 0 = λ n. node_at now.slots n ≡ Some here in
      let B : ℕ → Type 0 = λ n. StandFrom now.slots (first_at now.slots n) inner in
      let C : ℕ → Type 0 = λ n. StandFrom now.slots (next_at now.slots n) others in
      let D : Option ℕ → Type 0 = λ o. StandsIn now.slots o row.containing in
      let there = subst A same node in
      record {
        has = record {
          node = here;
          inner = inner;
          is = there;
          within = subst B same within;
          low = omega (arith, low);
          few = omega (arith, few);
          light = omega (arith, light);
          fit = fit.0;
          fit_within = fit.1;
          place = (subst D is going.inside) here there;
          sizes = going.sizes;
          ready = ready_in outside now.slots key here going.steady.right there fit.0.paragraph (text_at now.slots key) refl;
        };
        others = others;
        behind = subst C same behind;
        low = omega (arith, low);
        few = omega (arith, few);
        light = omega (arith, light);
        fit = fit.2;
      }

pub going_box : (outside : Outside) (old now : Arena) (row : Row) (next : Option ℕ) (i : ℕ) (laid : List LaidBox) (key : ℕ) (own : RowBox) → Going outside old now row next i laid → next ≡ Some key → own ≡ box_in row key
    → CanFlowBox outside now.slots own
going_box outside old now row next i laid key own going is own_is =
    let P : RowBox → Type 0 = λ b. CanFlowBox outside now.slots b in
    subst P (sym own_is) (record { view = going.view; box = (going_head outside old now row next i laid key going is).has; right = going.steady.right })

-- one more
pub going_next : (outside : Outside) (old now new : Arena) (row : Row) (next after : Option ℕ) (i : ℕ) (laid : List LaidBox) (key : ℕ) (own : RowBox) (made : LaidBox)
    → Going outside old now row next i laid → next ≡ Some key → own ≡ box_in row key → after ≡ next_at now.slots key → IsLinked (links_at now.slots) → IsSteady outside now new → IsFlowedAt outside new.slots own made
    → Going outside old new row after (i + 1) (laid ++ made ∷ [])
going_next outside old now new row next after i laid key own made going is own_is follows linked steady flowed = record {
  view = going.view;
  sizes = going.sizes;
  steady = steady_then outside old now new going.steady steady;
  rest = head.others;
  stand = let P : Option ℕ → Type 0 = λ o. StandFrom new.slots o head.others in subst P (sym follows) (stands_on outside now new steady (next_at now.slots key) head.others head.behind);
  low = head.low;
  few = head.few;
  light = head.light;
  fit = head.fit;
  inside = let P : Option ℕ → Type 0 = λ o. StandsIn new.slots o row.containing in
      subst P (sym follows) (inside_on outside now new steady (next_at now.slots key) row.containing (inside_next now.slots key head.has.node row.containing linked head.has.is (box_stands now.slots (box_in row key) head.has)));
  flowed = λ tree stand. more tree (going.flowed tree stand);
} where
  head : Head now.slots row key i
  head = going_head outside old now row next i laid key going is

  here : IsFlowedAt outside new.slots (box_in row key) made
  here = let P : RowBox → Type 0 = λ b. IsFlowedAt outside new.slots b made in subst P own_is flowed

  more : (tree : Boxes) → ((left : Boxes) × StandFrom old.slots next left × Lead outside row.containing row.c laid tree left)
      → ((left : Boxes) × StandFrom old.slots after left × Lead outside row.containing row.c (laid ++ made ∷ []) tree left)
  more tree (no_boxes, stand, lead) = absurd (none-some key (sym stand ∙ is))
  more tree (box name style content inner others, (k, at, node, within, behind), lead) =
      let same : k ≡ key = same_Some k key (sym at ∙ is) in
      let A : ℕ → Type 0 = λ n. node_at old.slots n ≡ Some (record { name = name; style = style; content = content }) in
      let B : ℕ → Type 0 = λ n. StandFrom old.slots (first_at old.slots n) inner in
      let C : ℕ → Type 0 = λ n. StandFrom old.slots (next_at old.slots n) others in
      let D : Option ℕ → Type 0 = λ o. StandFrom old.slots o others in
      let E : Option ℕ → Type 0 = λ o. StandFrom new.slots o inner in
      let whole = steady_then outside old now new going.steady steady in
      let there = whole.nodes key ∙ subst A same node in
      let stands = subst E (sym (ap first_of (whole.links key))) (stands_on outside old new whole (first_at old.slots key) inner (subst B same within)) in (
        others,
        subst D (sym (follows ∙ ap next_of (going.steady.links key))) (subst C same behind),
        lead_more outside row.containing row.c laid tree made name style content inner others lead (here name style content inner there stands),
      )

-- none is left
pub going_ends : (outside : Outside) (old now : Arena) (row : Row) (next : Option ℕ) (i : ℕ) (laid : List LaidBox) → Going outside old now row next i laid → next ≡ None
    → AreFlowed outside old.slots row.from row.containing row.c laid
going_ends outside old now row next i laid going is tree stand = by (going.flowed tree stand) where
  by : ((left : Boxes) × StandFrom old.slots next left × Lead outside row.containing row.c laid tree left) → Lead outside row.containing row.c laid tree no_boxes
  by (no_boxes, stand, lead) = lead
  by (box name style content inner others, (k, there, node, within, behind), lead) = absurd (none-some k (sym is ∙ there))

pub none_late : (outside : Outside) (old now : Arena) (row : Row) (next : Option ℕ) (i : ℕ) (laid : List LaidBox) → Going outside old now row next i laid → 2 ^ 18 ≤ i → next ≡ None
none_late outside old now row next i laid going late = by going.rest going.stand going.few where
  by : (rest : Boxes) → StandFrom now.slots next rest → count rest + i ≤ 2 ^ 18 → next ≡ None
  by no_boxes stand few = stand
  by (box name style content inner others) stand few = absurd (omega (arith, few, late))

pub going_ends_late : (outside : Outside) (old now : Arena) (row : Row) (next : Option ℕ) (i : ℕ) (laid : List LaidBox) → Going outside old now row next i laid → 2 ^ 18 ≤ i
    → AreFlowed outside old.slots row.from row.containing row.c laid
going_ends_late outside old now row next i laid going late = going_ends outside old now row next i laid going (none_late outside old now row next i laid going late)
