-- What the boxes of a row cost, by what each call of the recursion says.
use Rattle.std.proofs.Common.{◌≡◌, ◌∙◌, ◌+◌, ◌≤◌, refl, sym, ap, subst, ℕ, Option, Some, None}
use Rattle.std.specs.Prelude.{IsSome, option_map}
use Rattle.fragment_types.specs.Fragment.{Pieces, piece_of}
use Rattle.box_arena.specs.Arena.{Keeps}
use Rattle.box_arena.specs.At.{Node, Slots, kept_at, links_at, next_at, node_at, text_at}
use Rattle.box_arena.specs.Links.{IsLinked}
use Rattle.para_prepare.specs.Preparation.{Preparation}
use Rattle.relayout.specs.declared.flowed.LaidBox.{LaidBox}
use Rattle.relayout.specs.declared.flowing.Begun.{Begun}
use Rattle.relayout.specs.declared.flowing.SizedBox.{SizedBox}
use Rattle.relayout.specs.declared.row.Row.{Row}
use Rattle.relayout.specs.declared.row.RowBox.{RowBox}
use Rattle.relayout.specs.Counts.{Counters, HasSeen, RowCosts, RowDone, SeeingCosts}
use Rattle.relayout.specs.Flowing.{CanFlowBox, IsBegun, IsSeen, IsSized}
use Rattle.relayout.specs.Inline.{Outside}
use Rattle.relayout.specs.Paragraph.{HasText}
use Rattle.relayout.specs.Row.{IsSteady, StandsIn, box_in}
use Rattle.relayout.proofs.BoxCounts.{SoFar, begun_inside, finish_breaks, finish_costs, finish_done, first_inside, own_founded, row_added, row_breaks, seeing_costs, sized_inside, so_far_seen}
use Rattle.relayout.proofs.CountLaws.{Follows, has_text_on}
use Rattle.relayout.proofs.Counting.{BoxCosts, BoxDone, Counting, counting_breaks, counting_next}
use Rattle.relayout.proofs.FlowingLaws.{box_is, box_on, box_stands}
use Rattle.relayout.proofs.RowLaws.{Arena, steady_then}
use Rattle.relayout.proofs.SeeingLaws.{text_is}

pub steady_follows : (outside : Outside) (old new : Arena) → IsSteady outside old new → Follows old.slots new.slots
steady_follows outside old new steady = record { links = steady.links; nodes = steady.nodes; texts = steady.texts; kept = steady.kept }

-- ---- a box

-- its text is seen, or there is no memory for it
pub begin_breaks : (outside : Outside) (now one : Arena) (own : RowBox) (was is : Counters) → IsSteady outside now one → SeeingCosts now.slots one.slots own.key was is → BoxCosts outside now.slots one.slots own was is
begin_breaks outside now one own was is steady costs = seeing_costs outside now.slots one.slots own was is (steady_follows outside now one steady) costs

pub begins : (outside : Outside) (now one : Arena) (own : RowBox) (was is : Counters) → kept_at now.slots own.key own.c ≡ None → IsSteady outside now one → SeeingCosts now.slots one.slots own.key was is
    → HasSeen now.slots one.slots own.key was is → SoFar outside now.slots one.slots own was is
begins outside now one own was is gone steady costs seen = so_far_seen outside now.slots one.slots own was is gone (steady_follows outside now one steady) costs seen

module _ (outside : Outside) (now one two : Arena) (own : RowBox) (was mid is : Counters) (linked : IsLinked (links_at now.slots)) (can : CanFlowBox outside now.slots own) (far : SoFar outside now.slots one.slots own was mid)
    (steady : IsSteady outside one two) where
  -- its children are laid out for their contributions
  pub contributions_break : (begun : Begun) → IsBegun outside one.slots own begun → RowCosts outside one.slots two.slots begun.contributing mid is → BoxCosts outside now.slots two.slots own was is
  contributions_break begun is_begun costs =
      row_breaks outside now.slots one.slots two.slots own begun.contributing was mid is far (can.box.node, can.box.is) (can.box.inner, can.box.within)
      (begun_inside outside one.slots own begun is_begun (first_inside now.slots one.slots far.follows linked own.key)) (steady_follows outside one two steady) costs

  pub contributes : (begun : Begun) → IsBegun outside one.slots own begun → RowCosts outside one.slots two.slots begun.contributing mid is → RowDone outside one.slots two.slots begun.contributing mid is
      → SoFar outside now.slots two.slots own was is
  contributes begun is_begun costs done =
      row_added outside now.slots one.slots two.slots own begun.contributing was mid is far (can.box.node, can.box.is) (can.box.inner, can.box.within)
      (begun_inside outside one.slots own begun is_begun (first_inside now.slots one.slots far.follows linked own.key)) (steady_follows outside one two steady) costs done

  -- and inside it
  pub inside_breaks : (sized : SizedBox) → IsSized outside one.slots own sized → RowCosts outside one.slots two.slots sized.inside mid is → BoxCosts outside now.slots two.slots own was is
  inside_breaks sized is_sized costs =
      row_breaks outside now.slots one.slots two.slots own sized.inside was mid is far (can.box.node, can.box.is) (can.box.inner, can.box.within)
      (sized_inside outside one.slots own sized is_sized (first_inside now.slots one.slots far.follows linked own.key)) (steady_follows outside one two steady) costs

  pub puts : (sized : SizedBox) → IsSized outside one.slots own sized → RowCosts outside one.slots two.slots sized.inside mid is → RowDone outside one.slots two.slots sized.inside mid is
      → SoFar outside now.slots two.slots own was is
  puts sized is_sized costs done =
      row_added outside now.slots one.slots two.slots own sized.inside was mid is far (can.box.node, can.box.is) (can.box.inner, can.box.within)
      (sized_inside outside one.slots own sized is_sized (first_inside now.slots one.slots far.follows linked own.key)) (steady_follows outside one two steady) costs done

seen_text : (outside : Outside) (slots : Slots Preparation) (own : RowBox) → IsSeen outside slots own → (node : Node) → node_at slots own.key ≡ Some node → HasText node.content (text_at slots own.key)
seen_text outside slots own seen node at =
    let P : Node → Type 0 = λ n. HasText n.content (text_at slots own.key) in
    subst P (box_is slots own seen.box node at) (text_is outside.faces seen.box.node.style seen.box.node.content (text_at slots own.key) seen.text)

-- it is finished, and there is no memory to keep it
pub not_kept : (outside : Outside) (now three new : Arena) (own : RowBox) (was c is : Counters) → SoFar outside now.slots three.slots own was c → new ≡ three → is.texts ≡ c.texts → is.arranged ≤ c.arranged + 1
    → BoxCosts outside now.slots new.slots own was is
not_kept outside now three new own was c is far unchanged same most =
    let P : Arena → Type 0 = λ boxes. BoxCosts outside now.slots boxes.slots own was is in
    subst P (sym unchanged) (finish_breaks outside now.slots three.slots own was c is far same most)

-- nothing is kept for it where nothing is found
pub gone_of : (slots : Slots Preparation) (own : RowBox) (found : Option LaidBox) → option_map (λ (laid : LaidBox). piece_of laid.fragment) found ≡ kept_at slots own.key own.c → found ≡ None → kept_at slots own.key own.c ≡ None
gone_of slots own found kept none_is = sym kept ∙ ap (option_map (λ (laid : LaidBox). piece_of laid.fragment)) none_is

-- a result is kept for it where one is found
pub there_of : (slots : Slots Preparation) (own : RowBox) (found : Option LaidBox) (laid : LaidBox) → option_map (λ (laid : LaidBox). piece_of laid.fragment) found ≡ kept_at slots own.key own.c → found ≡ Some laid
    → IsSome (kept_at slots own.key own.c)
there_of slots own found laid kept is =
    let P : Option Pieces → Type 0 = λ o. IsSome o in
    subst P (sym (ap (option_map (λ (laid : LaidBox). piece_of laid.fragment)) is) ∙ kept) refl

-- it is finished and kept
module _ (outside : Outside) (now one two three new : Arena) (own : RowBox) (begun : Begun) (sized : SizedBox) (result : Pieces) (was a b c is : Counters) (linked : IsLinked (links_at now.slots))
    (far : SoFar outside now.slots three.slots own was c) (first : IsSteady outside now one) (step : IsSteady outside one two) (on : IsSteady outside two three) (last : IsSteady outside three new) (is_begun : IsBegun outside one.slots own begun)
    (contributed : RowDone outside one.slots two.slots begun.contributing a b) (is_sized : IsSized outside two.slots own sized) (put : RowDone outside two.slots three.slots sized.inside b c)
    (keeps : Keeps three new own.key own.c result) (same : is.texts ≡ c.texts) (most : is.arranged ≤ c.arranged + 1) where
  from_two : IsSteady outside two new
  from_two = steady_then outside two three new on last

  placed : StandsIn new.slots (Some own.key) own.containing
  placed = box_stands new.slots own (box_on outside two new own from_two is_sized.seen.box)

  text : (node : Node) → node_at new.slots own.key ≡ Some node → HasText node.content (text_at new.slots own.key)
  text node at = has_text_on node.content (text_at two.slots own.key) (text_at new.slots own.key) (from_two.texts own.key) (seen_text outside two.slots own is_sized.seen node (sym (from_two.nodes own.key) ∙ at))

  pub finishes : BoxCosts outside now.slots new.slots own was is
  finishes =
      finish_costs outside now.slots three new own result was c is far (steady_follows outside three new last) keeps same most
      (own_founded outside one.slots two.slots three.slots new.slots own begun sized a b c is_begun (first_inside now.slots one.slots (steady_follows outside now one first) linked own.key) contributed is_sized
      (first_inside now.slots two.slots (steady_follows outside now two (steady_then outside now one two first step)) linked own.key) put (steady_follows outside one two step) (steady_follows outside two three on)
      (steady_follows outside three new last) placed text)

  pub finished_done : BoxDone outside now.slots new.slots own was is
  finished_done = finish_done outside now.slots three new own result was c is far (steady_follows outside three new last) keeps same most

-- ---- the row

module _ (outside : Outside) (old now new : Arena) (row : Row) (next : Option ℕ) (key : ℕ) (own : RowBox) (was mid is : Counters) (so_far : IsSteady outside old now) (step : IsSteady outside now new)
    (linked : IsLinked (links_at now.slots)) (counting : Counting outside old.slots now.slots row next was mid) (here : next ≡ Some key) (own_is : own ≡ box_in row key) (costs : BoxCosts outside now.slots new.slots own mid is) where
  costs_there : BoxCosts outside now.slots new.slots (box_in row key) mid is
  costs_there = let P : RowBox → Type 0 = λ b. BoxCosts outside now.slots new.slots b mid is in subst P own_is costs

  pub row_breaks_off : RowCosts outside old.slots new.slots row was is
  row_breaks_off = counting_breaks outside old.slots now.slots new.slots row next key was mid is (steady_follows outside old now so_far) (steady_follows outside now new step) linked counting here costs_there

  pub row_goes_on : (after : Option ℕ) → after ≡ next_at now.slots key → BoxDone outside now.slots new.slots own mid is → Counting outside old.slots new.slots row after was is
  row_goes_on after follows done =
      let P : RowBox → Type 0 = λ b. BoxDone outside now.slots new.slots b mid is in
      counting_next outside old.slots now.slots new.slots row next key was mid is (steady_follows outside old now so_far) (steady_follows outside now new step) linked counting here after follows costs_there (subst P own_is done)
