-- Children in a stack, whose block sizes and margins aren't negative.
use Rattle.std.proofs.Common.{◌≡◌, ◌∙◌, refl, sym, ap, arith, subst, Bool, true, false, cond, List, [], ◌∷◌, ◌++◌, fold, map, ℤ, pos, ◌+ℤ◌, ◌≤ℤ◌}
use Rattle.std.specs.Prelude.{All}
use Rattle.std.proofs.lemmas.Int.{ints, clamps}
use Rattle.std.proofs.lemmas.List.Elements.{All-append, All-cons, All-nil, All-tail}
use Rattle.wm_modes.specs.declared.rects.FlowRect.{FlowRect}
use Rattle.margin_collapse.specs.declared.margins.Margins.{Margins}
use Rattle.margin_collapse.specs.Margins.{collapsed, greatest, least}
use Rattle.style_types.specs.declared.style.Style.{Style}
use Rattle.fragment_types.specs.Fragment.{Kind, block, line, measure, run, span}
use Rattle.block_flow.specs.Children.{Child}
use Rattle.block_flow.specs.Stacking.{Progress, after, begin, extent, margins_of, place_in, places_from, stacked}
use Rattle.relayout.specs.Content.{child_of, set_down}
use Rattle.relayout.specs.Flowed.{HasMargins, Laid}
use Rattle.relayout.specs.Inline.{inline_place}
use Rattle.relayout.specs.Sizes.{containing_of}
use Rattle.flow_laws.specs.Standing.{HasNoNegative, HaveNoNegative, StandBetween, ends_at}

abbrev pub IsUp : ℤ → Type 0
IsUp length = pos 0 ≤ℤ length

-- ---- margins

greatest_low : (margins : List ℤ) → pos 0 ≤ℤ greatest margins
greatest_low [] = omega (arith, ints)
greatest_low (m ∷ ms) = let h = greatest_low ms in omega (arith, ints, clamps)

least_high : (margins : List ℤ) → least margins ≤ℤ pos 0
least_high [] = omega (arith, ints)
least_high (m ∷ ms) = let h = least_high ms in omega (arith, ints, clamps)

first_up : (m : ℤ) (ms : List ℤ) → All IsUp (m ∷ ms) → pos 0 ≤ℤ m
first_up m ms all = all 0 m (omega arith)

least_low : (margins : List ℤ) → All IsUp margins → pos 0 ≤ℤ least margins
least_low [] all = omega (arith, ints)
least_low (m ∷ ms) all = let h = least_low ms (All-tail IsUp m ms all) in let k = first_up m ms all in omega (arith, ints, clamps)

collapsed_low : (margins : List ℤ) → All IsUp margins → pos 0 ≤ℤ collapsed margins
collapsed_low ms all = let g = greatest_low ms in let l = least_low ms all in omega (arith, ints)

-- where the least negative one is 0, none is negative
all_up : (margins : List ℤ) → least margins ≡ pos 0 → All IsUp margins
all_up [] is = All-nil IsUp
all_up (m ∷ ms) is =
    let h = least_high ms in
    let none : least ms ≡ pos 0 = omega (arith, ints, clamps, is) in
    All-cons IsUp m ms (omega (arith, ints, clamps, is)) (all_up ms none)

-- ---- one child after another

record IsUpward (child : Child) : Type 0 where
  size : IsUp child.size
  start : All IsUp child.start_margins
  end_ : All IsUp child.end_margins

pub record IsFar (s : Progress) : Type 0 where
  pub y : pos 0 ≤ℤ s.y
  pub pending : All IsUp s.pending
  pub joined : s.joined ≡ true → s.y ≡ pos 0

far_begin : (joins : Bool) → IsFar (begin joins)
far_begin joins = record { y = omega (arith, ints); pending = All-nil IsUp; joined = λ e. refl }

more : (y z : ℤ) → pos 0 ≤ℤ z → y ≤ℤ (y +ℤ z)
more y z low = omega (arith, ints)

from_zero : (y : ℤ) → y ≡ pos 0 → y ≤ℤ pos 0
from_zero y is = omega (arith, ints)

place_low : (s : Progress) (c : Child) → IsFar s → IsUpward c → s.y ≤ℤ place_in s c
place_low s c far ok = by s.joined refl where
  by : (j : Bool) → s.joined ≡ j → s.y ≤ℤ place_in s c
  by true e = rw e (from_zero s.y (far.joined e))
  by false e = rw e (more s.y (collapsed (s.pending ++ c.start_margins)) (collapsed_low (s.pending ++ c.start_margins) (All-append IsUp s.pending c.start_margins far.pending ok.start)))

sum_low : (y place size : ℤ) → pos 0 ≤ℤ y → y ≤ℤ place → pos 0 ≤ℤ size → pos 0 ≤ℤ (place +ℤ size)
sum_low y place size a b c = omega (arith, ints)

-- a child that is collapsed through leaves y, another ends there
y_after : (s : Progress) (c : Child) → (after s c).y ≡ cond c.through s.y (place_in s c +ℤ c.size)
y_after s c = by c.through refl where
  by : (t : Bool) → c.through ≡ t → (after s c).y ≡ cond c.through s.y (place_in s c +ℤ c.size)
  by true e = rw e refl
  by false e = rw e refl

after_far : (s : Progress) (c : Child) → IsFar s → IsUpward c → IsFar (after s c)
after_far s c far ok = by c.through refl where
  by : (t : Bool) → c.through ≡ t → IsFar (after s c)
  by true e = rw e (record {
    y = far.y;
    pending = All-append IsUp s.pending (margins_of c) far.pending (All-append IsUp c.start_margins c.end_margins ok.start ok.end_);
    joined = far.joined;
  })
  by false e = rw e (record {
    y = sum_low s.y (place_in s c) c.size far.y (place_low s c far ok) ok.size;
    pending = ok.end_;
    joined = λ is. absurd (cc);
  })

extent_high : (joins : Bool) (s : Progress) → IsFar s → s.y ≤ℤ extent joins s
extent_high true s far = omega (arith, ints, clamps)
extent_high false s far = by s.joined refl where
  by : (j : Bool) → s.joined ≡ j → s.y ≤ℤ extent false s
  by true e = rw e (let z = far.joined e in omega (arith, ints, clamps))
  by false e = rw e (let low = collapsed_low s.pending far.pending in omega (arith, ints, clamps))

-- ---- as fragments

abbrev pub HasOwnMargins : Laid → Type 0
HasOwnMargins laid = HasMargins laid.flowed.part.kind laid.flowed.starts laid.flowed.ends laid.flowed.through

-- a box whose fragment tells its margins
upward : (kind : Kind) (rect : FlowRect) (starts ends : List ℤ) (through : Bool) → HasMargins kind starts ends through → HasNoNegative rect kind
    → IsUp rect.block × All IsUp starts × All IsUp ends
upward (block mode dir content definite start end_ own) rect starts ends through tells none =
    (none.0, all_up starts (ap (λ (m : Margins). m.negative) (sym tells.0) ∙ none.1), all_up ends (ap (λ (m : Margins). m.negative) (sym tells.1) ∙ none.2))
upward (line index base mode baseline) rect starts ends through tells none = absurd tells
upward span rect starts ends through tells none = absurd tells
upward (run form level natural units) rect starts ends through tells none = absurd tells
upward (measure min max) rect starts ends through tells none = absurd tells

ends_after : (kind : Kind) (rect : FlowRect) (from : ℤ) (starts ends : List ℤ) (through : Bool) → HasMargins kind starts ends through
    → cond through from (rect.b +ℤ rect.block) ≡ ends_at kind from rect
ends_after (block mode dir content definite start end_ own) rect from starts ends through tells = ap (λ (t : Bool). cond t from (rect.b +ℤ rect.block)) (sym tells.2)
ends_after (line index base mode baseline) rect from starts ends through tells = absurd tells
ends_after span rect from starts ends through tells = absurd tells
ends_after (run form level natural units) rect from starts ends through tells = absurd tells
ends_after (measure min max) rect from starts ends through tells = absurd tells

first_tells : (l : Laid) (ls : List Laid) → All HasOwnMargins (l ∷ ls) → HasOwnMargins l
first_tells l ls all = all 0 l (omega arith)

pub all_stand : (own : Style) (size : ℤ) (joins : Bool) (laid : List Laid) (s : Progress) → IsFar s → All HasOwnMargins laid
    → HaveNoNegative (set_down (containing_of own) size laid (places_from s (map child_of laid)))
    → StandBetween s.y (extent joins (fold after s (map child_of laid))) (set_down (containing_of own) size laid (places_from s (map child_of laid)))
all_stand own size joins [] s far tells none = extent_high joins s far
all_stand own size joins (l ∷ ls) s far tells none =
    let child = child_of l in
    let part = l.flowed.part in
    let rect : FlowRect = record { i = inline_place (containing_of own) size l.style part.rect.inline; b = place_in s child; inline = part.rect.inline; block = part.rect.block } in
    let tell = first_tells l ls tells in
    let parts = upward part.kind rect l.flowed.starts l.flowed.ends l.flowed.through tell none.0 in
    let up : IsUpward child = record { size = parts.0; start = parts.1; end_ = parts.2 } in
    let P : ℤ → Type 0 = λ y. StandBetween y (extent joins (fold after (after s child) (map child_of ls))) (set_down (containing_of own) size ls (places_from (after s child) (map child_of ls))) in (
      place_low s child far up,
      subst P (y_after s child ∙ ends_after part.kind rect s.y l.flowed.starts l.flowed.ends l.flowed.through tell)
          (all_stand own size joins ls (after s child) (after_far s child far up) (All-tail HasOwnMargins l ls tells) none.1),
    )

pub stack_stands : (own : Style) (size : ℤ) (start_joins end_joins : Bool) (laid : List Laid) → All HasOwnMargins laid
    → HaveNoNegative (set_down (containing_of own) size laid (places_from (begin start_joins) (map child_of laid)))
    → StandBetween (pos 0) (extent end_joins (stacked start_joins (map child_of laid))) (set_down (containing_of own) size laid (places_from (begin start_joins) (map child_of laid)))
stack_stands own size start_joins end_joins laid tells none = all_stand own size end_joins laid (begin start_joins) (far_begin start_joins) tells none
