-- Carets stand on edges of cells, and their points hit them.
use Rattle.std.proofs.Common.{◌≡◌, inl, inr, refl, sym, ap, subst, ◌∙◌, ℕ, Bool, true, false, cond, List, [], ◌∷◌, ◌++◌, find, Contains, Option, Some, None, option_map, option_and_then, ℤ, pos, ◌*ℤ◌, ◌≤ℤ◌, int_lt, int_le, arith}
use Rattle.std.specs.Option.{option_or}
use Rattle.std.proofs.lemmas.Int.{ints}
use Rattle.std.proofs.lemmas.List.Folds.{find-append}
use Rattle.std.proofs.lemmas.Option.{same_Some}
use Rattle.basic_laws.proofs.Lists.{contains_first, contains_other}
use Rattle.wm_modes.specs.declared.mode.WritingMode.{WritingMode}
use Rattle.wm_modes.specs.declared.mode.WritingMode.TheVariants.{HorizontalTb, VerticalRl, VerticalLr, SidewaysRl, SidewaysLr}
use Rattle.wm_modes.specs.declared.rects.Rect.{Rect}
use Rattle.wm_modes.specs.declared.sides.FlowSide.TheVariants.{LineLeft, LineOver}
use Rattle.place_map.specs.Placed.{Page}
use Rattle.hit_caret.specs.declared.cells.Cell.{Cell}
use Rattle.hit_caret.specs.declared.hits.Hit.{Hit}
use Rattle.hit_caret.specs.declared.rects.Point.{Point}
use Rattle.hit_caret.specs.Carets.{begins_at, ends_at, first_beginning, first_ending, is_wide, leading_edge, leading_point, point_if, trailing_edge}
use Rattle.hit_caret.specs.Cells.{cells, is_even, leading_by, line_side}
use Rattle.hit_caret.specs.Hits.{is_leading_half, is_left, place_in}
use Rattle.hit_caret.specs.Laws.{CaretPointsHit, CaretsStandOnEdges, IsEdgeOf}
use Rattle.hit_caret.specs.Rects.{distance_from, extent_from, holds, touching}
use Rattle.hit_caret.proofs.HitLaws.{last_is_hit}
use Rattle.hit_caret.proofs.Tests.{both_equal, held, is_below, is_not_below, split_true}

-- ---- the first cell that passes a test

record IsFirst (test : Cell → Bool) (cs : List Cell) (c : Cell) : Type 0 where
  among : Contains cs c
  passes : test c ≡ true

find_by : (test : Cell → Bool) (d c : Cell) (cs : List Cell) (b : Bool) → test d ≡ b → (find test cs ≡ Some c → IsFirst test cs c) → cond b (Some d) (find test cs) ≡ Some c → IsFirst test (d ∷ cs) c
find_by test d c cs true passes later e =
    subst (λ (x : Cell). IsFirst test (d ∷ cs) x) (same_Some d c e) (record { among = contains_first d cs; passes = passes })
find_by test d c cs false fails later e = let l = later e in record { among = contains_other d c cs l.among; passes = l.passes }

first_found : (test : Cell → Bool) (cs : List Cell) (c : Cell) → find test cs ≡ Some c → IsFirst test cs c
first_found test [] c e = absurd cc
first_found test (d ∷ cs) c e = find_by test d c cs (test d) refl (first_found test cs c) e

-- ---- edges

edge_by : (page : Page) (node place : ℕ) (edge : Rect) (beginning ending : Option Cell) → find (begins_at node place) (cells page) ≡ beginning → find (ends_at node place) (cells page) ≡ ending
    → option_or (option_map leading_edge beginning) (option_map trailing_edge ending) ≡ Some edge → IsEdgeOf page node place edge
edge_by page node place edge (Some c) ending begins ends e =
    let first = first_found (begins_at node place) (cells page) c begins in
    let both = both_equal c.node node c.first place first.passes in
    record { cell = c; among = first.among; of_text = both.0; at = inl (sym (same_Some (leading_edge c) edge e), both.1) }
edge_by page node place edge None (Some c) begins ends e =
    let first = first_found (ends_at node place) (cells page) c ends in
    let both = both_equal c.node node c.end place first.passes in
    record { cell = c; among = first.among; of_text = both.0; at = inr (sym (same_Some (trailing_edge c) edge e), both.1) }
edge_by page node place edge None None begins ends e = absurd cc

pub carets_stand_on_edges : CaretsStandOnEdges
carets_stand_on_edges page node place edge e = edge_by page node place edge (first_beginning page node place) (first_ending page node place) refl refl e

-- ---- the point of a caret

abbrev corner : WritingMode → (even : Bool) → Rect → Point
corner mode even r = touching (line_side mode (leading_by even)) r (touching (line_side mode LineOver) r (record { x = r.x; y = r.y }))

abbrev along : WritingMode → Rect → ℤ
along mode r = extent_from (line_side mode LineLeft) r

abbrev across : WritingMode → Rect → ℤ
across mode r = extent_from (line_side mode LineOver) r

corner_held : (mode : WritingMode) (even : Bool) (r : Rect) → pos 2 ≤ℤ along mode r → pos 1 ≤ℤ across mode r → holds r (corner mode even r) ≡ true
corner_held HorizontalTb true r long wide = held r (corner HorizontalTb true r) (omega (arith, ints)) (omega (arith, ints)) (omega (arith, ints)) (omega (arith, ints))
corner_held HorizontalTb false r long wide = held r (corner HorizontalTb false r) (omega (arith, ints)) (omega (arith, ints)) (omega (arith, ints)) (omega (arith, ints))
corner_held VerticalRl true r long wide = held r (corner VerticalRl true r) (omega (arith, ints)) (omega (arith, ints)) (omega (arith, ints)) (omega (arith, ints))
corner_held VerticalRl false r long wide = held r (corner VerticalRl false r) (omega (arith, ints)) (omega (arith, ints)) (omega (arith, ints)) (omega (arith, ints))
corner_held VerticalLr true r long wide = held r (corner VerticalLr true r) (omega (arith, ints)) (omega (arith, ints)) (omega (arith, ints)) (omega (arith, ints))
corner_held VerticalLr false r long wide = held r (corner VerticalLr false r) (omega (arith, ints)) (omega (arith, ints)) (omega (arith, ints)) (omega (arith, ints))
corner_held SidewaysRl true r long wide = held r (corner SidewaysRl true r) (omega (arith, ints)) (omega (arith, ints)) (omega (arith, ints)) (omega (arith, ints))
corner_held SidewaysRl false r long wide = held r (corner SidewaysRl false r) (omega (arith, ints)) (omega (arith, ints)) (omega (arith, ints)) (omega (arith, ints))
corner_held SidewaysLr true r long wide = held r (corner SidewaysLr true r) (omega (arith, ints)) (omega (arith, ints)) (omega (arith, ints)) (omega (arith, ints))
corner_held SidewaysLr false r long wide = held r (corner SidewaysLr false r) (omega (arith, ints)) (omega (arith, ints)) (omega (arith, ints)) (omega (arith, ints))

-- it lies in the half at line-left on an even level alone
abbrev twice : WritingMode → (even : Bool) → Rect → ℤ
twice mode even r = pos 2 *ℤ distance_from (line_side mode LineLeft) r (corner mode even r)

left_even : (mode : WritingMode) (even : Bool) (r : Rect) → pos 2 ≤ℤ along mode r → int_lt (twice mode even r) (along mode r) ≡ even
left_even HorizontalTb true r long = is_below (twice HorizontalTb true r) (along HorizontalTb r) (omega (arith, ints))
left_even HorizontalTb false r long = is_not_below (twice HorizontalTb false r) (along HorizontalTb r) (omega (arith, ints))
left_even VerticalRl true r long = is_below (twice VerticalRl true r) (along VerticalRl r) (omega (arith, ints))
left_even VerticalRl false r long = is_not_below (twice VerticalRl false r) (along VerticalRl r) (omega (arith, ints))
left_even VerticalLr true r long = is_below (twice VerticalLr true r) (along VerticalLr r) (omega (arith, ints))
left_even VerticalLr false r long = is_not_below (twice VerticalLr false r) (along VerticalLr r) (omega (arith, ints))
left_even SidewaysRl true r long = is_below (twice SidewaysRl true r) (along SidewaysRl r) (omega (arith, ints))
left_even SidewaysRl false r long = is_not_below (twice SidewaysRl false r) (along SidewaysRl r) (omega (arith, ints))
left_even SidewaysLr true r long = is_below (twice SidewaysLr true r) (along SidewaysLr r) (omega (arith, ints))
left_even SidewaysLr false r long = is_not_below (twice SidewaysLr false r) (along SidewaysLr r) (omega (arith, ints))

leading_same : (even : Bool) → is_leading_half even even ≡ true
leading_same true = refl
leading_same false = refl

-- ---- the hit of a caret's point

record IsPointOf (c : Cell) (p : Point) : Type 0 where
  along : pos 2 ≤ℤ along c.mode c.rect
  across : pos 1 ≤ℤ across c.mode c.rect
  is : p ≡ leading_point c

point_by : (c : Cell) (p : Point) (b : Bool) → is_wide c ≡ b → point_if b c ≡ Some p → IsPointOf c p
point_by c p true wide e =
    let both = split_true (int_le (pos 2) (along c.mode c.rect)) (int_le (pos 1) (across c.mode c.rect)) wide in
    record { along = omega (arith, ints, both.0); across = omega (arith, ints, both.1); is = sym (same_Some (leading_point c) p e) }
point_by c p false wide e = absurd cc

point_place : (c : Cell) (p : Point) → IsPointOf c p → place_in c p ≡ c.first
point_place c p o =
    let left : is_left c (leading_point c) ≡ is_even c.level = left_even c.mode (is_even c.level) c.rect o.along in
    ap (place_in c) o.is
    ∙ ap (λ (b : Bool). cond (is_leading_half b (is_even c.level)) c.first c.end) left
    ∙ ap (λ (b : Bool). cond b c.first c.end) (leading_same (is_even c.level))

hit_same : (node first end_ n f q : ℕ) → node ≡ n → first ≡ f → q ≡ f
    → ◌≡◌ {A = Hit} (record { node = node; first = first; end = end_; place = q }) (record { node = n; first = f; end = end_; place = f })
hit_same node first end_ n f q a b d = rw (a, b, d) refl

first_here : (test : Cell → Bool) (earlier later : List Cell) (c : Cell) → find test earlier ≡ None → test c ≡ true → find test (earlier ++ c ∷ later) ≡ Some c
first_here test earlier later c none passes =
    find-append test earlier (c ∷ later) ∙ ap (λ (o : Option Cell). option_or o (find test (c ∷ later))) none ∙ ap (λ (b : Bool). cond b (Some c) (find test later)) passes

pub caret_points_hit : CaretPointsHit
caret_points_hit page node place p earlier later c e here none begins last =
    let first : first_beginning page node place ≡ Some c = ap (find (begins_at node place)) here ∙ first_here (begins_at node place) earlier later c none begins in
    let point : point_if (is_wide c) c ≡ Some p = sym (ap (λ (o : Option Cell). option_and_then (λ c. point_if (is_wide c) c) o) first) ∙ e in
    let o = point_by c p (is_wide c) refl point in
    let both = both_equal c.node node c.first place begins in
    let held : holds c.rect p ≡ true = ap (holds c.rect) o.is ∙ corner_held c.mode (is_even c.level) c.rect o.along o.across in
    last_is_hit page p earlier later c here held last ∙ ap Some (hit_same c.node c.first c.end node place (place_in c p) both.0 both.1 (point_place c p o ∙ both.1))
