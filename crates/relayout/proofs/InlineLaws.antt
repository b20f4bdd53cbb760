-- Places on the inline axis.
use Rattle.std.proofs.Common.{◌≡◌, ◌∙◌, ◌≤◌, ◌+◌, ◌^◌, ap, arith, refl, ℕ, Bool, true, false, Option, Some, None, ℤ, pos, negsuc, ◌-ℤ◌, unsigned_abs}
use Rattle.std.specs.Prelude.{IfSome}
use Rattle.std.proofs.lemmas.Int.{ints}
use Rattle.size_rules.specs.declared.equation.Used.{Used}
use Rattle.wm_units.specs.Numbers.{half}
use Rattle.size_rules.specs.Equation.{equation, length_of, or_zero, rest, settled, start_margin}
use Rattle.size_rules.specs.Limits.{fit}
use Rattle.fragment_types.specs.declared.constraint.Constraint.{Constraint}
use Rattle.style_types.specs.declared.style.Style.{Style}
use Rattle.style_types.specs.Style.{IsBounded, IsLength}
use Rattle.line_fill.specs.declared.item.Intrinsic.{Intrinsic}
use Rattle.relayout.specs.declared.inline.PageView.{PageView}
use Rattle.relayout.specs.declared.sizes.Containing.{Containing}
use Rattle.relayout.specs.declared.sizes.Sizes.{Sizes}
use Rattle.relayout.specs.Inline as inline
use Rattle.relayout.specs.Inline.{around, equation_of, inline_place, inline_place_by, room, shrunk}
use Rattle.relayout.specs.Edges.{inner_edges_along, margin}
use Rattle.relayout.specs.Reach.{IsBase}
use Rattle.relayout.specs.Sizes.{hold, inline_sizes, is_parallel}
use Rattle.relayout.proofs.FlowLaws.{along_near, equation_near, margin_near}
use Rattle.wm_modes.specs.declared.sides.FlowSide.TheVariants.{InlineStart, InlineEnd}
use Rattle.wm_modes.specs.Sides.{side_of}
use Rattle.wm_modes.specs.declared.sides.Side.{Side}

pub near_length : (margin : Option ℤ) → IfSome margin IsLength → length_of margin ≤ 2 ^ 32
unfolding length_of or_zero
near_length None near = omega arith
near_length (Some margin) near = near

-- a border box that is the given size, with nothing inside
pub given_place : (used : Used) (inline i extent e : ℤ) (start a finish b : Option ℤ) → used ≡ equation i e (Some (pos 0)) (pos 0) (Some (pos 0)) a b → i ≡ inline → e ≡ extent → a ≡ start → b ≡ finish
    → used.start ≡ (settled (inline -ℤ extent) extent start finish).start
given_place used inline i extent e start a finish b is p q r s =
    let room : inline -ℤ extent -ℤ pos 0 ≡ inline -ℤ extent = omega (arith, ints) in
    ap (λ (u : Used). u.start) is ∙ rw (p, q, r, s) (ap (λ z. (settled z extent start finish).start) room)

-- a size that fits its content, from its parts
pub shrunk_by : (view : PageView) (containing : Containing) (style : Style) (c : Constraint) (content : Intrinsic) (result size min max place edges : ℤ) (sizes : Sizes) (parallel : Bool)
    → result ≡ hold sizes size → size ≡ fit min max place → min ≡ content.min → max ≡ content.max → place ≡ room view parallel c style.mode edges → edges ≡ around style c
    → sizes ≡ inline_sizes containing style c → parallel ≡ is_parallel containing style → result ≡ shrunk view containing style c content
unfolding shrunk
shrunk_by view containing style c content result size min max place edges sizes parallel a b p q r s t u = rw (a, b, p, q, r, s, t, u) refl

-- ---- how far places are

halved : (n : ℕ) → unsigned_abs (half (pos n)) ≤ n
halved n = omega arith

-- the inline-start margin in a room
start_near : (left room : ℤ) (start finish : Option ℤ) → left ≡ rest room start finish → unsigned_abs (start_margin left room start finish) ≤ unsigned_abs room + length_of start + length_of finish
unfolding start_margin rest or_zero length_of
start_near (negsuc less) room None finish is = omega (arith, ints)
start_near (negsuc less) room (Some start) finish is = omega (arith, ints)
start_near (pos left) (pos room) None None is = let h = halved room in omega (arith, ints)
start_near (pos left) (negsuc room) None None is = absurd (omega (arith, ints))
start_near (pos left) room None (Some finish) is = omega (arith, ints)
start_near (pos left) room (Some start) finish is = omega (arith, ints)

margin_length : (style : Style) (size : Option ℤ) (side : Side) → IsBounded style → length_of (margin style size side) ≤ 2 ^ 32
unfolding length_of or_zero
margin_length style size side bounded = margin_near style size side bounded

-- a box that goes along its containing block's lines
pub along_place_near : (own : Containing) (size : ℤ) (style : Style) → IsBounded style → IsBase (Some size) → unsigned_abs (equation_of own style size).start ≤ 2 ^ 35
unfolding equation_of
along_place_near own size style bounded base =
    let low = base.0 in
    let high = base.1 in
    let edges = along_near style (Some size) own.mode bounded in
    let used = equation_near own style size in
    let start = margin_length style (Some size) (side_of own.mode own.dir InlineStart) bounded in
    let finish = margin_length style (Some size) (side_of own.mode own.dir InlineEnd) bounded in
    let first = start_near _ (size -ℤ inner_edges_along style (Some size) own.mode -ℤ (equation_of own style size).size) (inline.start_margin own style size) (inline.end_margin own style size) refl in
    omega (arith, ints)

-- where a box of bounded style stands on the inline axis
pub place_near : (own : Containing) (size : ℤ) (style : Style) (extent : ℤ) → IsBounded style → IsBase (Some size) → unsigned_abs extent ≤ 2 ^ 36
    → unsigned_abs (inline_place own size style extent) ≤ 2 ^ 36 + 2 ^ 34
unfolding inline_place
place_near own size style extent bounded base near = by (is_parallel own style) where
  by : (parallel : Bool) → unsigned_abs (inline_place_by parallel own size style extent) ≤ 2 ^ 36 + 2 ^ 34
  by true = let along = along_place_near own size style bounded base in omega arith
  by false =
      let low = base.0 in
      let high = base.1 in
      let start = margin_length style (Some size) (side_of own.mode own.dir InlineStart) bounded in
      let finish = margin_length style (Some size) (side_of own.mode own.dir InlineEnd) bounded in
      let first = start_near _ (size -ℤ extent) (inline.start_margin own style size) (inline.end_margin own style size) refl in
      omega (arith, ints)
