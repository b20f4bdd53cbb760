-- How far insets, containing blocks and shifted fragments reach.
use Rattle.std.proofs.Common.{◌≡◌, refl, sym, ℕ, ◌-◌, ◌^◌, ◌≤◌, ◌==◌, if◌then◌else◌, Bool, true, false, List, [], ◌∷◌, length, Option, Some, None, IfSome, ℤ, ◌+ℤ◌, unsigned_abs, arith}
use Rattle.std.specs.List.{All}
use Rattle.std.specs.Option.{option_or}
use Rattle.std.proofs.lemmas.Int.{ints}
use Rattle.std.proofs.lemmas.List.{length-append}
use Rattle.std.proofs.lemmas.List.Elements.{All-append, All-cons}
use Rattle.wm_modes.specs.Mode.{are_parallel}
use Rattle.wm_modes.specs.declared.mode.WritingMode.{WritingMode}
use Rattle.wm_modes.specs.declared.rects.FlowRect.{FlowRect}
use Rattle.style_types.specs.Style.{AreInsets, IsExtent}
use Rattle.style_types.specs.declared.style.Style.{Style}
use Rattle.style_types.specs.Tree as styled
use Rattle.style_types.specs.Tree.{NodeKind, Nodes, nodes_in}
use Rattle.fragment_types.specs.Fragment.{IsSizedKind, Kind, block, line, span, run, measure}
use Rattle.fragment_types.specs.declared.item.BoxName.{BoxName}
use Rattle.box_gen.specs.Boxes.{Role, nothing, words, line_break, inline_box, atom, block_level, role_of}
use Rattle.place_map.specs.Near.{AreNearParts}
use Rattle.place_map.specs.Placed.{Parts, none, part, mode_of}
use Rattle.rel_shift.specs.Bounds.{AreSizedParts, HasBounds, HaveBounds, IsSized, IsWithin}
use Rattle.rel_shift.specs.Boxes.{box_in, mode_inside, own_box}
use Rattle.rel_shift.specs.Laws.{ArePlacesWithin, PositionsAreBounded, SizesSuffice}
use Rattle.rel_shift.specs.Positions.{insets_of, position, positions_in, positions_of, holder_in, unless_hidden}
use Rattle.rel_shift.specs.Shifting.{shifted}
use Rattle.rel_shift.specs.Totals.{total}
use Rattle.rel_shift.specs.declared.containing.Containing.{Containing}
use Rattle.rel_shift.specs.declared.insets.Shift.{Shift}
use Rattle.style_types.specs.declared.position.Position.{Position}

-- ---- positions

few_shown : (role : Role) (positions : List Position) → length (unless_hidden role positions) ≤ length positions
few_shown nothing positions = omega arith
few_shown (words letters) positions = omega arith
few_shown line_break positions = omega arith
few_shown inline_box positions = omega arith
few_shown atom positions = omega arith
few_shown block_level positions = omega arith

few_in : (parent holder : ℕ) (nodes : Nodes) → length (positions_in parent holder nodes) ≤ nodes_in nodes
unfolding positions_in
few_in parent holder styled.none = omega arith
few_in parent holder (styled.node number kind style inner next) =
    let role = role_of kind style in
    let own = position (Some parent) (Some holder) number kind style in
    let inside = few_in number (holder_in role number holder) inner in
    let behind = few_in parent holder next in
    let shown = few_shown role (own ∷ positions_in number (holder_in role number holder) inner) in
    let all = length-append (unless_hidden role (own ∷ positions_in number (holder_in role number holder) inner)) (positions_in parent holder next) in
    omega (arith, inside, behind, shown, all)

few : (nodes : Nodes) → length (positions_of nodes) ≤ nodes_in nodes
few styled.none = omega arith
few (styled.node number kind style inner next) = let inside = few_in number number inner in omega (arith, inside)

bounded_if : (relative : Bool) (style : Style) → relative ≡ style.relative → AreInsets style.insets → IfSome (insets_of styled.element style) AreInsets
bounded_if true style is bounded = rw (sym is) bounded
bounded_if false style is bounded = rw (sym is) tt

bounded_at : (kind : NodeKind) (style : Style) → AreInsets style.insets → IfSome (insets_of kind style) AreInsets
bounded_at styled.element style bounded = bounded_if style.relative style refl bounded
bounded_at styled.line_break style bounded = tt
bounded_at (styled.text letters) style bounded = tt

none_bounded : All HasBounds []
none_bounded k d lt = absurd (omega (arith, lt))

bounded_shown : (role : Role) (positions : List Position) → All HasBounds positions → All HasBounds (unless_hidden role positions)
bounded_shown nothing positions all = none_bounded
bounded_shown (words letters) positions all = all
bounded_shown line_break positions all = all
bounded_shown inline_box positions all = all
bounded_shown atom positions all = all
bounded_shown block_level positions all = all

bounded_in : (parent holder : ℕ) (nodes : Nodes) → HaveBounds nodes → All HasBounds (positions_in parent holder nodes)
unfolding positions_in
bounded_in parent holder styled.none bounded = none_bounded
bounded_in parent holder (styled.node number kind style inner next) bounded =
    let role = role_of kind style in
    let own = position (Some parent) (Some holder) number kind style in
    let inside = bounded_in number (holder_in role number holder) inner bounded.1 in
    All-append HasBounds (unless_hidden role (own ∷ positions_in number (holder_in role number holder) inner)) (positions_in parent holder next)
    (bounded_shown role _ (All-cons HasBounds own (positions_in number (holder_in role number holder) inner) (bounded_at kind style bounded.0) inside))
    (bounded_in parent holder next bounded.2)

bounded_all : (nodes : Nodes) → HaveBounds nodes → All HasBounds (positions_of nodes)
bounded_all styled.none bounded = none_bounded
bounded_all (styled.node number kind style inner next) bounded =
    All-cons HasBounds (position None None number kind style) (positions_in number number inner) (bounded_at kind style bounded.0) (bounded_in number number inner bounded.1)

pub positions_bounded : PositionsAreBounded
positions_bounded = record { few = few; bounded = bounded_all }

-- ---- containing blocks

either : (one other : Option Containing) → IfSome one IsSized → IfSome other IsSized → IfSome (option_or one other) IsSized
either None other first second = second
either (Some c) other first second = first

sized_if : (own : Bool) (c : Containing) → IsSized c → IfSome (if own then Some c else None) IsSized
sized_if true c sized = sized
sized_if false c sized = tt

size_by : (parallel : Bool) (content : FlowRect) → IsExtent content.inline → IsExtent content.block → IsExtent (if parallel then content.inline else content.block)
size_by true content inline across = inline
size_by false content inline across = across

sized_box : (told : WritingMode) (name : BoxName) (kind : Kind) → IsSizedKind kind → IfSome (own_box told name kind) IsSized
sized_box told name (block mode dir content definite start end_ through) sized =
    sized_if (name.ordinal == 0) _ (record { inline = size_by (are_parallel told mode) content sized.0 sized.1; block = sized.2 })
sized_box told name (line index base mode baseline) sized = tt
sized_box told name span sized = tt
sized_box told name (run form level natural units) sized = tt
sized_box told name (measure min max) sized = tt

sized_of : (is_it : Bool) (own : Option Containing) → IfSome own IsSized → IfSome (if is_it then own else None) IsSized
sized_of true own sized = sized
sized_of false own sized = tt

sized_in : (told : WritingMode) (node : ℕ) (parts : Parts) → AreSizedParts parts → IfSome (box_in told node parts) IsSized
sized_in told node none sized = tt
sized_in told node (part name rect kind inner next) sized =
    either (box_in told node next) _ (sized_in told node next sized.2)
    (either (box_in (mode_inside told kind) node inner) _ (sized_in (mode_inside told kind) node inner sized.1)
    (sized_of (name.node == node) (own_box told name kind) (sized_box told name kind sized.0)))

pub sizes_suffice : SizesSuffice
sizes_suffice page view sized None = record { inline = (view.inline_low, view.inline_high); block = (view.block_low, view.block_high) }
sizes_suffice page view sized (Some holder) = sized_in (mode_of page) holder page.parts sized

-- ---- shifted fragments

moved_near : (a b : ℤ) → unsigned_abs a ≤ 2 ^ 60 - 2 ^ 48 → unsigned_abs b ≤ 2 ^ 48 → unsigned_abs (a +ℤ b) ≤ 2 ^ 60
moved_near a b p q = omega (arith, ints)

pub shifted_near : (total : ℕ → Shift) → ((node : ℕ) → IsWithin (2 ^ 48) (total node)) → (parts : Parts) → AreNearParts parts → ArePlacesWithin (2 ^ 60 - 2 ^ 48) parts
    → AreNearParts (shifted total parts)
shifted_near total is none near within = tt
shifted_near total is (part name rect kind inner next) near within =
    let by = is name.node in (
      record { x = moved_near rect.x (total name.node).dx within.0 by.dx; y = moved_near rect.y (total name.node).dy within.1 by.dy; w = near.0.w; h = near.0.h },
      near.1,
      shifted_near total is inner near.2 within.2,
      shifted_near total is next near.3 within.3,
    )
