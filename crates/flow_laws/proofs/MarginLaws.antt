-- What the inline equation makes of margins, and a box's border box by it.
use Rattle.std.proofs.Common.{◌≡◌, ◌∙◌, refl, sym, ap, subst, arith, Bool, true, false, not, ◌&&◌, List, Option, Some, None, ℤ, pos, negsuc, ◌+ℤ◌, ◌-ℤ◌}
use Rattle.std.specs.Prelude.{unwrap_or}
use Rattle.std.proofs.lemmas.Int.{ints}
use Rattle.std.proofs.lemmas.Option.{same_Some}
use Rattle.wm_modes.specs.declared.mode.WritingMode.{WritingMode}
use Rattle.wm_modes.specs.declared.mode.WritingMode.TheVariants.{HorizontalTb, VerticalRl, VerticalLr, SidewaysRl, SidewaysLr}
use Rattle.wm_modes.specs.declared.sides.Side.{Side}
use Rattle.wm_modes.specs.declared.sides.Side.TheVariants.{Top, Left}
use Rattle.wm_modes.specs.Mode.{are_parallel, is_horizontal}
use Rattle.wm_modes.specs.Sides.{line_left}
use Rattle.fragment_types.specs.declared.constraint.Constraint.{Constraint}
use Rattle.style_types.specs.declared.style.Style.{Style}
use Rattle.size_rules.specs.Equation as equation
use Rattle.size_rules.specs.Limits.{used_size}
use Rattle.box_arena.specs.At.{Node}
use Rattle.relayout.specs.Boxed.{block_size, border_across, border_along, border_box, boxed, turned}
use Rattle.relayout.specs.Content.{Filled}
use Rattle.relayout.specs.Edges.{both, inner_edge, inner_edges_along}
use Rattle.relayout.specs.Flow.{flow_step, laid_out}
use Rattle.relayout.specs.Flowed.{Flowed, Member}
use Rattle.relayout.specs.Inline.{Outside, end_margin, equation_of, fills, inline_place, inline_place_by, inline_size, known_by, known_or_shrunk, known_size, start_margin}
use Rattle.relayout.specs.Sizes.{containing_of, is_parallel, sizes_along}
use Rattle.flow_laws.specs.Margins.{AreUsed, AutoFillsBetweenMargins, FillsContainingBlock, FillsInline, left_in}
use Rattle.flow_laws.proofs.ConstraintLaws.{known_is_laid}
use Rattle.flow_laws.proofs.PlacingLaws.{step_laid}

-- ---- margins

used_in : (left room : ℤ) (start finish : Option ℤ) → left ≡ left_in room start finish
    → AreUsed start finish room (equation.start_margin left room start finish) (room -ℤ equation.start_margin left room start finish)
unfolding equation.start_margin equation.or_zero
used_in (negsuc less) room None None is = record {
  start_given = λ margin a. absurd (cc);
  finish_given = λ margin a b. absurd (cc);
  both_auto = λ a b low. absurd (omega (arith, ints, is, low));
  none_left = λ low. refl;
  all_taken = λ none. absurd (omega (arith, ints, is, none));
}
used_in (negsuc less) room None (Some y) is = record {
  start_given = λ margin a. absurd (cc);
  finish_given = λ margin a b low. let e = same_Some y margin b in absurd (omega (arith, ints, is, low, e));
  both_auto = λ a b low. absurd (cc);
  none_left = λ low. refl;
  all_taken = λ none. absurd (omega (arith, ints, is, none));
}
used_in (negsuc less) room (Some x) finish is = record {
  start_given = λ margin a. same_Some x margin a;
  finish_given = λ margin a b low. absurd (cc);
  both_auto = λ a b low. absurd (cc);
  none_left = λ low. refl;
  all_taken = λ none. absurd (omega (arith, ints, is, none));
}
used_in (pos left) (pos room) None None is = record {
  start_given = λ margin a. absurd (cc);
  finish_given = λ margin a b. absurd (cc);
  both_auto = λ a b low. (omega (arith, ints), omega (arith, ints));
  none_left = λ low. absurd (omega (arith, ints, is, low));
  all_taken = λ none. (omega (arith, ints, none), omega (arith, ints, none));
}
used_in (pos left) (negsuc room) None None is = absurd (omega (arith, ints, is))
used_in (pos left) room None (Some y) is = record {
  start_given = λ margin a. absurd (cc);
  finish_given = λ margin a b low. let e = same_Some y margin b in omega (arith, ints, e);
  both_auto = λ a b low. absurd (cc);
  none_left = λ low. absurd (omega (arith, ints, is, low));
  all_taken = λ none. (omega (arith, ints, none), omega (arith, ints, none));
}
used_in (pos left) room (Some x) finish is = record {
  start_given = λ margin a. same_Some x margin a;
  finish_given = λ margin a b low. absurd (cc);
  both_auto = λ a b low. absurd (cc);
  none_left = λ low. refl;
  all_taken = λ none. (refl, omega (arith, ints, none));
}

-- ---- edges of both sides of an axis

by_axis : (horizontal : Bool) → (Side → ℤ) → ℤ
by_axis true length = both length Left
by_axis false length = both length Top

along_axis : (length : Side → ℤ) (mode : WritingMode) → both length (line_left mode) ≡ by_axis (is_horizontal mode) length
unfolding by_axis
along_axis length HorizontalTb = refl
along_axis length VerticalRl = refl
along_axis length VerticalLr = refl
along_axis length SidewaysRl = refl
along_axis length SidewaysLr = omega (arith, ints)

not_true : (b : Bool) → not b ≡ true → false ≡ b
not_true true is = absurd (cc)
not_true false is = refl

one_axis : (mode own : WritingMode) → are_parallel mode own ≡ true → is_horizontal mode ≡ is_horizontal own
one_axis HorizontalTb own is = sym is
one_axis VerticalRl own is = not_true (is_horizontal own) is
one_axis VerticalLr own is = not_true (is_horizontal own) is
one_axis SidewaysRl own is = not_true (is_horizontal own) is
one_axis SidewaysLr own is = not_true (is_horizontal own) is

edges_same : (parent style : Style) (inline : Option ℤ) → is_parallel (containing_of parent) style ≡ true
    → inner_edges_along style inline parent.mode ≡ inner_edges_along style inline style.mode
edges_same parent style inline is =
    along_axis (inner_edge style inline) parent.mode
    ∙ ap (λ (horizontal : Bool). by_axis horizontal (inner_edge style inline)) (one_axis parent.mode style.mode is)
    ∙ sym (along_axis (inner_edge style inline) style.mode)

-- ---- the border box

first_true : (a b : Bool) → a && b ≡ true → a ≡ true
first_true true b is = refl
first_true false b is = absurd (cc)

abbrev under : (inline : ℤ) → Option ℤ → Constraint
under inline handed = record { inline = Some inline; block = handed }

rect_along : (parent : Style) (node : Node) (c : Constraint) (size : ℤ) (content : Filled) → is_parallel (containing_of parent) node.style ≡ true
    → (boxed (containing_of parent) node c size content).part.rect.inline ≡ border_along node.style c size
unfolding boxed border_box
rect_along parent node c size content is =
    ap (λ (parallel : Bool). (turned parallel (pos 0) (pos 0) (border_along node.style c size) (border_across node.style c (block_size (containing_of parent) node.style c content.extent))).inline) is

size_is : (outside : Outside) (parent : Style) (node : Node) (ms : List Member) (inline : ℤ) (handed given : Option ℤ) → fills (containing_of parent) node.style ≡ true
    → inline_size outside (containing_of parent) node.style node.content (under inline handed) given ms ≡ (equation_of (containing_of parent) node.style inline).size
unfolding inline_size known_size
size_is outside parent node ms inline handed given is =
    ap (λ (fill : Bool). known_or_shrunk (known_by fill (containing_of parent) node.style (under inline handed)) outside (containing_of parent) node.style node.content (under inline handed) given ms) is

laid_along : (outside : Outside) (parent : Style) (node : Node) (ms : List Member) (inline : ℤ) (handed : Option ℤ) → fills (containing_of parent) node.style ≡ true
    → (laid_out outside (containing_of parent) node (under inline handed) ms).part.rect.inline ≡ (equation_of (containing_of parent) node.style inline).size +ℤ inner_edges_along node.style (Some inline) node.style.mode
unfolding laid_out
laid_along outside parent node ms inline handed is =
    rect_along parent node (under inline handed) _ _ (first_true _ _ is)
    ∙ ap (λ (size : ℤ). size +ℤ inner_edges_along node.style (Some inline) node.style.mode) (size_is outside parent node ms inline handed _ is)

extent_is : (outside : Outside) (parent : Style) (node : Node) (ms : List Member) (inline : ℤ) (handed : Option ℤ) → fills (containing_of parent) node.style ≡ true
    → (flow_step outside (containing_of parent) node ms (under inline handed)).part.rect.inline ≡ (equation_of (containing_of parent) node.style inline).size +ℤ inner_edges_along node.style (Some inline) parent.mode
extent_is outside parent node ms inline handed is =
    ap (λ (f : Flowed). f.part.rect.inline) (step_laid outside parent node ms (under inline handed) (known_is_laid parent node.style (under inline handed) refl))
    ∙ laid_along outside parent node ms inline handed is
    ∙ ap (λ (edges : ℤ). (equation_of (containing_of parent) node.style inline).size +ℤ edges) (sym (edges_same parent node.style (Some inline) (first_true _ _ is)))

-- ---- the equation

sum_is : (inline edges size first extent : ℤ) → extent ≡ size +ℤ edges → first +ℤ extent +ℤ (inline -ℤ edges -ℤ size -ℤ first) ≡ inline
sum_is inline edges size first extent is = omega (arith, ints)

room_is : (inline edges size extent : ℤ) → extent ≡ size +ℤ edges → inline -ℤ edges -ℤ size ≡ inline -ℤ extent
room_is inline edges size extent is = omega (arith, ints)

-- with where the parent puts it, and what is left behind it
by_equation : (inline edges extent place : ℤ) (size : Option ℤ) (min : ℤ) (max start finish : Option ℤ)
    → let used = equation.equation inline edges size min max start finish in
    place ≡ used.start → extent ≡ used.size +ℤ edges
    → (place +ℤ extent +ℤ used.end ≡ inline) × AreUsed start finish (inline -ℤ extent) place used.end
unfolding equation.rest equation.or_zero
by_equation inline edges extent place size min max start finish at is =
    let used = equation.equation inline edges size min max start finish in
    let P : ℤ → Type 0 = λ z. (z +ℤ extent +ℤ used.end ≡ inline) × AreUsed start finish (inline -ℤ extent) z used.end in
    let Q : ℤ → Type 0 = λ room. AreUsed start finish room used.start used.end in
    subst P (sym at) (
      sum_is inline edges used.size used.start extent is,
      subst Q (room_is inline edges used.size extent is) (used_in _ (inline -ℤ edges -ℤ used.size) start finish refl),
    )

filled : (parent style : Style) (inline extent : ℤ) → is_parallel (containing_of parent) style ≡ true
    → extent ≡ (equation_of (containing_of parent) style inline).size +ℤ inner_edges_along style (Some inline) parent.mode → FillsInline parent style inline extent
unfolding equation_of inline_place
filled parent style inline extent parallel is =
    let sizes = sizes_along parent.mode style (Some inline) in
    let place = ap (λ (p : Bool). inline_place_by p (containing_of parent) inline style extent) parallel in
    let both = by_equation inline (inner_edges_along style (Some inline) parent.mode) extent (inline_place (containing_of parent) inline style extent) sizes.size sizes.min sizes.max
    (start_margin (containing_of parent) style inline) (end_margin (containing_of parent) style inline) place is in
    record { whole = both.0; margins = both.1 }

pub fills_containing_block : FillsContainingBlock
fills_containing_block outside parent node ms inline handed is =
    filled parent node.style inline _ (first_true _ _ is) (extent_is outside parent node ms inline handed is)

-- ---- an auto size

auto_is : (inline edges extent min : ℤ) (size max start finish : Option ℤ) → size ≡ None → extent ≡ (equation.equation inline edges size min max start finish).size +ℤ edges
    → used_size (left_in (inline -ℤ edges) start finish) min max ≡ left_in (inline -ℤ edges) start finish → extent ≡ left_in inline start finish
unfolding equation.rest equation.or_zero
auto_is inline edges extent min size max start finish auto is held =
    is ∙ ap (λ (s : Option ℤ). (equation.equation inline edges s min max start finish).size +ℤ edges) auto ∙ ap (λ (z : ℤ). z +ℤ edges) held ∙ back inline edges (unwrap_or start (pos 0)) (unwrap_or finish (pos 0)) where
      back : (inline edges a b : ℤ) → (inline -ℤ edges -ℤ a -ℤ b) +ℤ edges ≡ inline -ℤ a -ℤ b
      back inline edges a b = omega (arith, ints)

pub auto_fills : AutoFillsBetweenMargins
unfolding equation_of
auto_fills outside parent node ms inline handed is auto held =
    let sizes = sizes_along parent.mode node.style (Some inline) in
    auto_is inline (inner_edges_along node.style (Some inline) parent.mode) _ sizes.min sizes.size sizes.max (start_margin (containing_of parent) node.style inline) (end_margin (containing_of parent) node.style inline) auto
    (extent_is outside parent node ms inline handed is) held
