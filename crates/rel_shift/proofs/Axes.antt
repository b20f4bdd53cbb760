-- The two axes of a containing block: a shift along one isn't along the other.
use Rattle.std.proofs.Common.{◌≡◌, refl, sym, subst, ℕ, ◌≤◌, Bool, true, false, ℤ, pos, ◌+ℤ◌, neg_ℤ, unsigned_abs, arith, true≢false}
use Rattle.std.proofs.lemmas.Int.{ints}
use Rattle.wm_modes.specs.Sides.{side_of}
use Rattle.wm_modes.specs.declared.mode.Direction.{Direction}
use Rattle.wm_modes.specs.declared.mode.Direction.TheVariants.{Ltr, Rtl}
use Rattle.wm_modes.specs.declared.mode.WritingMode.{WritingMode}
use Rattle.wm_modes.specs.declared.mode.WritingMode.TheVariants.{HorizontalTb, VerticalRl, VerticalLr, SidewaysRl, SidewaysLr}
use Rattle.wm_modes.specs.declared.sides.FlowSide.TheVariants.{BlockEnd, InlineEnd}
use Rattle.wm_modes.specs.declared.sides.Side.{Side}
use Rattle.wm_modes.specs.declared.sides.Side.TheVariants.{Top, Right, Bottom, Left}
use Rattle.rel_shift.specs.Bounds.{IsWithin}
use Rattle.rel_shift.specs.Own.{plus, towards}
use Rattle.rel_shift.specs.declared.insets.Shift.{Shift}

abbrev is_across : Side → Bool
is_across Top = false
is_across Right = true
is_across Bottom = false
is_across Left = true

abbrev are_apart : Side → Side → Bool
are_apart Top other = is_across other
are_apart Bottom other = is_across other
are_apart Right Top = true
are_apart Right Bottom = true
are_apart Right Left = false
are_apart Right Right = false
are_apart Left Top = true
are_apart Left Bottom = true
are_apart Left Left = false
are_apart Left Right = false

apart : (mode : WritingMode) (dir : Direction) → are_apart (side_of mode dir InlineEnd) (side_of mode dir BlockEnd) ≡ true
apart HorizontalTb Ltr = refl
apart HorizontalTb Rtl = refl
apart VerticalRl Ltr = refl
apart VerticalRl Rtl = refl
apart VerticalLr Ltr = refl
apart VerticalLr Rtl = refl
apart SidewaysRl Ltr = refl
apart SidewaysRl Rtl = refl
apart SidewaysLr Ltr = refl
apart SidewaysLr Rtl = refl

first_alone : (most : ℕ) (s : ℤ) → unsigned_abs s ≤ most → unsigned_abs (s +ℤ pos 0) ≤ most
first_alone most s is = omega (arith, ints)

second_alone : (most : ℕ) (s : ℤ) → unsigned_abs s ≤ most → unsigned_abs (pos 0 +ℤ s) ≤ most
second_alone most s is = omega (arith, ints)

within_both : (most : ℕ) (one other : Side) (s t : ℤ) → are_apart one other ≡ true → IsWithin most (towards one s) → IsWithin most (towards other t)
    → IsWithin most (plus (towards one s) (towards other t))
within_both most Top Right s t is p q = record { dx = second_alone most t q.dx; dy = first_alone most (neg_ℤ s) p.dy }
within_both most Top Left s t is p q = record { dx = second_alone most (neg_ℤ t) q.dx; dy = first_alone most (neg_ℤ s) p.dy }
within_both most Bottom Right s t is p q = record { dx = second_alone most t q.dx; dy = first_alone most s p.dy }
within_both most Bottom Left s t is p q = record { dx = second_alone most (neg_ℤ t) q.dx; dy = first_alone most s p.dy }
within_both most Right Top s t is p q = record { dx = first_alone most s p.dx; dy = second_alone most (neg_ℤ t) q.dy }
within_both most Right Bottom s t is p q = record { dx = first_alone most s p.dx; dy = second_alone most t q.dy }
within_both most Left Top s t is p q = record { dx = first_alone most (neg_ℤ s) p.dx; dy = second_alone most (neg_ℤ t) q.dy }
within_both most Left Bottom s t is p q = record { dx = first_alone most (neg_ℤ s) p.dx; dy = second_alone most t q.dy }
within_both most Top Top s t is p q = absurd (true≢false (sym is))
within_both most Top Bottom s t is p q = absurd (true≢false (sym is))
within_both most Bottom Top s t is p q = absurd (true≢false (sym is))
within_both most Bottom Bottom s t is p q = absurd (true≢false (sym is))
within_both most Right Right s t is p q = absurd (true≢false (sym is))
within_both most Right Left s t is p q = absurd (true≢false (sym is))
within_both most Left Right s t is p q = absurd (true≢false (sym is))
within_both most Left Left s t is p q = absurd (true≢false (sym is))

-- what reaches so far on each axis reaches so far together
pub axes_within : (most : ℕ) (mode : WritingMode) (dir : Direction) (s t : ℤ) (along across : Shift)
    → along ≡ towards (side_of mode dir InlineEnd) s → across ≡ towards (side_of mode dir BlockEnd) t → IsWithin most along → IsWithin most across
    → IsWithin most (plus along across)
axes_within most mode dir s t along across is also p q =
    let first = subst (IsWithin most) is p in
    let second = subst (IsWithin most) also q in
    rw (is, also) (within_both most (side_of mode dir InlineEnd) (side_of mode dir BlockEnd) s t (apart mode dir) first second)
