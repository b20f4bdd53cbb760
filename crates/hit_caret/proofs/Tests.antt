-- Tests of numbers and of points of rectangles, from what is known of them.
use Rattle.std.proofs.Common.{◌≡◌, refl, Bool, true, false, ◌&&◌, ◌==◌, ℕ, ℤ, ◌+ℤ◌, ◌≤ℤ◌, ◌<ℤ◌, int_lt, int_le, arith}
use Rattle.std.specs.Cmp.Derive.{both_true}
use Rattle.std.proofs.lemmas.Bool.{eqb-true}
use Rattle.std.proofs.lemmas.Int.{ints}
use Rattle.wm_modes.specs.declared.rects.Rect.{Rect}
use Rattle.hit_caret.specs.declared.rects.Point.{Point}
use Rattle.hit_caret.specs.Rects.{holds, is_within}

pub is_true : (b : Bool) → (b ≡ false → ⊥) → b ≡ true
is_true true never = refl
is_true false never = absurd (never refl)

pub is_false : (b : Bool) → (b ≡ true → ⊥) → b ≡ false
is_false true never = absurd (never refl)
is_false false never = refl

pub is_at_most : (a b : ℤ) → a ≤ℤ b → int_le a b ≡ true
is_at_most a b le = is_true (int_le a b) (λ e. omega (arith, ints))

pub is_below : (a b : ℤ) → a <ℤ b → int_lt a b ≡ true
is_below a b lt = is_true (int_lt a b) (λ e. omega (arith, ints))

pub is_not_below : (a b : ℤ) → b ≤ℤ a → int_lt a b ≡ false
is_not_below a b le = is_false (int_lt a b) (λ e. omega (arith, ints))

pub split_true : (a b : Bool) → (a && b) ≡ true → (a ≡ true) × (b ≡ true)
split_true true b e = (refl, e)
split_true false b e = absurd cc

-- two numbers that pass a test each
pub both_equal : (a b c d : ℕ) → ((a == b) && (c == d)) ≡ true → (a ≡ b) × (c ≡ d)
both_equal a b c d e = let both = split_true (a == b) (c == d) e in (eqb-true a b both.0, eqb-true c d both.1)

pub within : (start extent place : ℤ) → start ≤ℤ place → place <ℤ (start +ℤ extent) → is_within start extent place ≡ true
within start extent place from to = both_true (is_at_most start place from) (is_below place (start +ℤ extent) to)

-- a point between the edges of a rectangle
pub held : (r : Rect) (p : Point) → r.x ≤ℤ p.x → p.x <ℤ (r.x +ℤ r.w) → r.y ≤ℤ p.y → p.y <ℤ (r.y +ℤ r.h) → holds r p ≡ true
held r p left right top bottom = both_true (within r.x r.w p.x left right) (within r.y r.h p.y top bottom)
