-- A rectangle that doesn't reach a bound meets nothing that lies in it.
use Rattle.std.proofs.Common.{◌≡◌, refl, sym, ap, ◌∙◌, zero, suc, Bool, true, false, ◌&&◌, ℤ, pos, negsuc, ◌+ℤ◌, ◌≤ℤ◌, int_lt, int_le, arith}
use Rattle.std.proofs.lemmas.Int.{ints}
use Rattle.wm_modes.specs.declared.rects.Rect.{Rect}
use Rattle.place_map.specs.declared.bound.Bound.{Bound}
use Rattle.page_window.specs.Rects.{MeetsNone, OverlapsNone, overlaps, shown}

is_false : (b : Bool) → (b ≡ true → ⊥) → b ≡ false
is_false true never = absurd (never refl)
is_false false never = refl

not_first : (a b : Bool) → a ≡ false → (a && b) ≡ false
not_first a b is = ap (λ (t : Bool). t && b) is

not_second : (a b : Bool) → b ≡ false → (a && b) ≡ false
not_second true b is = is
not_second false b is = refl

still_behind : (first other end_ : ℤ) → int_lt first end_ ≡ false → first ≤ℤ other → int_lt other end_ ≡ false
still_behind first other end_ behind from = is_false (int_lt other end_) (λ e. omega (arith, ints))

-- what begins behind the end of a stretch doesn't overlap it
pub none_behind : (is : Bool) (s e f start extent first last : ℤ) → s ≡ start → e ≡ extent → f ≡ first → is ≡ int_lt f (s +ℤ shown e) → is ≡ false
    → OverlapsNone start extent first last
unfolding overlaps
none_behind is s e f start extent first last es ee ef so behind other other_extent from to =
    let end_ = start +ℤ shown extent in
    let away : int_lt first end_ ≡ false = rw (sym es, sym ee, sym ef) (sym so ∙ behind) in
    not_second (int_lt start (other +ℤ shown other_extent)) (int_lt other end_) (still_behind first other end_ away from)

-- nor does what ends before it begins, even where it has no extent and is taken to have one
ends_before : (start other extent last : ℤ) → int_le start last ≡ false → (other +ℤ extent) ≤ℤ last → int_lt start (other +ℤ shown extent) ≡ false
ends_before start other (pos zero) last away to = is_false (int_lt start (other +ℤ pos 1)) (λ e. omega (arith, ints))
ends_before start other (pos (suc more)) last away to = is_false (int_lt start (other +ℤ pos (suc more))) (λ e. omega (arith, ints))
ends_before start other (negsuc below) last away to = is_false (int_lt start (other +ℤ negsuc below)) (λ e. omega (arith, ints))

pub none_before : (s l start extent first last : ℤ) → s ≡ start → l ≡ last → int_le s l ≡ false → OverlapsNone start extent first last
unfolding overlaps
none_before s l start extent first last es el away other other_extent from to =
    let behind : int_le start last ≡ false = rw (sym es, sym el) away in
    not_first (int_lt start (other +ℤ shown other_extent)) (int_lt other (start +ℤ shown extent)) (ends_before start other other_extent last behind to)

-- numbers that are those of the edges
edges_same : (s e f l start extent first last : ℤ) → s ≡ start → e ≡ extent → f ≡ first → l ≡ last → OverlapsNone s e f l → OverlapsNone start extent first last
edges_same s e f l start extent first last es ee ef el none = rw (sym es, sym ee, sym ef, sym el) none

module _ (rect : Rect) (bound : Bound) (s e f l : ℤ) where
  pub none_across : s ≡ rect.x → e ≡ rect.w → f ≡ bound.left → l ≡ bound.right → OverlapsNone s e f l → MeetsNone rect bound
  none_across es ee ef el none node other lies =
      not_first (overlaps rect.x rect.w other.x other.w) (overlaps rect.y rect.h other.y other.h)
      (edges_same s e f l rect.x rect.w bound.left bound.right es ee ef el none other.x other.w lies.left lies.right)

  pub none_down : s ≡ rect.y → e ≡ rect.h → f ≡ bound.top → l ≡ bound.bottom → OverlapsNone s e f l → MeetsNone rect bound
  none_down es ee ef el none node other lies =
      not_second (overlaps rect.x rect.w other.x other.w) (overlaps rect.y rect.h other.y other.h)
      (edges_same s e f l rect.y rect.h bound.top bound.bottom es ee ef el none other.y other.h lies.top lies.bottom)
