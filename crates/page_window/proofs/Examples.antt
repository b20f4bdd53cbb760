-- Small pages and what of them meets a rectangle, by computation.
use Rattle.std.specs.Prelude.{◌≡◌, refl, ℕ, Some, None, ℤ, pos}
use Rattle.wm_modes.specs.declared.rects.Rect.{Rect}
use Rattle.fragment_types.specs.Fragment.{span}
use Rattle.place_map.specs.Placed.{Page, Parts, none, part}
use Rattle.page_window.specs.Rects.{overlaps}
use Rattle.page_window.specs.Windowing.{window}

abbrev screen : Rect
screen = record { x = pos 0; y = pos 100; w = pos 50; h = pos 20 }

-- a fragment on the left, this high, with what stands inside it and what follows
abbrev at : (node : ℕ) (y h : ℤ) (inner next : Parts) → Parts
at node y h inner next = part (record { node = node; ordinal = 0 }) (record { x = pos 0; y = y; w = pos 10; h = h }) span inner next

abbrev page : Parts → Page
page parts = record { view = record { inline = pos 50; block = pos 300 }; parts = parts }

inside : window screen (page (at 0 (pos 0) (pos 200) (at 1 (pos 90) (pos 10) none (at 2 (pos 105) (pos 5) none (at 3 (pos 120) (pos 9) none none))) none)) ≡ Some (page (at 0 (pos 0) (pos 200) (at 2 (pos 105) (pos 5) none none) none))
unfolding overlaps
inside = refl

outside : window screen (page (at 0 (pos 0) (pos 100) (at 1 (pos 120) (pos 5) none none) none)) ≡ None
unfolding overlaps
outside = refl

-- a fragment that ends before the rectangle, with one inside it that reaches there
one_inside : window screen (page (at 0 (pos 0) (pos 50) (at 1 (pos 40) (pos 61) none (at 2 (pos 20) (pos 5) none none)) none)) ≡ Some (page (at 0 (pos 0) (pos 50) (at 1 (pos 40) (pos 61) none none) none))
unfolding overlaps
one_inside = refl

-- no extent at the first edge of the rectangle, and at its last one
at_edges : window screen (page (at 0 (pos 0) (pos 200) (at 1 (pos 100) (pos 0) none (at 2 (pos 120) (pos 0) none none)) none)) ≡ Some (page (at 0 (pos 0) (pos 200) (at 1 (pos 100) (pos 0) none none) none))
unfolding overlaps
at_edges = refl
