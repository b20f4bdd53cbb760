-- A page whose fragments are shifted as their nodes are. CSS Positioned Layout 3, 3.4; CSS 2, 9.4.3.
use Rattle.std.specs.Prelude.{ℕ, List, ◌+ℤ◌}
use Rattle.wm_modes.specs.declared.rects.Rect.{Rect}
use Rattle.place_map.specs.Placed.{Page, Parts, none, part}
use Rattle.rel_shift.specs.Totals.{total}
use Rattle.rel_shift.specs.declared.insets.Shift.{Shift}
use Rattle.style_types.specs.declared.position.Position.{Position}

abbrev pub moved : Shift → Rect → Rect
moved by rect = record { x = rect.x +ℤ by.dx; y = rect.y +ℤ by.dy; w = rect.w; h = rect.h }

-- each fragment by the shift of its node: of a box, a line or an inline box that of its element, of a run that of its text node
abbrev pub shifted : (total : ℕ → Shift) → Parts → Parts
shifted total none = none
shifted total (part name rect kind inner next) = part name (moved (total name.node) rect) kind (shifted total inner) (shifted total next)

abbrev pub shift : Page → List Position → Page
shift page positions = record { view = page.view; parts = shifted (total page positions) page.parts }
