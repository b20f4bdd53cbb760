-- What holds of the part of every page that meets a rectangle.
use Rattle.std.specs.Prelude.{◌≡◌, Some}
use Rattle.wm_modes.specs.declared.rects.Rect.{Rect}
use Rattle.place_map.specs.Placed.{Page}
use Rattle.page_window.specs.Windowing.{window}

-- cut again to the rectangle it stays as it is
abbrev pub WindowsStay : Type 0
WindowsStay = (rect : Rect) (page cut : Page) → window rect page ≡ Some cut → window rect cut ≡ Some cut
