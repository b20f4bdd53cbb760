-- The part of a page that meets a rectangle.
use Rattle.std.specs.Prelude.{Bool, true, false, ◌||◌, not, if◌then◌else◌, Option, Some, None}
use Rattle.wm_modes.specs.declared.rects.Rect.{Rect}
use Rattle.wm_units.specs.declared.view.View.{View}
use Rattle.place_map.specs.Placed.{Page, Part, Parts, none, part, before}
use Rattle.page_window.specs.Rects.{meets}

abbrev pub is_none : Parts → Bool
is_none none = true
is_none (part name rect kind inner next) = false

-- a fragment before others, where it meets the rectangle or something is kept inside it; else the others alone
abbrev pub kept : (is_met : Bool) → Part → (next : Parts) → Parts
kept is_met p next = if is_met || not (is_none p.inner) then before p next else next

-- the fragments that meet a rectangle, and those in which one does
abbrev pub window_parts : Rect → Parts → Parts
window_parts rect none = none
window_parts rect (part name own kind inner next) =
    kept (meets rect own) (record { name = name; rect = own; kind = kind; inner = window_parts rect inner }) (window_parts rect next)

-- a page of these fragments, if there are any
abbrev pub with_view : View → Parts → Option Page
with_view view none = None
with_view view (part name rect kind inner next) = Some (record { view = view; parts = part name rect kind inner next })

abbrev pub window : Rect → Page → Option Page
window rect page = with_view page.view (window_parts rect page.parts)

-- a fragment before others, if there is one
abbrev pub before_if : Option Part → (next : Parts) → Parts
before_if None next = next
before_if (Some p) next = before p next
