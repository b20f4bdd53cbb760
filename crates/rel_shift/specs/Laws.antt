-- What holds of shifts.
use Rattle.std.specs.Prelude.{◌≡◌, ℕ, ◌+◌, ◌≤◌, ◌==◌, Bool, false, List, ◌∷◌, ◌++◌, length, pos, unsigned_abs, Option, Some, None, ⊤}
use Rattle.std.specs.List.{All, list_any}
use Rattle.wm_units.specs.View.{IsView}
use Rattle.wm_modes.specs.declared.rects.Rect.{Rect}
use Rattle.style_types.specs.Tree.{Nodes, nodes_in}
use Rattle.place_map.specs.Placed.{Page, Parts, none, part}
use Rattle.rel_shift.specs.Bounds.{AreSized, AreSizedParts, HasBounds, HaveBounds, IsWithin}
use Rattle.rel_shift.specs.Own.{no_shift, plus}
use Rattle.rel_shift.specs.Positions.{has_insets, positions_of}
use Rattle.rel_shift.specs.Shifting.{shift}
use Rattle.rel_shift.specs.Totals.{own, total}
use Rattle.rel_shift.specs.declared.insets.Shift.{Shift}
use Rattle.style_types.specs.declared.position.Position.{Position}

-- ---- what stays

abbrev pub without_place : Rect → Rect
without_place rect = record { x = pos 0; y = pos 0; w = rect.w; h = rect.h }

-- fragments without their places: their names, sizes and kinds in their order
abbrev pub without_places : Parts → Parts
without_places none = none
without_places (part name rect kind inner next) = part name (without_place rect) kind (without_places inner) (without_places next)

pub record OnlyPlacesChange : Type 0 where
  pub view : (page : Page) (positions : List Position) → (shift page positions).view ≡ page.view
  pub parts : (page : Page) (positions : List Position) → without_places (shift page positions).parts ≡ without_places page.parts

-- where no element is relatively positioned, the page stays as it is
abbrev pub StayWithoutInsets : Type 0
StayWithoutInsets = (page : Page) (positions : List Position) → list_any has_insets positions ≡ false → shift page positions ≡ page

-- ---- shifts add up

abbrev pub total_around : Page → List Position → (parent : Option ℕ) → Shift
total_around page positions None = no_shift
total_around page positions (Some parent) = total page positions parent

abbrev pub has_number : (node : ℕ) → Position → Bool
has_number node p = p.node == node

-- the number stands once, and the parent's number no later
pub record StandsAfterParent (p : Position) (after : List Position) : Type 0 where
  pub once : list_any (has_number p.node) after ≡ false
  pub parent : (node : ℕ) → p.parent ≡ Some node → list_any (has_number node) (p ∷ after) ≡ false

-- a node is shifted as its parent is, and by its own shift
abbrev pub AddUp : Type 0
AddUp = (page : Page) (before after : List Position) (p : Position) → StandsAfterParent p after
    → let positions = before ++ p ∷ after in total page positions p.node ≡ plus (total_around page positions p.parent) (own page p)

-- ---- how far

-- no place is further than this from the page's left and top edges
abbrev pub ArePlacesWithin : (most : ℕ) → Parts → Type 0
ArePlacesWithin most none = ⊤
ArePlacesWithin most (part name rect kind inner next) =
    (unsigned_abs rect.x ≤ most) × (unsigned_abs rect.y ≤ most) × ArePlacesWithin most inner × ArePlacesWithin most next

-- fragments go no further than their shifts
abbrev pub GoNoFurther : Type 0
GoNoFurther = (page : Page) (positions : List Position) (most more : ℕ) → ((node : ℕ) → IsWithin more (total page positions node))
    → ArePlacesWithin most page.parts → ArePlacesWithin (most + more) (shift page positions).parts

-- ---- what `shift` asks for

-- a styled tree has no more positions than nodes, and these are bounded where its insets are
pub record PositionsAreBounded : Type 0 where
  pub few : (nodes : Nodes) → length (positions_of nodes) ≤ nodes_in nodes
  pub bounded : (nodes : Nodes) → HaveBounds nodes → All HasBounds (positions_of nodes)

-- where the view and the boxes of a page have sizes from 0 to 2^32, each containing block has
abbrev pub SizesSuffice : Type 0
SizesSuffice = (page : Page) → IsView page.view → AreSizedParts page.parts → AreSized page
