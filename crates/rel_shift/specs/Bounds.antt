-- Insets, containing blocks and shifts whose numbers no sum takes past 64 bits.
use Rattle.std.specs.Prelude.{ℕ, ◌≤◌, unsigned_abs, Option, IfSome, ⊤}
use Rattle.style_types.specs.Style.{AreInsets, IsExtent}
use Rattle.style_types.specs.Tree as styled
use Rattle.style_types.specs.Tree.{Nodes}
use Rattle.fragment_types.specs.Fragment.{IsSizedKind}
use Rattle.place_map.specs.Placed.{Page, Parts, none, part}
use Rattle.rel_shift.specs.Totals.{containing}
use Rattle.rel_shift.specs.declared.containing.Containing.{Containing}
use Rattle.rel_shift.specs.declared.insets.Shift.{Shift}
use Rattle.style_types.specs.declared.position.Position.{Position}

-- insets reach as far as margins do
abbrev pub HasBounds : Position → Type 0
HasBounds p = IfSome p.insets AreInsets

-- those of these nodes and of all inside them
abbrev pub HaveBounds : Nodes → Type 0
HaveBounds styled.none = ⊤
HaveBounds (styled.node number kind style inner next) = AreInsets style.insets × HaveBounds inner × HaveBounds next

-- sizes from 0 to 2^32
pub record IsSized (c : Containing) : Type 0 where
  pub inline : IsExtent c.inline
  pub block : IfSome c.block IsExtent

-- each containing block of a page, the view among them
abbrev pub AreSized : Page → Type 0
AreSized page = (holder : Option ℕ) → IfSome (containing page holder) IsSized

-- those of these fragments and of all inside them
abbrev pub AreSizedParts : Parts → Type 0
AreSizedParts none = ⊤
AreSizedParts (part name rect kind inner next) = IsSizedKind kind × AreSizedParts inner × AreSizedParts next

-- no further than this on either axis
pub record IsWithin (most : ℕ) (by : Shift) : Type 0 where
  pub dx : unsigned_abs by.dx ≤ most
  pub dy : unsigned_abs by.dy ≤ most
