-- A page: a tree of fragments, without where they lie in memory.
use Rattle.wm_units.specs.declared.view.View.{View}
use Rattle.wm_modes.specs.declared.mode.Direction.{Direction}
use Rattle.wm_modes.specs.declared.mode.Direction.TheVariants.{Ltr}
use Rattle.wm_modes.specs.declared.mode.WritingMode.{WritingMode}
use Rattle.wm_modes.specs.declared.mode.WritingMode.TheVariants.{HorizontalTb}
use Rattle.place_map.specs.Frame.{root_direction, root_mode}
use Rattle.place_map.specs.declared.placed.Placed as code
pub use Rattle.place_map.specs.Parts.{Part, Parts, none, part, before, followed, parts_of}

-- a page: the view and what stands on it
pub record Page : Type 0 where
  pub view : View
  pub parts : Parts

abbrev pub placed_of : code.Placed → Page
placed_of placed = record { view = placed.view; parts = before placed.root none }

-- the mode and the used direction of its root
abbrev pub mode_in : Parts → WritingMode
mode_in none = HorizontalTb
mode_in (part name rect kind inner next) = root_mode kind

abbrev pub direction_in : Parts → Direction
direction_in none = Ltr
direction_in (part name rect kind inner next) = root_direction kind

abbrev pub mode_of : Page → WritingMode
mode_of page = mode_in page.parts

abbrev pub direction_of : Page → Direction
direction_of page = direction_in page.parts
