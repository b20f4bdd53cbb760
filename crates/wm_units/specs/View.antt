-- How large a view can be.
use Rattle.std.specs.Prelude.{◌^◌, pos, ◌≤ℤ◌}
use Rattle.wm_units.specs.declared.view.View.{View}

-- the sizes of a view are from 0 to 2^32 units
pub record IsView (view : View) : Type 0 where
  pub inline_low : pos 0 ≤ℤ view.inline
  pub inline_high : view.inline ≤ℤ pos (2 ^ 32)
  pub block_low : pos 0 ≤ℤ view.block
  pub block_high : view.block ≤ℤ pos (2 ^ 32)
