-- How far the lengths of flow layout reach.
use Rattle.std.specs.Prelude.{◌≤◌, ◌^◌, Option, IfSome, ℤ, pos, ◌≤ℤ◌, unsigned_abs}
use Rattle.fragment_types.specs.declared.constraint.Constraint.{Constraint}
use Rattle.line_fill.specs.declared.item.Intrinsic.{Intrinsic}
use Rattle.relayout.specs.declared.inline.PageView.{PageView}

-- ---- what comes from outside

-- a size of a containing block, where it is known
abbrev pub IsBase : Option ℤ → Type 0
IsBase size = IfSome size (λ size. (pos 0 ≤ℤ size) × (size ≤ℤ pos (2 ^ 32)))

-- the sizes of a containing block
pub record IsBounded (c : Constraint) : Type 0 where
  pub inline : IsBase c.inline
  pub block : IsBase c.block

-- the sizes of a view
pub record IsPageView (view : PageView) : Type 0 where
  pub across_low : pos 0 ≤ℤ view.across
  pub across_high : view.across ≤ℤ pos (2 ^ 32)
  pub down_low : pos 0 ≤ℤ view.down
  pub down_high : view.down ≤ℤ pos (2 ^ 32)

-- ---- intrinsic sizes

-- the least and the greatest size of a content, held
pub record IsContent (content : Intrinsic) : Type 0 where
  pub min_low : pos 0 ≤ℤ content.min
  pub min_high : content.min ≤ℤ pos (2 ^ 32)
  pub max_low : pos 0 ≤ℤ content.max
  pub max_high : content.max ≤ℤ pos (2 ^ 32)

-- the contribution of a child
pub record IsContribution (contribution : Intrinsic) : Type 0 where
  pub min : unsigned_abs contribution.min ≤ 2 ^ 37
  pub max : unsigned_abs contribution.max ≤ 2 ^ 37
