-- The code's pairs, and the definition's lists that they stand for.
use Rattle.std.specs.Prelude.{◌≡◌, ℕ, ◌+◌, unsigned_abs}
use Rattle.margin_collapse.specs.Pairs.{IsPairOf}
use Rattle.block_flow.specs.Children.{margin_lengths}
use Rattle.block_flow.specs.Stacking.{Progress}
use Rattle.block_flow.specs.declared.reached.Reached.{Reached}

-- the code has come as far as the definition
pub record IsReached (reached : Reached) (progress : Progress) : Type 0 where
  pub y : reached.y ≡ progress.y
  pub pending : IsPairOf reached.pending progress.pending
  pub joined : reached.joined ≡ progress.joined
  pub start : IsPairOf reached.start progress.start_margins

-- how far from the container's content edge the next child can stand
abbrev pub span_of : Reached → ℕ
span_of reached = unsigned_abs reached.y + margin_lengths reached.pending
