use Rattle.std.proofs.Common.{ℕ, ◌<◌, slice_index_or}
use Rattle.line_fill.specs.declared.item.FillItem.{FillItem}
use Rattle.line_fill.specs.Forward.{IsForward}
use Rattle.line_fill.proofs.forward.are_forward.Given as goal

-- those before the place are
abbrev pub invariant-loop-place : goal.invariant-loop-place
invariant-loop-place g l = (k : ℕ) (d : FillItem) → k < l.place → IsForward (slice_index_or (g.S.FillSource.items l.source) k d)
