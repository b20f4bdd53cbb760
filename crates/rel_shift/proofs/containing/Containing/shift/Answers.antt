use Rattle.std.specs.Prelude.{◌^◌}
use Rattle.std.proofs.Common.{sym, subst}
use Rattle.rel_shift.specs.Bounds.{IsWithin}
use Rattle.rel_shift.proofs.Axes.{axes_within}
use Rattle.rel_shift.proofs.containing.Containing.shift.Goals as goal

pub returns-clause-within : goal.returns-clause-within
returns-clause-within c =
    subst (IsWithin (2 ^ 32)) (sym c.plus.ensures)
    (axes_within (2 ^ 32) c.args.self.mode c.args.self.dir _ _ c.on_axis-along.result c.on_axis-across.result
    c.on_axis-along.ensures.value c.on_axis-across.ensures.value c.on_axis-along.ensures.within c.on_axis-across.ensures.within)
