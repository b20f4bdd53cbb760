use Rattle.std.proofs.Common.{◌≡◌, ◌++◌, drop}
use Rattle.fragment_types.specs.Glyphs.{lists_of}
use Rattle.fragment_types.proofs.glyphs.copy_of_units.Given as goal

abbrev pub invariant-loop-unit : goal.invariant-loop-unit
invariant-loop-unit l = lists_of l.own.items ++ lists_of (drop l.unit-index l.units) ≡ lists_of l.units
