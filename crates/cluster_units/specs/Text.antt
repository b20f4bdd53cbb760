-- Which units are combined runs.
use Rattle.std.specs.Prelude.{Bool, true, false}
use Rattle.fragment_types.specs.declared.unit_kind.UnitKind.{UnitKind}
use Rattle.fragment_types.specs.declared.unit_kind.UnitKind.TheVariants.{Combined}

abbrev pub is_combined : UnitKind → Bool
is_combined Combined = true
is_combined _ = false
