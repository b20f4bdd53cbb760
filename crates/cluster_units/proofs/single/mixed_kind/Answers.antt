use Rattle.std.proofs.Common.{◌∙◌, sym, ap, Bool}
use Rattle.std.specs.Prelude.{if◌then◌else◌}
use Rattle.fragment_types.specs.declared.unit_kind.UnitKind.{UnitKind}
use Rattle.fragment_types.specs.declared.unit_kind.UnitKind.TheVariants.{Turned, Upright}
use Rattle.cluster_units.proofs.Upright.{mixed_is}
use Rattle.cluster_units.proofs.single.mixed_kind.Goals as goal

kind_if : Bool → UnitKind
kind_if upright = if upright then Upright else Turned

pub returns-then-is_upright : goal.returns-then-is_upright
unfolding kind_if
returns-then-is_upright c = ap kind_if (sym c.if-is_upright.true) ∙ mixed_is c.upright_from_u_3000.ensures c.args.c c.args.class c.is_upright.result c.requires c.is_upright.ensures

pub returns-else-is_upright : goal.returns-else-is_upright
unfolding kind_if
returns-else-is_upright c = ap kind_if (sym c.if-is_upright.false) ∙ mixed_is c.upright_from_u_3000.ensures c.args.c c.args.class c.is_upright.result c.requires c.is_upright.ensures
