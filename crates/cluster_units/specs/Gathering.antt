-- Units that are made one after the other, and the run at their end that may come to be combined. CSS Writing Modes 4, 9.1.
use Rattle.std.specs.Prelude.{ℕ, ◌≤◌, ◌-◌, Bool, true, false, ⊤, if◌then◌else◌, List, [], ◌∷◌, ◌++◌, length, take, Option, Some, None, ℤ, ◌+ℤ◌, unsigned_abs}
use Rattle.face_api.specs.Table.{Table}
use Rattle.style_types.specs.declared.style.Style.{Style}
use Rattle.cluster_units.specs.Unit.{cluster_unit, joins, may_have, plain_advance}
use Rattle.cluster_units.specs.declared.cluster.Cluster.{Cluster}
use Rattle.cluster_units.specs.declared.gathering.Gathering as gathering
use Rattle.cluster_units.specs.declared.gathering.OpenRun.{OpenRun}
use Rattle.cluster_units.specs.declared.unit.Unit.{Unit}
use Rattle.fragment_types.specs.declared.unit_kind.UnitKind.TheVariants.{Combined}
use Rattle.wm_chars.specs.declared.classes.BreakClass.TheVariants.{Ideographic}

-- the units so far, each of its cluster alone in the run at their end, if one is open
pub record Made : Type 0 where
  pub units : List Unit
  pub run : Option OpenRun

abbrev pub made_of : gathering.Gathering → Made
made_of g = record { units = g.units.items; run = g.run }

-- the run with one more unit, whose plain advance is this; a new one, whose first unit stands at this place, where none is open
abbrev pub run_with : (start : ℕ) → Option OpenRun → Unit → (natural : ℤ) → OpenRun
run_with start None unit natural = record { start = start; first = unit.first; end = unit.end; natural = natural }
run_with start (Some run) unit natural = record run { end = unit.end; natural = run.natural +ℤ natural }

-- the unit of a run that is combined
abbrev pub run_unit : Style → OpenRun → Unit
run_unit style run = record { first = run.first; end = run.end; kind = Combined; advance = style.font_size; natural = run.natural; break_class = Ideographic }

-- the units once nothing more joins the run at their end
abbrev pub closed : Style → List Unit → Option OpenRun → List Unit
closed style units None = units
closed style units (Some run) = if may_have style.combine (length units - run.start) then take run.start units ++ run_unit style run ∷ [] else units

-- with one more unit: one that joins the run at the end, and one that stands by itself
abbrev pub joined : Made → Unit → (natural : ℤ) → Made
joined made unit natural = record { units = made.units ++ unit ∷ []; run = Some (run_with (length made.units) made.run unit natural) }

abbrev pub apart : Style → Made → Unit → Made
apart style made unit = record { units = closed style made.units made.run ++ unit ∷ []; run = None }

abbrev pub added : Style → Made → (found : Option Unit) → (joining : Bool) → (natural : ℤ) → Made
added style made None joining natural = made
added style made (Some unit) true natural = joined made unit natural
added style made (Some unit) false natural = apart style made unit

-- with one more cluster
abbrev pub with_cluster : Style → Table → Made → Cluster → Made
with_cluster style table made cluster = added style made (cluster_unit style table cluster) (joins style cluster) (plain_advance style table cluster)

-- the run at the end is no wider than this by itself
abbrev pub IsWithin : ℕ → Option OpenRun → Type 0
IsWithin most None = ⊤
IsWithin most (Some run) = unsigned_abs run.natural ≤ most
