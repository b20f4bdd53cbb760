-- The units of a text in a way are those of a horizontal flow.
use Rattle.std.proofs.Common.{◌≡◌, ◌∙◌, refl, sym, ap, List, [], ◌∷◌, ◌++◌, map}
use Rattle.std.proofs.lemmas.List.{map-append}
use Rattle.std.specs.List.{flat_map}
use Rattle.face_api.specs.Table.{Table}
use Rattle.style_types.specs.declared.style.Style.{Style}
use Rattle.cluster_units.specs.Cluster.{unit_clusters}
use Rattle.cluster_units.specs.Runs.{Run, items, runs_of}
use Rattle.cluster_units.specs.Unit.{joins, run_units, single_unit, units_of}
use Rattle.flow_modes.specs.Prepared.{UnitsAlike, unit_in}
use Rattle.mode_ways.specs.Ways.{Way, across, down, left, right, plain, style_in}

-- no unit is upright in any way, so all advance alike
single_same : (way : Way) (style : Style) (table : Table) (cluster : _) → single_unit (style_in way style) table cluster ≡ unit_in way (single_unit (style_in plain style) table cluster)
single_same (across orientation combine) style table cluster = refl
single_same down style table cluster = refl
single_same (right orientation combine) style table cluster = refl
single_same (left orientation combine) style table cluster = refl

singles_same : (way : Way) (style : Style) (table : Table) (clusters : List _) → map (single_unit (style_in way style) table) clusters ≡ map (unit_in way) (map (single_unit (style_in plain style) table) clusters)
singles_same way style table [] = refl
singles_same way style table (cluster ∷ clusters) = λ i. single_same way style table cluster i ∷ singles_same way style table clusters i

-- in no way are units combined
run_same : (way : Way) (style : Style) (table : Table) (run : Run _) → run_units (style_in way style) table run ≡ map (unit_in way) (run_units (style_in plain style) table run)
run_same (across orientation combine) style table run = singles_same (across orientation combine) style table (items run)
run_same down style table run = singles_same down style table (items run)
run_same (right orientation combine) style table run = singles_same (right orientation combine) style table (items run)
run_same (left orientation combine) style table run = singles_same (left orientation combine) style table (items run)

runs_same : (way : Way) (style : Style) (table : Table) (runs : List (Run _))
    → flat_map (run_units (style_in way style) table) runs ≡ map (unit_in way) (flat_map (run_units (style_in plain style) table) runs)
runs_same way style table [] = refl
runs_same way style table (run ∷ runs) =
    (λ i. run_same way style table run i ++ runs_same way style table runs i)
    ∙ sym (map-append (unit_in way) (run_units (style_in plain style) table run) (flat_map (run_units (style_in plain style) table) runs))

-- so texts are cut alike
cut_same : (way : Way) (style : Style) (clusters : List _) → runs_of (joins (style_in way style)) clusters ≡ runs_of (joins (style_in plain style)) clusters
cut_same (across orientation combine) style clusters = refl
cut_same down style clusters = refl
cut_same (right orientation combine) style clusters = refl
cut_same (left orientation combine) style clusters = refl

pub units_alike : UnitsAlike
unfolding units_of
units_alike way style table text =
    ap (flat_map (run_units (style_in way style) table)) (cut_same way style (unit_clusters text))
    ∙ runs_same way style table (runs_of (joins (style_in plain style)) (unit_clusters text))
