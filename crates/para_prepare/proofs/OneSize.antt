-- A combined run advances one font size.
use Rattle.std.proofs.Common.{◌≡◌, refl, sym, subst, ◌∙◌, ℕ, List, [], ◌∷◌, map, inl, inr, arith}
use Rattle.std.specs.Prelude.{All}
use Rattle.std.specs.List.{flat_map}
use Rattle.std.proofs.lemmas.Bool.{cases_Bool, true≢false}
use Rattle.std.proofs.lemmas.List.Elements.{All-append, All-cons}
use Rattle.face_api.specs.Table.{Table}
use Rattle.style_types.specs.declared.style.Style.{Style}
use Rattle.cluster_units.specs.Cluster.{unit_clusters}
use Rattle.cluster_units.specs.Runs.{items, runs_of}
use Rattle.cluster_units.specs.Unit.{combined_unit, combines, joins, run_units, single_unit, units_of}
use Rattle.cluster_units.specs.declared.unit.Unit.{Unit}
use Rattle.cluster_units.proofs.Walk.{never_alone}
use Rattle.para_prepare.specs.Views.{HasOneSize}

module _ (style : Style) (table : Table) where
  none : All (HasOneSize style) []
  none = λ k d lt. absurd (omega arith)

  -- a unit of one cluster is no combined run
  single_sizes : (clusters : List _) → All (HasOneSize style) (map (single_unit style table) clusters)
  single_sizes [] = none
  single_sizes (cluster ∷ clusters) =
      All-cons (HasOneSize style) (single_unit style table cluster) (map (single_unit style table) clusters) (λ combined. absurd (true≢false (sym combined ∙ never_alone style cluster.head)))
      (single_sizes clusters)

  run_sizes : (run : _) → All (HasOneSize style) (run_units style table run)
  run_sizes run = elim (cases_Bool (combines style run)) [
    | inl combined ↦ rw combined (All-cons (HasOneSize style) (combined_unit style table run) [] (λ is. refl) none)
    | inr apart ↦ rw apart (single_sizes (items run))
  ]

  each_size : (runs : List _) → All (HasOneSize style) (flat_map (run_units style table) runs)
  each_size [] = none
  each_size (run ∷ runs) = All-append (HasOneSize style) (run_units style table run) (flat_map (run_units style table) runs) (run_sizes run) (each_size runs)

  all_sizes : (text : List ℕ) → All (HasOneSize style) (units_of style table text)
  unfolding units_of
  all_sizes text = each_size (runs_of (joins style) (unit_clusters text))

pub sizes_of : (style : Style) (table : Table) (text : List ℕ) (units made : List Unit) → units ≡ units_of style table text → made ≡ units → All (HasOneSize style) made
sizes_of style table text units made is same = subst (All (HasOneSize style)) (sym (same ∙ is)) (all_sizes style table text)
