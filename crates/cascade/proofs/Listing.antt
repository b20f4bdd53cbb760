-- The winners of the rows of the table, row by row.
use Rattle.std.proofs.Common.{◌≡◌, ℕ, List, [], ◌∷◌, ◌++◌, drop, map, refl, ap, ◌∙◌}
use Rattle.std.specs.Prelude.{Option, filter_map, option_map}
use Rattle.std.specs.List.{cons_option}
use Rattle.wm_modes.specs.declared.mode.WritingMode.{WritingMode}
use Rattle.wm_modes.specs.declared.mode.Direction.{Direction}
use Rattle.css_types.specs.declared.property.Property.{Property}
use Rattle.css_types.specs.declared.table.PropertyRow.{PropertyRow}
use Rattle.css_types.specs.declared.value.Value.{Value}
use Rattle.cascade.specs.declared.claim.Claim.{Claim}
use Rattle.cascade.specs.Winners.{listed_of, paired, winner, winners_by, AreBest}
use Rattle.css_types.specs.Table.{rows}

-- with the rows that are left, the winners are those of all
abbrev pub IsListing : {N : Type 0} → (best : List (Option Claim)) → (table : List (N × PropertyRow)) → (i : ℕ) → (made : List (Property × Value)) → Type 0
IsListing best table i made = made ++ listed_of best (map (λ named. named.1) (drop i table)) ≡ listed_of best (map (λ named. named.1) table)

-- each row has the winner of its property
listed_each : (mode : WritingMode) (dir : Direction) (list : List Claim) (best : List (Option Claim)) → AreBest mode dir list best
    → (table : List PropertyRow) → listed_of best table ≡ filter_map (λ row. paired row.property (winner mode dir list row.property)) table
listed_each mode dir list best are [] = refl
listed_each mode dir list best are (row ∷ table) =
    ap (λ (b : Option Claim). cons_option (paired row.property (option_map (λ claim. claim.value) b)) (listed_of best table)) (are row.property)
    ∙ ap (cons_option (paired row.property (winner mode dir list row.property))) (listed_each mode dir list best are table)
