-- Up to eight tables, each with its mark of life: None is a face that is retired.
use Rattle.std.specs.Prelude.{ℕ, Bool, List, Option, None, option_map, unwrap_or, slice_index_or, slice_set}
use Rattle.face_api.specs.Table.{Table, set_row}
use Rattle.face_api.specs.Kinds.{mono_table}

-- the table of a face that lives; None for one that never was or is retired
abbrev pub living : List (Option Table) → ℕ → Option Table
living tables face = slice_index_or tables face None

-- the face where it lives, else face 0, which always lives
unfoldable pub used_table : List (Option Table) → ℕ → Table
used_table tables face = unwrap_or (living tables face) (unwrap_or (living tables 0) mono_table)

-- the tables with an advance changed in one
unfoldable pub set_table : List (Option Table) → ℕ → ℕ → Bool → ℕ → List (Option Table)
set_table tables face c upright value =
    slice_set tables face (option_map (λ table. set_row table c upright value) (living tables face))

-- the tables with a face retired
abbrev pub retired : List (Option Table) → ℕ → List (Option Table)
retired tables face = slice_set tables face None
