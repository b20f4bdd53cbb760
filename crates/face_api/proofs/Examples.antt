-- The tables of the kinds, computed.
use Rattle.std.specs.Prelude.{◌≡◌, refl, true, false, [], ◌∷◌, Some, None}
use Rattle.face_api.specs.Kinds.{mono_table, wide_table, first_table}
use Rattle.face_api.specs.Living.{used_table}
use Rattle.face_api.specs.Table.{advance_of, set_row}

-- `i`, U+2E7F, U+2E80 and upright `i`
mono : advance_of mono_table 0x69 false ∷ advance_of mono_table 0x2E7F false ∷ advance_of mono_table 0x2E80 false ∷ advance_of mono_table 0x69 true ∷ [] ≡ 500 ∷ 500 ∷ 1000 ∷ 1000 ∷ []
unfolding advance_of
mono = refl

wide : advance_of wide_table 0x69 false ∷ advance_of wide_table 0x3042 false ∷ advance_of wide_table 0x69 true ∷ [] ≡ 1000 ∷ 1000 ∷ 1000 ∷ []
unfolding advance_of
wide = refl

-- `i`, `m`, `a`, upright `i`
first : advance_of first_table 0x69 false ∷ advance_of first_table 0x6D false ∷ advance_of first_table 0x61 false ∷ advance_of first_table 0x69 true ∷ [] ≡ 250 ∷ 750 ∷ 500 ∷ 1000 ∷ []
unfolding advance_of
first = refl

-- an advance replaced, one put between, one put upright
replaced : (set_row first_table 0x69 false 500).rows ≡ record { character = 0x69; upright = false; value = 500 } ∷ record { character = 0x6D; upright = false; value = 750 } ∷ []
unfolding set_row
replaced = refl

between : (set_row (set_row first_table 0x6B false 1) 0x69 true 2).rows
    ≡ record { character = 0x69; upright = false; value = 250 } ∷ record { character = 0x69; upright = true; value = 2 } ∷ record { character = 0x6B; upright = false; value = 1 } ∷ record { character = 0x6D; upright = false; value = 750 } ∷ []
unfolding set_row
between = refl

-- a retired face and one that never was give way to face 0
given_way : used_table (Some mono_table ∷ Some wide_table ∷ None ∷ []) 2 ≡ mono_table
unfolding used_table
given_way = refl

never_was : used_table (Some mono_table ∷ Some wide_table ∷ []) 2 ≡ mono_table
unfolding used_table
never_was = refl
