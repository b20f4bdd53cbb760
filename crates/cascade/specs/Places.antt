-- Places under names.
use Rattle.std.specs.Prelude.{ℕ, List, []}
use Rattle.std.specs.HashMap.{get_by_text}
use Rattle.std.specs.Option.{option_map_or}
use Rattle.cascade.specs.declared.places.Places.{Places}

-- the places under a name
abbrev pub places_under : Places → (name : List ℕ) → List ℕ
places_under places name = option_map_or (λ list. list.items) (get_by_text places.under name) []
