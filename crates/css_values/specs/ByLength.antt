-- The rows of the table of properties by the lengths of their names.
use Rattle.std.specs.Prelude.{ℕ, List, filter_map, map, slice_get}
use Rattle.css_values.specs.declared.by_length.TheConstants.{PLACES_BY_LENGTH}

-- the rows of a table at these places
abbrev pub rows_at : {T : Type 0} → List (List ℕ × T) → (places : List ℕ) → List (List ℕ × T)
rows_at table places = filter_map (slice_get table) places

-- for each length the places of the names that are so long
unfoldable pub places_by_length : List (List ℕ)
places_by_length = map (λ places. places.now) PLACES_BY_LENGTH
