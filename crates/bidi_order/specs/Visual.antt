-- The visual order of a line's items, where what X9 leaves in the line between two of them parts them (UAX 9, X9 and L2).
use Rattle.std.specs.Prelude.{ℕ, ◌+◌, Bool, true, false, List, [], ◌∷◌, map, Option, Some, None, slice_index_or}
use Rattle.std.specs.List.{filter_map}
use Rattle.bidi_order.specs.Reversals.{order}
use Rattle.bidi_order.specs.declared.visual.Seat.{Seat}

-- a place of the list that L2 orders: an item, or what parts two items
abbrev pub seat : (level : ℕ) → (item : Option ℕ) → Seat
seat level item = record { level = level; item = item }

abbrev pub parting : (apart : Option ℕ) → List Seat → List Seat
parting None seats = seats
parting (Some apart) seats = seat apart None ∷ seats

-- the items from this one on, and what parts each from the item before it
abbrev pub seats_from : (item : ℕ) → (levels : List ℕ) → (aparts : List (Option ℕ)) → List Seat
seats_from item [] aparts = []
seats_from item (level ∷ levels) [] = []
seats_from item (level ∷ levels) (apart ∷ aparts) = parting apart (seat level (Some item) ∷ seats_from (item + 1) levels aparts)

abbrev pub parts_nothing : (apart : Option ℕ) → Bool
parts_nothing None = true
parts_nothing (Some apart) = false

-- what parts a line's first item from the one before it stands on another line
abbrev pub within_line : List (Option ℕ) → List (Option ℕ)
within_line [] = []
within_line (apart ∷ aparts) = None ∷ aparts

abbrev pub seats : (levels : List ℕ) → (aparts : List (Option ℕ)) → List Seat
seats levels aparts = seats_from 0 levels (within_line aparts)

-- L2 on the list in which what X9 leaves in the line still stands between its items, as it parts what it stands between;
-- then the places of the items alone
unfoldable pub visual_order : (levels : List ℕ) → (aparts : List (Option ℕ)) → List ℕ
visual_order levels aparts =
    filter_map (λ p. (slice_index_or (seats levels aparts) p (seat 0 None)).item) (order (map (λ seat. seat.level) (seats levels aparts)))
