-- Some stacks, computed. `negsuc n` is -(n + 1).
use Rattle.std.specs.Prelude.{◌≡◌, refl, List, [], ◌∷◌, pos, negsuc, true, false}
use Rattle.block_flow.specs.Children.{Child}
use Rattle.block_flow.specs.Stacking.{places_of, extent, stacked, handed}

-- three children, the second collapsed through, in a container whose ends both join
abbrev worked : List Child
worked =
    (record { size = pos 640; start_margins = ([]); end_margins = ([]); through = false }) ∷
    (record { size = pos 0; start_margins = (pos 1280 ∷ []); end_margins = (negsuc 511 ∷ []); through = true }) ∷
    (record { size = pos 320; start_margins = (pos 768 ∷ []); end_margins = ([]); through = false }) ∷
    []

worked_places : places_of true worked ≡ (pos 0 ∷ pos 1920 ∷ pos 1408 ∷ [])
worked_places = refl

worked_extent : extent true (stacked true worked) ≡ pos 1728
worked_extent = refl

-- the first child's margins adjoin the container's start
abbrev first_joined : List Child
first_joined =
    (record { size = pos 100; start_margins = (pos 20 ∷ []); end_margins = (pos 30 ∷ []); through = false }) ∷
    []

first_joined_places : places_of true first_joined ≡ (pos 0 ∷ [])
first_joined_places = refl

first_joined_extent : extent true (stacked true first_joined) ≡ pos 100
first_joined_extent = refl

-- or they don't, and the last one's count in the extent
abbrev first_apart : List Child
first_apart =
    (record { size = pos 100; start_margins = (pos 20 ∷ []); end_margins = (pos 30 ∷ []); through = false }) ∷
    []

first_apart_places : places_of false first_apart ≡ (pos 20 ∷ [])
first_apart_places = refl

first_apart_extent : extent false (stacked false first_apart) ≡ pos 150
first_apart_extent = refl

-- negative margins draw a child over the one before it
abbrev overlapping : List Child
overlapping =
    (record { size = pos 50; start_margins = ([]); end_margins = (negsuc 29 ∷ []); through = false }) ∷
    (record { size = pos 10; start_margins = ([]); end_margins = ([]); through = false }) ∷
    []

overlapping_places : places_of false overlapping ≡ (pos 0 ∷ pos 20 ∷ [])
overlapping_places = refl

overlapping_extent : extent false (stacked false overlapping) ≡ pos 30
overlapping_extent = refl

-- an extent isn't below 0
abbrev negative_extent : List Child
negative_extent =
    (record { size = pos 10; start_margins = (negsuc 39 ∷ []); end_margins = ([]); through = false }) ∷
    []

negative_extent_places : places_of false negative_extent ≡ (negsuc 39 ∷ [])
negative_extent_places = refl

negative_extent_extent : extent false (stacked false negative_extent) ≡ pos 0
negative_extent_extent = refl

-- children that are all collapsed through, whose margins go out at both ends
abbrev all_through : List Child
all_through =
    (record { size = pos 0; start_margins = (pos 30 ∷ []); end_margins = (negsuc 9 ∷ []); through = true }) ∷
    (record { size = pos 0; start_margins = (pos 5 ∷ []); end_margins = ([]); through = true }) ∷
    []

all_through_places : places_of true all_through ≡ (pos 0 ∷ pos 0 ∷ [])
all_through_places = refl

all_through_extent : extent true (stacked true all_through) ≡ pos 0
all_through_extent = refl

all_through_start : (stacked true all_through).start_margins ≡ (pos 30 ∷ negsuc 9 ∷ pos 5 ∷ [])
all_through_start = refl

all_through_end : handed true (stacked true all_through) ≡ (pos 30 ∷ negsuc 9 ∷ pos 5 ∷ [])
all_through_end = refl

-- or stay inside
abbrev all_through_kept : List Child
all_through_kept =
    (record { size = pos 0; start_margins = (pos 30 ∷ []); end_margins = (negsuc 9 ∷ []); through = true }) ∷
    (record { size = pos 0; start_margins = (pos 5 ∷ []); end_margins = ([]); through = true }) ∷
    []

all_through_kept_places : places_of false all_through_kept ≡ (pos 30 ∷ pos 20 ∷ [])
all_through_kept_places = refl

all_through_kept_extent : extent false (stacked false all_through_kept) ≡ pos 20
all_through_kept_extent = refl

-- a collapsed child before the first other one, joined to the start
abbrev thin_first : List Child
thin_first =
    (record { size = pos 0; start_margins = ([]); end_margins = (pos 40 ∷ []); through = true }) ∷
    (record { size = pos 13; start_margins = (pos 29 ∷ []); end_margins = (negsuc 10 ∷ []); through = false }) ∷
    []

thin_first_places : places_of true thin_first ≡ (pos 0 ∷ pos 0 ∷ [])
thin_first_places = refl

thin_first_extent : extent false (stacked true thin_first) ≡ pos 2
thin_first_extent = refl

thin_first_start : (stacked true thin_first).start_margins ≡ (pos 40 ∷ pos 29 ∷ [])
thin_first_start = refl
