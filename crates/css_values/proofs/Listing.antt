-- Declarations, turn by turn.
use Rattle.std.proofs.Common.{◌≡◌, ℕ, ◌<◌, true, false, List, [], length, Ok, sym, ap, ◌∙◌}
use Rattle.std.specs.Prelude.{Bool, not}
use Rattle.reading.specs.Readers.{ReadOr, repeat}
use Rattle.reading.proofs.Turns.{IsTurning, turning_starts, turning_goes_on, turning_stops, turning_ends}
use Rattle.css_types.specs.declared.value.Declaration.{Declaration}
use Rattle.css_values.specs.declared.within.Within.{Within}
use Rattle.css_values.specs.Error.{Stop}
use Rattle.reading.specs.declared.stop.Stop.TheVariants as stops
use Rattle.css_values.specs.Declarations.{goes_on, list_ends, turn}
use Rattle.reading.specs.Stop.{Stops}
use Rattle.css_values.specs.Error.{Fault}

abbrev pub total_of : Within → (end_ : ℕ) → List ℕ → ReadOr Fault (List Declaration)
total_of within end_ text = repeat (goes_on within) (turn within end_) [] text

abbrev pub IsListing : Within → (end_ : ℕ) → (text : List ℕ) → List Declaration → (rest : List ℕ) → Type 0
IsListing within end_ text all rest = IsTurning (goes_on within) (turn within end_) (total_of within end_ text) all rest

pub listing_starts : (within : Within) (end_ : ℕ) (text : List ℕ) → IsListing within end_ text [] text
listing_starts within end_ text = turning_starts (goes_on within) (turn within end_) [] text

pub listing_goes_on : (within : Within) (end_ : ℕ) (text rest after : List ℕ) (all more : List Declaration) → IsListing within end_ text all rest → not (list_ends within rest) ≡ true
    → turn within end_ all rest ≡ Ok (more, after) → length after < length rest → IsListing within end_ text more after
listing_goes_on within end_ text rest after all more is g e lt = turning_goes_on more after is g e lt

pub listing_stops : (within : Within) (end_ : ℕ) (text rest : List ℕ) (all : List Declaration) (stop_ : Stop) → IsListing within end_ text all rest → not (list_ends within rest) ≡ true
    → Stops stop_ (turn within end_ all rest) → Stops stop_ (total_of within end_ text)
listing_stops within end_ text rest all (stops.Refused kind left) is g e = turning_stops (kind, left.now) is g e
listing_stops within end_ text rest all stops.Memory is g e = tt

pub listing_ends : (within : Within) (end_ : ℕ) (text rest : List ℕ) (all : List Declaration) → IsListing within end_ text all rest → not (list_ends within rest) ≡ false → total_of within end_ text ≡ Ok (all, rest)
listing_ends within end_ text rest all is g = turning_ends is g

pub going : (within : Within) (rest : List ℕ) (ends : Bool) → ends ≡ list_ends within rest → ends ≡ false → not (list_ends within rest) ≡ true
going within rest ends e f = ap not (sym e ∙ f)

pub ended : (within : Within) (rest : List ℕ) (ends : Bool) → ends ≡ list_ends within rest → ends ≡ true → not (list_ends within rest) ≡ false
ended within rest ends e f = ap not (sym e ∙ f)
