-- The greatest claim of a list, found claim by claim.
use Rattle.std.proofs.Common.{◌≡◌, ◌≢◌, ◌⊎◌, inl, inr, eqb, ℕ, ◌<◌, ◌≤◌, ◌+◌, Bool, true, false, List, ◌∷◌, length, drop, get_or, set, refl, arith, sym, ap, ◌∙◌}
use Rattle.std.specs.Borrow.{Bor}
use Rattle.std.specs.Prelude.{Option, None, filter, cond}
use Rattle.std.proofs.Math.ListN.{get_or-map}
use Rattle.std.proofs.lemmas.List.{drop_all, drop_more, get_or-set_other, length-set, map-set}
use Rattle.std.proofs.lemmas.Grind.{get_or-set_at}
use Rattle.std.proofs.lemmas.Bool.Decides.{eqb_tells}
use Rattle.cascade.proofs.Best.{none_behind}
use Rattle.cascade.specs.declared.claim.Claim.{Claim}
use Rattle.wm_modes.specs.declared.mode.WritingMode.{WritingMode}
use Rattle.wm_modes.specs.declared.mode.Direction.{Direction}
use Rattle.css_types.specs.declared.table.TheConstants.{PROPERTY_COUNT}
use Rattle.css_types.specs.declared.property.Property.{Property}
use Rattle.css_types.specs.Page.{page_of}
use Rattle.css_types.specs.Property.{place_of}
use Rattle.cascade.specs.Winners.{claim_of, claims_of, greater, greatest, greatest_from, greater_if, naming, same_property, AreBest}

by_bool : (b : Bool) (best : Option Claim) (claim : Claim) (others : List Claim)
    → greatest_from best (cond b (claim ∷ others) others) ≡ greatest_from (greater_if b best claim) others
unfolding greatest_from
by_bool true best claim others = refl
by_bool false best claim others = refl

one_more : (keeps : Claim → Bool) (best : Option Claim) (claim : Claim) (others : List Claim)
    → greatest_from best (filter keeps (claim ∷ others)) ≡ greatest_from (greater_if (keeps claim) best claim) (filter keeps others)
one_more keeps best claim others = by_bool (keeps claim) best claim (filter keeps others)

-- with those that are left it is the greatest of all
pub goes_on : (keeps : Claim → Bool) (best next : Option Claim) (claims : List Claim) (i : ℕ) (d : Claim) (x : Option Claim)
    → i < length claims → next ≡ greater_if (keeps (get_or claims i d)) best (get_or claims i d)
    → greatest_from best (filter keeps (drop i claims)) ≡ x → greatest_from next (filter keeps (drop (i + 1) claims)) ≡ x
goes_on keeps best next claims i d x lt e now =
    ap (λ (b : Option Claim). greatest_from b (filter keeps (drop (i + 1) claims))) e
    ∙ sym (one_more keeps best (get_or claims i d) (drop (i + 1) claims))
    ∙ ap (λ (l : List Claim). greatest_from best (filter keeps l)) (sym (drop_more claims i d lt)) ∙ now

pub ends : (keeps : Claim → Bool) (best : Option Claim) (claims : List Claim) (i : ℕ) (x : Option Claim)
    → length claims ≤ i → greatest_from best (filter keeps (drop i claims)) ≡ x → best ≡ x
ends keeps best claims i x le now =
    sym (none_behind best) ∙ ap (λ (l : List Claim). greatest_from best (filter keeps l)) (sym (drop_all i claims le)) ∙ now

-- ---- of those that name a property

abbrev pub IsFirst : (property : Property) (claims : List Claim) (i : ℕ) (best : Option Claim) → Type 0
IsFirst property claims i best =
    greatest_from best (filter (λ claim. same_property claim.property property) (drop i claims))
    ≡ greatest (filter (λ claim. same_property claim.property property) claims)

pub first_goes_on : (property : Property) (claims : List Claim) (i : ℕ) (d : Claim) (counts : Bool) (best next : Option Claim)
    → i < length claims → counts ≡ same_property (get_or claims i d).property property → next ≡ greater_if counts best (get_or claims i d)
    → IsFirst property claims i best → IsFirst property claims (i + 1) next
first_goes_on property claims i d counts best next lt is e now =
    goes_on (λ claim. same_property claim.property property) best next claims i d _ lt (e ∙ ap (λ (b : Bool). greater_if b best (get_or claims i d)) is) now

pub first_ends : (property : Property) (claims : List Claim) (i : ℕ) (best : Option Claim)
    → length claims ≤ i → IsFirst property claims i best → best ≡ greatest (filter (λ claim. same_property claim.property property) claims)
first_ends property claims i best le now = ends (λ claim. same_property claim.property property) best claims i _ le now

-- ---- of each property of the page

abbrev pub IsBestSoFar : WritingMode → Direction → (claims : List Claim) (i : ℕ) (best : List (Option Claim)) → Type 0
IsBestSoFar mode dir claims i best = (length best ≡ PROPERTY_COUNT) × ((property : Property) →
    greatest_from (get_or best (place_of property) None) (naming mode dir property (drop i claims)) ≡ greatest (naming mode dir property claims))

-- what is at the property's own place is the greater one, all other places keep what they have
put_by : (p q : ℕ) (best : List (Option Claim)) (claim : Claim) → p < length best
    → ((eqb p q ≡ true) × (p ≡ q)) ⊎ ((eqb p q ≡ false) × (p ≢ q))
    → get_or (set best p (greater (get_or best p None) claim)) q None ≡ greater_if (eqb p q) (get_or best q None) claim
put_by p q best claim lt (inl is) =
    get_or-set_at best p q (greater (get_or best p None) claim) None (sym is.1) lt
    ∙ ap (λ (n : ℕ). greater (get_or best n None) claim) is.1
    ∙ ap (λ (b : Bool). greater_if b (get_or best q None) claim) (sym is.0)
put_by p q best claim lt (inr other) =
    get_or-set_other best p q (greater (get_or best p None) claim) None (λ is. other.1 (sym is))
    ∙ ap (λ (b : Bool). greater_if b (get_or best q None) claim) (sym other.0)

put : (best : List (Option Claim)) (claim : Claim) (page property : Property) → place_of page < length best
    → get_or (set best (place_of page) (greater (get_or best (place_of page) None) claim)) (place_of property) None
    ≡ greater_if (same_property page property) (get_or best (place_of property) None) claim
put best claim page property lt = put_by (place_of page) (place_of property) best claim lt (eqb_tells (place_of page) (place_of property))

pub best_goes_on : (mode : WritingMode) (dir : Direction) (claims : List Claim) (i : ℕ) (d : Claim) (page : Property) (place : ℕ) (best : List (Option Claim)) (next : Option Claim)
    → i < length claims → page ≡ page_of mode dir (get_or claims i d).property → place ≡ place_of page → place < PROPERTY_COUNT → next ≡ greater (get_or best place None) (get_or claims i d)
    → IsBestSoFar mode dir claims i best → IsBestSoFar mode dir claims (i + 1) (set best place next)
best_goes_on mode dir claims i d page place best next lt is at below e now =
    let lt_ : place_of (page_of mode dir (get_or claims i d).property) < length best = omega (arith, now.0, below, at, ap place_of is) in
    let there : place ≡ place_of (page_of mode dir (get_or claims i d).property) = at ∙ ap place_of is in
    let due : next ≡ greater (get_or best (place_of (page_of mode dir (get_or claims i d).property)) None) (get_or claims i d) =
    e ∙ ap (λ (n : ℕ). greater (get_or best n None) (get_or claims i d)) there in
    let new : set best place next ≡ set best (place_of (page_of mode dir (get_or claims i d).property)) (greater (get_or best (place_of (page_of mode dir (get_or claims i d).property)) None) (get_or claims i d)) =
    ap (λ (n : ℕ). set best n next) there ∙ ap (set best (place_of (page_of mode dir (get_or claims i d).property))) due in (
      length-set best place next ∙ now.0,
      λ property. goes_on (λ claim. same_property (page_of mode dir claim.property) property) (get_or best (place_of property) None) (get_or (set best place next) (place_of property) None) claims i d _ lt
          (ap (λ (l : List (Option Claim)). get_or l (place_of property) None) new ∙ put best (get_or claims i d) (page_of mode dir (get_or claims i d).property) property lt_)
          (now.1 property),
    )

-- the same for claims that are referred to
pub best_goes_on_at : (mode : WritingMode) (dir : Direction) (claims : List Claim) (i : ℕ) (d : Claim) (page : Property) (place : ℕ) (best : List (Option (Bor Claim))) (next : Option (Bor Claim))
    → i < length claims → page ≡ page_of mode dir (get_or claims i d).property → place ≡ place_of page → place < PROPERTY_COUNT → claim_of next ≡ greater (claim_of (get_or best place None)) (get_or claims i d)
    → IsBestSoFar mode dir claims i (claims_of best) → IsBestSoFar mode dir claims (i + 1) (claims_of (set best place next))
best_goes_on_at mode dir claims i d page place best next lt is at below e now =
    let put_ : claims_of (set best place next) ≡ set (claims_of best) place (claim_of next) = map-set claim_of best place next in
    let due : claim_of next ≡ greater (get_or (claims_of best) place None) (get_or claims i d) =
    e ∙ ap (λ (b : Option Claim). greater b (get_or claims i d)) (sym (get_or-map claim_of best place None)) in
    rw put_ (best_goes_on mode dir claims i d page place (claims_of best) (claim_of next) lt is at below due now)

pub best_ends : (mode : WritingMode) (dir : Direction) (claims : List Claim) (i : ℕ) (best : List (Option Claim))
    → length claims ≤ i → IsBestSoFar mode dir claims i best → AreBest mode dir claims best
best_ends mode dir claims i best le now property =
    ends (λ claim. same_property (page_of mode dir claim.property) property) (get_or best (place_of property) None) claims i _ le (now.1 property)
