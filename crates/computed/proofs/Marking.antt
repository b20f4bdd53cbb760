-- The marks of the properties that have a winner.
use Rattle.std.proofs.Common.{◌≡◌, ◌≢◌, ◌⊎◌, inl, inr, eqb, ℕ, zero, suc, ◌<◌, ◌+◌, Bool, true, false, List, [], ◌∷◌, length, take, get_or, set, refl, sym, ap, ◌∙◌, arith, replicate}
use Rattle.std.specs.Prelude.{◌||◌, cond, Option, None, Some, find, option_map}
use Rattle.std.specs.List.{list_any}
use Rattle.std.proofs.Math.Bool.{or-false, or-true}
use Rattle.std.proofs.lemmas.List.{get_or-set_other, length-set}
use Rattle.std.proofs.lemmas.List.Folds.{list_any_more}
use Rattle.std.proofs.lemmas.Grind.{get_or-set_at}
use Rattle.std.proofs.lemmas.Bool.Decides.{eqb_tells}
use Rattle.css_types.specs.declared.table.TheConstants.{PROPERTY_COUNT}
use Rattle.css_types.specs.declared.property.Property.{Property}
use Rattle.css_types.specs.declared.value.Value.{Value}
use Rattle.css_types.specs.Property.{place_of}
use Rattle.computed.specs.Winners.{AreMarked, Winning, has, won}

-- the marks of the first winners, one for each place of the table
abbrev pub IsMarking : (winners : Winning) (i : ℕ) (marks : List Bool) → Type 0
IsMarking winners i marks = (length marks ≡ PROPERTY_COUNT) × AreMarked marks (take i winners)

put_by : (p q : ℕ) (marks : List Bool) → p < length marks → ((eqb p q ≡ true) × (p ≡ q)) ⊎ ((eqb p q ≡ false) × (p ≢ q))
    → get_or (set marks p true) q false ≡ (get_or marks q false || eqb p q)
put_by p q marks lt (inl is) =
    get_or-set_at marks p q true false (sym is.1) lt ∙ sym (or-true (get_or marks q false)) ∙ ap (λ (b : Bool). get_or marks q false || b) (sym is.0)
put_by p q marks lt (inr other) =
    get_or-set_other marks p q true false (λ is. other.1 (sym is)) ∙ sym (or-false (get_or marks q false)) ∙ ap (λ (b : Bool). get_or marks q false || b) (sym other.0)

pub marking_goes_on : (winners : Winning) (i : ℕ) (d : Property × Value) (p : ℕ) (marks : List Bool) → i < length winners → p ≡ place_of (get_or winners i d).0 → p < PROPERTY_COUNT
    → IsMarking winners i marks → IsMarking winners (i + 1) (set marks p true)
marking_goes_on winners i d p marks lt is below now = (
  length-set marks p true ∙ now.0,
  λ place.
      put_by p place marks (omega (arith, now.0, below)) (eqb_tells p place)
      ∙ ap (λ (b : Bool). b || eqb p place) (now.1 place)
      ∙ ap (λ (n : ℕ). has (take i winners) place || eqb n place) is
      ∙ sym (list_any_more (λ (pair : Property × Value). eqb (place_of pair.0) place) winners i d lt),
)

no_mark : (n place : ℕ) → get_or (replicate n false) place false ≡ false
no_mark zero place = refl
no_mark (suc n) zero = refl
no_mark (suc n) (suc place) = no_mark n place

-- at first nothing is marked
pub marking_starts : (winners : Winning) → IsMarking winners 0 (replicate PROPERTY_COUNT false)
marking_starts winners = (refl, no_mark PROPERTY_COUNT)

-- ---- what has no mark has no winner

none_by : (b any : Bool) (first : Property × Value) (rest : Option (Property × Value)) → (any ≡ false → rest ≡ None) → (b || any) ≡ false → cond b (Some first) rest ≡ None
none_by true any first rest others e = absurd cc
none_by false any first rest others e = others e

none_found : (keeps : Property × Value → Bool) (winners : Winning) → list_any keeps winners ≡ false → find keeps winners ≡ None
none_found keeps [] e = refl
none_found keeps (winner ∷ winners) e = none_by (keeps winner) (list_any keeps winners) winner (find keeps winners) (none_found keeps winners) e

pub unmarked : (marks : List Bool) (winners : Winning) (property : Property) (place : ℕ) → AreMarked marks winners → place ≡ place_of property → get_or marks place false ≡ false → won winners property ≡ None
unfolding won
unmarked marks winners property place are is none =
    let unseen : has winners (place_of property) ≡ false = sym (are (place_of property)) ∙ ap (λ (n : ℕ). get_or marks n false) (sym is) ∙ none in
    ap (option_map (λ (pair : Property × Value). pair.1)) (none_found (λ (pair : Property × Value). eqb (place_of pair.0) (place_of property)) winners unseen)
