-- Grammars whose values may speak of what stands behind a text: by it the place of a text in an input is told.
use Rattle.std.specs.Prelude.{◌≡◌, ◌⊎◌, ℕ, List, ◌++◌, Ok, Err}
use Rattle.reading.specs.Readers.{Reader, ReaderOr}
use Rattle.reading.specs.Grammars.{Grammar}

-- which texts stand for which values where these bytes stand behind them
abbrev pub PlacedGrammar : Type 0 → Type 1
PlacedGrammar A = (text behind : List ℕ) → A → Type 0

-- wherever it stands
abbrev pub Anywhere : {A : Type 0} → Grammar A → PlacedGrammar A
Anywhere R text behind x = R text x

-- one after the other
abbrev pub PlacedSeq : {A B : Type 0} → PlacedGrammar A → (A → PlacedGrammar B) → PlacedGrammar B
PlacedSeq {A} R S text behind y = (x : A) × (front back : List ℕ) × R front (back ++ behind) x × S x back behind y × (text ≡ front ++ back)

-- another view of the values
abbrev pub PlacedMapped : {A B : Type 0} → (A → B) → PlacedGrammar A → PlacedGrammar B
PlacedMapped {A} view R text behind y = (x : A) × R text behind x × (y ≡ view x)

-- one or the other
abbrev pub PlacedEither : {A : Type 0} → PlacedGrammar A → PlacedGrammar A → PlacedGrammar A
PlacedEither R S text behind x = R text behind x ⊎ S text behind x

-- What is read stands in the grammar; what stands in the grammar is read, where the bytes behind it let it end.
pub record SpellsPlaced {E A : Type 0} (f : ReaderOr E A) (R : PlacedGrammar A) (Ends : List ℕ → Type 0) : Type 0 where
  pub takes : (bytes : List ℕ) (x : A) (rest : List ℕ) → f bytes ≡ Ok (x, rest) → (text : List ℕ) × R text rest x × (bytes ≡ text ++ rest)
  pub again : (text : List ℕ) (x : A) (rest : List ℕ) → R text rest x → Ends rest → f (text ++ rest) ≡ Ok (x, rest)

-- whatever stands behind, a text of the grammar goes on so from this front
pub record GoesOnInPlace {A : Type 0} (R : PlacedGrammar A) (front : List ℕ) : Type 0 where
  pub more : List ℕ
  pub is : (behind : List ℕ) → (x : A) × R (front ++ more) behind x

-- where the reader stops, what was read is the front of a text of the grammar
pub record IsViableInPlace {A : Type 0} (f : Reader A) (R : PlacedGrammar A) : Type 0 where
  pub viable : (bytes left : List ℕ) → f bytes ≡ Err left → (text : List ℕ) × GoesOnInPlace R text × (bytes ≡ text ++ left)
