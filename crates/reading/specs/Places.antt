-- Where a reader stops: at the first byte with which no text of its grammar goes on. That is two facts, each kept by
-- the ways to build readers: the answer hangs on the bytes up to the next one alone, and what was read is the front of
-- a text of the grammar.
use Rattle.std.specs.Prelude.{◌≡◌, ℕ, Bool, List, ◌∷◌, ◌++◌, Ok, Err}
use Rattle.reading.specs.Readers.{Reader}
use Rattle.reading.specs.Grammars.{Grammar}

-- the same byte comes next in both
abbrev pub SameNext : List ℕ → List ℕ → Type 0
SameNext rest other = (next : ℕ) × (later more : List ℕ) × (rest ≡ next ∷ later) × (other ≡ next ∷ more)

-- a test that looks at the next byte alone
pub record SeesNext (test : List ℕ → Bool) : Type 0 where
  pub sees : (rest other : List ℕ) → SameNext rest other → test rest ≡ test other

-- What is left is an end of the bytes. With other bytes behind the next one the answer stays.
pub record IsLocal {A : Type 0} (f : Reader A) : Type 0 where
  pub front : (bytes : List ℕ) (x : A) (rest : List ℕ) → f bytes ≡ Ok (x, rest) → (text : List ℕ) × (bytes ≡ text ++ rest)
  pub stopped : (bytes left : List ℕ) → f bytes ≡ Err left → (text : List ℕ) × (bytes ≡ text ++ left)
  pub ok : (text rest other : List ℕ) (x : A) → SameNext rest other → f (text ++ rest) ≡ Ok (x, rest) → f (text ++ other) ≡ Ok (x, other)
  pub err : (text rest other : List ℕ) → SameNext rest other → f (text ++ rest) ≡ Err rest → f (text ++ other) ≡ Err other

-- a text of the grammar goes on so from this front
pub record GoesOnFrom {A : Type 0} (R : Grammar A) (front : List ℕ) : Type 0 where
  pub more : List ℕ
  pub value : A
  pub is : R (front ++ more) value

-- where the reader stops, what was read is the front of a text of the grammar
pub record IsViable {A : Type 0} (f : Reader A) (R : Grammar A) : Type 0 where
  pub viable : (bytes left : List ℕ) → f bytes ≡ Err left → (text : List ℕ) × GoesOnFrom R text × (bytes ≡ text ++ left)

-- What is left is an end of the bytes. Where it stops, it stops there with other bytes behind the next one, too. Unlike
-- a local reader it may look further than the next byte where it reads on.
pub record StopsInPlace {A : Type 0} (f : Reader A) : Type 0 where
  pub front : (bytes : List ℕ) (x : A) (rest : List ℕ) → f bytes ≡ Ok (x, rest) → (text : List ℕ) × (bytes ≡ text ++ rest)
  pub stopped : (bytes left : List ℕ) → f bytes ≡ Err left → (text : List ℕ) × (bytes ≡ text ++ left)
  pub err : (text rest other : List ℕ) → SameNext rest other → f (text ++ rest) ≡ Err rest → f (text ++ other) ≡ Err other
