-- What ties a reader to a grammar.
use Rattle.std.specs.Prelude.{◌≡◌, ℕ, ◌<◌, Bool, true, false, List, ◌∷◌, ◌++◌, length, Ok, ⊤}
use Rattle.reading.specs.Readers.{Reader, ReaderOr, can_read}
use Rattle.reading.specs.Grammars.{Grammar}

-- bytes with no demand on them
abbrev pub Anything : List ℕ → Type 0
Anything rest = ⊤

-- What is read stands in the grammar; what stands in the grammar is read, where the bytes behind it let it end.
pub record Spells {E A : Type 0} (f : ReaderOr E A) (R : Grammar A) (Ends : List ℕ → Type 0) : Type 0 where
  pub takes : (bytes : List ℕ) (x : A) (rest : List ℕ) → f bytes ≡ Ok (x, rest) → (text : List ℕ) × R text x × (bytes ≡ text ++ rest)
  pub again : (text : List ℕ) (x : A) (rest : List ℕ) → R text x → Ends rest → f (text ++ rest) ≡ Ok (x, rest)

-- what the test and the grammar of one item owe to one another
pub record IsTestOf {A : Type 0} (test : List ℕ → Bool) (R : Grammar A) (Ends More : List ℕ → Type 0) : Type 0 where
  pub some : (text : List ℕ) (x : A) → R text x → 0 < length text
  pub begins : (text : List ℕ) (x : A) (rest : List ℕ) → R text x → Ends rest → test (text ++ rest) ≡ true
  pub next : (rest : List ℕ) → test rest ≡ true → Ends rest
  pub last : (rest : List ℕ) → More rest → Ends rest
  pub ends : (rest : List ℕ) → More rest → test rest ≡ false

-- Whether the reader can read at a place before a text that it reads hangs on the bytes up to the end of that text alone.
pub record SeesWithin {A : Type 0} (f : Reader A) (R : Grammar A) : Type 0 where
  pub sees : (byte : ℕ) (before end_ rest : List ℕ) (x : A) → R end_ x → f (end_ ++ rest) ≡ Ok (x, rest) → can_read f ((byte ∷ before) ++ (end_ ++ rest)) ≡ can_read f ((byte ∷ before) ++ end_)
