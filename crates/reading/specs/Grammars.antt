-- Grammars: which texts stand for which values, with no word on how they are read.
use Rattle.std.specs.Prelude.{◌≡◌, ◌⊎◌, ℕ, Bool, true, false, List, [], ◌∷◌, ◌++◌, map, Option, Some, None, ⊤}
use Rattle.std.specs.List.{concat}
use Rattle.std.specs.Char.{to_ascii_lowercase}
use Rattle.reading.specs.Readers.{Reader, can_read}

abbrev pub Grammar : Type 0 → Type 1
Grammar A = List ℕ → A → Type 0

-- the empty text, for x
abbrev pub Given : {A : Type 0} → A → Grammar A
Given x text y = (text ≡ []) × (y ≡ x)

-- this text
abbrev pub Fixed : List ℕ → Grammar ⊤
Fixed word text y = text ≡ word

-- one byte that passes the test
abbrev pub OneOf : (ℕ → Bool) → Grammar ℕ
OneOf test text byte = (text ≡ byte ∷ []) × (test byte ≡ true)

-- bytes that all pass the test
abbrev pub AllPass : (ℕ → Bool) → List ℕ → Type 0
AllPass test [] = ⊤
AllPass test (byte ∷ bytes) = (test byte ≡ true) × AllPass test bytes

abbrev pub RunOf : (ℕ → Bool) → Grammar (List ℕ)
RunOf test text run = (run ≡ text) × AllPass test text

-- this text of small letters, in either case
abbrev pub EitherCase : List ℕ → Grammar ⊤
EitherCase word text y = map to_ascii_lowercase text ≡ word

-- one of these texts
abbrev pub OneWord : {A : Type 0} → List (List ℕ × A) → Grammar A
OneWord [] text x = ⊥
OneWord (word ∷ words) text x = ((text ≡ word.0) × (x ≡ word.1)) ⊎ OneWord words text x

-- the test says no at each place in the text, where `behind` stands behind it
abbrev pub NowhereIn : (List ℕ → Bool) → (text behind : List ℕ) → Type 0
NowhereIn test [] behind = ⊤
NowhereIn test (byte ∷ text) behind = (test ((byte ∷ text) ++ behind) ≡ false) × NowhereIn test text behind

-- any text and then one of R, where the reader f of R can read nowhere before
abbrev pub UpTo : {A : Type 0} → Reader A → Grammar A → Grammar (List ℕ)
UpTo {A} f R text inside = (x : A) × (end_ : List ℕ) × R end_ x × NowhereIn (can_read f) inside end_ × (text ≡ inside ++ end_)

-- one after the other
abbrev pub Seq : {A B : Type 0} → Grammar A → (A → Grammar B) → Grammar B
Seq {A} R S text y = (x : A) × (front back : List ℕ) × R front x × S x back y × (text ≡ front ++ back)

-- another view of the values
abbrev pub Mapped : {A B : Type 0} → (A → B) → Grammar A → Grammar B
Mapped {A} view R text y = (x : A) × R text x × (y ≡ view x)

-- one or the other
abbrev pub Either : {A : Type 0} → Grammar A → Grammar A → Grammar A
Either R S text x = R text x ⊎ S text x

-- one of the grammar, or nothing
abbrev pub Optional : {A : Type 0} → Grammar A → Grammar (Option A)
Optional R text None = text ≡ []
Optional R text (Some x) = R text x

-- a text, then one of the grammar
abbrev pub After : {A : Type 0} → List ℕ → Grammar A → Grammar A
After word R text x = (inside : List ℕ) × R inside x × (text ≡ word ++ inside)

-- one of the grammar between two texts
abbrev pub Between : {A : Type 0} → List ℕ → Grammar A → List ℕ → Grammar A
Between opening R closing text x = (inside : List ℕ) × R inside x × (text ≡ opening ++ inside ++ closing)

-- one after the other, for a list of values
abbrev pub Each : {A : Type 0} → Grammar A → Grammar (List A)
Each R text [] = text ≡ []
Each R text (x ∷ xs) = (front back : List ℕ) × R front x × Each R back xs × (text ≡ front ++ back)

-- pieces of text one after the other, and all of them joined
abbrev pub Joined : Grammar (List ℕ) → Grammar (List ℕ)
Joined R text joined = (pieces : List (List ℕ)) × Each R text pieces × (joined ≡ concat pieces)
