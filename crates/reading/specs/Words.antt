-- Tables of texts of which none is read in another's place.
use Rattle.std.specs.Prelude.{ℕ, Bool, true, false, ◌==◌, if◌then◌else◌, List, [], ◌∷◌}
use Rattle.std.specs.List.{list_all}
use Rattle.reading.specs.Readers.{starts}

-- do the two texts differ at a byte that both have?
abbrev pub differ : List ℕ → List ℕ → Bool
differ [] other = false
differ (byte ∷ text) [] = false
differ (byte ∷ text) (next ∷ other) = if next == byte then differ text other else true

-- does the text differ so from each of the words?
abbrev pub differs_from : {A : Type 0} → List ℕ → List (List ℕ × A) → Bool
differs_from text [] = true
differs_from text (word ∷ words) = if differ text word.0 then differs_from text words else false

-- do each two words differ so?
abbrev pub all_differ : {A : Type 0} → List (List ℕ × A) → Bool
all_differ [] = true
all_differ (word ∷ words) = if differs_from word.0 words then all_differ words else false

-- does none of the words begin with the text?
abbrev pub begins_none : {A : Type 0} → List ℕ → List (List ℕ × A) → Bool
begins_none text [] = true
begins_none text (word ∷ words) = if starts text word.0 then false else begins_none text words

-- does no word begin with one before it?
abbrev pub longest_first : {A : Type 0} → List (List ℕ × A) → Bool
longest_first [] = true
longest_first (word ∷ words) = if begins_none word.0 words then longest_first words else false

-- does each byte of each word pass the test?
abbrev pub all_of : {A : Type 0} → (ℕ → Bool) → List (List ℕ × A) → Bool
all_of test [] = true
all_of test (word ∷ words) = if list_all test word.0 then all_of test words else false
