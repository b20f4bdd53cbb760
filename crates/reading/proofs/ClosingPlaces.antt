-- Where closings stop.
use Rattle.std.proofs.Common.{◌≡◌, ℕ, Bool, List, [], ◌++◌, map, refl}
use Rattle.std.specs.Char.{to_ascii_lowercase}
use Rattle.reading.specs.Grammars.{Fixed, EitherCase, RunOf, Seq}
use Rattle.reading.specs.Closings.{closing, Closing}
use Rattle.reading.specs.Places.{IsLocal, GoesOnFrom, IsViable}
use Rattle.reading.proofs.SpellLaws.{strip_spells}
use Rattle.reading.proofs.RunLaws.{run_of_spells, either_case_spells}
use Rattle.reading.proofs.PlaceLaws.{strip_local, strip_viable, follow_local, follow_viable}
use Rattle.reading.proofs.RunPlaces.{run_of_local, run_of_viable, either_case_local, either_case_viable}

pub closing_local : (opening word : List ℕ) (test : ℕ → Bool) (last : List ℕ) → IsLocal (closing opening word test last)
closing_local opening word test last =
    follow_local (strip_local opening) (λ u. follow_local (either_case_local word) (λ v. follow_local (run_of_local test) (λ run. strip_local last)))

-- the text that is left of a closing where nothing of a part was read
pub fixed_some : (word : List ℕ) → GoesOnFrom (Fixed word) []
fixed_some word = record { more = word; value = tt; is = refl }

run_some : (test : ℕ → Bool) (last : List ℕ) → GoesOnFrom (Seq (RunOf test) (λ _. Fixed last)) []
run_some test last = record { more = last; value = tt; is = ([], [], last, (refl, tt), refl, refl) }

word_some : (word : List ℕ) (test : ℕ → Bool) (last : List ℕ) → map to_ascii_lowercase word ≡ word → GoesOnFrom (Seq (EitherCase word) (λ _. Seq (RunOf test) (λ _. Fixed last))) []
word_some word test last small = record { more = word ++ last; value = tt; is = (tt, word, last, small, ([], [], last, (refl, tt), refl, refl), refl) }

-- where the word's own letters are small
pub closing_viable : (opening word : List ℕ) (test : ℕ → Bool) (last : List ℕ) → map to_ascii_lowercase word ≡ word → IsViable (closing opening word test last) (Closing opening word test last)
closing_viable opening word test last small =
    follow_viable (strip_spells opening) (strip_viable opening)
    (λ u. follow_viable (either_case_spells word) (either_case_viable word small)
    (λ v. follow_viable (run_of_spells test) (run_of_viable test) (λ run. strip_viable last) (λ run. fixed_some last))
    (λ v. run_some test last))
    (λ u. word_some word test last small)
