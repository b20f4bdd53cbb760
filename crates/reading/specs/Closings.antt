-- Closings, such as the end tag `</DIV  >`: a fixed text, a word in either case, a run of bytes, a fixed text.
use Rattle.std.specs.Prelude.{ℕ, Bool, List, ⊤}
use Rattle.reading.specs.Readers.{Reader, follow, strip, strip_either_case, run_of}
use Rattle.reading.specs.Grammars.{Grammar, Fixed, EitherCase, RunOf, Seq}

abbrev pub closing : (opening word : List ℕ) → (ℕ → Bool) → (last : List ℕ) → Reader ⊤
closing opening word test last = follow (strip opening) (λ _. follow (strip_either_case word) (λ _. follow (run_of test) (λ _. strip last)))

abbrev pub Closing : (opening word : List ℕ) → (ℕ → Bool) → (last : List ℕ) → Grammar ⊤
Closing opening word test last = Seq (Fixed opening) (λ _. Seq (EitherCase word) (λ _. Seq (RunOf test) (λ _. Fixed last)))
