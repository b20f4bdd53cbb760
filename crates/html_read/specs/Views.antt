-- The steps of the code, without where they lie in memory.
use Rattle.std.specs.Prelude.{◌≡◌, ℕ, Bool, not, List, [], ◌∷◌, ◌++◌, map, reverse, Result, Ok, Err}
use Rattle.std.specs.BTreeSet.{BTreeSet, contains_text}
use Rattle.std.specs.declared.string.String.{String}
use Rattle.html_read.specs.declared.tags.Start as code_start
use Rattle.html_read.specs.declared.content.Open as code_open
use Rattle.reading.specs.Names.{lowered}
use Rattle.html_tokens.specs.Error.{Stop}
use Rattle.reading.specs.declared.stop.Stop.TheVariants.{Memory}
use Rattle.html_read.specs.Judging.{has_name}
use Rattle.html_read.specs.Reading.{Start, Open}
use Rattle.html_read.specs.Values.{acting_of}
use Rattle.std.specs.Prelude.{false, Option, Some, None}
use denote.Bor.{Bor}
use Rattle.reading.specs.White.{is_white}
use Rattle.html_read.specs.Judging.{word_before, words}

abbrev pub start_of : code_start.Start → Start
start_of s = record { name = lowered s.name.now; tag = s.tag; acting = acting_of s.attributes }

abbrev pub open_of : code_open.Open → Open
open_of o = record { name = lowered o.name.now; number = o.number }

-- the open elements, the innermost first
abbrev pub opened_of : List code_open.Open → List Open
opened_of opened = map open_of (reverse opened)

-- the set has these names, in small letters
abbrev pub AreSeen : {Y : Type 0} → List (List ℕ) → BTreeSet (String Y) → Type 0
AreSeen names seen = (name : List ℕ) → contains_text seen name ≡ has_name name names

-- whether the name is new; the set has it afterwards
abbrev pub TellsNew : {Y : Type 0} → (name : List ℕ) → (old new : BTreeSet (String Y)) → Result Bool Stop → Type 0
TellsNew name old new (Ok is) = (names : List (List ℕ)) → AreSeen names old → (is ≡ not (has_name name names)) × AreSeen (names ++ name ∷ []) new
TellsNew name old new (Err stop) = stop ≡ Memory

-- a word begins here
abbrev pub IsWordNext : List ℕ → Type 0
IsWordNext [] = ⊥
IsWordNext (byte ∷ bytes) = is_white byte ≡ false

-- the first word ends there; the words of the text are it and those behind it
abbrev pub EndsWord : (text rest : List ℕ) → Type 0
EndsWord text rest = (front : List ℕ) × (text ≡ front ++ rest) × (words text ≡ word_before front (words rest))

abbrev pub IsNextWord : (text : List ℕ) → Option (Bor (List ℕ) × Bor (List ℕ)) → Type 0
IsNextWord text None = words text ≡ []
IsNextWord text (Some w) = words text ≡ w.0.now ∷ words w.1.now
