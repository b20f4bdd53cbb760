-- Refusals of documents with their places.
use Rattle.std.specs.Prelude.{List, ℕ, codes}
use Rattle.reading.specs.Readers.{Reader}
use Rattle.reading.specs.Stop as stopping
use Rattle.reading.specs.declared.stop.Stop as stops
use Rattle.html_tokens.specs.declared.error.Refusal.{Refusal}
use Rattle.html_tokens.specs.declared.error.Refusal.TheVariants.{Syntax}
use Rattle.html_tokens.specs.declared.error.Refusal.TheVariants as kinds

-- where the code stopped
abbrev pub Stop : Type 0
Stop = stops.Stop Refusal

-- what is wrong, and the bytes from its place on
abbrev pub Fault : Type 0
Fault = stopping.Fault Refusal

abbrev pub Judged : Type 0 → Type 0
Judged = stopping.Judged Refusal

-- the grammar doesn't go on with what is left
abbrev pub syntax : List ℕ → Fault
syntax = stopping.fault Syntax

-- a reader that refuses by Syntax alone
abbrev pub spelled : {A : Type 0} → Reader A → Judged A
spelled = stopping.refusing_by Syntax

-- the word of what is wrong, as a line of refusal has it
unfoldable pub kind_word : Refusal → List ℕ
kind_word kinds.Utf8 = codes "Utf8"
kind_word kinds.Character = codes "Character"
kind_word kinds.Syntax = codes "Syntax"
kind_word kinds.UnknownTag = codes "UnknownTag"
kind_word kinds.UnknownAttribute = codes "UnknownAttribute"
kind_word kinds.Nesting = codes "Nesting"
kind_word kinds.Unsupported = codes "Unsupported"
