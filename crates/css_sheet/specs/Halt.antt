-- Where the reading of a selector stops, and how the code tells it.
use Rattle.std.specs.Prelude.{◌≡◌, ℕ, List, Bool, codes, Option, Some, None, option_map, Result, Ok, Err, ⊤}
use denote.Bor.{Bor}
use Rattle.std.specs.String.{string_bytes}
use Rattle.std.specs.declared.string.String.{String}
use Rattle.css_types.specs.declared.rule.Joint.{Joint}
use Rattle.css_types.specs.declared.rule.Part as code_part
use Rattle.css_types.specs.Rule.{compound_of, compounds_of}
use Rattle.css_sheet.specs.Selector.{Begun, bare}
use Rattle.reading.specs.Readers.{choice, follow, refuse, starts, strip}
use Rattle.reading.specs.Names.{lowered}
use Rattle.reading.specs.declared.stop.Stop as stop_type
use Rattle.reading.specs.declared.stop.Stop.TheVariants as halts
use Rattle.css_sheet.specs.declared.halt.Stuck.{Stuck}

-- what a selector is refused for is told by what is left
abbrev pub Halt : Type 0
Halt = stop_type.Stop Stuck

abbrev pub Halts : {Y : Type 0} → Halt → Result Y (List ℕ) → Type 0
Halts (halts.Refused why left) read = read ≡ Err left.now
Halts halts.Memory read = ⊤

-- What a function returned, seen by `view`, is this, unless memory ran out.
abbrev pub Reads : {X Y : Type 0} → (X → Y) → Result X Halt → Result Y (List ℕ) → Type 0
Reads view (Ok x) read = read ≡ Ok (view x)
Reads view (Err halt) read = Halts halt read

-- behind a point, where one comes
abbrev pub IsBehindPoint : (text rest : List ℕ) → Type 0
IsBehindPoint text rest = choice (starts (codes ".")) (follow (strip (codes ".")) (λ u. refuse)) (refuse {A = List ℕ}) text ≡ Err rest

-- a name in small letters
abbrev pub lowered_text : Option (Bor (List ℕ)) → Option (List ℕ)
lowered_text None = None
lowered_text (Some name) = Some (lowered name.now)

-- the name in small letters, unless memory ran out
abbrev pub TellsLowered : {Y : Type 0} → Option (Bor (List ℕ)) → Result (Option (String Y)) Halt → Type 0
TellsLowered name (Ok letters) = option_map (λ l. string_bytes l) letters ≡ lowered_text name
TellsLowered name (Err halt) = halt ≡ halts.Memory

-- what is read of a selector
abbrev pub begun_of : List code_part.Part → (white : Bool) → Begun
begun_of parts white = record { compounds = compounds_of parts; white = white }

-- a compound without classes and ids, unless memory ran out
abbrev pub TellsBare : Joint → Option (Bor (List ℕ)) → Result code_part.Part Halt → Type 0
TellsBare joint name (Ok part) = compound_of part ≡ bare joint (lowered_text name)
TellsBare joint name (Err halt) = halt ≡ halts.Memory
