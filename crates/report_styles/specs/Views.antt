-- What the code tells, without where it lies in memory.
use Rattle.std.specs.Prelude.{◌≡◌, ℕ, List, map, Result, Ok, Err, ⊤}
use denote.Bor.{Bor}
use Rattle.css_values.specs.Reports.{reported_of}
use Rattle.report_styles.specs.declared.telling.Told as code_type
use Rattle.report_styles.specs.declared.telling.Told.TheVariants as code
use Rattle.report_styles.specs.declared.telling.Halt.{Halt}
use Rattle.report_styles.specs.declared.telling.Halt.TheVariants as halts
use Rattle.report_styles.specs.Told.{Told, Telling, judged, refused}

abbrev pub told_of : code_type.Told → Told
told_of (code.Judged report) = judged (reported_of report)
told_of (code.Refused kind place) = refused kind place

abbrev pub all_of : List code_type.Told → List Told
all_of = map told_of

-- What a function returned, and what is told afterwards, is this, unless memory ran out.
abbrev pub Goes : Result (Bor (List ℕ)) Halt → List Told → Telling → Type 0
Goes (Ok rest) told telling = telling ≡ Ok (told, rest.now)
Goes (Err halts.End) told telling = telling ≡ Err told
Goes (Err halts.Memory) told telling = ⊤
