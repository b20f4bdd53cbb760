-- The lines that are written.
use Rattle.std.specs.Prelude.{ℕ, List, ◌++◌, codes, flat_map, length, Ok, Err}
use Rattle.std.specs.Fmt.{decimal}
use Rattle.css_values.specs.Error.{kind_word}
use Rattle.css_values.specs.declared.reports.Fate.{Fate}
use Rattle.css_values.specs.declared.reports.Fate.TheVariants as fates
use Rattle.reading.specs.Readers.{ReadOr}
use Rattle.html_tokens.specs.Error as html
use Rattle.html_read.specs.Error.{place_in}
use Rattle.html_read.specs.Reading.{input}
use Rattle.html_read.specs.Values.{Whole}
use Rattle.report_lines.specs.Refusal.{refused_line}
use Rattle.report_styles.specs.Told as told_
use Rattle.report_styles.specs.Told.{Told, told_of_document}

abbrev pub fate_word : Fate → List ℕ
fate_word fates.Kept = codes "Kept"
fate_word fates.UnknownName = codes "UnknownName"
fate_word fates.InvalidValue = codes "InvalidValue"
fate_word fates.Unsupported = codes "Unsupported"

abbrev pub line : Told → List ℕ
line (told_.judged what) = fate_word what.fate ++ codes " " ++ decimal what.place ++ codes " " ++ what.name ++ codes "\n"
line (told_.refused kind place) = refused_line (kind_word kind) place

-- what is written for an input of this size that was read so
abbrev pub lines_by : (size : ℕ) → (read : ReadOr html.Fault Whole) → List ℕ
lines_by size (Ok document) = flat_map line (told_of_document document.0)
lines_by size (Err fault) = refused_line (html.kind_word fault.0) (place_in size fault.1)

unfoldable pub report_of : (bytes : List ℕ) → List ℕ
report_of bytes = lines_by (length bytes) (input bytes)
