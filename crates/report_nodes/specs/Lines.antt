-- The lines that are written.
use Rattle.std.specs.Prelude.{ℕ, List, ◌++◌, codes, length, flat_map, Ok, Err}
use Rattle.std.specs.Fmt.{decimal}
use Rattle.reading.specs.Readers.{ReadOr}
use Rattle.html_tokens.specs.Error.{Fault, kind_word}
use Rattle.html_read.specs.Error.{place_in}
use Rattle.html_read.specs.Places.{placed_input}
use Rattle.report_lines.specs.Refusal.{refused_line}

abbrev pub line : (place : ℕ) → List ℕ
line place = decimal place ++ codes "\n"

-- what is written for an input of this size that was read so
abbrev pub lines_by : (size : ℕ) → (read : ReadOr Fault (List ℕ)) → List ℕ
lines_by size (Ok read) = flat_map line read.0
lines_by size (Err fault) = refused_line (kind_word fault.0) (place_in size fault.1)

-- what is written for an input
unfoldable pub report_of : (bytes : List ℕ) → List ℕ
report_of bytes = lines_by (length bytes) (placed_input bytes)
