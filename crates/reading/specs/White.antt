-- White space: tab, LF, FF, CR and space.
use Rattle.std.specs.Prelude.{ℕ, Bool, ⊤}
use Rattle.std.specs.Char.{is_ascii_whitespace}
use Rattle.reading.specs.Readers.{Reader, mapped, one_of, skip}

abbrev pub is_white : ℕ → Bool
is_white = is_ascii_whitespace

-- all that comes next
unfoldable pub spaces : Reader ⊤
spaces = skip is_white

-- one character of it
unfoldable pub white : Reader ⊤
white = mapped (λ byte. tt) (one_of is_white)
