-- Characters of Latin text.
use Rattle.std.specs.Prelude.{ℕ, ◌==◌, ◌&&◌, Bool, not, nat_lt}

-- before the combining marks all but the carriage return
abbrev pub is_latin : ℕ → Bool
is_latin c = nat_lt c 0x300 && not (c == 0x0D)
