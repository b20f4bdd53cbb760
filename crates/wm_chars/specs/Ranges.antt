-- Characters that share a bidi class and a break class.
use Rattle.std.specs.Prelude.{ℕ, Bool, ◌&&◌, ◌||◌, nat_le}

-- kana, Han and Hangul syllables of the repertoire
abbrev pub is_ideograph : ℕ → Bool
is_ideograph c =
    ((nat_le 0x3041 c && nat_le c 0x3096) || (nat_le 0x30A1 c && nat_le c 0x30FA))
    || ((nat_le 0x4E00 c && nat_le c 0x9FFF) || (nat_le 0xAC00 c && nat_le c 0xD7A3))
