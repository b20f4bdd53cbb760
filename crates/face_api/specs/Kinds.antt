-- The tables with which the three kinds of face begin.
use Rattle.std.specs.Prelude.{true, false, [], ◌∷◌}
use Rattle.face_api.specs.Table.{Table}

-- every character half as wide as high, and wide ones as wide as high
abbrev pub mono_table : Table
mono_table = record { metrics = record { ascent = 750; descent = 250 }; defaults = record { narrow = 500; wide = 1000; upright = 1000 }; rows = []; fixed = true }

-- every character as wide as high
abbrev pub wide_table : Table
wide_table = record { metrics = record { ascent = 875; descent = 125 }; defaults = record { narrow = 1000; wide = 1000; upright = 1000 }; rows = []; fixed = true }

-- as the first, with a narrow `i` and a broad `m`, and open to changes
abbrev pub first_table : Table
first_table = record {
  metrics = record { ascent = 625; descent = 250 };
  defaults = record { narrow = 500; wide = 1000; upright = 1000 };
  rows = record { character = 0x69; upright = false; value = 250 } ∷ record { character = 0x6D; upright = false; value = 750 } ∷ [];
  fixed = false;
}
