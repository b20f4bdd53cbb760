-- A face whose characters fill a square, or half of one.
use Rattle.std.specs.Prelude.{true, []}
use Rattle.face_api.specs.Table.{Table}

abbrev pub grid_table : Table
grid_table = record {
  metrics = record { ascent = 750; descent = 250 };
  defaults = record { narrow = 500; wide = 1000; upright = 1000 };
  rows = [];
  fixed = true;
}
