-- What the definition of a line comes to, over all lines.
use Rattle.std.specs.Prelude.{ℕ, ◌+◌, ◌*◌, ◌≤◌, length}
use Rattle.std.specs.List.{All}
use Rattle.line_place.specs.Line.{Content, unit, combined, atom, nothing, Line}
use Rattle.line_place.specs.Placing.{parts}
use Rattle.line_place.specs.Reach.{IsAtomic, IsBefore, line_reach}
use Rattle.line_place.specs.Spread.{inside, spread}

-- how far what stands inside an atom reaches from its fragment
abbrev pub content_inside : Content → ℕ
content_inside (unit node first end_ form glyphs) = 0
content_inside (combined node first end_ natural glyphs) = 0
content_inside (atom fragment left_margin over_margin over under) = inside fragment
content_inside nothing = 0

-- no fragment of a line, with all inside it, reaches further than twelve times the lengths that come in, and what stands inside its atoms
abbrev pub SpreadOfLine : Type 0
SpreadOfLine = (line : Line) (most : ℕ) → All (λ item. IsAtomic item.what) line.items → All (λ item. IsBefore (length line.boxes) item.inside) line.items
    → All (λ item. content_inside item.what ≤ most) line.items → spread (parts line) ≤ 12 * line_reach line + most
