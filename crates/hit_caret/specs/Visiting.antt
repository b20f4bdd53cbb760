-- Which cells a visitor of a page needn't see.
use Rattle.std.specs.Prelude.{◌≡◌, true}
use Rattle.place_map.specs.Bound as bounds
use Rattle.place_map.specs.Bound.{spans}
use Rattle.place_map.specs.declared.bound.Bound.{Bound}
use Rattle.hit_caret.specs.declared.cells.Cell.{Cell}
use Rattle.hit_caret.specs.declared.rects.Point.{Point}
use Rattle.hit_caret.specs.Rects.{holds}

-- a cell lies in a bound: it can be of the cell's text, and it holds each point that the cell holds
pub record LiesIn (bound : Bound) (cell : Cell) : Type 0 where
  pub node : spans bound cell.node ≡ true
  pub points : (p : Point) → holds cell.rect p ≡ true → bounds.holds bound p.x p.y ≡ true

-- no cell that lies in a bound changes the visitor
abbrev pub IgnoresAll : {V : Type 0} → (seen : V → Cell → V) → V → Bound → Type 0
IgnoresAll seen visitor bound = (cell : Cell) → LiesIn bound cell → seen visitor cell ≡ visitor
