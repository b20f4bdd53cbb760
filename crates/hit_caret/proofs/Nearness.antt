-- No cell of a page whose numbers are near is far.
use Rattle.std.proofs.Common.{◌*◌, ◌^◌, ◌≤◌, ℕ, Bool, true, false, cond, List, [], ◌∷◌, ◌++◌, find, IfSome, Option, Some, ℤ, pos, ◌+ℤ◌, ◌-ℤ◌, unsigned_abs, arith}
use Rattle.std.proofs.lemmas.Int.{clamps, ints}
use Rattle.std.specs.List.{AllByRecursion}
use Rattle.wm_modes.specs.declared.mode.WritingMode.{WritingMode}
use Rattle.wm_modes.specs.declared.rects.Rect.{Rect}
use Rattle.wm_modes.specs.declared.sides.Side.{Side}
use Rattle.wm_modes.specs.declared.sides.Side.TheVariants.{Top, Right, Bottom, Left}
use Rattle.wm_modes.specs.declared.sides.FlowSide.TheVariants.{LineLeft}
use Rattle.wm_modes.specs.Near.{IsNear}
use Rattle.fragment_types.specs.Fragment.{Kind, block, line, span, run, measure}
use Rattle.fragment_types.specs.RunUnit.{RunUnit}
use Rattle.fragment_types.specs.declared.unit_kind.UnitKind.{UnitKind}
use Rattle.fragment_types.specs.declared.unit_kind.UnitKind.TheVariants.{Along, Turned, Upright, Combined}
use Rattle.place_map.specs.Near.{AreNearParts}
use Rattle.place_map.specs.Placed.{Parts, none, part}
use Rattle.hit_caret.specs.declared.cells.Cell.{Cell}
use Rattle.hit_caret.specs.declared.cells.Run.{Run}
use Rattle.hit_caret.specs.Cells.{cells_from, cells_in, line_side, mode_inside, own_cells, run_cells, taken}
use Rattle.hit_caret.specs.Near.{IsDistance, IsNearCell, IsNearNumber}
use Rattle.hit_caret.specs.Rects.{extent_from, part_from}

-- a sum of four numbers that are near
sum_near : (a b c d : ℤ) → IsNearNumber a → IsNearNumber b → IsNearNumber c → IsNearNumber d → unsigned_abs (((a +ℤ b) -ℤ c) -ℤ d) ≤ 4 * 2 ^ 60
sum_near a b c d na nb nc nd = omega (arith, ints)

start_near : (a b : ℤ) → IsNearNumber a → IsNearNumber b → unsigned_abs (a +ℤ b) ≤ 4 * 2 ^ 60
start_near a b na nb = omega (arith, ints)

one_near : (a : ℤ) → IsNearNumber a → unsigned_abs a ≤ 4 * 2 ^ 60
one_near a na = omega arith

pub near_part : (side : Side) (r : Rect) (distance extent : ℤ) → IsNear r → IsNearNumber distance → IsNearNumber extent → IsNearCell (part_from side r distance extent)
near_part Left r d e n nd ne = record { x = start_near r.x d n.x nd; y = one_near r.y n.y; w = ne; h = n.h }
near_part Right r d e n nd ne = record { x = sum_near r.x r.w d e n.x n.w nd ne; y = one_near r.y n.y; w = ne; h = n.h }
near_part Top r d e n nd ne = record { x = one_near r.x n.x; y = start_near r.y d n.y nd; w = n.w; h = ne }
near_part Bottom r d e n nd ne = record { x = one_near r.x n.x; y = sum_near r.y r.h d e n.y n.h nd ne; w = n.w; h = ne }

pub near_whole : (r : Rect) → IsNear r → IsNearCell r
near_whole r n = record { x = one_near r.x n.x; y = one_near r.y n.y; w = n.w; h = n.h }

-- ---- what a unit takes

pub near_extent : (side : Side) (r : Rect) → IsNear r → IsNearNumber (extent_from side r)
near_extent Left r near = near.w
near_extent Right r near = near.w
near_extent Top r near = near.h
near_extent Bottom r near = near.h

distance_near : (distance : ℤ) → IsDistance distance → IsNearNumber distance
distance_near distance from = let least = from.least in let most = from.most in omega (arith, ints)

module _ (r : Run) (distance extent : ℤ) (near : IsNear r.rect) (from : IsDistance distance) where
  pub taken_is_distance : IsDistance (taken r distance extent)
  taken_is_distance =
      let whole = near_extent (line_side r.mode LineLeft) r.rect near in
      let least = from.least in
      record { least = omega (arith, ints, clamps); most = omega (arith, ints, clamps) }

  pub next_is_distance : IsDistance (distance +ℤ taken r distance extent)
  next_is_distance =
      let whole = near_extent (line_side r.mode LineLeft) r.rect near in
      let least = from.least in
      let most = from.most in
      record { least = omega (arith, ints, clamps); most = omega (arith, ints, clamps) }

-- ---- the cells of a page

abbrev pub AreNearCells : List Cell → Type 0
AreNearCells = AllByRecursion (λ c. IsNearCell c.rect)

all_append : (cs ds : List Cell) → AreNearCells cs → AreNearCells ds → AreNearCells (cs ++ ds)
all_append [] ds near rest = rest
all_append (c ∷ cs) ds near rest = (near.0, all_append cs ds near.1 rest)

near_units : (r : Run) (distance : ℤ) (units : List RunUnit) → IsNear r.rect → IsDistance distance → AreNearCells (cells_from r distance units)
near_units r distance [] near from = tt
near_units r distance (unit ∷ others) near from =
    let extent = taken_is_distance r distance unit.extent near from in (
      near_part (line_side r.mode LineLeft) r.rect distance (taken r distance unit.extent) near (distance_near distance from) (distance_near (taken r distance unit.extent) extent),
      near_units r (distance +ℤ taken r distance unit.extent) others near (next_is_distance r distance unit.extent near from),
    )

no_distance : IsDistance (pos 0)
no_distance = record { least = omega (arith, ints); most = omega (arith, ints) }

near_run : (form : UnitKind) (r : Run) (units : List RunUnit) → IsNear r.rect → AreNearCells (run_cells form r units)
near_run Along r units near = near_units r (pos 0) units near no_distance
near_run Turned r units near = near_units r (pos 0) units near no_distance
near_run Upright r units near = near_units r (pos 0) units near no_distance
near_run Combined r units near = (near_whole r.rect near, tt)

near_own : (mode : WritingMode) (node : ℕ) (rect : Rect) (kind : Kind) → IsNear rect → AreNearCells (own_cells mode node rect kind)
near_own mode node rect (run form level natural units) near = near_run form (record { node = node; level = level; mode = mode; rect = rect }) units near
near_own mode node rect (block own dir content definite start end_ through) near = tt
near_own mode node rect (line index base own baseline) near = tt
near_own mode node rect span near = tt
near_own mode node rect (measure min max) near = tt

pub near_cells : (mode : WritingMode) (parts : Parts) → AreNearParts parts → AreNearCells (cells_in mode parts)
near_cells mode none near = tt
near_cells mode (part name rect kind inner next) near =
    all_append (own_cells mode name.node rect kind) _ (near_own mode name.node rect kind near.0)
    (all_append (cells_in (mode_inside mode kind) inner) _ (near_cells (mode_inside mode kind) inner near.2) (near_cells mode next near.3))

found_near : (b : Bool) (c : Cell) (found : Option Cell) → IsNearCell c.rect → IfSome found (λ c. IsNearCell c.rect) → IfSome (cond b (Some c) found) (λ c. IsNearCell c.rect)
found_near true c found near others = near
found_near false c found near others = others

pub find_near : (test : Cell → Bool) (cs : List Cell) → AreNearCells cs → IfSome (find test cs) (λ c. IsNearCell c.rect)
find_near test [] near = tt
find_near test (c ∷ cs) near = found_near (test c) c (find test cs) near.0 (find_near test cs near.1)
