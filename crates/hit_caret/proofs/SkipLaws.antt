-- What a visitor is that doesn't look into a bound.
use Rattle.std.proofs.Common.{◌≡◌, refl, sym, ap, ◌∙◌, ℕ, Bool, true, false, not, ◌&&◌, List, [], ◌∷◌, ◌++◌, fold, ℤ, pos, ◌+ℤ◌, ◌≤ℤ◌, int_le, int_lt, le-leb, arith}
use Rattle.std.specs.Cmp.Derive.{both_true}
use Rattle.std.proofs.lemmas.Int.{clamps, ints}
use Rattle.std.proofs.lemmas.List.Sums.{fold-append}
use Rattle.wm_modes.specs.declared.mode.WritingMode.{WritingMode}
use Rattle.wm_modes.specs.declared.rects.Rect.{Rect}
use Rattle.wm_modes.specs.declared.sides.FlowSide.TheVariants.{LineLeft}
use Rattle.fragment_types.specs.Fragment.{Kind, block, line, span, run, measure}
use Rattle.fragment_types.specs.RunUnit.{RunUnit}
use Rattle.fragment_types.specs.declared.unit_kind.UnitKind.{UnitKind}
use Rattle.fragment_types.specs.declared.unit_kind.UnitKind.TheVariants.{Along, Turned, Upright, Combined}
use Rattle.place_map.specs.Bound as bounds
use Rattle.place_map.specs.Bound.{AreIn, IsIn}
use Rattle.place_map.specs.Parts.{Part, Parts, none, part, before}
use Rattle.place_map.specs.declared.bound.Bound.{Bound}
use Rattle.hit_caret.specs.declared.cells.Cell.{Cell}
use Rattle.hit_caret.specs.declared.cells.Run.{Run}
use Rattle.hit_caret.specs.declared.rects.Point.{Point}
use Rattle.hit_caret.specs.Cells.{cell_of, cells_from, cells_in, combined_cell, line_side, mode_inside, own_cells, run_cells, taken}
use Rattle.hit_caret.specs.Rects.{distance_from, extent_from, holds, is_within, part_from}
use Rattle.hit_caret.specs.Visiting.{IgnoresAll, LiesIn}
use Rattle.hit_caret.proofs.Tests.{is_at_most, is_below, is_false, split_true}
use Rattle.hit_caret.proofs.TileLaws.{is_across, is_before, part_holds, whole_part}

-- ---- a cell lies in its run

not_true : (b : Bool) → not b ≡ true → b ≡ false
not_true true is = absurd cc
not_true false is = refl

-- a point that a fragment holds lies in its bound
bound_held : (bound : Bound) (node : ℕ) (rect : Rect) (p : Point) → IsIn bound node rect → holds rect p ≡ true → bounds.holds bound p.x p.y ≡ true
bound_held bound node rect p lies there =
    let (across, down) = split_true (is_within rect.x rect.w p.x) (is_within rect.y rect.h p.y) there in
    let (left, right) = split_true (int_le rect.x p.x) (int_lt p.x (rect.x +ℤ rect.w)) across in
    let (top, bottom) = split_true (int_le rect.y p.y) (int_lt p.y (rect.y +ℤ rect.h)) down in
    both_true
    (both_true (is_at_most bound.left p.x (omega (arith, ints, left, lies.left))) (is_below p.x bound.right (omega (arith, ints, right, lies.right))))
    (both_true (is_at_most bound.top p.y (omega (arith, ints, top, lies.top))) (is_below p.y bound.bottom (omega (arith, ints, bottom, lies.bottom))))

module _ (r : Run) (p : Point) where
  from_side : ℤ
  from_side = distance_from (line_side r.mode LineLeft) r.rect p

  held : (across before_start before_end : Bool) → across ≡ true → before_start ≡ false → before_end ≡ true → (across && (not before_start && before_end)) ≡ true
  held across before_start before_end a b c = rw (a, b, c) refl

  inside : (distance extent : ℤ) → pos 0 ≤ℤ distance → holds (part_from (line_side r.mode LineLeft) r.rect distance (taken r distance extent)) p ≡ true → holds r.rect p ≡ true
  inside distance extent low there =
      let s = line_side r.mode LineLeft in
      let whole = extent_from s r.rect in
      let wide = taken r distance extent in
      let (across, both) = split_true (is_across s r.rect p) (not (is_before s r.rect p distance) && is_before s r.rect p (distance +ℤ wide)) (sym (part_holds s r.rect p distance wide) ∙ there) in
      let (behind, before) = split_true (not (is_before s r.rect p distance)) (is_before s r.rect p (distance +ℤ wide)) both in
      let first = not_true (is_before s r.rect p distance) behind in
      sym (ap (λ (q : Rect). holds q p) (whole_part s r.rect)) ∙ part_holds s r.rect p (pos 0) whole
      ∙ held (is_across s r.rect p) (is_before s r.rect p (pos 0)) (is_before s r.rect p (pos 0 +ℤ whole)) across
      (is_false (is_before s r.rect p (pos 0)) (λ e. omega (arith, ints, first, low, e)))
      (is_below (distance_from s r.rect p) (pos 0 +ℤ whole) (omega (arith, ints, clamps, before, first, low)))

-- ---- a bound that it doesn't look into

module _ {V : Type 0} (seen : V → Cell → V) (visitor : V) (bound : Bound) (ignores : IgnoresAll seen visitor bound) where
  -- a fragment's cells lie where it lies
  lies_in : (cell : Cell) (node : ℕ) (rect : Rect) → IsIn bound node rect → cell.node ≡ node → ((p : Point) → holds cell.rect p ≡ true → holds rect p ≡ true) → LiesIn bound cell
  lies_in cell node rect lies same within = record {
    node = rw same (both_true (le-leb bound.first node lies.first) (le-leb node bound.last lies.last));
    points = λ p held. bound_held bound node rect p lies (within p held);
  }

  module _ (r : Run) (lies : IsIn bound r.node r.rect) where
    unseen : (distance : ℤ) → pos 0 ≤ℤ distance → (units : List RunUnit) → visitor ≡ fold seen visitor (cells_from r distance units)
    unseen distance low [] = refl
    unseen distance low (unit ∷ units) =
        let wide = taken r distance unit.extent in
        let cell = cell_of r distance wide unit in
        let same : seen visitor cell ≡ visitor = ignores cell (lies_in cell r.node r.rect lies refl (λ p. inside r p distance unit.extent low)) in
        unseen (distance +ℤ wide) (omega (arith, ints, clamps, low)) units
        ∙ ap (λ (v : V). fold seen v (cells_from r (distance +ℤ wide) units)) (sym same)

    run_unseen : (form : UnitKind) (units : List RunUnit) → visitor ≡ fold seen visitor (run_cells form r units)
    run_unseen Along units = unseen (pos 0) (omega (arith, ints)) units
    run_unseen Turned units = unseen (pos 0) (omega (arith, ints)) units
    run_unseen Upright units = unseen (pos 0) (omega (arith, ints)) units
    run_unseen Combined units = sym (ignores (combined_cell r units) (lies_in (combined_cell r units) r.node r.rect lies refl (λ p held. held)))

  own_unseen : (mode : WritingMode) (node : ℕ) (rect : Rect) (kind : Kind) → IsIn bound node rect → visitor ≡ fold seen visitor (own_cells mode node rect kind)
  own_unseen mode node rect (run form level natural units) lies = run_unseen (record { node = node; level = level; mode = mode; rect = rect }) lies form units
  own_unseen mode node rect (block own dir content definite start end_ through) lies = refl
  own_unseen mode node rect (line index base own baseline) lies = refl
  own_unseen mode node rect span lies = refl
  own_unseen mode node rect (measure min max) lies = refl

  both_unseen : (first second : List Cell) → visitor ≡ fold seen visitor first → visitor ≡ fold seen visitor second → visitor ≡ fold seen (fold seen visitor first) second
  both_unseen first second none_seen none_then = none_then ∙ ap (λ (v : V). fold seen v second) none_seen

  parts_unseen : (mode : WritingMode) (parts : Parts) → AreIn bound parts → visitor ≡ fold seen visitor (cells_in mode parts)
  parts_unseen mode none lie = refl
  parts_unseen mode (part name rect kind inner next) lie =
      let own = own_cells mode name.node rect kind in
      let within = cells_in (mode_inside mode kind) inner in
      let rest = cells_in mode next in
      let same = both_unseen own within (own_unseen mode name.node rect kind lie.0) (parts_unseen (mode_inside mode kind) inner lie.1) in
      parts_unseen mode next lie.2 ∙ ap (λ (v : V). fold seen v rest) same
      ∙ sym (fold-append seen visitor own (within ++ rest) ∙ fold-append seen (fold seen visitor own) within rest)

  -- a fragment that lies in it with all inside it
  pub part_unseen : (mode : WritingMode) (p : Part) → AreIn bound (before p none)
      → visitor ≡ fold seen (fold seen visitor (own_cells mode p.name.node p.rect p.kind)) (cells_in (mode_inside mode p.kind) p.inner)
  part_unseen mode p lie = both_unseen (own_cells mode p.name.node p.rect p.kind) (cells_in (mode_inside mode p.kind) p.inner) (own_unseen mode p.name.node p.rect p.kind lie.0) (parts_unseen (mode_inside mode p.kind) p.inner lie.1)
