-- One step of the code's pairs is one step of the definition's lists.
use Rattle.std.proofs.Common.{◌≡◌, ◌∙◌, refl, arith, true, false, ◌++◌, ◌+◌, ◌≤◌, ◌^◌, to_z, of_z, w64, ℤ, pos, ◌+ℤ◌, unsigned_abs}
use Rattle.std.specs.Int.{int_max, int_min}
use Rattle.basic_laws.proofs.Numbers.{abs_add, number_held}
use Rattle.margin_collapse.specs.Margins.{collapsed}
use Rattle.margin_collapse.specs.declared.margins.Margins.{Margins}
use Rattle.block_flow.proofs.Lengths.{abs_max, abs_min}
use Rattle.block_flow.specs.Children.{Child, margin_lengths}
use Rattle.block_flow.specs.Reached.{IsReached}
use Rattle.block_flow.specs.declared.reached.Reached.{Reached}
use Rattle.margin_collapse.specs.Pairs.{IsPairOf}
use Rattle.block_flow.specs.Stacking.{Progress, place_in, margins_of, joined_margins, after, extent}

pub placed_apart : (progress : Progress) (child : Child) (y v r : ℤ) → progress.joined ≡ false → y ≡ progress.y → v ≡ collapsed (progress.pending ++ child.start_margins) → r ≡ y +ℤ v → r ≡ place_in progress child
placed_apart progress child y v r j ey ev er = rw j (rw (← ey, ← ev) er)

pub extent_apart : (progress : Progress) (y v r : ℤ) → progress.joined ≡ false → y ≡ progress.y → v ≡ collapsed progress.pending → r ≡ int_max (pos 0) (y +ℤ v) → r ≡ extent false progress
extent_apart progress y v r j ey ev er = rw j (rw (← ey, ← ev) er)

-- the value of joined pairs is not longer than the margins in them
pub joined_span : (a b r : Margins) (v : ℤ) → r.positive ≡ int_max a.positive b.positive → r.negative ≡ int_min a.negative b.negative → v ≡ r.positive +ℤ r.negative
    → unsigned_abs v ≤ (unsigned_abs a.positive + unsigned_abs a.negative) + (unsigned_abs b.positive + unsigned_abs b.negative)
joined_span a b r v p n e =
    let x = abs_max a.positive b.positive in
    let y = abs_min a.negative b.negative in
    let s = abs_add r.positive r.negative in
    rw e (let x' : unsigned_abs r.positive ≤ unsigned_abs a.positive + unsigned_abs b.positive = rw p x in
    let y' : unsigned_abs r.negative ≤ unsigned_abs a.negative + unsigned_abs b.negative = rw n y in omega arith)

-- so are they in the code's 64 bits
pub gap_span : (a b r : Margins) (v : ℤ) → r.positive ≡ int_max a.positive b.positive → r.negative ≡ int_min a.negative b.negative → v ≡ r.positive +ℤ r.negative
    → unsigned_abs a.positive + unsigned_abs a.negative + (unsigned_abs b.positive + unsigned_abs b.negative) ≤ 2 ^ 61
    → unsigned_abs (to_z w64 (of_z w64 v)) ≤ margin_lengths a + margin_lengths b
gap_span a b r v p n e room = let s = joined_span a b r v p n e in let same = number_held v (omega arith) in rw same s

-- so much for the value of one pair
pub pair_span : (a : Margins) (v : ℤ) → v ≡ a.positive +ℤ a.negative → unsigned_abs v ≤ unsigned_abs a.positive + unsigned_abs a.negative
pair_span a v e = rw e (abs_add a.positive a.negative)

-- two joins are not longer than the margins in them
pub both_span : (a b c m r : Margins) → m.positive ≡ int_max b.positive c.positive → m.negative ≡ int_min b.negative c.negative → r.positive ≡ int_max a.positive m.positive → r.negative ≡ int_min a.negative m.negative
    → unsigned_abs r.positive + unsigned_abs r.negative
    ≤ (unsigned_abs a.positive + unsigned_abs a.negative) + ((unsigned_abs b.positive + unsigned_abs b.negative) + (unsigned_abs c.positive + unsigned_abs c.negative))
both_span a b c m r mp mn rp rn =
    let x : unsigned_abs m.positive ≤ unsigned_abs b.positive + unsigned_abs c.positive = rw mp (abs_max b.positive c.positive) in
    let y : unsigned_abs m.negative ≤ unsigned_abs b.negative + unsigned_abs c.negative = rw mn (abs_min b.negative c.negative) in
    let z : unsigned_abs r.positive ≤ unsigned_abs a.positive + unsigned_abs m.positive = rw rp (abs_max a.positive m.positive) in
    let w : unsigned_abs r.negative ≤ unsigned_abs a.negative + unsigned_abs m.negative = rw rn (abs_min a.negative m.negative) in
    omega arith

-- one join is not longer than the margins in it
pub pair_join : (a b r : Margins) → r.positive ≡ int_max a.positive b.positive → r.negative ≡ int_min a.negative b.negative → margin_lengths r ≤ margin_lengths a + margin_lengths b
pair_join a b r rp rn =
    let z : unsigned_abs r.positive ≤ unsigned_abs a.positive + unsigned_abs b.positive = rw rp (abs_max a.positive b.positive) in
    let w : unsigned_abs r.negative ≤ unsigned_abs a.negative + unsigned_abs b.negative = rw rn (abs_min a.negative b.negative) in
    omega arith

-- a child that is collapsed through
pub passed_over : (progress : Progress) (child : Child) (r : Reached) → child.through ≡ true → r.y ≡ progress.y → IsPairOf r.pending (progress.pending ++ margins_of child) → r.joined ≡ progress.joined
    → IsPairOf r.start (joined_margins progress (margins_of child)) → IsReached r (after progress child)
passed_over progress child r t y pending joined start = rw t (record { y = y; pending = pending; joined = joined; start = start })

-- another child
pub moved_on : (progress : Progress) (child : Child) (r : Reached) (place size : ℤ) → child.through ≡ false → place ≡ place_in progress child → size ≡ child.size → r.y ≡ place +ℤ size
    → IsPairOf r.pending child.end_margins → r.joined ≡ false → IsPairOf r.start (joined_margins progress child.start_margins) → IsReached r (after progress child)
moved_on progress child r place size t p s y pending joined start = rw t (record { y = y ∙ rw (p, s) refl; pending = pending; joined = joined; start = start })
