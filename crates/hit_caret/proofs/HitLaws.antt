-- The last of the cells that pass a test.
use Rattle.std.proofs.Common.{◌≡◌, ◌⊎◌, inl, inr, refl, sym, ap, ◌∙◌, suc, Bool, true, false, cond, List, [], ◌∷◌, ◌++◌, filter, Contains, All, Option, Some, None, option_map, ℤ, pos, negsuc, ◌≤ℤ◌, ◌<ℤ◌, int_div, arith}
use Rattle.std.specs.List.{last_or}
use Rattle.std.proofs.lemmas.Int.{ints}
use Rattle.std.proofs.lemmas.Option.{same_Some}
use Rattle.std.proofs.lemmas.List.Elements.{All-cons, All-nil, filter-append}
use Rattle.basic_laws.proofs.Lists.{contains_cases, contains_equal, contains_first, contains_other}
use Rattle.place_map.specs.Placed.{Page}
use Rattle.hit_caret.specs.declared.cells.Cell.{Cell}
use Rattle.hit_caret.specs.declared.hits.Hit.{Hit}
use Rattle.hit_caret.specs.declared.rects.Point.{Point}
use Rattle.hit_caret.specs.Cells.{cells}
use Rattle.hit_caret.specs.Hits.{hit, hit_in}
use Rattle.hit_caret.specs.Laws.{HeldPointsAreHit, HitsAreHeld, MiddlesAreHit, middle}
use Rattle.hit_caret.specs.Rects.{holds}
use Rattle.hit_caret.proofs.Tests.{held}

abbrev NonePass : (Cell → Bool) → List Cell → Type 0
NonePass test cs = All (λ c. test c ≡ false) cs

-- where the last cell that passes a test stands
record IsLast (test : Cell → Bool) (cs : List Cell) (c : Cell) : Type 0 where
  earlier : List Cell
  later : List Cell
  here : cs ≡ earlier ++ c ∷ later
  passes : test c ≡ true
  last : NonePass test later

module _ (test : Cell → Bool) where
  one_earlier : (d c : Cell) (cs : List Cell) → IsLast test cs c → IsLast test (d ∷ cs) c
  one_earlier d c cs l = record { earlier = d ∷ l.earlier; later = l.later; here = ap (λ (ds : List Cell). d ∷ ds) l.here; passes = l.passes; last = l.last }

  -- none of these cells passes, and the one before them stays; or the last one that passes is among them
  abbrev IsFound : Option Cell → List Cell → Cell → Type 0
  IsFound before cs c = ((before ≡ Some c) × NonePass test cs) ⊎ IsLast test cs c

  found_here : (d c : Cell) (cs : List Cell) → test d ≡ true → IsFound (Some d) cs c → IsLast test (d ∷ cs) c
  found_here d c cs passes (inl (is, none)) = record {
    earlier = [];
    later = cs;
    here = ap (λ (e : Cell). e ∷ cs) (same_Some d c is);
    passes = ap test (sym (same_Some d c is)) ∙ passes;
    last = none;
  }
  found_here d c cs passes (inr l) = one_earlier d c cs l

  found_later : (before : Option Cell) (d c : Cell) (cs : List Cell) → test d ≡ false → IsFound before cs c → IsFound before (d ∷ cs) c
  found_later before d c cs fails (inl (is, none)) = inl (is, All-cons (λ c. test c ≡ false) d cs fails none)
  found_later before d c cs fails (inr l) = inr (one_earlier d c cs l)

  last_by : (before : Option Cell) (d c : Cell) (cs : List Cell) (b : Bool) → test d ≡ b
      → (last_or (Some d) (filter test cs) ≡ Some c → IsFound (Some d) cs c) → (last_or before (filter test cs) ≡ Some c → IsFound before cs c)
      → last_or before (cond b (d ∷ filter test cs) (filter test cs)) ≡ Some c → IsFound before (d ∷ cs) c
  last_by before d c cs true passes here later e = inr (found_here d c cs passes (here e))
  last_by before d c cs false fails here later e = found_later before d c cs fails (later e)

  last_found : (before : Option Cell) (cs : List Cell) (c : Cell) → last_or before (filter test cs) ≡ Some c → IsFound before cs c
  last_found before [] c e = inl (e, All-nil (λ c. test c ≡ false))
  last_found before (d ∷ cs) c e = last_by before d c cs (test d) refl (last_found (Some d) cs c) (last_found before cs c) e

  last_append : (before : Option Cell) (cs ds : List Cell) → last_or before (cs ++ ds) ≡ last_or (last_or before cs) ds
  last_append before [] ds = refl
  last_append before (c ∷ cs) ds = last_append (Some c) cs ds

  -- with a cell that passes
  pub last_from : (earlier later : List Cell) (c : Cell) → test c ≡ true → last_or None (filter test (earlier ++ c ∷ later)) ≡ last_or (Some c) (filter test later)
  last_from earlier later c passes =
      ap (last_or None) (filter-append test earlier (c ∷ later))
      ∙ last_append None (filter test earlier) (filter test (c ∷ later))
      ∙ ap (λ (b : Bool). last_or (last_or None (filter test earlier)) (cond b (c ∷ filter test later) (filter test later))) passes

  pub none_later : (c : Cell) (later : List Cell) → NonePass test later → last_or (Some c) (filter test later) ≡ Some c
  none_later c [] none = refl
  none_later c (d ∷ later) none =
      ap (λ (b : Bool). last_or (Some c) (cond b (d ∷ filter test later) (filter test later))) (none 0 d (omega arith))
      ∙ none_later c later (λ k e lt. none (suc k) e (omega arith))

  -- the last one is that cell or one behind it
  record IsAmong (c : Cell) (later : List Cell) (found : Option Cell) : Type 0 where
    cell : Cell
    among : Contains (c ∷ later) cell
    is : found ≡ Some cell

  among_by : (c d : Cell) (later : List Cell) (b : Bool) → IsAmong d later (last_or (Some d) (filter test later)) → IsAmong c later (last_or (Some c) (filter test later))
      → IsAmong c (d ∷ later) (last_or (Some c) (cond b (d ∷ filter test later) (filter test later)))
  among_by c d later true here other = record { cell = here.cell; among = contains_other c here.cell (d ∷ later) here.among; is = here.is }
  among_by c d later false here other = record {
    cell = other.cell;
    among = elim (contains_cases c other.cell later other.among) [
      | inl same ↦ contains_equal c other.cell (d ∷ later) (sym same)
      | inr there ↦ contains_other c other.cell (d ∷ later) (contains_other d other.cell later there)
    ];
    is = other.is;
  }

  last_among : (c : Cell) (later : List Cell) → IsAmong c later (last_or (Some c) (filter test later))
  last_among c [] = record { cell = c; among = contains_first c []; is = refl }
  last_among c (d ∷ later) = among_by c d later (test d) (last_among d later) (last_among c later)

-- ---- hits

abbrev at : Point → Cell → Bool
at p c = holds c.rect p

-- the cell of a hit
record IsHitBy (p : Point) (found : Option Cell) (h : Hit) : Type 0 where
  cell : Cell
  found_so : found ≡ Some cell
  is : h ≡ hit_in p cell

hit_by : (p : Point) (found : Option Cell) (h : Hit) → option_map (hit_in p) found ≡ Some h → IsHitBy p found h
hit_by p None h e = absurd cc
hit_by p (Some c) h e = record { cell = c; found_so = refl; is = sym (same_Some (hit_in p c) h e) }

never_none : (c : Cell) → None ≡ Some c → ⊥
never_none c e = absurd cc

pub hits_are_held : HitsAreHeld
hits_are_held page p h e =
    let by = hit_by p (last_or None (filter (at p) (cells page))) h e in
    elim (last_found (at p) None (cells page) by.cell by.found_so) [
      | inl none ↦ absurd (never_none by.cell none.0)
      | inr l ↦ record { earlier = l.earlier; cell = by.cell; later = l.later; here = l.here; held = l.passes; last = l.last; is = by.is }
    ]

pub held_points_are_hit : HeldPointsAreHit
held_points_are_hit page p earlier later c here held =
    let among = last_among (at p) c later in
    record {
      cell = among.cell;
      among = among.among;
      is = ap (option_map (hit_in p)) (ap (λ (cs : List Cell). last_or None (filter (at p) cs)) here ∙ last_from (at p) earlier later c held ∙ among.is);
    }

half_within : (extent : ℤ) → pos 0 <ℤ extent → (pos 0 ≤ℤ int_div extent (pos 2)) × (int_div extent (pos 2) <ℤ extent)
half_within (pos n) some = (omega (arith, ints), omega (arith, ints))
half_within (negsuc n) some = absurd (omega (arith, ints))

pub middles_are_hit : MiddlesAreHit
middles_are_hit page earlier later c here wide high =
    let x = half_within c.rect.w wide in
    let y = half_within c.rect.h high in
    held_points_are_hit page (middle c.rect) earlier later c here
    (held c.rect (middle c.rect) (omega (arith, ints, x.0)) (omega (arith, ints, x.1)) (omega (arith, ints, y.0)) (omega (arith, ints, y.1)))

-- the hit of a point that a cell holds and no later one
pub last_is_hit : (page : Page) (p : Point) (earlier later : List Cell) (c : Cell) → cells page ≡ earlier ++ c ∷ later → holds c.rect p ≡ true → All (λ c. holds c.rect p ≡ false) later
    → hit page p ≡ Some (hit_in p c)
last_is_hit page p earlier later c here held none =
    ap (option_map (hit_in p)) (ap (λ (cs : List Cell). last_or None (filter (at p) cs)) here ∙ last_from (at p) earlier later c held ∙ none_later (at p) c later none)
