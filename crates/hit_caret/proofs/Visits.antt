-- What a visitor is that has seen cells one after the other.
use Rattle.std.proofs.Common.{◌≡◌, refl, sym, ap, ◌∙◌, ℕ, ◌+◌, ◌<◌, Bool, true, false, ◌&&◌, ◌==◌, cond, List, [], ◌∷◌, length, drop, get_or, fold, filter, find, Option, Some, None, option_map, ℤ, ◌+ℤ◌}
use Rattle.std.specs.List.{last_or}
use Rattle.std.specs.Option.{option_or}
use Rattle.std.proofs.lemmas.Bool.{eqb-true}
use Rattle.fragment_types.specs.RunUnit.{RunUnit}
use Rattle.place_map.proofs.PartLists.{item_here}
use Rattle.hit_caret.specs.declared.carets.FirstCells.{FirstCells}
use Rattle.hit_caret.specs.declared.cells.Cell.{Cell}
use Rattle.hit_caret.specs.declared.cells.Run.{Run}
use Rattle.hit_caret.specs.declared.finding.LastHit.{LastHit}
use Rattle.hit_caret.specs.declared.hits.Hit.{Hit}
use Rattle.place_map.specs.Bound as bounds
use Rattle.place_map.specs.Bound.{spans}
use Rattle.place_map.specs.declared.bound.Bound.{Bound}
use Rattle.hit_caret.specs.declared.rects.Point.{Point}
use Rattle.hit_caret.specs.Carets.{begins_at, ends_at, found_first}
use Rattle.hit_caret.specs.Cells.{cell_of, cells_from, taken}
use Rattle.hit_caret.specs.Hits.{hit_in}
use Rattle.hit_caret.specs.Rects.{holds}
use Rattle.hit_caret.specs.Visiting.{LiesIn}
use Rattle.hit_caret.proofs.Tests.{is_false}

-- ---- the units of a run

module _ (run : Run) (units : List RunUnit) (k : ℕ) (unit : RunUnit) (distance : ℤ) (lt : k < length units) (is : unit ≡ get_or units k unit) where
  -- one unit more is seen
  pub one_unit : {V : Type 0} (seen : V → Cell → V) (v w all : V) (c : Cell) (extent next : ℤ) → fold seen v (cells_from run distance (drop k units)) ≡ all
      → extent ≡ taken run distance unit.extent → c ≡ cell_of run distance extent unit → w ≡ seen v c → next ≡ distance +ℤ extent → fold seen w (cells_from run next (drop (k + 1) units)) ≡ all
  one_unit seen v w all c extent next so_far takes cell sees moved =
      rw (sees, cell, moved, takes) (sym (ap (λ (us : List RunUnit). fold seen v (cells_from run distance us)) (item_here units k unit lt is)) ∙ so_far)

-- ---- the last hit

differ : true ≡ false → ⊥
differ is = cc

abbrev last_hit : Point → Option Cell → LastHit
last_hit p cell = record { point = p; found = option_map (hit_in p) cell }

abbrev hit_step : LastHit → Cell → LastHit
hit_step last c = record { point = last.point; found = cond (holds c.rect last.point) (Some (hit_in last.point c)) last.found }

-- a cell more is the last one that holds the point, or the one before stays
hit_more : (p : Point) (before : Option Cell) (c : Cell) (b : Bool) → cond b (Some (hit_in p c)) (option_map (hit_in p) before) ≡ option_map (hit_in p) (cond b (Some c) before)
hit_more p before c true = refl
hit_more p before c false = refl

last_more : (before : Option Cell) (c : Cell) (cs : List Cell) (b : Bool) → last_or (cond b (Some c) before) cs ≡ last_or before (cond b (c ∷ cs) cs)
last_more before c cs true = refl
last_more before c cs false = refl

hits_seen : (p : Point) (before : Option Cell) (cs : List Cell) → fold hit_step (last_hit p before) cs ≡ last_hit p (last_or before (filter (λ c. holds c.rect p) cs))
hits_seen p before [] = refl
hits_seen p before (c ∷ cs) =
    let b = holds c.rect p in
    ap (λ (found : Option Hit). let last : LastHit = record { point = p; found = found } in fold hit_step last cs) (hit_more p before c b)
    ∙ hits_seen p (cond b (Some c) before) cs
    ∙ ap (last_hit p) (last_more before c (filter (λ c. holds c.rect p) cs) b)

-- a bound that doesn't hold the point is passed over
pub hits_passed : (last : LastHit) (bound : Bound) (cell : Cell) (x y : ℤ) → x ≡ last.point.x → y ≡ last.point.y → bounds.holds bound x y ≡ false → LiesIn bound cell → hit_step last cell ≡ last
hits_passed last bound cell x y at_x at_y away lies = by (holds cell.rect last.point) refl where
  by : (b : Bool) → holds cell.rect last.point ≡ b → record { point = last.point; found = cond b (Some (hit_in last.point cell)) last.found } ≡ last
  by true there = absurd (differ (sym (rw (at_x, at_y) (lies.points last.point there)) ∙ away))
  by false none = refl

pub hit_seen : (x y kept_x kept_y : ℤ) (cs : List Cell) (end_ : LastHit) → kept_x ≡ x → kept_y ≡ y → end_ ≡ fold hit_step (last_hit (record { x = kept_x; y = kept_y }) None) cs
    → end_.found ≡ option_map (hit_in (record { x = x; y = y })) (last_or None (filter (λ c. holds c.rect (record { x = x; y = y })) cs))
hit_seen x y kept_x kept_y cs end_ ex ey is = rw (sym ex, sym ey) (ap (λ last. last.found) (is ∙ hits_seen (record { x = kept_x; y = kept_y }) None cs))

-- ---- the first cells

abbrev first_cells : (node place : ℕ) → (beginning ending : Option Cell) → FirstCells
first_cells node place beginning ending = record { node = node; place = place; beginning = beginning; ending = ending }

abbrev first_step : FirstCells → Cell → FirstCells
first_step s c = first_cells s.node s.place (found_first s.beginning (begins_at s.node s.place c) c) (found_first s.ending (ends_at s.node s.place c) c)

or_none : (o : Option Cell) → o ≡ option_or o None
or_none None = refl
or_none (Some c) = refl

-- a cell more is the first one, unless one was found before
first_more : (before : Option Cell) (c : Cell) (others : Option Cell) (b : Bool) → option_or (found_first before b c) others ≡ option_or before (cond b (Some c) others)
first_more (Some d) c others b = refl
first_more None c others true = refl
first_more None c others false = refl

both : (node place : ℕ) (a b x y : Option Cell) → a ≡ x → b ≡ y → first_cells node place a b ≡ first_cells node place x y
both node place a b x y p q = rw (p, q) refl

firsts_seen : (node place : ℕ) (a b : Option Cell) (cs : List Cell)
    → fold first_step (first_cells node place a b) cs ≡ first_cells node place (option_or a (find (begins_at node place) cs)) (option_or b (find (ends_at node place) cs))
firsts_seen node place a b [] = both node place a b _ _ (or_none a) (or_none b)
firsts_seen node place a b (c ∷ cs) =
    firsts_seen node place (found_first a (begins_at node place c) c) (found_first b (ends_at node place c) c) cs
    ∙ both node place _ _ _ _ (first_more a c (find (begins_at node place) cs) (begins_at node place c)) (first_more b c (find (ends_at node place) cs) (ends_at node place c))

found_none : (before : Option Cell) (c : Cell) (b : Bool) → b ≡ false → found_first before b c ≡ before
found_none (Some d) c b is = refl
found_none None c b is = rw is refl

of_another : (node number place : ℕ) → (node == number) ≡ false → (at : ℕ) → ((node == number) && (at == place)) ≡ false
of_another node number place other at = rw other refl

-- a bound that doesn't span the node is passed over
pub firsts_passed : (s : FirstCells) (bound : Bound) (c : Cell) → spans bound s.node ≡ false → LiesIn bound c → first_step s c ≡ s
firsts_passed s bound c away lies =
    let other : (c.node == s.node) ≡ false = is_false (c.node == s.node) (λ e. differ (sym lies.node ∙ ap (spans bound) (eqb-true c.node s.node e) ∙ away)) in
    both s.node s.place _ _ _ _
    (found_none s.beginning c (begins_at s.node s.place c) (of_another c.node s.node s.place other c.first))
    (found_none s.ending c (ends_at s.node s.place c) (of_another c.node s.node s.place other c.end))

pub beginning_seen : (node place : ℕ) (cs : List Cell) (end_ : FirstCells) → end_ ≡ fold first_step (first_cells node place None None) cs → end_.beginning ≡ find (begins_at node place) cs
beginning_seen node place cs end_ is = ap (λ s. s.beginning) (is ∙ firsts_seen node place None None cs)

pub ending_seen : (node place : ℕ) (cs : List Cell) (end_ : FirstCells) → end_ ≡ fold first_step (first_cells node place None None) cs → end_.ending ≡ find (ends_at node place) cs
ending_seen node place cs end_ is = ap (λ s. s.ending) (is ∙ firsts_seen node place None None cs)
