-- Isolating run sequences, place by place.
use Rattle.std.proofs.Common.{◌≡◌, refl, ℕ, Bool, true, false, cond, eqb, List, [], ◌∷◌, Option, Some, None}
use Rattle.std.proofs.lemmas.Bool.{eq-eqb}
use Rattle.wm_chars.specs.declared.classes.BidiClass.{BidiClass}
use Rattle.bidi_explicit.specs.Sequences.{run_on, level_runs, match_at, last_of, joined, sequences}
use Rattle.bidi_explicit.specs.Links.{chains}

-- the level runs of these places, taken apart: the first of them begins with the first place
pub record Begins (q : ℕ) (runs : List (List ℕ)) : Type 0 where
  pub run : List ℕ
  pub others : List (List ℕ)
  pub is : runs ≡ (q ∷ run) ∷ others

begins : (level : ℕ → ℕ) (q : ℕ) (runs : List (List ℕ)) → Begins q (run_on level q runs)
begins level q [] = record { run = []; others = []; is = refl }
begins level q ([] ∷ runs) = record { run = []; others = runs; is = refl }
begins level q ((r ∷ run) ∷ runs) = go (eqb (level q) (level r))
  where
    go : (b : Bool) → Begins q (cond b ((q ∷ r ∷ run) ∷ runs) ((q ∷ []) ∷ (r ∷ run) ∷ runs))
    go true = record { run = r ∷ run; others = runs; is = refl }
    go false = record { run = []; others = (r ∷ run) ∷ runs; is = refl }

-- a place before a sequence of which it takes up the first
taken_up : (p q : ℕ) (run : List ℕ) (m : Option ℕ) (s : List (List ℕ)) → joined m (p ∷ q ∷ run) s ≡ joined (Some q) (p ∷ []) (joined m (q ∷ run) s)
taken_up p q run None s = let e : eqb q q ≡ true = eq-eqb q q refl in rw e refl
taken_up p q run (Some r) s = let e : eqb q q ≡ true = eq-eqb q q refl in rw e refl

pub by_place : (level : ℕ → ℕ) (classes : List BidiClass) (places : List ℕ) → sequences classes (level_runs level places) ≡ chains level classes places
by_place level classes [] = refl
by_place level classes (p ∷ []) = refl
by_place level classes (p ∷ q ∷ places) = step (begins level q (level_runs level places)) (by_place level classes (q ∷ places))
  where
    step : Begins q (level_runs level (q ∷ places)) → sequences classes (level_runs level (q ∷ places)) ≡ chains level classes (q ∷ places)
        → sequences classes (level_runs level (p ∷ q ∷ places)) ≡ chains level classes (p ∷ q ∷ places)
    step b e = go (eqb (level p) (level q)) refl
      where
        go : (same : Bool) → eqb (level p) (level q) ≡ same → sequences classes (run_on level p (level_runs level (q ∷ places))) ≡ joined (cond (eqb (level p) (level q)) (Some q) (match_at classes p)) (p ∷ []) (chains level classes (q ∷ places))
        go true s = rw (s, ← e, b.is) (rw s (taken_up p q b.run (match_at classes (last_of q b.run)) (sequences classes b.others)))
        go false s = rw (s, ← e, b.is) (rw s refl)
