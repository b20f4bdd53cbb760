-- Runs of items that join and of items that don't.
use Rattle.std.proofs.Common.{◌≡◌, Bool, true, false, ◌&&◌, List, [], ◌∷◌, ◌++◌, ap, sym, ◌∙◌, refl}
use Rattle.std.specs.List.{list_all}
use Rattle.std.proofs.lemmas.Bool.{and_parts}
use Rattle.cluster_units.specs.Runs.{Run, items, runs_of, with_front}

not_both : (a b : Bool) → b ≡ false → (a && b) ≡ false
not_both true b e = e
not_both false b e = refl

neither : (a b : Bool) → a ≡ false → (a && b) ≡ false
neither a b e = rw e refl

both : (a b : Bool) → a ≡ true → b ≡ true → (a && b) ≡ true
both a b e f = rw e f

module _ {X : Type 0} (joins : X → Bool) where
  abbrev pub alone : X → Run X
  alone x = record { first = x; others = [] }

  pub front_joins : (x : X) (run : Run X) (runs : List (Run X)) → (joins x && joins run.first) ≡ true → with_front joins x (run ∷ runs) ≡ (record { first = x; others = items run }) ∷ runs
  front_joins x run runs e = rw e refl

  pub front_apart : (x : X) (run : Run X) (runs : List (Run X)) → (joins x && joins run.first) ≡ false → with_front joins x (run ∷ runs) ≡ alone x ∷ run ∷ runs
  front_apart x run runs e = rw e refl

  -- an item that doesn't join stands by itself
  with_runs : (x : X) (runs : List (Run X)) → joins x ≡ false → with_front joins x runs ≡ alone x ∷ runs
  with_runs x [] e = refl
  with_runs x (run ∷ runs) e = front_apart x run runs (neither (joins x) (joins run.first) e)

  pub apart_first : (x : X) (xs : List X) → joins x ≡ false → runs_of joins (x ∷ xs) ≡ alone x ∷ runs_of joins xs
  apart_first x xs e = with_runs x (runs_of joins xs) e

  -- items that all join are one run, before an item that doesn't and at the end
  pub all_join : (x : X) (xs : List X) → list_all joins (x ∷ xs) ≡ true → runs_of joins (x ∷ xs) ≡ (record { first = x; others = xs }) ∷ []
  all_join x [] all = refl
  all_join x (z ∷ xs) all =
      let parts = and_parts (joins x) (list_all joins (z ∷ xs)) all in
      let next = and_parts (joins z) (list_all joins xs) parts.1 in
      ap (with_front joins x) (all_join z xs parts.1) ∙ front_joins x (record { first = z; others = xs }) [] (both (joins x) (joins z) parts.0 next.0)

  pub all_before : (x : X) (xs : List X) (y : X) (ys : List X) → list_all joins (x ∷ xs) ≡ true → joins y ≡ false
      → runs_of joins ((x ∷ xs) ++ y ∷ ys) ≡ (record { first = x; others = xs }) ∷ runs_of joins (y ∷ ys)
  all_before x [] y ys all e =
      ap (with_front joins x) (apart_first y ys e) ∙ front_apart x (alone y) (runs_of joins ys) (not_both (joins x) (joins y) e) ∙ ap (λ runs. alone x ∷ runs) (sym (apart_first y ys e))
  all_before x (z ∷ xs) y ys all e =
      let parts = and_parts (joins x) (list_all joins (z ∷ xs)) all in
      let next = and_parts (joins z) (list_all joins xs) parts.1 in
      ap (with_front joins x) (all_before z xs y ys parts.1 e) ∙ front_joins x (record { first = z; others = xs }) (runs_of joins (y ∷ ys)) (both (joins x) (joins z) parts.0 next.0)
