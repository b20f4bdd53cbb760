-- The isolating run sequences of a paragraph have each kept place once, and each of them rises.
use Rattle.std.proofs.Common.{◌≡◌, ◌∙◌, sym, refl, ap, subst, ℕ, suc, ◌+◌, ◌<◌, ◌≤◌, Bool, true, false, cond, eqb, List, [], ◌∷◌, ◌++◌, append_assoc, map, length, get_or, Option, Some, None, arith}
use Rattle.std.specs.Prelude.{IfSome, ⊤}
use Rattle.std.specs.List.{All, concat}
use Rattle.std.specs.List.Sorted.{IsPermutation}
use Rattle.std.specs.Option.{option_map}
use Rattle.std.proofs.lemmas.Bool.{eqb-true}
use Rattle.std.proofs.lemmas.List.Elements.{All-nil, All-cons, All-head, All-tail, All-weaker}
use Rattle.std.proofs.lemmas.List.Sorted.{IsPermutation-refl, IsPermutation-trans, IsPermutation-cons, IsPermutation-append_left, IsPermutation-append_right, IsPermutation-append_comm, All-permutation}
use Rattle.wm_chars.specs.declared.classes.BidiClass.{BidiClass}
use Rattle.bidi_explicit.specs.Sequences.{Sequence, kept_from, match_at, joined, beginning_with, others_than, level_in, level_runs, sequences, with_sides, isolating_runs}
use Rattle.bidi_explicit.specs.Links.{first_of, followed, chains}
use Rattle.bidi_explicit.specs.Sequences.{Rises, IsRunOf, kept_places}
use Rattle.bidi_explicit.proofs.Chains.{by_place}
use Rattle.bidi_explicit.proofs.Matches.{AreWithin}
use Rattle.bidi_explicit.proofs.Walking.{kept_within}

-- ---- each place once

-- X ++ (B ++ C) with its first two parts exchanged
exchanged : (xs bs cs : List ℕ) → IsPermutation (xs ++ (bs ++ cs)) (bs ++ (xs ++ cs))
exchanged xs bs cs =
    let P : List ℕ → Type 0 = λ l. IsPermutation l (bs ++ (xs ++ cs)) in
    let Q : List ℕ → Type 0 = λ l. IsPermutation ((xs ++ bs) ++ cs) l in
    subst P (append_assoc xs bs cs) (subst Q (append_assoc bs xs cs) (IsPermutation-append_left cs (xs ++ bs) (bs ++ xs) (IsPermutation-append_comm xs bs)))

taken_apart : (q : ℕ) (s : List (List ℕ)) → IsPermutation (concat s) (beginning_with q s ++ concat (others_than q s))
taken_apart q [] = IsPermutation-refl []
taken_apart q ([] ∷ s) = taken_apart q s
taken_apart q ((p ∷ places) ∷ s) = go (eqb p q) (taken_apart q s)
  where
    go : (b : Bool) → IsPermutation (concat s) (beginning_with q s ++ concat (others_than q s))
        → IsPermutation ((p ∷ places) ++ concat s) (cond b (p ∷ places) (beginning_with q s) ++ concat (cond b s ((p ∷ places) ∷ others_than q s)))
    go true h = IsPermutation-refl ((p ∷ places) ++ concat s)
    go false h =
        IsPermutation-trans ((p ∷ places) ++ concat s) ((p ∷ places) ++ (beginning_with q s ++ concat (others_than q s))) (beginning_with q s ++ ((p ∷ places) ++ concat (others_than q s)))
        (IsPermutation-append_right (p ∷ places) (concat s) (beginning_with q s ++ concat (others_than q s)) h)
        (exchanged (p ∷ places) (beginning_with q s) (concat (others_than q s)))

chains_cover : (level : ℕ → ℕ) (classes : List BidiClass) (places : List ℕ) → IsPermutation places (concat (chains level classes places))
chains_cover level classes [] = IsPermutation-refl []
chains_cover level classes (p ∷ places) = go (followed level p (first_of places) (match_at classes p)) (chains level classes places) (chains_cover level classes places)
  where
    go : (o : Option ℕ) (s : List (List ℕ)) → IsPermutation places (concat s) → IsPermutation (p ∷ places) (concat (joined o (p ∷ []) s))
    go None s h = IsPermutation-cons p places (concat s) h
    go (Some q) s h = IsPermutation-cons p places (beginning_with q s ++ concat (others_than q s)) (IsPermutation-trans places (concat s) (beginning_with q s ++ concat (others_than q s)) h (taken_apart q s))

-- ---- they rise

abbrev AllRise : List (List ℕ) → Type 0
AllRise [] = ⊤
AllRise (s ∷ sequences) = Rises s × AllRise sequences

abbrev Climb : List ℕ → Type 0
Climb [] = ⊤
Climb (p ∷ places) = IfSome (first_of places) (λ q. p < q) × Climb places

kept_climb : (marks : List Bool) (i : ℕ) → Climb (kept_from i marks)
kept_climb [] i = tt
kept_climb (b ∷ marks) i = go b (kept_climb marks (i + 1)) (first_low (kept_from (i + 1) marks) (kept_within marks (i + 1) (i + 1 + length marks) (omega arith)))
  where
    first_low : (xs : List ℕ) → AreWithin (i + 1) (i + 1 + length marks) xs → IfSome (first_of xs) (λ q. i < q)
    first_low [] a = tt
    first_low (x ∷ xs) a = let low : i + 1 ≤ x = a.0 in omega arith

    go : (b : Bool) → Climb (kept_from (i + 1) marks) → IfSome (first_of (kept_from (i + 1) marks)) (λ q. i < q) → Climb (cond b (kept_from (i + 1) marks) (i ∷ kept_from (i + 1) marks))
    go true c f = c
    go false c f = (f, c)

-- what a place takes up rises from it
record RisesFrom (p : ℕ) (places : List ℕ) : Type 0 where
  above : All (λ q. p < q) places
  rises : Rises places

taken_rises : (p q : ℕ) (s : List (List ℕ)) → p < q → AllRise s → RisesFrom p (beginning_with q s)
taken_rises p q [] l a = record { above = All-nil (λ q. p < q); rises = tt }
taken_rises p q ([] ∷ s) l a = taken_rises p q s l a.1
taken_rises p q ((r ∷ places) ∷ s) l a = go (eqb r q) refl (taken_rises p q s l a.1)
  where
    go : (b : Bool) → eqb r q ≡ b → RisesFrom p (beginning_with q s) → RisesFrom p (cond b (r ∷ places) (beginning_with q s))
    go true e h =
        let here : r ≡ q = eqb-true r q e in
        record {
          above = All-cons (λ k. p < k) r places (omega arith) (All-weaker (λ k. r < k) (λ k. p < k) (λ k b. omega arith) places a.0.0);
          rises = a.0;
        }
    go false e h = h

others_rise : (q : ℕ) (s : List (List ℕ)) → AllRise s → AllRise (others_than q s)
others_rise q [] a = tt
others_rise q ([] ∷ s) a = (a.0, others_rise q s a.1)
others_rise q ((r ∷ places) ∷ s) a = go (eqb r q) (others_rise q s a.1)
  where
    go : (b : Bool) → AllRise (others_than q s) → AllRise (cond b s ((r ∷ places) ∷ others_than q s))
    go true h = a.1
    go false h = (a.0, h)

chains_rise : (level : ℕ → ℕ) (classes : List BidiClass) (places : List ℕ) → Climb places → AllRise (chains level classes places)
chains_rise level classes [] c = tt
chains_rise level classes (p ∷ places) c = go (followed level p (first_of places) (match_at classes p)) (follows (first_of places) c.0) (chains_rise level classes places c.1)
  where
    matches : (o : Option ℕ) → IfSome (option_map (λ n. p + 1 + n) o) (λ q. p < q)
    matches None = tt
    matches (Some n) = omega arith

    follows : (near : Option ℕ) → IfSome near (λ q. p < q) → IfSome (followed level p near (match_at classes p)) (λ q. p < q)
    follows None h = matches _
    follows (Some q) h = either (eqb (level p) (level q)) (match_at classes p) (matches _)
      where
        either : (b : Bool) (m : Option ℕ) → IfSome m (λ q. p < q) → IfSome (cond b (Some q) m) (λ q. p < q)
        either true m h2 = h
        either false m h2 = h2

    go : (o : Option ℕ) → IfSome o (λ q. p < q) → AllRise (chains level classes places) → AllRise (joined o (p ∷ []) (chains level classes places))
    go None l a = ((All-nil (λ q. p < q), tt), a)
    go (Some q) l a =
        let t = taken_rises p q (chains level classes places) l a in
        ((t.above, t.rises), others_rise q (chains level classes places) a)

-- ---- what is kept

kept_are_kept : (marks all : List Bool) (i : ℕ) → ((k : ℕ) (b : Bool) → k < length marks → get_or marks k true ≡ b → get_or all (i + k) true ≡ b) → i + length marks ≤ length all
    → All (λ p. (p < length all) × (get_or all p true ≡ false)) (kept_from i marks)
kept_are_kept [] all i h l = All-nil (λ p. (p < length all) × (get_or all p true ≡ false))
kept_are_kept (b ∷ marks) all i h l = go b (h 0 b (omega arith) refl) (kept_are_kept marks all (i + 1) (λ k c low e. ap (λ j. get_or all j true) (omega arith) ∙ h (suc k) c (omega arith) e) (omega arith))
  where
    go : (b : Bool) → get_or all (i + 0) true ≡ b → All (λ p. (p < length all) × (get_or all p true ≡ false)) (kept_from (i + 1) marks) → All (λ p. (p < length all) × (get_or all p true ≡ false)) (cond b (kept_from (i + 1) marks) (i ∷ kept_from (i + 1) marks))
    go true e a = a
    go false e a = let zero_i : i + 0 ≡ i = omega arith in All-cons (λ p. (p < length all) × (get_or all p true ≡ false)) i (kept_from (i + 1) marks) (omega arith, ap (λ j. get_or all j true) (sym zero_i) ∙ e) a

-- what holds of all places of lists holds of those of each
all_parts : (P : ℕ → Type 0) (lists : List (List ℕ)) → All P (concat lists) → All (λ l. All P l) lists
all_parts P [] a = All-nil (λ l. All P l)
all_parts P (l ∷ lists) a = All-cons (λ l. All P l) l lists (front l a) (all_parts P lists (back l a))
  where
    front : (l : List ℕ) → All P (l ++ concat lists) → All P l
    front [] a = All-nil P
    front (x ∷ l) a = All-cons P x l (All-head P x (l ++ concat lists) a) (front l (All-tail P x (l ++ concat lists) a))

    back : (l : List ℕ) → All P (l ++ concat lists) → All P (concat lists)
    back [] a = a
    back (x ∷ l) a = back l (All-tail P x (l ++ concat lists) a)

all_rise : (lists : List (List ℕ)) → AllRise lists → All Rises lists
all_rise [] a = All-nil Rises
all_rise (l ∷ lists) a = All-cons Rises l lists a.0 (all_rise lists a.1)

module _ (level : ℕ → ℕ) (classes : List BidiClass) (marks : List Bool) where
  abbrev lists : List (List ℕ)
  lists = sequences classes (level_runs level (kept_places marks))

  pub cover : IsPermutation (kept_places marks) (concat lists)
  cover = rw (by_place level classes (kept_places marks)) (chains_cover level classes (kept_places marks))

  pub are_runs : All (IsRunOf marks) lists
  are_runs =
      let kept : All (λ p. (p < length marks) × (get_or marks p true ≡ false)) (kept_places marks)
      = kept_are_kept marks marks 0 (λ k b l e. ap (λ j. get_or marks j true) (omega arith) ∙ e) (omega arith) in
      let each : All (λ l. All (λ p. (p < length marks) × (get_or marks p true ≡ false)) l) lists
      = all_parts (λ p. (p < length marks) × (get_or marks p true ≡ false)) lists (All-permutation (λ p. (p < length marks) × (get_or marks p true ≡ false)) (kept_places marks) (concat lists) cover kept) in
      let rise : All Rises lists = rw (by_place level classes (kept_places marks)) (all_rise (chains level classes (kept_places marks)) (chains_rise level classes (kept_places marks) (kept_climb marks 0))) in
      λ k d l. record {
        rise = rise k d l;
        within = All-weaker (λ p. (p < length marks) × (get_or marks p true ≡ false)) (λ p. p < length marks) (λ p h. h.0) (get_or lists k d) (each k d l);
        kept = All-weaker (λ p. (p < length marks) × (get_or marks p true ≡ false)) (λ p. get_or marks p true ≡ false) (λ p h. h.1) (get_or lists k d) (each k d l);
      }

-- ---- runs that are these sequences

places_stay : (base : ℕ) (level : ℕ → ℕ) (classes : List BidiClass) (kept : List ℕ) (places : List ℕ) → (with_sides base level classes kept places).places ≡ places
places_stay base level classes kept [] = refl
places_stay base level classes kept (p ∷ places) = refl

pub all_places : (base : ℕ) (level : ℕ → ℕ) (classes : List BidiClass) (kept : List ℕ) (lists : List (List ℕ)) → map (λ s. s.places) (map (with_sides base level classes kept) lists) ≡ lists
all_places base level classes kept [] = refl
all_places base level classes kept (l ∷ lists) = rw (places_stay base level classes kept l, all_places base level classes kept lists) refl

-- whatever holds them, and tells each by a function
module _ {X : Type 0} (seq : X → Sequence) (base : ℕ) (levels : List ℕ) (classes : List BidiClass) (marks : List Bool) (runs : List X) (are : map seq runs ≡ isolating_runs base levels classes marks) where
  pub places_of : map (λ run. (seq run).places) runs ≡ sequences classes (level_runs (level_in levels) (kept_places marks))
  unfolding isolating_runs
  places_of = twice runs ∙ ap (map (λ s. s.places)) are ∙ all_places base (level_in levels) classes (kept_places marks) (sequences classes (level_runs (level_in levels) (kept_places marks)))
    where
      twice : (rs : List X) → map (λ run. (seq run).places) rs ≡ map (λ s. s.places) (map seq rs)
      twice [] = refl
      twice (r ∷ rs) = ap (λ l. (seq r).places ∷ l) (twice rs)

  pub runs_cover : IsPermutation (kept_places marks) (concat (map (λ run. (seq run).places) runs))
  runs_cover = rw places_of (cover (level_in levels) classes marks)

  pub each_is_run : All (λ run. IsRunOf marks (seq run).places) runs
  each_is_run = unmapped runs (rw places_of (are_runs (level_in levels) classes marks))
    where
      unmapped : (rs : List X) → All (IsRunOf marks) (map (λ run. (seq run).places) rs) → All (λ run. IsRunOf marks (seq run).places) rs
      unmapped [] a = All-nil (λ run. IsRunOf marks (seq run).places)
      unmapped (r ∷ rs) a = All-cons (λ run. IsRunOf marks (seq run).places) r rs (All-head (IsRunOf marks) (seq r).places (map (λ run. (seq run).places) rs) a) (unmapped rs (All-tail (IsRunOf marks) (seq r).places (map (λ run. (seq run).places) rs) a))
