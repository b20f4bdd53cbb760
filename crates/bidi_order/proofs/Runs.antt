-- Runs of a list, reversed one after the other.
use Rattle.std.proofs.Common.{◌≡◌, ◌∙◌, sym, refl, ap, ℕ, zero, suc, ◌+◌, ◌-◌, ◌<◌, ◌≤◌, Bool, true, false, List, [], ◌∷◌, ◌++◌, length, get_or, take, drop, reverse, append_assoc, append-nil, subst, arith}
use Rattle.std.specs.List.{All, range_with_len}
use Rattle.std.specs.List.Sorted.{IsPermutation}
use Rattle.std.proofs.lemmas.List.{drop_more, drop_all, take_more, take_at, drop_at, length-take-le, length-drop, length-append, length-reverse, reverse-append, take-append-drop, drop-drop, get_or-drop, map-id}
use Rattle.std.proofs.lemmas.List.FromFn.{length-range_with_len, map-range_with_len_more}
use Rattle.std.proofs.lemmas.List.Sorted.{All-permutation, IsPermutation-refl, length_permutation, IsPermutation-trans, IsPermutation-reverse, IsPermutation-append_left, IsPermutation-append_right}
use Rattle.basic_laws.proofs.Lists.{range_below}
use Rattle.bidi_order.specs.Reversals.{IsReversing, reverse_runs}

-- the elements from `start` up to `end`, reversed in place
abbrev pub reversed_part : {X : Type 0} → List X → ℕ → ℕ → List X
reversed_part xs start end_ = take start xs ++ reverse (take (end_ - start) (drop start xs)) ++ drop end_ xs

module _ {X : Type 0} (xs : List X) (start end_ : ℕ) (begun : start ≤ end_) (within : end_ ≤ length xs) where
  parts_length : length (take start xs ++ reverse (take (end_ - start) (drop start xs))) ≡ end_
  parts_length =
      let a : length (take start xs) ≡ start = length-take-le start xs (omega arith) in
      let d : length (drop start xs) ≡ length xs - start = length-drop start xs in
      let m : length (take (end_ - start) (drop start xs)) ≡ end_ - start = length-take-le (end_ - start) (drop start xs) (omega arith) in
      let r : length (reverse (take (end_ - start) (drop start xs))) ≡ length (take (end_ - start) (drop start xs)) = length-reverse (take (end_ - start) (drop start xs)) in
      let s : length (take start xs ++ reverse (take (end_ - start) (drop start xs))) ≡ length (take start xs) + length (reverse (take (end_ - start) (drop start xs))) = length-append (take start xs) (reverse (take (end_ - start) (drop start xs))) in
      omega arith

  parts_joined : (take start xs ++ take (end_ - start) (drop start xs)) ++ drop end_ xs ≡ xs
  parts_joined =
      let dd : drop (end_ - start) (drop start xs) ≡ drop (start + (end_ - start)) xs = drop-drop (end_ - start) start xs in
      let n : start + (end_ - start) ≡ end_ = omega arith in
      append_assoc (take start xs) (take (end_ - start) (drop start xs)) (drop end_ xs)
      ∙ ap (λ l. take start xs ++ l) (ap (λ l. take (end_ - start) (drop start xs) ++ l) (sym (dd ∙ ap (λ k. drop k xs) n)) ∙ take-append-drop (end_ - start) (drop start xs))
      ∙ take-append-drop start xs

  part_rearranged : IsPermutation xs (reversed_part xs start end_)
  part_rearranged =
      let P : List X → Type 0 = λ l. IsPermutation l (reversed_part xs start end_) in
      subst P parts_joined
      (IsPermutation-append_left (drop end_ xs) (take start xs ++ take (end_ - start) (drop start xs)) (take start xs ++ reverse (take (end_ - start) (drop start xs)))
      (IsPermutation-append_right (take start xs) (take (end_ - start) (drop start xs)) (reverse (take (end_ - start) (drop start xs))) (IsPermutation-reverse (take (end_ - start) (drop start xs)))))

pub starts : {X : Type 0} (passes : X → Bool) (xs : List X) → IsReversing passes xs xs 0 0
starts passes xs = record { begun = omega arith; within = omega arith; rearranged = IsPermutation-refl xs; rest = refl; runs = refl }

module _ {X : Type 0} (passes : X → Bool) (old now : List X) (start i : ℕ) (x d : X) (r : IsReversing passes old now start i) (below : i < length now) (x-is : x ≡ get_or now i d) where
  behind : drop i now ≡ x ∷ drop (i + 1) now
  behind = rw x-is (drop_more now i d below)

  -- the element is as it was
  pub as_it_was : x ≡ get_or old i d
  as_it_was =
      let n' : i + 0 ≡ i = omega arith in
      x-is ∙ sym (get_or-drop i now 0 d ∙ ap (λ (k : ℕ). get_or now k d) n') ∙ ap (λ l. get_or l 0 d) r.rest ∙ get_or-drop i old 0 d ∙ ap (λ (k : ℕ). get_or old k d) n'

  rest_more : drop (i + 1) now ≡ drop (i + 1) old
  rest_more = sym (drop-drop 1 i now) ∙ ap (drop 1) r.rest ∙ drop-drop 1 i old

  pub passes_more : passes x ≡ true → IsReversing passes old now start (i + 1)
  passes_more e =
      let begun : start ≤ i = r.begun in
      let n : i + 1 - start ≡ (i - start) + 1 = omega arith in
      let dl : length (drop start now) ≡ length now - start = length-drop start now in
      let t : take ((i - start) + 1) (drop start now) ≡ take (i - start) (drop start now) ++ get_or (drop start now) (i - start) d ∷ [] = take_more (drop start now) (i - start) d (omega arith) in
      let g : get_or (drop start now) (i - start) d ≡ get_or now (start + (i - start)) d = get_or-drop start now (i - start) d in
      let k : start + (i - start) ≡ i = omega arith in
      let at : get_or (drop start now) (i - start) d ≡ x = g ∙ ap (λ j. get_or now j d) k ∙ sym x-is in
      let whole : take (i + 1 - start) (drop start now) ≡ take (i - start) (drop start now) ++ x ∷ [] = ap (λ j. take j (drop start now)) n ∙ t ∙ ap (λ y. take (i - start) (drop start now) ++ y ∷ []) at in
      let back : reverse (take (i + 1 - start) (drop start now)) ≡ x ∷ reverse (take (i - start) (drop start now)) = ap reverse whole ∙ reverse-append (take (i - start) (drop start now)) (x ∷ []) in
      let one : reverse_runs passes (reverse (take (i - start) (drop start now))) (drop i now) ≡ reverse_runs passes (x ∷ reverse (take (i - start) (drop start now))) (drop (i + 1) now) = rw behind (rw e refl) in
      record {
        begun = omega arith;
        within = omega arith;
        rearranged = r.rearranged;
        rest = rest_more;
        runs = rw back (ap (λ l. take start now ++ l) (sym one) ∙ r.runs);
      }

  pub stops_more : passes x ≡ false → (now' : List X) → now' ≡ reversed_part now start i → IsReversing passes old now' (i + 1) (i + 1)
  stops_more e now' now-is =
      let begun : start ≤ i = r.begun in
      let front : List X = take start now ++ reverse (take (i - start) (drop start now)) in
      let fl : length front ≡ i = parts_length now start i begun (omega arith) in
      let all : now' ≡ (front ++ x ∷ []) ++ drop (i + 1) now = now-is ∙ ap (λ l. front ++ l) behind ∙ sym (append_assoc front (x ∷ []) (drop (i + 1) now)) in
      let fl1 : length (front ++ x ∷ []) ≡ i + 1 = length-append front (x ∷ []) ∙ omega arith in
      let t : take (i + 1) now' ≡ front ++ x ∷ [] = ap (take (i + 1)) all ∙ take_at (front ++ x ∷ []) (drop (i + 1) now) (i + 1) fl1 in
      let b : drop (i + 1) now' ≡ drop (i + 1) now = ap (drop (i + 1)) all ∙ drop_at (front ++ x ∷ []) (drop (i + 1) now) (i + 1) fl1 in
      let z : i + 1 - (i + 1) ≡ 0 = omega arith in
      let one : reverse_runs passes (reverse (take (i - start) (drop start now))) (drop i now) ≡ reverse (take (i - start) (drop start now)) ++ x ∷ reverse_runs passes [] (drop (i + 1) now) = rw behind (rw e refl) in
      let perm : IsPermutation now now' = subst (λ l. IsPermutation now l) (sym now-is) (part_rearranged now start i begun (omega arith)) in
      let len : length now' ≡ length now = length_permutation now now' perm in
      record {
        begun = omega arith;
        within = omega arith;
        rearranged = IsPermutation-trans old now now' r.rearranged perm;
        rest = b ∙ rest_more;
        runs = rw (z, t, b)
            (append_assoc front (x ∷ []) (reverse_runs passes [] (drop (i + 1) now))
            ∙ append_assoc (take start now) (reverse (take (i - start) (drop start now))) (x ∷ reverse_runs passes [] (drop (i + 1) now))
            ∙ ap (λ l. take start now ++ l) (sym one)
            ∙ r.runs);
      }

module _ {X : Type 0} (passes : X → Bool) (old now : List X) (start i : ℕ) (r : IsReversing passes old now start i) (all : length now ≤ i) (now' : List X) (now-is : now' ≡ reversed_part now start i) where
  pub ends : now' ≡ reverse_runs passes [] old
  ends =
      let none : drop i now ≡ [] = drop_all i now all in
      now-is ∙ rw none (append-nil (take start now ++ reverse (take (i - start) (drop start now)))) ∙ (rw none at r.runs)

  pub ends_rearranged : IsPermutation old now'
  ends_rearranged =
      IsPermutation-trans old now now' r.rearranged (subst (λ l. IsPermutation now l) (sym now-is) (part_rearranged now start i r.begun r.within))

pub range_more : (a n b : ℕ) → a + n ≡ b → range_with_len a (n + 1) ≡ range_with_len a n ++ b ∷ []
range_more a n b e = sym (map-id (range_with_len a (n + 1))) ∙ map-range_with_len_more (λ k. k) a n b e ∙ ap (λ l. l ++ b ∷ []) (map-id (range_with_len a n))

-- what is a rearrangement of the first n numbers has none behind them, and n of them
pub all_below : (n : ℕ) (places : List ℕ) → IsPermutation (range_with_len 0 n) places → All (λ p. p < n) places
all_below n places perm = All-permutation (λ p. p < n) (range_with_len 0 n) places perm (range_below n)

pub all_there : (n : ℕ) (places : List ℕ) → IsPermutation (range_with_len 0 n) places → length places ≡ n
all_there n places perm = length_permutation (range_with_len 0 n) places perm ∙ length-range_with_len 0 n

-- ---- a part of one place at most

short_reverse : (n : ℕ) (xs : List ℕ) → n ≤ 1 → reverse (take n xs) ≡ take n xs
short_reverse zero xs short = refl
short_reverse (suc zero) [] short = refl
short_reverse (suc zero) (x ∷ xs) short = refl
short_reverse (suc (suc n)) xs short = absurd (omega arith)

pub short_part : (xs : List ℕ) (start end_ : ℕ) → start ≤ end_ → end_ ≤ length xs → end_ - start ≤ 1
    → xs ≡ take start xs ++ reverse (take (end_ - start) (drop start xs)) ++ drop end_ xs
short_part xs start end_ order within short =
    let n = end_ - start in
    let whole : start + (end_ - start) ≡ end_ = omega arith in
    let rest : drop end_ xs ≡ drop (end_ - start) (drop start xs) = sym (drop-drop (end_ - start) start xs ∙ ap (λ (k : ℕ). drop k xs) whole) in
    sym (ap (λ part. take start xs ++ part ++ drop end_ xs) (short_reverse n (drop start xs) short)
    ∙ append_assoc (take start xs) (take n (drop start xs)) (drop end_ xs)
    ∙ ap (λ own. take start xs ++ (take n (drop start xs) ++ own)) rest
    ∙ ap (λ own. take start xs ++ own) (take-append-drop n (drop start xs))
    ∙ take-append-drop start xs)
