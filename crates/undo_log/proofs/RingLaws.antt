-- What the ring of a log holds, and what a call makes of it.
use Rattle.std.proofs.Common.{◌≡◌, ◌∙◌, ℕ, zero, suc, ◌+◌, ◌-◌, ◌<◌, ◌≤◌, List, [], ◌∷◌, ◌++◌, length, length-drop, map, take, take_all, drop, refl, ap, sym, subst, arith, Option, Some, None, option_map}
use Rattle.std.specs.Prelude.{◌↔◌, IsSome, option_copied}
use Rattle.std.specs.Borrow.{Bor}
use Rattle.std.specs.List.{slice_get}
use Rattle.std.proofs.lemmas.List.{drop-append-le, drop-drop, drop-map, drop-take, drop_all, length-map, length-take-le, map_push, take-append-drop, take-map, take-take}
use Rattle.std.proofs.lemmas.Option.{slice_get-get_or, slice_get-map, slice_get_within}
use Rattle.circular_buffer.specs.Buffer.{Buffer, buffer, keep_last, last_item}
use Rattle.edits.specs.declared.exact.Step.{Step}
use Rattle.edits.specs.Exact.{StepOf, step_as}
use Rattle.undo_log.specs.Log.{IsFew, IsSound, Log, cut, gone_down, gone_up, greatest_count, next_ahead, next_back, recorded}
use Rattle.undo_log.proofs.LogLaws.{kept_few}

-- ---- lists that are cut

module _ {X : Type 0} where
  taken_at : (n : ℕ) (xs : List X) (place : ℕ) → place < n → slice_get (take n xs) place ≡ slice_get xs place
  taken_at zero xs place within = absurd (omega arith)
  taken_at (suc n) [] place within = refl
  taken_at (suc n) (x ∷ xs) zero within = refl
  taken_at (suc n) (x ∷ xs) (suc place) within = taken_at n xs place (omega arith)

  dropped_at : (n : ℕ) (xs : List X) → slice_get (drop n xs) 0 ≡ slice_get xs n
  dropped_at zero xs = refl
  dropped_at (suc n) [] = refl
  dropped_at (suc n) (x ∷ xs) = dropped_at n xs

  down_cut : (done : ℕ) (xs : List X) → done ≤ length xs → 0 < done → cut (done - 1) xs ≡ gone_down (cut done xs)
  down_cut done xs within some =
      let long : length (take done xs) ≡ done = length-take-le done xs within in
      let past : take (done - 1) xs ≡ take (length (take done xs) - 1) (take done xs) =
      sym (take-take (done - 1) done xs (omega arith)) ∙ ap (λ (n : ℕ). take (n - 1) (take done xs)) (sym long) in
      let future : drop (done - 1) xs ≡ drop (length (take done xs) - 1) (take done xs) ++ drop done xs =
      ap (drop (done - 1)) (sym (take-append-drop done xs))
      ∙ (drop-append-le (done - 1) (take done xs) (drop done xs) (omega (arith, long))
      ∙ ap (λ (n : ℕ). drop (n - 1) (take done xs) ++ drop done xs) (sym long)) in
      λ i. record { past = past i; future = future i }

  up_cut : (done : ℕ) (xs : List X) → cut (done + 1) xs ≡ gone_up (cut done xs)
  up_cut done xs =
      let front : take done (take (done + 1) xs) ≡ take done xs = take-take done (done + 1) xs (omega arith) in
      let next : drop done (take (done + 1) xs) ≡ take 1 (drop done xs) = drop-take done 1 xs in
      let past : take (done + 1) xs ≡ take done xs ++ take 1 (drop done xs) = sym (take-append-drop done (take (done + 1) xs)) ∙ (λ i. front i ++ next i) in
      λ i. record { past = past i; future = sym (drop-drop 1 done xs) i }

  -- a call finds something exactly where the place is one of the list
  found_some : (xs : List X) (place : ℕ) (result : Option (Bor X)) → option_copied result ≡ slice_get xs place → IsSome result ↔ (place < length xs)
  found_some xs place (Some found) is = (λ yes. slice_get_within xs place found.now (sym is), λ within. refl)
  found_some [] place None is = (λ no. absurd cc, λ within. absurd (omega arith))
  found_some (x ∷ xs) place None is =
      (λ no. absurd cc, λ within. let at = slice_get-get_or (x ∷ xs) place x within in absurd cc)

kept_alike : {A B : Type 0} (f : A → B) (n : ℕ) (xs : List A) → map f (keep_last n xs) ≡ keep_last n (map f xs)
kept_alike f n xs = sym (drop-map f (length xs - n) xs) ∙ ap (λ (m : ℕ). drop (m - n) (map f xs)) (sym (length-map xs f))

-- ---- the steps of a ring, without where they lie in memory

module _ (steps : Buffer Step) (done : ℕ) (sound : IsSound steps done) where
  within : done ≤ length (map step_as steps.items)
  within = omega (arith, sound.within, length-map steps.items step_as)

  long : length (take done (map step_as steps.items)) ≡ done
  long = length-take-le done (map step_as steps.items) within

  pub few : IsFew (cut done (map step_as steps.items))
  few = omega (arith, sound.few, long, length-drop done (map step_as steps.items), length-map steps.items step_as)

  pub none_back : done ≡ 0 → None ≡ next_back (cut done (map step_as steps.items))
  none_back none = ap (λ (n : ℕ). last_item (take n (map step_as steps.items))) (sym none)

  pub no_past : done ≡ 0 → 0 < length (take done (map step_as steps.items)) → ⊥
  no_past none more = omega (arith, long)

  pub back_step : (result : Option (Bor Step)) → 0 < done → option_copied result ≡ slice_get steps.items (done - 1) → option_map step_as (option_copied result) ≡ next_back (cut done (map step_as steps.items))
  back_step result some is =
      let all = map step_as steps.items in
      ap (option_map step_as) is
      ∙ (sym (slice_get-map step_as steps.items (done - 1))
      ∙ (sym (taken_at done all (done - 1) (omega arith))
      ∙ ap (λ (n : ℕ). slice_get (take done all) (n - 1)) (sym long)))

  pub back_some : (result : Option (Bor Step)) → 0 < done → option_copied result ≡ slice_get steps.items (done - 1) → IsSome result ↔ (0 < length (take done (map step_as steps.items)))
  back_some result some is = (λ yes. omega (arith, long), λ more. (found_some steps.items (done - 1) result is).1 (omega (arith, sound.within)))

  pub ahead_step : (result : Option (Bor Step)) → option_copied result ≡ slice_get steps.items done → option_map step_as (option_copied result) ≡ next_ahead (cut done (map step_as steps.items))
  ahead_step result is = ap (option_map step_as) is ∙ (sym (slice_get-map step_as steps.items done) ∙ sym (dropped_at done (map step_as steps.items)))

  pub ahead_some : (result : Option (Bor Step)) → option_copied result ≡ slice_get steps.items done → IsSome result ↔ (0 < length (drop done (map step_as steps.items)))
  ahead_some result is =
      let found = found_some steps.items done result is in
      let left : length (drop done (map step_as steps.items)) ≡ length steps.items - done = omega (arith, length-drop done (map step_as steps.items), length-map steps.items step_as) in
      (λ yes. let inside : done < length steps.items = found.0 yes in omega (arith, left), λ more. found.1 (omega (arith, left)))

  -- ---- what a call makes of it

  pub recorded_sound : (step : Step) → let kept = keep_last steps.capacity (take done steps.items ++ step ∷ []) in IsSound (buffer kept steps.capacity) (length kept)
  recorded_sound step = record {
    room = sound.room;
    few = omega (arith, sound.room, kept_few steps.capacity (take done steps.items ++ step ∷ []));
    within = omega arith;
  }

  pub recorded_as : (step : Step) → let kept = keep_last steps.capacity (take done steps.items ++ step ∷ []) in cut (length kept) (map step_as kept) ≡ recorded (step_as step) (cut done (map step_as steps.items))
  recorded_as step =
      let more = take done steps.items ++ step ∷ [] in
      let kept = keep_last steps.capacity more in
      let all : length (map step_as kept) ≤ length kept = omega (arith, length-map kept step_as) in
      let front : map step_as more ≡ take done (map step_as steps.items) ++ step_as step ∷ [] =
      map_push step_as (take done steps.items) step ∙ ap (λ (l : List StepOf). l ++ step_as step ∷ []) (sym (take-map step_as done steps.items)) in
      let past : take (length kept) (map step_as kept) ≡ keep_last greatest_count (take done (map step_as steps.items) ++ step_as step ∷ []) =
      take_all (length kept) (map step_as kept) all
      ∙ (kept_alike step_as steps.capacity more
      ∙ (ap (λ (n : ℕ). keep_last n (map step_as more)) sound.room
      ∙ ap (keep_last greatest_count) front)) in
      λ i. record { past = past i; future = drop_all (length kept) (map step_as kept) all i }

  module _ (log : Log StepOf) (is : cut done (map step_as steps.items) ≡ log) where
    pub some_done : 0 < length log.past → 0 < done
    some_done some =
        let more : 0 < length (take done (map step_as steps.items)) = subst (λ (l : Log StepOf). 0 < length l.past) (sym is) some in
        omega (arith, more, long)

    pub some_left : 0 < length log.future → done < length steps.items
    some_left some =
        let more : 0 < length (drop done (map step_as steps.items)) = subst (λ (l : Log StepOf). 0 < length l.future) (sym is) some in
        omega (arith, more, length-drop done (map step_as steps.items), length-map steps.items step_as)

    pub down_as : 0 < length log.past → cut (done - 1) (map step_as steps.items) ≡ gone_down log
    down_as some = down_cut done (map step_as steps.items) within (some_done some) ∙ ap gone_down is

    pub up_as : cut (done + 1) (map step_as steps.items) ≡ gone_up log
    up_as = up_cut done (map step_as steps.items) ∙ ap gone_up is
