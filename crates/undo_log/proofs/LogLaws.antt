-- Logs by themselves.
use Rattle.std.proofs.Common.{◌≡◌, ◌∙◌, ℕ, ◌+◌, ◌-◌, ◌<◌, ◌≤◌, List, [], ◌∷◌, ◌++◌, length, length-append, length-drop, length-take, take, drop, refl, ap, arith, Some}
use Rattle.std.specs.List.{slice_get}
use Rattle.std.proofs.lemmas.List.{drop-append-le, drop_all, drop_at, length_push, take-append-drop, take_at}
use Rattle.circular_buffer.specs.Buffer.{keep_last, last_item}
use Rattle.basic_laws.proofs.Lists.{slice_get_last}
use Rattle.edits.specs.Exact.{StepOf}
use Rattle.dom_store.proofs.Places as places
use Rattle.undo_log.specs.Log.{IsFew, Log, gone_down, gone_up, greatest_count, next_back, recorded}
use Rattle.undo_log.specs.Laws.{ComeBack, ComeLast, StayFew}

-- ---- the last of a list

module _ {X : Type 0} where
  pub last_pushed : (xs : List X) (x : X) → last_item (xs ++ x ∷ []) ≡ Some x
  last_pushed xs x =
      let place : length (xs ++ x ∷ []) - 1 ≡ length xs = omega (arith, length_push xs x) in
      ap (slice_get (xs ++ x ∷ [])) place ∙ slice_get_last xs x

  -- all before it, and itself
  pub before_last : (xs : List X) (x : X) → take (length (xs ++ x ∷ []) - 1) (xs ++ x ∷ []) ≡ xs
  before_last xs x = take_at xs (x ∷ []) (length (xs ++ x ∷ []) - 1) (omega (arith, length_push xs x))

  pub last_alone : (xs : List X) (x : X) → drop (length (xs ++ x ∷ []) - 1) (xs ++ x ∷ []) ≡ x ∷ []
  last_alone xs x = drop_at xs (x ∷ []) (length (xs ++ x ∷ []) - 1) (omega (arith, length_push xs x))

  pub alone_at_end : (xs : List X) (x : X) → last_item xs ≡ Some x → drop (length xs - 1) xs ≡ x ∷ []
  alone_at_end xs x is = places.drop_at xs (length xs - 1) x is ∙ ap (λ (l : List X). x ∷ l) (drop_all (length xs - 1 + 1) xs (omega arith))

  -- of more than are kept the first go
  pub kept_last : (n : ℕ) (xs : List X) (x : X) → length (xs ++ x ∷ []) - n ≤ length xs → keep_last n (xs ++ x ∷ []) ≡ drop (length (xs ++ x ∷ []) - n) xs ++ x ∷ []
  kept_last n xs x few = drop-append-le (length (xs ++ x ∷ []) - n) xs (x ∷ []) few

-- ---- down and up

down_first : (log : Log StepOf) → 0 < length log.past → gone_up (gone_down log) ≡ log
down_first log some =
    let earlier = length log.past - 1 in
    let one : length (drop earlier log.past) ≡ 1 = omega (arith, length-drop earlier log.past) in
    let past : take earlier log.past ++ take 1 (drop earlier log.past ++ log.future) ≡ log.past =
    ap (λ (l : List StepOf). take earlier log.past ++ l) (take_at (drop earlier log.past) log.future 1 one) ∙ take-append-drop earlier log.past in
    λ i. record { past = past i; future = drop_at (drop earlier log.past) log.future 1 one i }

up_first : (log : Log StepOf) → 0 < length log.future → gone_down (gone_up log) ≡ log
up_first log some =
    let earlier = length (log.past ++ take 1 log.future) - 1 in
    let place : length log.past ≡ earlier = omega (arith, length-append log.past (take 1 log.future), length-take 1 log.future) in
    let future : drop earlier (log.past ++ take 1 log.future) ++ drop 1 log.future ≡ log.future =
    ap (λ (l : List StepOf). l ++ drop 1 log.future) (drop_at log.past (take 1 log.future) earlier place) ∙ take-append-drop 1 log.future in
    λ i. record { past = take_at log.past (take 1 log.future) earlier place i; future = future i }

pub come_back : ComeBack
come_back = record { down_first = down_first; up_first = up_first }

-- ---- a step that is recorded

is_last : (step : StepOf) (log : Log StepOf) → next_back (recorded step log) ≡ Some step
is_last step log =
    let gone = length (log.past ++ step ∷ []) - greatest_count in
    let few : gone ≤ length log.past = omega (arith, length_push log.past step) in
    ap last_item (kept_last greatest_count log.past step few) ∙ last_pushed (drop gone log.past) step

pub come_last : ComeLast
come_last = record { is_last = is_last; none_ahead = λ step log. refl }

-- ---- how many

pub kept_few : {X : Type 0} (n : ℕ) (xs : List X) → length (keep_last n xs) ≤ n
kept_few n xs = omega (arith, length-drop (length xs - n) xs)

after_record : (step : StepOf) (log : Log StepOf) → IsFew (recorded step log)
after_record step log = omega (arith, kept_few greatest_count (log.past ++ step ∷ []))

after_down : (log : Log StepOf) → IsFew log → IsFew (gone_down log)
after_down log few =
    let earlier = length log.past - 1 in
    omega (arith, length-take earlier log.past, length-append (drop earlier log.past) log.future, length-drop earlier log.past)

after_up : (log : Log StepOf) → IsFew log → IsFew (gone_up log)
after_up log few = omega (arith, length-append log.past (take 1 log.future), length-take 1 log.future, length-drop 1 log.future)

pub stay_few : StayFew
stay_few = record { after_record = after_record; after_down = after_down; after_up = after_up }
