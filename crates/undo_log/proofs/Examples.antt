-- Logs of numbers in place of steps, and what stands in a state, by computation.
use Rattle.std.specs.Prelude.{◌≡◌, ℕ, List, [], ◌∷◌, fold, refl, Some}
use Rattle.std.specs.List.{range_with_len}
use Rattle.dom_store.specs.Building.{with_next}
use Rattle.edits.specs.State.{State}
use Rattle.undo_log.specs.History.{standing_of, state_with}
use Rattle.undo_log.specs.Log.{Log, empty, gone_down, gone_up, next_ahead, next_back, recorded}

data Call : Type 0 where
  step : (number : ℕ) → Call
  down : Call
  up : Call
  clear : Call

abbrev called : Log ℕ → Call → Log ℕ
called log (step number) = recorded number log
called log down = gone_down log
called log up = gone_up log
called log clear = empty

abbrev after : List Call → Log ℕ
after calls = fold called empty calls

abbrev log_of : (past future : List ℕ) → Log ℕ
log_of past future = record { past = past; future = future }

a_step_lies_ahead : after (step 1 ∷ step 2 ∷ step 3 ∷ down ∷ []) ≡ log_of (1 ∷ 2 ∷ []) (3 ∷ [])
a_step_lies_ahead = refl

two_lie_ahead : after (step 1 ∷ step 2 ∷ step 3 ∷ down ∷ down ∷ []) ≡ log_of (1 ∷ []) (2 ∷ 3 ∷ [])
two_lie_ahead = refl

one_is_taken_again : after (step 1 ∷ step 2 ∷ step 3 ∷ down ∷ down ∷ up ∷ []) ≡ log_of (1 ∷ 2 ∷ []) (3 ∷ [])
one_is_taken_again = refl

a_new_step_leaves_none_ahead : after (step 1 ∷ step 2 ∷ step 3 ∷ down ∷ down ∷ step 4 ∷ []) ≡ log_of (1 ∷ 4 ∷ []) []
a_new_step_leaves_none_ahead = refl

none_is_left_to_take_back : after (step 1 ∷ down ∷ down ∷ []) ≡ log_of [] (1 ∷ [])
none_is_left_to_take_back = refl

none_is_left_to_take_again : after (step 1 ∷ up ∷ []) ≡ log_of (1 ∷ []) []
none_is_left_to_take_again = refl

cleared : after (step 1 ∷ step 2 ∷ down ∷ clear ∷ []) ≡ log_of [] []
cleared = refl

abbrev seventy : Log ℕ
seventy = fold (λ log number. recorded number log) empty (range_with_len 0 70)

the_last_64_are_kept : seventy ≡ log_of (range_with_len 6 64) []
the_last_64_are_kept = refl

all_lie_ahead : fold (λ log number. gone_down log) seventy (range_with_len 0 64) ≡ log_of [] (range_with_len 6 64)
all_lie_ahead = refl

all_are_taken_again : fold (λ log number. gone_up log) (log_of [] (range_with_len 6 64)) (range_with_len 0 64) ≡ log_of (range_with_len 6 64) []
all_are_taken_again = refl

the_next_ones : (next_back (after (step 1 ∷ step 2 ∷ down ∷ [])) ≡ Some 1) × (next_ahead (after (step 1 ∷ step 2 ∷ down ∷ [])) ≡ Some 2)
the_next_ones = (refl, refl)

-- ---- what stands in a state

the_state_itself : (state : State) → state_with state.tree.next (standing_of state) ≡ state
the_state_itself state = refl

another_number_is_next : (state : State) (next : ℕ) → state_with next (standing_of state) ≡ record state { tree = with_next next state.tree }
another_number_is_next state next = refl
