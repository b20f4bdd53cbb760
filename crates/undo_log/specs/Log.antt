-- The log of an editor's steps. Past and future together are in the order in which the steps were taken: the past's last one
-- is taken back next, the future's first one is taken again next.
use Rattle.std.specs.Prelude.{◌≡◌, ℕ, ◌+◌, ◌-◌, ◌≤◌, List, [], ◌∷◌, ◌++◌, length, take, drop, slice_get, Option}
use Rattle.circular_buffer.specs.Buffer.{Buffer, keep_last, last_item}
use Rattle.edits.specs.declared.exact.Step.{Step}

-- how many steps are kept
abbrev pub greatest_count : ℕ
greatest_count = 64

-- the steps that lead back from now, and those that were taken back and lead ahead again
pub record Log (X : Type 0) : Type 0 where
  pub past : List X
  pub future : List X

module _ {X : Type 0} where
  abbrev pub empty : Log X
  empty = record { past = []; future = [] }

  -- a step is taken: of the past the last ones are kept, and nothing leads ahead
  abbrev pub recorded : X → Log X → Log X
  recorded step log = record { past = keep_last greatest_count (log.past ++ step ∷ []); future = [] }

  -- the past's last step goes to the front of the future
  abbrev pub gone_down : Log X → Log X
  gone_down log =
      let earlier = length log.past - 1 in
      record { past = take earlier log.past; future = drop earlier log.past ++ log.future }

  -- the future's first step goes to the end of the past
  abbrev pub gone_up : Log X → Log X
  gone_up log = record { past = log.past ++ take 1 log.future; future = drop 1 log.future }

  -- the step that is taken back next, and the one that is taken again next
  abbrev pub next_back : Log X → Option X
  next_back log = last_item log.past

  abbrev pub next_ahead : Log X → Option X
  next_ahead log = slice_get log.future 0

  -- no more than are kept
  abbrev pub IsFew : Log X → Type 0
  IsFew log = length log.past + length log.future ≤ greatest_count

-- ---- in one list

-- steps in order, of which the first so many are the past
abbrev pub cut : {X : Type 0} → (done : ℕ) → List X → Log X
cut done steps = record { past = take done steps; future = drop done steps }

-- what holds of the ring of every log
pub record IsSound (steps : Buffer Step) (done : ℕ) : Type 0 where
  pub room : steps.capacity ≡ greatest_count
  pub few : length steps.items ≤ greatest_count
  pub within : done ≤ length steps.items
