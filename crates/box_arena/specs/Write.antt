-- What a single write does to an arena's slots.
use Rattle.std.specs.Prelude.{◌≡◌, ◌≢◌, ℕ, ◌+◌, ◌<◌, ◌≤◌, true, false, [], Option, Some, None, option_map, slice_index_or, if◌then◌else◌}
use Rattle.slab.specs.Slab.{Slab, with_value}
use Rattle.fragment_types.specs.declared.constraint.Constraint.{Constraint}
use Rattle.fragment_types.specs.declared.fragment.Fragment.{Fragment}
use Rattle.box_arena.specs.declared.entry.Entry.{Entry}
use Rattle.box_arena.specs.declared.entry.Held.{Held}
use Rattle.box_arena.specs.declared.entry.Links.{Links}
use Rattle.box_arena.specs.declared.entry.Mark.{Mark}
use Rattle.box_arena.specs.At.{links_at, mark_at, held_at}
use Rattle.box_arena.specs.Arena.{SameLinks, SameMarks, SameHeld, SameRoom}
use Rattle.box_arena.specs.Climb.{seen_count, unseen_count}
use Rattle.box_arena.specs.Weight.{links_weight, weight}
use Rattle.box_arena.specs.Marks.{is_seen}
use Rattle.box_arena.specs.Results.{Results, result_for}

-- this one has a value now, each other is as it was
pub record Puts {X : Type 0} (old new : ℕ → Option X) (key : ℕ) (x : X) : Type 0 where
  pub here : new key ≡ Some x
  pub others : (k : ℕ) → k ≢ key → new k ≡ old k

module _ {T : Type 0} where
  pub record WritesLinks (old new : Slab (Entry T)) (key : ℕ) (put : Links) : Type 0 where
    pub links : Puts (links_at old.slots) (links_at new.slots) key put
    pub marks : SameMarks old.slots new.slots
    pub held : SameHeld old.slots new.slots
    pub room : SameRoom old new
    pub weights : (root : ℕ) → weight root new.slots + links_weight root (links_at old.slots key) ≡ weight root old.slots + links_weight root (Some put)

  pub record WritesMark (old new : Slab (Entry T)) (key : ℕ) (put : Mark) : Type 0 where
    pub marks : Puts (mark_at old.slots) (mark_at new.slots) key put
    pub links : SameLinks old.slots new.slots
    pub held : SameHeld old.slots new.slots
    pub room : SameRoom old new
    pub fewer_unseen : is_seen (mark_at old.slots key) ≡ false → put.seen ≡ true → unseen_count new.slots < unseen_count old.slots
    pub fewer_seen : is_seen (mark_at old.slots key) ≡ true → put.seen ≡ false → seen_count new.slots < seen_count old.slots

  -- what is held at one key is replaced
  pub record WritesHeld (old new : Slab (Entry T)) (key : ℕ) (put : Held T) : Type 0 where
    pub held : Puts (held_at old.slots) (held_at new.slots) key put
    pub links : SameLinks old.slots new.slots
    pub marks : SameMarks old.slots new.slots
    pub room : SameRoom old new

  -- a fragment is kept, beside what was kept and is up to date, and the box is marked no more
  pub record EntryKeeps (old new : Entry T) (c : Constraint) (fragment : Fragment) : Type 0 where
    pub rest : new ≡ record old { mark = record old.mark { marked = false }; held = record old.held { results = new.held.results } }
    pub here : result_for new.held.results c ≡ Some fragment
    pub others : (other : Constraint) → other ≢ c → result_for new.held.results other ≡ (if old.mark.marked then None else result_for old.held.results other)

  -- results are kept at one key, whose box is marked no more
  pub record WritesKept (old new : Slab (Entry T)) (key : ℕ) (c : Constraint) (fragment : Fragment) : Type 0 where
    pub entry : Entry T
    pub was : slice_index_or old.slots key None ≡ Some entry
    pub put : Entry T
    pub keeps : EntryKeeps entry put c fragment
    pub is : new ≡ with_value old key put

  -- at one key all that is kept is taken, where it isn't marked
  pub record TakesResults (old new : Slab (Entry T)) (key : ℕ) (taken : Results) : Type 0 where
    pub entry : Entry T
    pub was : slice_index_or old.slots key None ≡ Some entry
    pub gives : taken ≡ (if entry.mark.marked then [] else entry.held.results)
    pub is : new ≡ with_value old key (record entry { held = record entry.held { results = [] } })

  -- at one key results are put in the place of all that is kept, and the box is marked no more
  pub record ReplacesResults (old new : Slab (Entry T)) (key : ℕ) (results : Results) : Type 0 where
    pub entry : Entry T
    pub was : slice_index_or old.slots key None ≡ Some entry
    pub is : new ≡ with_value old key (record entry { mark = record entry.mark { marked = false }; held = record entry.held { results = results } })

  -- nothing but links differs
  pub record OnlyLinks (old new : Slab (Entry T)) : Type 0 where
    pub marks : SameMarks old.slots new.slots
    pub held : SameHeld old.slots new.slots
    pub room : SameRoom old new

  -- nothing but marks differs
  pub record OnlyMarks (old new : Slab (Entry T)) : Type 0 where
    pub links : SameLinks old.slots new.slots
    pub held : SameHeld old.slots new.slots
    pub room : SameRoom old new

  -- what is kept for a box is dropped
  abbrev pub forgotten : Held T → Held T
  forgotten held = record held { text = None; results = [] }

  -- what is kept for the boxes below a key is dropped
  pub record ForgetsBelow (old new : Slab (Entry T)) (end_ : ℕ) : Type 0 where
    pub below : (k : ℕ) → k < end_ → held_at new.slots k ≡ option_map forgotten (held_at old.slots k)
    pub others : (k : ℕ) → end_ ≤ k → held_at new.slots k ≡ held_at old.slots k
    pub links : SameLinks old.slots new.slots
    pub marks : SameMarks old.slots new.slots
    pub room : SameRoom old new
