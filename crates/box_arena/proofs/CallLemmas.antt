-- From the writes of a call to what the call does.
use Rattle.std.proofs.Common.{◌≡◌, ◌∙◌, ◌≢◌, ℕ, zero, suc, ◌+◌, ◌≤◌, Bool, true, false, [], length, get_or, Option, Some, None, option_map, option_and_then, IsSome, refl, sym, ap, ap₂, subst, arith, inl, inr}
use Rattle.std.specs.Prelude.{if◌then◌else◌}
use Rattle.std.proofs.lemmas.Bool.{cases_eq, cases_lt}
use Rattle.std.proofs.lemmas.List.{get_or_past}
use Rattle.slab.specs.Slab.{Slab, get, ContainsKey, Updates, with_value}
use Rattle.slab.proofs.SlabLemmas.{Updates-with_value}
use Rattle.fragment_types.specs.declared.constraint.Constraint.{Constraint}
use Rattle.fragment_types.specs.declared.fragment.Fragment.{Fragment}
use Rattle.fragment_types.specs.Fragment.{Pieces, piece_of}
use Rattle.box_gen.specs.declared.tree.BoxNode.{BoxNode}
use Rattle.box_arena.specs.declared.entry.Entry.{Entry}
use Rattle.box_arena.specs.declared.entry.Held.{Held}
use Rattle.box_arena.specs.declared.entry.Links.{Links}
use Rattle.box_arena.specs.At.{Slots, Node, IsAbove, IsSound, links_at, mark_at, held_at, node_of, kept_at, marked_at}
use Rattle.box_arena.specs.Arena.{DropsText, Forgets, IsMarkedUp, IsNew, Keeps, KeepsApart, KeepsText, Marks, Restyles, SameLinks, SameMarks}
use Rattle.box_arena.specs.Links.{Climbs, IsIn, IsLinked, ahead, behind, parent_of, first_of, last_of, previous_of, next_of}
use Rattle.box_arena.specs.Marks.{IsStill, is_marked, is_seen}
use Rattle.box_arena.specs.Results.{result_for}
use Rattle.box_arena.specs.Write.{ForgetsBelow, OnlyMarks, Puts, WritesHeld, WritesKept, forgotten}
use Rattle.box_arena.proofs.Alike.{linked_alike}
use Rattle.box_arena.proofs.Climbs.{links_move, lives_on, reaches_itself}
use Rattle.box_arena.proofs.Writes.{field_stays, same_room}

-- what a function can't tell from what stood there
pub puts_same : {X Y : Type 0} (f : Option X → Y) (old new : ℕ → Option X) (key : ℕ) (x y : X) → old key ≡ Some x → Puts old new key y → f (Some y) ≡ f (Some x) → (k : ℕ) → f (new k) ≡ f (old k)
puts_same f old new key x y was puts same k = elim (cases_eq k key) [
  | inl at ↦
      ap (λ j. f (new j)) at ∙ ap f puts.here ∙ same ∙ sym (ap f was) ∙ ap (λ j. f (old j)) (sym at)
  | inr apart ↦ ap f (puts.others k apart)
]

abbrev no_links : Links
no_links = record { parent = None; first = None; last = None; previous = None; next = None }

-- no box has a parent
no_parent : {P : Type 0} (p : ℕ) → None ≡ Some p → P
no_parent p is = absurd (cc)

no_boxes : IsLinked (λ k. None)
no_boxes = record {
  live = λ k p is. no_parent p is;
  acyclic = λ k n climbs. in_a_climb n climbs;
  on = λ p o inside. at_end p o inside;
  off = λ p o inside. at_front p o inside;
  back = λ p o inside. round p o inside;
  forth = λ p o inside. round_again p o inside;
  alone = λ k is. (refl, refl);
  children = λ p. record { list = []; chain = refl; whole = λ c is. no_parent p is };
}
  where
    in_a_climb : {k : ℕ} (n : ℕ) → Climbs (suc n) (λ j. None) (Some k) k → ⊥
    in_a_climb zero (p, is, at) = no_parent _ at
    in_a_climb (suc n) (p, is, (q, at, rest)) = no_parent q at

    at_end : (p : ℕ) (o : Option ℕ) → IsIn (λ j. None) p o → IsIn (λ j. None) p (behind (λ j. None) p o)
    at_end p None inside = inside
    at_end p (Some k) inside = tt

    at_front : (p : ℕ) (o : Option ℕ) → IsIn (λ j. None) p o → IsIn (λ j. None) p (ahead (λ j. None) p o)
    at_front p None inside = inside
    at_front p (Some k) inside = tt

    round : (p : ℕ) (o : Option ℕ) → IsIn (λ j. None) p o → ahead (λ j. None) p (behind (λ j. None) p o) ≡ o
    round p None inside = refl
    round p (Some k) inside = no_parent p inside

    round_again : (p : ℕ) (o : Option ℕ) → IsIn (λ j. None) p o → behind (λ j. None) p (ahead (λ j. None) p o) ≡ o
    round_again p None inside = refl
    round_again p (Some k) inside = no_parent p inside

module _ {T : Type 0} where
  abbrev pub text_in : Option (Held T) → Option T
  text_in o = option_and_then (λ held. held.text) o

  abbrev pub node_in : Option (Held T) → Option Node
  node_in o = option_map (λ held. node_of held.node) o

  abbrev pub kept_in : Constraint → Bool → Option (Held T) → Option Pieces
  kept_in c marked o = if marked then None else option_and_then (λ held. option_map piece_of (result_for held.results c)) o

  -- a box that lives holds something
  pub held_there : (boxes : Slab (Entry T)) (key : ℕ) → ContainsKey boxes key → (held : Held T) × (held_at boxes.slots key ≡ Some held)
  held_there boxes key live = within (get boxes key) live
    where
      within : (o : Option (Entry T)) → IsSome o → (held : Held T) × (option_map (λ entry. entry.held) o ≡ Some held)
      within None live = absurd (cc)
      within (Some entry) live = (entry.held, refl)

  -- with the same mark and the same results the same is kept
  pub kept_same : (old new : Slots T) (k : ℕ) → marked_at new k ≡ marked_at old k → held_at new k ≡ held_at old k → (c : Constraint) → kept_at new k c ≡ kept_at old k c
  kept_same old new k marks held c = ap₂ (kept_in c) marks held

  -- ---- the invariant

  pub sound_moved : (old new : Slots T) → SameLinks old new → ((k : ℕ) → is_seen (mark_at new k) ≡ is_seen (mark_at old k)) → IsSound old → IsSound new
  sound_moved old new links seen sound = record {
    linked = links_move old new links sound.linked;
    still = λ k. seen k ∙ sound.still k;
  }

  pub sound_marked : (old new : Slab (Entry T)) → OnlyMarks old new → IsStill (mark_at new.slots) → IsSound old.slots → IsSound new.slots
  sound_marked old new only still sound = record { linked = links_move old.slots new.slots only.links sound.linked; still = still }

  pub sound_written : (old mid new : Slab (Entry T)) → OnlyMarks old mid → IsStill (mark_at mid.slots) → SameLinks mid.slots new.slots → SameMarks mid.slots new.slots → IsSound old.slots → IsSound new.slots
  sound_written old mid new only still links marks sound =
      sound_moved mid.slots new.slots links (λ k. ap is_seen (marks k)) (sound_marked old mid only still sound)

  -- where there are no boxes
  pub sound_empty : IsSound {T = T} []
  sound_empty = record { linked = no_boxes; still = λ k. refl }

  -- ---- mark

  pub marks_of : (old new : Slab (Entry T)) (key : ℕ) → IsMarkedUp old.slots new.slots key → OnlyMarks old new → Marks old new key
  marks_of old new key marked only = record {
    marked = marked;
    kept = λ k apart. kept_same old.slots new.slots k (marked.others k apart) (only.held k);
    nodes = λ k. ap node_in (only.held k);
    texts = λ k. ap text_in (only.held k);
    links = only.links;
    live = lives_on old new only.links;
    room = only.room;
  }

  -- ---- calls that mark and then write what is held at the key

  module _ (old mid new : Slab (Entry T)) (key : ℕ) (held put : Held T) (marked : IsMarkedUp old.slots mid.slots key) (only : OnlyMarks old mid)
      (is : held_at mid.slots key ≡ Some held) (writes : WritesHeld mid new key put) where
    still_marked : IsMarkedUp old.slots new.slots key
    still_marked = record {
      above = λ k above. ap is_marked (writes.marks k) ∙ marked.above k above;
      others = λ k apart. ap is_marked (writes.marks k) ∙ marked.others k apart;
    }

    held_elsewhere : (k : ℕ) → k ≢ key → held_at new.slots k ≡ held_at old.slots k
    held_elsewhere k apart = writes.held.others k apart ∙ only.held k

    still_kept : KeepsApart old.slots new.slots key
    still_kept k apart =
        let other : k ≢ key = λ same. apart (let P : ℕ → Type 0 = λ j. IsAbove old.slots j key in subst P (sym same) (reaches_itself _ key)) in
        kept_same old.slots new.slots k (still_marked.others k apart) (held_elsewhere k other)

    same_links : SameLinks old.slots new.slots
    same_links k = writes.links k ∙ only.links k

    pub drops_text : put ≡ record held { text = None } → DropsText old new key
    drops_text what = record {
      put = record {
        here = ap text_in writes.held.here ∙ ap (λ (h : Held T). h.text) what;
        elsewhere = λ k apart. ap text_in (held_elsewhere k apart);
        nodes = λ k. puts_same node_in (held_at mid.slots) (held_at new.slots) key held put is writes.held (ap (λ (h : Held T). Some (node_of h.node)) what) k ∙ ap node_in (only.held k);
        links = same_links;
        live = lives_on old new same_links;
        room = λ n fits. writes.room n (only.room n fits);
      };
      marked = still_marked;
      kept = still_kept;
    }

    pub restyles : (node : BoxNode) → put ≡ record held { node = node; text = None } → Restyles old new key (node_of node)
    restyles node what = record {
      here = ap node_in writes.held.here ∙ ap (λ (h : Held T). Some (node_of h.node)) what;
      elsewhere = λ k apart. ap node_in (held_elsewhere k apart);
      text = ap text_in writes.held.here ∙ ap (λ (h : Held T). h.text) what;
      texts = λ k apart. ap text_in (held_elsewhere k apart);
      marked = still_marked;
      kept = still_kept;
      links = same_links;
      live = lives_on old new same_links;
      room = λ n fits. writes.room n (only.room n fits);
    }

  -- ---- a text that is kept

  pub keeps_text : (old new : Slab (Entry T)) (key : ℕ) (text : T) (held : Held T) → held_at old.slots key ≡ Some held → WritesHeld old new key (record held { text = Some text }) → KeepsText old new key text
  keeps_text old new key text held is writes = record {
    put = record {
      here = ap text_in writes.held.here;
      elsewhere = λ k apart. ap text_in (writes.held.others k apart);
      nodes = puts_same node_in (held_at old.slots) (held_at new.slots) key held (record held { text = Some text }) is writes.held refl;
      links = writes.links;
      live = lives_on old new writes.links;
      room = writes.room;
    };
    marks = λ k. ap is_marked (writes.marks k);
    kept = λ k c.
        ap (λ m. kept_in c m (held_at new.slots k)) (ap is_marked (writes.marks k))
        ∙ puts_same (kept_in c (marked_at old.slots k)) (held_at old.slots) (held_at new.slots) key held (record held { text = Some text }) is writes.held refl k;
  }

  -- ---- forgetting

  nothing_kept : (c : Constraint) (marked : Bool) (o : Option (Held T)) → kept_in c marked (option_map forgotten o) ≡ None
  nothing_kept c true o = refl
  nothing_kept c false None = refl
  nothing_kept c false (Some held) = refl

  no_text : (o : Option (Held T)) → text_in (option_map forgotten o) ≡ None
  no_text None = refl
  no_text (Some held) = refl

  same_node : (o : Option (Held T)) → node_in (option_map forgotten o) ≡ node_in o
  same_node None = refl
  same_node (Some held) = refl

  pub forgets : (old new : Slab (Entry T)) (end_ : ℕ) → length old.slots ≤ end_ → ForgetsBelow old new end_ → Forgets old new
  forgets old new end_ long all = record {
    kept = λ k c. ap (kept_in c (marked_at new.slots k)) (forgot k) ∙ nothing_kept c (marked_at new.slots k) (held_at old.slots k);
    texts = λ k. ap text_in (forgot k) ∙ no_text (held_at old.slots k);
    marks = λ k. ap is_marked (all.marks k);
    nodes = λ k. ap node_in (forgot k) ∙ same_node (held_at old.slots k);
    links = all.links;
    live = lives_on old new all.links;
    room = all.room;
  }
    where
      forgot : (k : ℕ) → held_at new.slots k ≡ option_map forgotten (held_at old.slots k)
      forgot k = elim (cases_lt k end_) [
        | inl below ↦ all.below k below
        | inr past ↦
            let none : get_or old.slots k None ≡ None = get_or_past old.slots k None (omega arith) in
            let P : Option (Entry T) → Type 0 = λ o. held_at new.slots k ≡ option_map forgotten (option_map (λ entry. entry.held) o) in
            let Q : Option (Entry T) → Type 0 = λ o. held_at new.slots k ≡ option_map (λ entry. entry.held) o in
            subst P (sym none) (subst Q none (all.others k past))
      ]

  -- one key more
  pub forgets_more : (old now new : Slab (Entry T)) (key : ℕ) (held : Held T) → ForgetsBelow old now key → held_at now.slots key ≡ Some held → WritesHeld now new key (forgotten held) → ForgetsBelow old new (key + 1)
  forgets_more old now new key held all is writes = record {
    below = λ k within. elim (cases_eq k key) [
      | inl same ↦
          let P : ℕ → Type 0 = λ j. held_at new.slots j ≡ option_map forgotten (held_at old.slots j) in
          let old_held : held_at old.slots key ≡ Some held = sym (all.others key (omega arith)) ∙ is in
          subst P (sym same) (writes.held.here ∙ ap (option_map forgotten) (sym old_held))
      | inr apart ↦ writes.held.others k apart ∙ all.below k (omega arith)
    ];
    others = λ k past. writes.held.others k (λ same. absurd (omega arith)) ∙ all.others k (omega arith);
    links = λ k. writes.links k ∙ all.links k;
    marks = λ k. writes.marks k ∙ all.marks k;
    room = λ n fits. writes.room n (all.room n fits);
  }

  -- where no box lives there is nothing to forget
  pub forgets_none : (old now : Slab (Entry T)) (key : ℕ) → ForgetsBelow old now key → (ContainsKey now key → ⊥) → ForgetsBelow old now (key + 1)
  forgets_none old now key all dead = record {
    below = λ k within. elim (cases_eq k key) [
      | inl same ↦
          let P : ℕ → Type 0 = λ j. held_at now.slots j ≡ option_map forgotten (held_at old.slots j) in
          let none : held_at now.slots key ≡ None = empty (get now key) dead in
          let old_none : held_at old.slots key ≡ None = sym (all.others key (omega arith)) ∙ none in
          subst P (sym same) (none ∙ ap (option_map forgotten) (sym old_none))
      | inr apart ↦ all.below k (omega arith)
    ];
    others = λ k past. all.others k (omega arith);
    links = all.links;
    marks = all.marks;
    room = all.room;
  }
    where
      empty : (o : Option (Entry T)) → (IsSome o → ⊥) → option_map (λ entry. entry.held) o ≡ None
      empty None none = refl
      empty (Some entry) none = absurd (none refl)

  -- ---- keeping

  abbrev kept_of : Constraint → Option (Entry T) → Option Pieces
  kept_of c o = kept_in c (is_marked (option_map (λ entry. entry.mark) o)) (option_map (λ entry. entry.held) o)

  module _ (old new : Slab (Entry T)) (key : ℕ) (c : Constraint) (fragment : Fragment) (writes : WritesKept old new key c fragment) where
    abbrev after : Slab (Entry T)
    after = with_value old key writes.put

    live : ContainsKey old key
    live = let P : Option (Entry T) → Type 0 = λ o. IsSome o in subst P (sym writes.was) refl

    here : get after key ≡ Some writes.put
    here = (Updates-with_value old key writes.put live).changed

    elsewhere : (k : ℕ) → k ≢ key → get after k ≡ get old k
    elsewhere = (Updates-with_value old key writes.put live).others

    fresh : writes.put.mark.marked ≡ false
    fresh = ap (λ (e : Entry T). e.mark.marked) writes.keeps.rest

    unmarked : (other : Constraint) → kept_of other (Some writes.put) ≡ option_map piece_of (result_for writes.put.held.results other)
    unmarked other = ap (λ m. kept_in other m (Some writes.put.held)) fresh

    was_kept : (other : Constraint) (e : Entry T) → option_map piece_of (if e.mark.marked then None else result_for e.held.results other) ≡ kept_of other (Some e)
    was_kept other e = by_mark e.mark.marked
      where
        by_mark : (m : Bool) → option_map piece_of (if m then None else result_for e.held.results other) ≡ kept_in other m (Some e.held)
        by_mark true = refl
        by_mark false = refl

    same_part : {Y : Type 0} (f : Option (Held T) → Y) → f (Some writes.put.held) ≡ f (Some writes.entry.held) → (k : ℕ) → f (held_at after.slots k) ≡ f (held_at old.slots k)
    same_part f same k = elim (cases_eq k key) [
      | inl at ↦
          ap (λ j. f (held_at after.slots j)) at ∙ ap (λ (o : Option (Entry T)). f (option_map (λ entry. entry.held) o)) here ∙ same
          ∙ sym (ap (λ (o : Option (Entry T)). f (option_map (λ entry. entry.held) o)) writes.was) ∙ ap (λ j. f (held_at old.slots j)) (sym at)
      | inr apart ↦ ap (λ (o : Option (Entry T)). f (option_map (λ entry. entry.held) o)) (elsewhere k apart)
    ]

    abbrev Result : Slab (Entry T) → Type 0
    Result s = Keeps old s key c (piece_of fragment)

    pub keeps_result : Keeps old new key c (piece_of fragment)
    keeps_result = subst Result (sym writes.is) (record {
      here = ap (kept_of c) here ∙ unmarked c ∙ ap (option_map piece_of) writes.keeps.here;
      beside = λ other apart. ap (kept_of other) here ∙ unmarked other ∙ ap (option_map piece_of) (writes.keeps.others other apart) ∙ was_kept other writes.entry ∙ sym (ap (kept_of other) writes.was);
      elsewhere = λ k apart other. ap (kept_of other) (elsewhere k apart);
      fresh = ap (λ o. is_marked (option_map (λ entry. entry.mark) o)) here ∙ fresh;
      marks = λ k apart. ap (λ o. is_marked (option_map (λ entry. entry.mark) o)) (elsewhere k apart);
      nodes = same_part node_in (ap (λ (e : Entry T). Some (node_of e.held.node)) writes.keeps.rest);
      texts = same_part text_in (ap (λ (e : Entry T). e.held.text) writes.keeps.rest);
      links = field_stays (λ entry. entry.links) old key writes.entry writes.put writes.was (ap (λ (e : Entry T). e.links) writes.keeps.rest);
      live = lives_on old after (field_stays (λ entry. entry.links) old key writes.entry writes.put writes.was (ap (λ (e : Entry T). e.links) writes.keeps.rest));
      room = same_room old key writes.entry writes.put writes.was;
    })

    abbrev Sound : Slab (Entry T) → Type 0
    Sound s = IsSound s.slots

    pub sound_kept : IsSound old.slots → IsSound new.slots
    sound_kept sound = subst Sound (sym writes.is) (sound_moved old.slots after.slots (field_stays (λ entry. entry.links) old key writes.entry writes.put writes.was (ap (λ (e : Entry T). e.links) writes.keeps.rest)) (λ k. seen k) sound)
      where
        seen : (k : ℕ) → is_seen (mark_at after.slots k) ≡ is_seen (mark_at old.slots k)
        seen k = elim (cases_eq k key) [
          | inl same ↦
              let P : ℕ → Type 0 = λ j. is_seen (mark_at after.slots j) ≡ is_seen (mark_at old.slots j) in
              subst P (sym same) (ap (λ (o : Option (Entry T)). is_seen (option_map (λ entry. entry.mark) o)) here ∙ ap (λ (e : Entry T). e.mark.seen) writes.keeps.rest ∙ sym (ap (λ (o : Option (Entry T)). is_seen (option_map (λ entry. entry.mark) o)) writes.was))
          | inr apart ↦ ap (λ (o : Option (Entry T)). is_seen (option_map (λ entry. entry.mark) o)) (elsewhere k apart)
        ]

  -- ---- inserting

  abbrev pub new_entry : BoxNode → Entry T
  new_entry node = record { links = no_links; mark = record { marked = false; seen = false }; held = record { node = node; text = None; results = [] } }

  module _ (old new : Slab (Entry T)) (key : ℕ) (node : BoxNode) (free : get old key ≡ None) (updates : Updates old new key (Some (new_entry node))) where
    same_at : {Y : Type 0} (f : Option (Entry T) → Y) → f (Some (new_entry node)) ≡ f None → (k : ℕ) → f (get new k) ≡ f (get old k)
    same_at f same k = elim (cases_eq k key) [
      | inl at ↦ ap (λ j. f (get new j)) at ∙ ap f updates.changed ∙ same ∙ sym (ap f free) ∙ ap (λ j. f (get old j)) (sym at)
      | inr apart ↦ ap f (updates.others k apart)
    ]

    pub alive : ContainsKey new key
    alive = let P : Option (Entry T) → Type 0 = λ o. IsSome o in subst P (sym updates.changed) refl

    pub live_on : (k : ℕ) → ContainsKey old k → ContainsKey new k
    live_on k was = elim (cases_eq k key) [
      | inl same ↦ let P : ℕ → Type 0 = λ j. ContainsKey new j in subst P (sym same) alive
      | inr apart ↦ let P : Option (Entry T) → Type 0 = λ o. IsSome o in subst P (sym (updates.others k apart)) was
    ]

    pub is_new : IsNew new.slots key (node_of node)
    is_new = record {
      node = ap (λ (o : Option (Entry T)). node_in (option_map (λ entry. entry.held) o)) updates.changed;
      parent = ap (λ (o : Option (Entry T)). parent_of (option_map (λ entry. entry.links) o)) updates.changed;
      first = ap (λ (o : Option (Entry T)). first_of (option_map (λ entry. entry.links) o)) updates.changed;
      next = ap (λ (o : Option (Entry T)). next_of (option_map (λ entry. entry.links) o)) updates.changed;
      marked = ap (λ (o : Option (Entry T)). is_marked (option_map (λ entry. entry.mark) o)) updates.changed;
      text = ap (λ (o : Option (Entry T)). text_in (option_map (λ entry. entry.held) o)) updates.changed;
      kept = λ c. ap (kept_of c) updates.changed;
    }

    pub sound_inserted : IsSound old.slots → IsSound new.slots
    sound_inserted sound = record {
      linked = linked_alike (links_at old.slots) (links_at new.slots) (record {
        parents = same_at (λ o. parent_of (option_map (λ entry. entry.links) o)) refl;
        firsts = same_at (λ o. first_of (option_map (λ entry. entry.links) o)) refl;
        lasts = same_at (λ o. last_of (option_map (λ entry. entry.links) o)) refl;
        previous = same_at (λ o. previous_of (option_map (λ entry. entry.links) o)) refl;
        nexts = same_at (λ o. next_of (option_map (λ entry. entry.links) o)) refl;
      }) (λ p k is. lives_on p (sound.linked.live k p is)) sound.linked;
      still = λ k. same_at (λ o. is_seen (option_map (λ entry. entry.mark) o)) refl k ∙ sound.still k;
    }
      where
        lives_on : (p : ℕ) → IsSome (links_at old.slots p) → IsSome (links_at new.slots p)
        lives_on p was = elim (cases_eq p key) [
          | inl same ↦
              let P : Option (Entry T) → Type 0 = λ o. IsSome (option_map (λ entry. entry.links) o) in
              subst P (sym (ap (λ j. get new j) same ∙ updates.changed)) refl
          | inr apart ↦
              let P : Option (Entry T) → Type 0 = λ o. IsSome (option_map (λ entry. entry.links) o) in
              subst P (sym (updates.others p apart)) was
        ]
