-- The two passes of a climb.
use Rattle.std.proofs.Common.{◌≡◌, ◌∙◌, ◌≢◌, ℕ, zero, suc, Bool, true, false, Option, Some, None, IsSome, option_map, refl, sym, ap, subst, inl, inr}
use Rattle.std.proofs.Math.Path.{fun_ext}
use Rattle.std.proofs.lemmas.Bool.{cases_eq, cases_Bool}
use Rattle.std.proofs.lemmas.Option.{none-some, same_Some}
use Rattle.slab.specs.Slab.{Slab, get, ContainsKey}
use Rattle.box_arena.specs.declared.entry.Entry.{Entry}
use Rattle.box_arena.specs.declared.entry.Links.{Links}
use Rattle.box_arena.specs.declared.entry.Mark.{Mark}
use Rattle.box_arena.specs.At.{Slots, links_at}
use Rattle.box_arena.specs.Arena.{SameLinks}
use Rattle.box_arena.specs.Climb.{Rises, Risen, Clears}
use Rattle.box_arena.specs.Links.{Linking, Climbs, Reaches, IsLinked, parent_of}
use Rattle.box_arena.specs.Marks.{Marking, MarksUp, IsStill, is_marked, is_seen}
use Rattle.box_arena.specs.Write.{OnlyMarks, Puts, WritesMark}

-- ---- reaching

pub climbs_on : (s : Linking) (n : ℕ) (from : Option ℕ) (k p : ℕ) → Climbs n s from k → parent_of (s k) ≡ Some p → Climbs (suc n) s from p
climbs_on s zero from k p at parent = (k, at, parent)
climbs_on s (suc n) from k p (q, at, rest) parent = (q, at, climbs_on s n (parent_of (s q)) k p rest parent)

-- the parent of a box above is above
pub reaches_on : (s : Linking) (k p key : ℕ) → Reaches s k key → parent_of (s k) ≡ Some p → Reaches s p key
reaches_on s k p key (n, climbs) parent = (suc n, climbs_on s n (Some key) k p climbs parent)

pub reaches_itself : (s : Linking) (key : ℕ) → Reaches s key key
reaches_itself s key = (zero, refl)

-- a climb begins somewhere
pub climbs_from : (s : Linking) (n : ℕ) (from : Option ℕ) (k : ℕ) → Climbs n s from k → (p : ℕ) × (from ≡ Some p) × Climbs n s (Some p) k
climbs_from s zero from k at = (k, at, refl)
climbs_from s (suc n) from k (p, at, rest) = (p, at, (p, refl, rest))

-- what holds where a climb begins and is handed from box to parent holds where it ends
pub handed_up : (s : Linking) (P : ℕ → Type 0) → ((q r : ℕ) → P q → parent_of (s q) ≡ Some r → P r)
    → (n : ℕ) (from : Option ℕ) (k : ℕ) → ((q : ℕ) → from ≡ Some q → P q) → Climbs n s from k → P k
handed_up s P hand zero from k all at = all k at
handed_up s P hand (suc n) from k all (p, at, rest) = handed_up s P hand n (parent_of (s p)) k (λ q is. hand p q (all p at) is) rest

-- nothing else is above a box that isn't attached
pub top_alone : (s : Linking) (c r : ℕ) → parent_of (s r) ≡ None → Reaches s c r → c ≡ r
top_alone s c r free (zero, is) = sym (same_Some r c is)
top_alone s c r free (suc n, (q, is, rest)) =
    let (p, at, up) = climbs_from s n (parent_of (s q)) c rest in
    absurd (none-some p (sym free ∙ ap (λ j. parent_of (s j)) (same_Some r q is) ∙ at))

-- ---- small steps

true_false : {P : Type 0} (b : Bool) → b ≡ true → b ≡ false → P
true_false b is gone = absurd (cc)

lives_at : (s : Linking) (key p : ℕ) → IsSome (s key) → Some key ≡ Some p → IsSome (s p)
lives_at s key p live is = let P : ℕ → Type 0 = λ k. IsSome (s k) in subst P (same_Some key p is) live

-- a box lives where its links do
pub lives : {T : Type 0} (old new : Slab (Entry T)) → SameLinks old.slots new.slots → (k : ℕ) → IsSome (links_at old.slots k) → ContainsKey new k
lives {T} old new same k live = within (get new k) (let P : Option Links → Type 0 = λ o. IsSome o in subst P (sym (same k)) live)
  where
    within : (o : Option (Entry T)) → IsSome (option_map (λ entry. entry.links) o) → IsSome o
    within None live = live
    within (Some entry) live = refl

-- and the other way round
pub linked_where : {T : Type 0} (boxes : Slab (Entry T)) (k : ℕ) → ContainsKey boxes k → IsSome (links_at boxes.slots k)
linked_where {T} boxes k live = within (get boxes k) live
  where
    within : (o : Option (Entry T)) → IsSome o → IsSome (option_map (λ entry. entry.links) o)
    within None live = live
    within (Some entry) live = refl

pub lives_on : {T : Type 0} (old new : Slab (Entry T)) → SameLinks old.slots new.slots → (k : ℕ) → ContainsKey old k → ContainsKey new k
lives_on old new same k was = lives old new same k (linked_where old k was)

-- ---- the first pass

module _ (s : Linking) (key : ℕ) where
  pub rises_first : (old : Marking) → IsSome (s key) → IsStill old → Rises s old old key (Some key)
  rises_first old live still = record {
    live = λ p is. lives_at s key p live is;
    above = λ p is. let P : ℕ → Type 0 = λ k. Reaches s k key in subst P (same_Some key p is) (reaches_itself s key);
    seen = λ k is. true_false (is_seen (old k)) is (still k);
    unseen = λ k is. refl;
    begun = inr refl;
    closed = λ k p is parent. true_false (is_seen (old k)) is (still k);
  }

  module _ (old now new : Marking) (at : ℕ) (mark : Mark) (put : Puts now new at mark) where
    here_seen : (k : ℕ) → k ≡ at → mark.seen ≡ true → is_seen (new k) ≡ true
    here_seen k same is = ap (λ j. is_seen (new j)) same ∙ ap is_seen put.here ∙ is

    seen_more : mark.seen ≡ true → (k : ℕ) → is_seen (now k) ≡ true → is_seen (new k) ≡ true
    seen_more seen k is = elim (cases_eq k at) [
      | inl same ↦ here_seen k same seen
      | inr apart ↦ ap is_seen (put.others k apart) ∙ is
    ]

    pub rises_next : IsLinked s → mark.marked ≡ true → mark.seen ≡ true → Rises s old now key (Some at) → Rises s old new key (parent_of (s at))
    rises_next linked marked seen rises = record {
      live = λ p is. linked.live at p is;
      above = λ p is. reaches_on s at p key (rises.above at refl) is;
      seen = λ k is. elim (cases_eq k at) [
        | inl same ↦ (
          ap (λ j. is_marked (new j)) same ∙ ap is_marked put.here ∙ marked,
          let P : ℕ → Type 0 = λ j. Reaches s j key in subst P (sym same) (rises.above at refl),
        )
        | inr apart ↦
            let was = rises.seen k (sym (ap is_seen (put.others k apart)) ∙ is) in
            (ap is_marked (put.others k apart) ∙ was.0, was.1)
      ];
      unseen = λ k is. elim (cases_eq k at) [
        | inl same ↦ true_false (is_seen (new k)) (here_seen k same seen) is
        | inr apart ↦ ap is_marked (put.others k apart) ∙ rises.unseen k (sym (ap is_seen (put.others k apart)) ∙ is)
      ];
      begun = elim rises.begun [
        | inl was ↦ inl (seen_more seen key was)
        | inr is ↦ inl (here_seen key (sym (same_Some at key is)) seen)
      ];
      closed = λ k p is parent. elim (cases_eq k at) [
        | inl same ↦ inr (ap (λ j. parent_of (s j)) (sym same) ∙ parent)
        | inr apart ↦ elim (rises.closed k p (sym (ap is_seen (put.others k apart)) ∙ is) parent) [
          | inl was ↦ inl (seen_more seen p was)
          | inr here ↦ inl (here_seen p (sym (same_Some at p here)) seen)
        ]
      ];
    }

  pub risen : (old now : Marking) (at : Option ℕ) → ((p : ℕ) → at ≡ Some p → is_seen (now p) ≡ true) → Rises s old now key at → Risen s old now key
  risen old now at ended rises = record {
    above = λ k reaches.
        let seen = handed_up s (λ q. is_seen (now q) ≡ true) hand reaches.0 (Some key) k first reaches.1 in
        (seen, (rises.seen k seen).0);
    seen = λ k is. (rises.seen k is).1;
    others = rises.unseen;
  }
    where
      hand : (q r : ℕ) → is_seen (now q) ≡ true → parent_of (s q) ≡ Some r → is_seen (now r) ≡ true
      hand q r is parent = elim (rises.closed q r is parent) [
        | inl was ↦ was
        | inr here ↦ ended r here
      ]

      first : (q : ℕ) → Some key ≡ Some q → is_seen (now q) ≡ true
      first q is =
          let P : ℕ → Type 0 = λ j. is_seen (now j) ≡ true in
          subst P (same_Some key q is) (elim rises.begun [
            | inl was ↦ was
            | inr here ↦ ended key here
          ])

-- ---- the second pass

module _ (s : Linking) (key : ℕ) where
  pub clears_first : (old now : Marking) → IsSome (s key) → Risen s old now key → Clears s now now key (Some key)
  clears_first old now live rose = record {
    live = λ p is. lives_at s key p live is;
    above = λ p is. let P : ℕ → Type 0 = λ k. Reaches s k key in subst P (same_Some key p is) (reaches_itself s key);
    marked = λ k. refl;
    left = λ k is. (key, refl, rose.seen k is);
    closed = λ k p reaches unseen parent. true_false (is_seen (now k)) (rose.above k reaches).0 unseen;
  }

  module _ (old now new : Marking) (at : ℕ) (mark : Mark) (put : Puts now new at mark) (gone : mark.seen ≡ false) where
    here_gone : (k : ℕ) → k ≡ at → is_seen (new k) ≡ false
    here_gone k same = ap (λ j. is_seen (new j)) same ∙ ap is_seen put.here ∙ gone

    gone_more : (k : ℕ) → is_seen (now k) ≡ false → is_seen (new k) ≡ false
    gone_more k is = elim (cases_eq k at) [
      | inl same ↦ here_gone k same
      | inr apart ↦ ap is_seen (put.others k apart) ∙ is
    ]

    -- what stands above a box, and isn't that box, stands at its parent or above
    above_parent : (k : ℕ) → k ≢ at → Reaches s k at → (p : ℕ) × (parent_of (s at) ≡ Some p) × Reaches s k p
    above_parent k apart (zero, is) = absurd (apart (sym (same_Some at k is)))
    above_parent k apart (suc n, (q, is, rest)) =
        let P : ℕ → Type 0 = λ j. Climbs n s (parent_of (s j)) k in
        let (p, parent, up) = climbs_from s n (parent_of (s at)) k (subst P (sym (same_Some at q is)) rest) in
        (p, parent, (n, up))

    pub clears_next : IsLinked s → mark.marked ≡ is_marked (now at) → Clears s old now key (Some at) → Clears s old new key (parent_of (s at))
    clears_next linked marked clears = record {
      live = λ p is. linked.live at p is;
      above = λ p is. reaches_on s at p key (clears.above at refl) is;
      marked = λ k. elim (cases_eq k at) [
        | inl same ↦
            let P : ℕ → Type 0 = λ j. is_marked (new j) ≡ is_marked (old j) in
            subst P (sym same) (ap is_marked put.here ∙ marked ∙ clears.marked at)
        | inr apart ↦ ap is_marked (put.others k apart) ∙ clears.marked k
      ];
      left = λ k is. elim (cases_eq k at) [
        | inl same ↦ true_false (is_seen (new k)) is (here_gone k same)
        | inr apart ↦
            let (p, here, reaches) = clears.left k (sym (ap is_seen (put.others k apart)) ∙ is) in
            let P : ℕ → Type 0 = λ j. Reaches s k j in
            above_parent k apart (subst P (sym (same_Some at p here)) reaches)
      ];
      closed = λ k p reaches is parent. elim (cases_eq k at) [
        | inl same ↦ inr (ap (λ j. parent_of (s j)) (sym same) ∙ parent)
        | inr apart ↦ elim (clears.closed k p reaches (sym (ap is_seen (put.others k apart)) ∙ is) parent) [
          | inl was ↦ inl (gone_more p was)
          | inr here ↦ inl (here_gone p (sym (same_Some at p here)))
        ]
      ];
    }

  pub cleared : (old now : Marking) (at : Option ℕ) → ((p : ℕ) → at ≡ Some p → is_seen (now p) ≡ false) → Clears s old now key at → IsStill now
  cleared old now at ended clears k = elim (cases_Bool (is_seen (now k))) [
    | inl is ↦
        let (p, here, reaches) = clears.left k is in
        let P : ℕ → Type 0 = λ q. (is_seen (now q) ≡ false) × Reaches s q key in
        let all = handed_up s P hand reaches.0 (Some p) k (first p here) reaches.1 in
        all.0
    | inr is ↦ is
  ]
    where
      hand : (q r : ℕ) → (is_seen (now q) ≡ false) × Reaches s q key → parent_of (s q) ≡ Some r → (is_seen (now r) ≡ false) × Reaches s r key
      hand q r (is, reaches) parent = (
        elim (clears.closed q r reaches is parent) [
          | inl was ↦ was
          | inr here ↦ ended r here
        ],
        reaches_on s q r key reaches parent,
      )

      first : (p : ℕ) → at ≡ Some p → (q : ℕ) → Some p ≡ Some q → (is_seen (now q) ≡ false) × Reaches s q key
      first p here q is =
          let P : ℕ → Type 0 = λ j. (is_seen (now j) ≡ false) × Reaches s j key in
          subst P (same_Some p q is) (ended p here, clears.above p here)

  -- both passes
  pub marks_up : (old mid new : Marking) → Risen s old mid key → ((k : ℕ) → is_marked (new k) ≡ is_marked (mid k)) → MarksUp s old new key
  marks_up old mid new rose same = record {
    above = λ k reaches. same k ∙ (rose.above k reaches).1;
    others = λ k apart. same k ∙ elim (cases_Bool (is_seen (mid k))) [
      | inl is ↦ absurd (apart (rose.seen k is))
      | inr is ↦ rose.others k is
    ];
  }

-- ---- what a climb leaves

module _ {T : Type 0} where
  pub links_move : (old new : Slots T) → SameLinks old new → IsLinked (links_at old) → IsLinked (links_at new)
  links_move old new same linked = let P : Linking → Type 0 = λ s. IsLinked s in subst P (sym (fun_ext same)) linked

  pub risen_moved : (old new : Slots T) (before after : Marking) (key : ℕ) → SameLinks old new → Risen (links_at old) before after key → Risen (links_at new) after after key
  risen_moved old new before after key same rose =
      let P : Linking → Type 0 = λ s. Risen s after after key in
      subst P (sym (fun_ext same)) (record { above = rose.above; seen = rose.seen; others = λ k is. refl })

  pub only_more : (old now new : Slab (Entry T)) (key : ℕ) (mark : Mark) → OnlyMarks old now → WritesMark now new key mark → OnlyMarks old new
  only_more old now new key mark only writes = record {
    links = λ k. writes.links k ∙ only.links k;
    held = λ k. writes.held k ∙ only.held k;
    room = λ n fits. writes.room n (only.room n fits);
  }

  pub only_both : (old now new : Slab (Entry T)) → OnlyMarks old now → OnlyMarks now new → OnlyMarks old new
  only_both old now new one other = record {
    links = λ k. other.links k ∙ one.links k;
    held = λ k. other.held k ∙ one.held k;
    room = λ n fits. other.room n (one.room n fits);
  }
