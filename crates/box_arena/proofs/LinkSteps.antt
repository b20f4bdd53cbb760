-- From single writes to a box that is put among others, or taken from among them.
use Rattle.std.proofs.Common.{◌≡◌, ◌∙◌, ◌≢◌, ℕ, Option, Some, None, option_map, IsSome, refl, sym, ap, subst, inl, inr}
use Rattle.std.proofs.lemmas.Bool.{cases_eq}
use Rattle.std.proofs.lemmas.Option.{none-some, same_Some}
use Rattle.slab.specs.Slab.{Slab, get, ContainsKey}
use Rattle.box_arena.specs.declared.entry.Entry.{Entry}
use Rattle.box_arena.specs.declared.entry.Links.{Links}
use Rattle.box_arena.specs.At.{links_at}
use Rattle.box_arena.specs.Joining.{Joins, Parts, PutsAhead, PutsBehind}
use Rattle.box_arena.specs.Links.{Linking, IsIn, IsLinked, behind, ahead, parent_of, first_of, last_of, previous_of, next_of}
use Rattle.box_arena.specs.Write.{OnlyLinks, Puts, WritesLinks}
use Rattle.box_arena.proofs.CallLemmas.{puts_same}
use Rattle.box_arena.proofs.Chains.{next_apart}
use Rattle.box_arena.proofs.Climbs.{linked_where}

-- ---- single writes

puts_live : {X : Type 0} (old new : ℕ → Option X) (key : ℕ) (x : X) → Puts old new key x → (k : ℕ) → IsSome (old k) → IsSome (new k)
puts_live {X} old new key x puts k live = elim (cases_eq k key) [
  | inl same ↦ let P : Option X → Type 0 = λ o. IsSome o in subst P (sym (ap new same ∙ puts.here)) refl
  | inr apart ↦ let P : Option X → Type 0 = λ o. IsSome o in subst P (sym (puts.others k apart)) live
]

pub puts_first : (s t : Linking) (p : ℕ) (l : Links) (put : Option ℕ) → s p ≡ Some l → Puts s t p (record l { first = put }) → PutsBehind s t p None put
puts_first s t p l put is puts = record {
  here = ap first_of puts.here;
  untouched = λ k apart other. puts.others k (other refl);
  firsts = λ k other. ap first_of (puts.others k (other refl));
  nexts = λ k apart. puts_same next_of s t p l (record l { first = put }) is puts refl k;
  parents = puts_same parent_of s t p l (record l { first = put }) is puts refl;
  lasts = puts_same last_of s t p l (record l { first = put }) is puts refl;
  previous = puts_same previous_of s t p l (record l { first = put }) is puts refl;
  live = puts_live s t p (record l { first = put }) puts;
}

pub puts_last : (s t : Linking) (p : ℕ) (l : Links) (put : Option ℕ) → s p ≡ Some l → Puts s t p (record l { last = put }) → PutsAhead s t p None put
puts_last s t p l put is puts = record {
  here = ap last_of puts.here;
  untouched = λ k apart other. puts.others k (other refl);
  lasts = λ k other. ap last_of (puts.others k (other refl));
  previous = λ k apart. puts_same previous_of s t p l (record l { last = put }) is puts refl k;
  parents = puts_same parent_of s t p l (record l { last = put }) is puts refl;
  firsts = puts_same first_of s t p l (record l { last = put }) is puts refl;
  nexts = puts_same next_of s t p l (record l { last = put }) is puts refl;
  live = puts_live s t p (record l { last = put }) puts;
}

-- ---- a ring's places

-- a box that isn't attached is in no ring
stray_outside : (s : Linking) (c : ℕ) → parent_of (s c) ≡ None → (r : ℕ) (o : Option ℕ) → IsIn s r o → o ≢ Some c
stray_outside s c free r o inside is =
    let P : Option ℕ → Type 0 = λ n. IsIn s r n in
    none-some r (sym free ∙ subst P is inside)

-- a box is in one ring alone
one_ring : (s : Linking) (p r : ℕ) (o : Option ℕ) (k : ℕ) → IsIn s p o → o ≡ Some k → parent_of (s k) ≡ Some r → r ≡ p
one_ring s p r o k inside is parent =
    let P : Option ℕ → Type 0 = λ n. IsIn s p n in
    same_Some r p (sym parent ∙ subst P is inside)

same_behind_by : (s t : Linking) → ((k : ℕ) → first_of (t k) ≡ first_of (s k)) → ((k : ℕ) → next_of (t k) ≡ next_of (s k)) → (p : ℕ) (o : Option ℕ) → behind t p o ≡ behind s p o
same_behind_by s t firsts nexts p None = firsts p
same_behind_by s t firsts nexts p (Some k) = nexts k

same_ahead_by : (s t : Linking) → ((k : ℕ) → last_of (t k) ≡ last_of (s k)) → ((k : ℕ) → previous_of (t k) ≡ previous_of (s k)) → (p : ℕ) (o : Option ℕ) → ahead t p o ≡ ahead s p o
same_ahead_by s t lasts previous p None = lasts p
same_ahead_by s t lasts previous p (Some k) = previous k

-- ---- a box is put among others

module _ (s s1 s2 t : Linking) (p c : ℕ) (before : Option ℕ) (l : Links) (is : s c ≡ Some l)
    (w1 : Puts s s1 c (record l { parent = Some p; previous = ahead s p before; next = before }))
    (w2 : PutsBehind s1 s2 p (ahead s p before) (Some c)) (w3 : PutsAhead s2 t p before (Some c))
    (linked : IsLinked s) (free : parent_of (s c) ≡ None) (inside : IsIn s p before) where
  after_in : IsIn s p (ahead s p before)
  after_in = linked.off p before inside

  same_first : (k : ℕ) → first_of (s1 k) ≡ first_of (s k)
  same_first = puts_same first_of s s1 c l (record l { parent = Some p; previous = ahead s p before; next = before }) is w1 refl

  same_last : (k : ℕ) → last_of (s1 k) ≡ last_of (s k)
  same_last = puts_same last_of s s1 c l (record l { parent = Some p; previous = ahead s p before; next = before }) is w1 refl

  joins_behind : (r : ℕ) (o : Option ℕ) → IsIn s r o → (r ≡ p → o ≡ ahead s p before → ⊥) → behind s2 r o ≡ behind s r o
  joins_behind r None at apart = w2.firsts r (λ none same. apart same (sym none)) ∙ same_first r
  joins_behind r (Some k) at apart =
      w2.nexts k (λ here. apart (one_ring s p r (ahead s p before) k after_in here at) (sym here))
      ∙ ap next_of (w1.others k (λ same. stray_outside s c free r (Some k) at (ap Some same)))

  joins_ahead : (r : ℕ) (o : Option ℕ) → IsIn s r o → (r ≡ p → o ≡ before → ⊥) → ahead t r o ≡ ahead s2 r o
  joins_ahead r None at apart = w3.lasts r (λ none same. apart same (sym none))
  joins_ahead r (Some k) at apart = w3.previous k (λ here. apart (one_ring s p r before k inside here at) (sym here))

  first_ahead : (r : ℕ) (o : Option ℕ) → IsIn s r o → ahead s1 r o ≡ ahead s r o
  first_ahead r None at = same_last r
  first_ahead r (Some k) at = ap previous_of (w1.others k (λ same. stray_outside s c free r (Some k) at (ap Some same)))

  no_parent : (k : ℕ) (o : Option ℕ) → IsIn s p o → parent_of (s k) ≡ None → o ≢ Some k
  no_parent k o at none here = stray_outside s k none p o at here

  pub joins_made : Joins s t p before c
  joins_made = record {
    joined = w3.parents c ∙ w2.parents c ∙ ap parent_of w1.here;
    parents = λ k apart. w3.parents k ∙ w2.parents k ∙ ap parent_of (w1.others k apart);
    next = w3.nexts c ∙ w2.nexts c (no_parent c (ahead s p before) after_in free) ∙ ap next_of w1.here;
    previous = w3.previous c (no_parent c before inside free) ∙ w2.previous c ∙ ap previous_of w1.here;
    behind_it = same_behind_by s2 t w3.firsts w3.nexts p (ahead s p before) ∙ w2.here;
    ahead_of_it = w3.here;
    same_behind = λ r o at apart. same_behind_by s2 t w3.firsts w3.nexts r o ∙ joins_behind r o at apart;
    same_ahead = λ r o at apart. joins_ahead r o at apart ∙ same_ahead_by s1 s2 w2.lasts w2.previous r o ∙ first_ahead r o at;
    strays = λ k apart none. (
      w3.nexts k ∙ w2.nexts k (no_parent k (ahead s p before) after_in none) ∙ ap next_of (w1.others k apart),
      w3.previous k (no_parent k before inside none) ∙ w2.previous k ∙ ap previous_of (w1.others k apart),
    );
    untouched = λ k apart other child.
        w3.untouched k (λ here. let P : Option ℕ → Type 0 = λ n. IsIn s p n in child (subst P here inside)) (λ none same. other same)
        ∙ w2.untouched k (λ here. let P : Option ℕ → Type 0 = λ n. IsIn s p n in child (subst P here after_in)) (λ none same. other same)
        ∙ w1.others k apart;
    live = λ k was. w3.live k (w2.live k (puts_live s s1 c (record l { parent = Some p; previous = ahead s p before; next = before }) w1 k was));
  }

-- ---- a box is taken from among others

module _ (s s1 s2 t : Linking) (p c : ℕ) (l : Links) (is : s2 c ≡ Some l)
    (w1 : PutsBehind s s1 p (previous_of (s c)) (next_of (s c))) (w2 : PutsAhead s1 s2 p (next_of (s c)) (previous_of (s c)))
    (w3 : Puts s2 t c (record l { parent = None; previous = None; next = None }))
    (linked : IsLinked s) (inside : parent_of (s c) ≡ Some p) where
  ahead_in : IsIn s p (previous_of (s c))
  ahead_in = linked.off p (Some c) inside

  behind_in : IsIn s p (next_of (s c))
  behind_in = linked.on p (Some c) inside

  next_other : next_of (s c) ≢ Some c
  next_other = next_apart s linked p c inside

  previous_other : previous_of (s c) ≢ Some c
  previous_other same = next_other (ap (behind s p) (sym same) ∙ linked.forth p (Some c) inside)

  gone : (r : ℕ) (o : Option ℕ) → IsIn t r o → o ≢ Some c
  gone = stray_outside t c (ap parent_of w3.here)

  was_in : (r k : ℕ) → parent_of (t k) ≡ Some r → parent_of (s k) ≡ Some r
  was_in r k at =
      let other : k ≢ c = λ same. gone r (Some k) at (ap Some same) in
      sym (ap parent_of (w3.others k other) ∙ w2.parents k ∙ w1.parents k) ∙ at

  last_behind : (r : ℕ) (o : Option ℕ) → o ≢ Some c → behind t r o ≡ behind s2 r o
  last_behind r None other = puts_same first_of s2 t c l (record l { parent = None; previous = None; next = None }) is w3 refl r
  last_behind r (Some k) other = ap next_of (w3.others k (λ same. other (ap Some same)))

  last_ahead : (r : ℕ) (o : Option ℕ) → o ≢ Some c → ahead t r o ≡ ahead s2 r o
  last_ahead r None other = puts_same last_of s2 t c l (record l { parent = None; previous = None; next = None }) is w3 refl r
  last_ahead r (Some k) other = ap previous_of (w3.others k (λ same. other (ap Some same)))

  parts_behind : (r : ℕ) (o : Option ℕ) → IsIn t r o → (r ≡ p → o ≡ previous_of (s c) → ⊥) → behind s1 r o ≡ behind s r o
  parts_behind r None at apart = w1.firsts r (λ none same. apart same (sym none))
  parts_behind r (Some k) at apart = w1.nexts k (λ here. apart (one_ring s p r (previous_of (s c)) k ahead_in here (was_in r k at)) (sym here))

  parts_ahead : (r : ℕ) (o : Option ℕ) → IsIn t r o → (r ≡ p → o ≡ next_of (s c) → ⊥) → ahead s2 r o ≡ ahead s1 r o
  parts_ahead r None at apart = w2.lasts r (λ none same. apart same (sym none))
  parts_ahead r (Some k) at apart = w2.previous k (λ here. apart (one_ring s p r (next_of (s c)) k behind_in here (was_in r k at)) (sym here))

  not_here : (k : ℕ) (o : Option ℕ) → IsIn s p o → parent_of (s k) ≡ None → o ≢ Some k
  not_here k o at none here = stray_outside s k none p o at here

  pub parts_made : Parts s t p c
  parts_made = record {
    parted = ap parent_of w3.here;
    parents = λ k apart. ap parent_of (w3.others k apart) ∙ w2.parents k ∙ w1.parents k;
    next = ap next_of w3.here;
    previous = ap previous_of w3.here;
    behind_it = last_behind p (previous_of (s c)) previous_other ∙ same_behind_by s1 s2 w2.firsts w2.nexts p (previous_of (s c)) ∙ w1.here;
    ahead_of_it = last_ahead p (next_of (s c)) next_other ∙ w2.here;
    same_behind = λ r o at apart. last_behind r o (gone r o at) ∙ same_behind_by s1 s2 w2.firsts w2.nexts r o ∙ parts_behind r o at apart;
    same_ahead = λ r o at apart. last_ahead r o (gone r o at) ∙ parts_ahead r o at apart ∙ same_ahead_by s s1 w1.lasts w1.previous r o;
    strays = λ k apart none. (
      ap next_of (w3.others k apart) ∙ w2.nexts k ∙ w1.nexts k (not_here k (previous_of (s c)) ahead_in none),
      ap previous_of (w3.others k apart) ∙ w2.previous k (not_here k (next_of (s c)) behind_in none) ∙ w1.previous k,
    );
    untouched = λ k apart other child.
        w3.others k apart
        ∙ w2.untouched k (λ here. let P : Option ℕ → Type 0 = λ n. IsIn s p n in child (subst P here behind_in)) (λ none same. other same)
        ∙ w1.untouched k (λ here. let P : Option ℕ → Type 0 = λ n. IsIn s p n in child (subst P here ahead_in)) (λ none same. other same);
    live = λ k was. puts_live s2 t c (record l { parent = None; previous = None; next = None }) w3 k (w2.live k (w1.live k was));
  }

-- ---- what the calls need and leave

module _ {T : Type 0} where
  -- who has a parent lives
  pub has_links : (boxes : Slab (Entry T)) (p k : ℕ) (o : Option ℕ) → IsIn (links_at boxes.slots) p o → o ≡ Some k → ContainsKey boxes k
  has_links boxes p k o inside is =
      let P : Option ℕ → Type 0 = λ n. IsIn (links_at boxes.slots) p n in
      within (get boxes k) (subst P is inside)
    where
      within : (e : Option (Entry T)) → parent_of (option_map (λ entry. entry.links) e) ≡ Some p → IsSome e
      within None none = absurd (cc)
      within (Some entry) some = refl

  pub still_lives : (old new : Slab (Entry T)) → ((k : ℕ) → IsSome (links_at old.slots k) → IsSome (links_at new.slots k)) → (k : ℕ) → ContainsKey old k → ContainsKey new k
  still_lives old new live k was = lives_in (get new k) (live k (linked_where old k was))
    where
      lives_in : (e : Option (Entry T)) → IsSome (option_map (λ entry. entry.links) e) → IsSome e
      lives_in None none = none
      lives_in (Some entry) some = refl

  pub only_links : (old new : Slab (Entry T)) (key : ℕ) (put : Links) → WritesLinks old new key put → OnlyLinks old new
  only_links old new key put writes = record { marks = writes.marks; held = writes.held; room = writes.room }

  pub only_then : (old mid new : Slab (Entry T)) → OnlyLinks old mid → OnlyLinks mid new → OnlyLinks old new
  only_then old mid new one other = record {
    marks = λ k. other.marks k ∙ one.marks k;
    held = λ k. other.held k ∙ one.held k;
    room = λ n fits. other.room n (one.room n fits);
  }
