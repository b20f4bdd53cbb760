-- What a write of one field does.
use Rattle.std.proofs.Common.{set, List, ◌≡◌, ◌∙◌, ◌≢◌, ℕ, ◌+◌, ◌<◌, Bool, true, false, not, cond, Option, Some, None, option_map, is_some, IsSome, refl, sym, ap, subst, arith, inl, inr, add-zero}
use Rattle.std.specs.Prelude.{sum_by}
use Rattle.std.proofs.lemmas.Bool.{cases_eq}
use Rattle.std.proofs.lemmas.List.Sums.{sum_by-set}
use Rattle.slab.specs.Slab.{Slab, get, ContainsKey, Updates, with_value, slab_len, HasRoomFor}
use Rattle.slab.proofs.SlabLemmas.{ContainsKey-within, Updates-with_value}
use Rattle.box_arena.specs.declared.entry.Entry.{Entry}
use Rattle.box_arena.specs.declared.entry.Held.{Held}
use Rattle.box_arena.specs.declared.entry.Links.{Links}
use Rattle.box_arena.specs.declared.entry.Mark.{Mark}
use Rattle.box_arena.specs.At.{links_at, mark_at}
use Rattle.box_arena.specs.Climb.{entry_seen, entry_unseen}
use Rattle.box_arena.specs.Weight.{links_weight, weight}
use Rattle.box_arena.specs.Marks.{is_seen}
use Rattle.box_arena.specs.Free.{Removes}
use Rattle.box_arena.specs.Write.{Puts, WritesHeld, WritesLinks, WritesMark}

-- under the key lives something
there : {X : Type 0} (o : Option X) (x : X) → o ≡ Some x → IsSome o
there {X} o x is = subst (λ (y : Option X). IsSome y) (sym is) refl

module _ {E X : Type 0} (field : E → X) where
  abbrev all : Slab E → ℕ → Option X
  all s k = option_map field (get s k)

  -- each box but the one that was written has in a field what it had
  others_stay : (s : Slab E) (key : ℕ) (e f : E) → get s key ≡ Some e → (k : ℕ) → k ≢ key → all (with_value s key f) k ≡ all s k
  others_stay s key e f is k apart = ap (option_map field) ((Updates-with_value s key f (there (get s key) e is)).others k apart)

  -- a field that is written back changes at no key
  pub field_stays : (s : Slab E) (key : ℕ) (e f : E) → get s key ≡ Some e → field f ≡ field e → (k : ℕ) → all (with_value s key f) k ≡ all s k
  field_stays s key e f is same k = elim (cases_eq k key) [
    | inl at ↦
        let P : ℕ → Type 0 = λ j. all (with_value s key f) j ≡ all s j in
        let new = (Updates-with_value s key f (there (get s key) e is)).changed in
        subst P (sym at) (ap (option_map field) new ∙ ap Some same ∙ sym (ap (option_map field) is))
    | inr apart ↦ others_stay s key e f is k apart
  ]

  -- a field that is written
  pub field_put : (s : Slab E) (key : ℕ) (e f : E) → get s key ≡ Some e → Puts (all s) (all (with_value s key f)) key (field f)
  field_put s key e f is = record {
    here = ap (option_map field) (Updates-with_value s key f (there (get s key) e is)).changed;
    others = λ k apart. others_stay s key e f is k apart;
  }

module _ {E : Type 0} where
  -- a count changes by the entry that was written
  pub counted : (test : Option E → Bool) (s : Slab E) (key : ℕ) (e f : E) → get s key ≡ Some e
      → sum_by (λ x. cond (test x) 1 0) (with_value s key f).slots + cond (test (Some e)) 1 0 ≡ sum_by (λ x. cond (test x) 1 0) s.slots + cond (test (Some f)) 1 0
  counted test s key e f is =
      let sums = sum_by-set (λ x. cond (test x) 1 0) s.slots key (Some f) None (ContainsKey-within s key (there (get s key) e is)) in
      let P : Option E → Type 0 = λ o. sum_by (λ x. cond (test x) 1 0) (with_value s key f).slots + cond (test o) 1 0 ≡ sum_by (λ x. cond (test x) 1 0) s.slots + cond (test (Some f)) 1 0 in
      subst P is sums

  -- and so does a sum
  pub summed : (f : Option E → ℕ) (s : Slab E) (key : ℕ) (e x : E) → get s key ≡ Some e → sum_by f (with_value s key x).slots + f (Some e) ≡ sum_by f s.slots + f (Some x)
  summed f s key e x is =
      let sums = sum_by-set f s.slots key (Some x) None (ContainsKey-within s key (there (get s key) e is)) in
      let P : Option E → Type 0 = λ o. sum_by f (with_value s key x).slots + f o ≡ sum_by f s.slots + f (Some x) in
      subst P is sums

  pub same_room : (s : Slab E) (key : ℕ) (e f : E) → get s key ≡ Some e → (n : ℕ) → HasRoomFor s n → HasRoomFor (with_value s key f) n
  same_room s key e f is n room =
      let same = counted is_some s key e f is in
      omega (arith, same)

-- one more that is counted, and one that was not
fewer : (a b : ℕ) (x y : Bool) → a + cond x 1 0 ≡ b + cond y 1 0 → x ≡ true → y ≡ false → a < b
fewer a b true false sums was is = omega arith
fewer a b true true sums was is = absurd (cc)
fewer a b false y sums was is = absurd (cc)

module _ {T : Type 0} where
  pub writes_links : (s : Slab (Entry T)) (key : ℕ) (e : Entry T) (put : Links) → get s key ≡ Some e → WritesLinks s (with_value s key (record e { links = put })) key put
  writes_links s key e put is = record {
    links = field_put (λ entry. entry.links) s key e (record e { links = put }) is;
    marks = field_stays (λ entry. entry.mark) s key e (record e { links = put }) is refl;
    held = field_stays (λ entry. entry.held) s key e (record e { links = put }) is refl;
    room = same_room s key e (record e { links = put }) is;
    weights = λ root.
        let P : Option Links → Type 0 = λ o. weight root (with_value s key (record e { links = put })).slots + links_weight root o ≡ weight root s.slots + links_weight root (Some put) in
        subst P (sym (ap (option_map (λ (entry : Entry T). entry.links)) is)) (summed (λ o. links_weight root (option_map (λ entry. entry.links) o)) s key e (record e { links = put }) is);
  }

  pub writes_held : (s : Slab (Entry T)) (key : ℕ) (e : Entry T) (put : Held T) → get s key ≡ Some e → WritesHeld s (with_value s key (record e { held = put })) key put
  writes_held s key e put is = record {
    held = field_put (λ entry. entry.held) s key e (record e { held = put }) is;
    links = field_stays (λ entry. entry.links) s key e (record e { held = put }) is refl;
    marks = field_stays (λ entry. entry.mark) s key e (record e { held = put }) is refl;
    room = same_room s key e (record e { held = put }) is;
  }

  pub writes_mark : (s : Slab (Entry T)) (key : ℕ) (e : Entry T) (put : Mark) → get s key ≡ Some e → WritesMark s (with_value s key (record e { mark = put })) key put
  writes_mark s key e put is = record {
    marks = field_put (λ entry. entry.mark) s key e (record e { mark = put }) is;
    links = field_stays (λ entry. entry.links) s key e (record e { mark = put }) is refl;
    held = field_stays (λ entry. entry.held) s key e (record e { mark = put }) is refl;
    room = same_room s key e (record e { mark = put }) is;
    fewer_unseen = λ was seen. fewer _ _ (not e.mark.seen) (not put.seen) (counted entry_unseen s key e (record e { mark = put }) is) (ap not (at was)) (ap not seen);
    fewer_seen = λ was seen. fewer _ _ e.mark.seen put.seen (counted entry_seen s key e (record e { mark = put }) is) (at was) seen;
  }
    where
      at : {b : Bool} → is_seen (mark_at s.slots key) ≡ b → e.mark.seen ≡ b
      at {b} was =
          let P : Option (Entry T) → Type 0 = λ o. is_seen (option_map (λ entry. entry.mark) o) ≡ b in
          subst P is was

  -- a key that is freed
  pub removes : (old new : Slab (Entry T)) (key : ℕ) → ContainsKey old key → Updates old new key None → new.slots ≡ set old.slots key None → slab_len new + 1 ≡ slab_len old → new.capacity ≡ old.capacity
      → Removes old new key
  removes old new key live updates slots fewer capacity = record {
    here = updates.changed;
    others = updates.others;
    room = λ n fits. omega (arith, fewer, capacity);
    weights = λ root.
        let sums = sum_by-set (λ (o : Option (Entry T)). links_weight root (option_map (λ entry. entry.links) o)) old.slots key None None (ContainsKey-within old key live) in
        let P : List (Option (Entry T)) → Type 0 = λ xs. weight root xs + links_weight root (links_at old.slots key) ≡ weight root old.slots in
        subst P (sym slots) (sums ∙ add-zero (weight root old.slots));
  }
