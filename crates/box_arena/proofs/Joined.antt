-- Boxes are linked as before where one was put among others, or taken from among them.
use Rattle.std.proofs.Common.{◌≡◌, ◌∙◌, ◌≢◌, ◌⊎◌, ℕ, zero, suc, nat_eq, Bool, true, false, List, [], ◌∷◌, Option, Some, None, IsSome, refl, sym, ap, subst, inl, inr}
use Rattle.std.specs.Prelude.{if◌then◌else◌}
use Rattle.std.proofs.lemmas.Bool.{cases_eq}
use Rattle.std.proofs.lemmas.Option.{none-some, same_Some}
use Rattle.box_arena.specs.Joining.{Joins, Parts}
use Rattle.box_arena.specs.Links.{Linking, Chain, Children, Climbs, Reaches, Has, IsIn, IsLinked, behind, ahead, parent_of, first_of, previous_of, next_of, put_before, without, is_it}
use Rattle.box_arena.proofs.Chains.{chain_apart, chain_inside, chain_next, chain_same, chain_stays, eq_false, eq_true, next_apart, put_has, put_keeps, same_option, without_keeps}

-- ---- climbs

-- two climbs in a row
pub climbs_both : (s : Linking) (n m : ℕ) (from : Option ℕ) (k p : ℕ) → Climbs n s from k → Climbs m s (Some k) p → (l : ℕ) × Climbs l s from p
climbs_both s zero m from k p is more = (m, let P : Option ℕ → Type 0 = λ o. Climbs m s o p in subst P (sym is) more)
climbs_both s (suc n) m from k p (q, is, rest) more =
    let (l, climbs) = climbs_both s n m (parent_of (s q)) k p rest more in
    (suc l, (q, is, climbs))

-- a climb of which the links differ at one box alone goes past that box, or is the same climb
climbs_split : (s t : Linking) (c : ℕ) → ((k : ℕ) → k ≢ c → parent_of (t k) ≡ parent_of (s k)) → (n : ℕ) (from : Option ℕ) (k : ℕ) → Climbs n t from k
    → Climbs n s from k ⊎ ((m : ℕ) × (l : ℕ) × Climbs m s from c × Climbs l t (parent_of (t c)) k)
climbs_split s t c same zero from k is = inl is
climbs_split s t c same (suc n) from k (q, is, rest) = elim (cases_eq q c) [
  | inl at ↦
      let P : ℕ → Type 0 = λ j. Climbs n t (parent_of (t j)) k in
      inr (zero, n, is ∙ ap Some at, subst P at rest)
  | inr apart ↦
      let P : Option ℕ → Type 0 = λ o. Climbs n t o k in
      elim (climbs_split s t c same n (parent_of (s q)) k (subst P (same q apart) rest)) [
        | inl climbs ↦ inl (q, is, climbs)
        | inr past ↦ inr (suc past.0, past.1, (q, is, past.2), past.3)
      ]
]

-- ---- a box is put among others

module _ (s t : Linking) (p c : ℕ) (before : Option ℕ) (linked : IsLinked s) (free : parent_of (s c) ≡ None) (inside : IsIn s p before)
    (joins : Joins s t p before c) where
  not_c : (r : ℕ) (o : Option ℕ) → IsIn s r o → o ≢ Some c
  not_c r o at is =
      let P : Option ℕ → Type 0 = λ n. IsIn s r n in
      none-some r (sym free ∙ subst P is at)

  stays_in : (r : ℕ) (o : Option ℕ) → IsIn s r o → IsIn t r o
  stays_in r None at = tt
  stays_in r (Some k) at = joins.parents k (λ same. not_c r (Some k) at (ap Some same)) ∙ at

  was_in : (r k : ℕ) → k ≢ c → parent_of (t k) ≡ Some r → parent_of (s k) ≡ Some r
  was_in r k apart at = sym (joins.parents k apart) ∙ at

  behind_after : behind s p (ahead s p before) ≡ before
  behind_after = linked.forth p before inside

  -- where a place of a ring is: at the new box, at the one ahead of it, or elsewhere
  data Place (here : Option ℕ) (r : ℕ) (o : Option ℕ) : Type 0 where
    at_new : r ≡ p → o ≡ Some c → Place here r o
    at_side : r ≡ p → o ≡ here → IsIn s r o → Place here r o
    at_other : (r ≡ p → o ≡ here → ⊥) → IsIn s r o → Place here r o

  old_place : (here : Option ℕ) (r : ℕ) (o : Option ℕ) → IsIn s r o → Place here r o
  old_place here r o at = elim (cases_eq r p) [
    | inl ring ↦ elim (same_option o here) [
      | inl is ↦ at_side ring is at
      | inr apart ↦ at_other (λ _ is. apart is) at
    ]
    | inr apart ↦ at_other (λ ring _. apart ring) at
  ]

  place_of : (here : Option ℕ) (r : ℕ) (o : Option ℕ) → IsIn t r o → Place here r o
  place_of here r None at = old_place here r None tt
  place_of here r (Some k) at = elim (cases_eq k c) [
    | inl same ↦ at_new (same_Some r p (sym at ∙ ap (λ j. parent_of (t j)) same ∙ joins.joined)) (ap Some same)
    | inr apart ↦ old_place here r (Some k) (was_in r k apart at)
  ]

  on_at : (r : ℕ) (o : Option ℕ) → Place (ahead s p before) r o → IsIn t r (behind t r o)
  on_at r o (at_new ring is) =
      let P : ℕ → Option ℕ → Type 0 = λ q n. IsIn t q (behind t q n) in
      let Q : Option ℕ → Type 0 = λ n. IsIn t p n in
      let at : P p (Some c) = subst Q (sym joins.next) (stays_in p before inside) in
      subst (λ (q : ℕ). P q o) (sym ring) (subst (λ (n : Option ℕ). P p n) (sym is) at)
  on_at r o (at_side ring is at) =
      let P : ℕ → Option ℕ → Type 0 = λ q n. IsIn t q (behind t q n) in
      let Q : Option ℕ → Type 0 = λ n. IsIn t p n in
      let here : P p (ahead s p before) = subst Q (sym joins.behind_it) joins.joined in
      subst (λ (q : ℕ). P q o) (sym ring) (subst (λ (n : Option ℕ). P p n) (sym is) here)
  on_at r o (at_other apart at) =
      let Q : Option ℕ → Type 0 = λ n. IsIn t r n in
      subst Q (sym (joins.same_behind r o at apart)) (stays_in r (behind s r o) (linked.on r o at))

  off_at : (r : ℕ) (o : Option ℕ) → Place before r o → IsIn t r (ahead t r o)
  off_at r o (at_new ring is) =
      let P : ℕ → Option ℕ → Type 0 = λ q n. IsIn t q (ahead t q n) in
      let Q : Option ℕ → Type 0 = λ n. IsIn t p n in
      let at : P p (Some c) = subst Q (sym joins.previous) (stays_in p (ahead s p before) (linked.off p before inside)) in
      subst (λ (q : ℕ). P q o) (sym ring) (subst (λ (n : Option ℕ). P p n) (sym is) at)
  off_at r o (at_side ring is at) =
      let P : ℕ → Option ℕ → Type 0 = λ q n. IsIn t q (ahead t q n) in
      let Q : Option ℕ → Type 0 = λ n. IsIn t p n in
      let here : P p before = subst Q (sym joins.ahead_of_it) joins.joined in
      subst (λ (q : ℕ). P q o) (sym ring) (subst (λ (n : Option ℕ). P p n) (sym is) here)
  off_at r o (at_other apart at) =
      let Q : Option ℕ → Type 0 = λ n. IsIn t r n in
      subst Q (sym (joins.same_ahead r o at apart)) (stays_in r (ahead s r o) (linked.off r o at))

  back_at : (r : ℕ) (o : Option ℕ) → Place (ahead s p before) r o → ahead t r (behind t r o) ≡ o
  back_at r o (at_new ring is) =
      ap (λ q. ahead t q (behind t q o)) ring ∙ ap (λ n. ahead t p (behind t p n)) is ∙ ap (ahead t p) joins.next ∙ joins.ahead_of_it ∙ sym is
  back_at r o (at_side ring is at) =
      ap (λ q. ahead t q (behind t q o)) ring ∙ ap (λ n. ahead t p (behind t p n)) is ∙ ap (ahead t p) joins.behind_it ∙ joins.previous ∙ sym is
  back_at r o (at_other apart at) =
      let next : behind t r o ≡ behind s r o = joins.same_behind r o at apart in
      ap (ahead t r) next
      ∙ joins.same_ahead r (behind s r o) (linked.on r o at) (λ ring is. apart ring (sym (linked.back r o at) ∙ ap (ahead s r) is ∙ ap (λ q. ahead s q before) ring))
      ∙ linked.back r o at

  forth_at : (r : ℕ) (o : Option ℕ) → Place before r o → behind t r (ahead t r o) ≡ o
  forth_at r o (at_new ring is) =
      ap (λ q. behind t q (ahead t q o)) ring ∙ ap (λ n. behind t p (ahead t p n)) is ∙ ap (behind t p) joins.previous ∙ joins.behind_it ∙ sym is
  forth_at r o (at_side ring is at) =
      ap (λ q. behind t q (ahead t q o)) ring ∙ ap (λ n. behind t p (ahead t p n)) is ∙ ap (behind t p) joins.ahead_of_it ∙ joins.next ∙ sym is
  forth_at r o (at_other apart at) =
      let last : ahead t r o ≡ ahead s r o = joins.same_ahead r o at apart in
      ap (behind t r) last
      ∙ joins.same_behind r (ahead s r o) (linked.off r o at)
      (λ ring is. apart ring (sym (linked.forth r o at) ∙ ap (behind s r) is ∙ ap (λ q. behind s q (ahead s p before)) ring ∙ behind_after))
      ∙ linked.forth r o at

  -- ---- lists of children

  -- in another ring all stays
  pub other_chain : (r : ℕ) → r ≢ p → (ks : List ℕ) → Chain s (first_of (s r)) ks → Chain t (first_of (t r)) ks
  other_chain r apart ks chain =
      let P : Option ℕ → Type 0 = λ o. Chain t o ks in
      subst P (sym (joins.same_behind r None tt (λ ring _. apart ring)))
      (chain_stays s t (first_of (s r)) ks (λ k has. joins.same_behind r (Some k) (chain_inside s linked r None ks k tt chain has) (λ ring _. apart ring)) chain)

  -- what stands behind the new box stays
  tail_chain : (k : ℕ) (ks : List ℕ) → before ≡ Some k → Chain s (next_of (s k)) ks → Chain t (next_of (t k)) ks
  tail_chain k ks here chain =
      let in_p : parent_of (s k) ≡ Some p = let P : Option ℕ → Type 0 = λ o. IsIn s p o in subst P here inside in
      let same : (j : ℕ) → Has (k ∷ ks) j → parent_of (s j) ≡ Some p → next_of (t j) ≡ next_of (s j)
      = λ j has at. joins.same_behind p (Some j) at (λ _ is. chain_apart s k ks chain (chain_next s ks k j k chain has (ap (behind s p) is ∙ behind_after ∙ here))) in
      let P : Option ℕ → Type 0 = λ o. Chain t o ks in
      subst P (sym (same k (inl refl) in_p))
      (chain_stays s t (next_of (s k)) ks (λ j has. same j (inr has) (chain_inside s linked p (Some k) ks j in_p chain has)) chain)

  abbrev IsWithin : List ℕ → Type 0
  IsWithin ks = (b : ℕ) → before ≡ Some b → Has ks b

  is_it_true : (o : Option ℕ) (k : ℕ) → is_it o k ≡ true → o ≡ Some k
  is_it_true None k is = absurd (cc)
  is_it_true (Some b) k is = ap Some (eq_true b k is)

  is_it_false : (o : Option ℕ) (k : ℕ) → is_it o k ≡ false → o ≢ Some k
  is_it_false None k is = none-some k
  is_it_false (Some b) k is = λ same. eq_false b k is (same_Some b k same)

  put_chain : (o : Option ℕ) (ks : List ℕ) → IsIn s p o → IsWithin ks → Chain s (behind s p o) ks → Chain t (behind t p o) (put_before before c ks)
  put_chain o [] at within is = last before refl
    where
      last : (b : Option ℕ) → before ≡ b → Chain t (behind t p o) (c ∷ [])
      last (Some b) here = absurd (within b here)
      last None none =
          let place : o ≡ ahead s p before = sym (linked.back p o at) ∙ ap (ahead s p) (is ∙ sym none) in
          (ap (behind t p) place ∙ joins.behind_it, joins.next ∙ none)
  put_chain o (k ∷ ks) at within (is, rest) = by_test (is_it before k) refl (put_chain (Some k) ks (let P : Option ℕ → Type 0 = λ n. IsIn s p n in subst P is (linked.on p o at)))
    where
      by_test : (test : Bool) → is_it before k ≡ test → (IsWithin ks → Chain s (next_of (s k)) ks → Chain t (next_of (t k)) (put_before before c ks))
          → Chain t (behind t p o) (if test then c ∷ k ∷ ks else k ∷ put_before before c ks)
      by_test true yes_it later =
          let here : before ≡ Some k = is_it_true before k yes_it in
          let place : o ≡ ahead s p before = sym (linked.back p o at) ∙ ap (ahead s p) (is ∙ sym here) in
          (ap (behind t p) place ∙ joins.behind_it, (joins.next ∙ here, tail_chain k ks here rest))
      by_test false not_it later =
          let apart : before ≢ Some k = is_it_false before k not_it in (
            joins.same_behind p o at (λ _ place. apart (sym behind_after ∙ ap (behind s p) (sym place) ∙ is)) ∙ is,
            later (λ b here. elim (within b here) [
              | inl same ↦ absurd (apart (here ∙ ap Some (sym same)))
              | inr has ↦ has
            ]) rest,
          )

  all_within : (ks : List ℕ) → Chain s (first_of (s p)) ks → IsWithin ks
  all_within ks chain b here =
      let all = linked.children p in
      let P : List ℕ → Type 0 = λ js. Has js b in
      let Q : Option ℕ → Type 0 = λ o. IsIn s p o in
      subst P (chain_same s (first_of (s p)) all.list ks all.chain chain) (all.whole b (subst Q here inside))

  -- the new box is among the children, before that one
  pub children_joined : (ks : List ℕ) → Chain s (first_of (s p)) ks → Chain t (first_of (t p)) (put_before before c ks)
  children_joined ks chain = put_chain None ks tt (all_within ks chain) chain

  children_after : (r : ℕ) → Children t r
  children_after r = elim (cases_eq r p) [
    | inl ring ↦ let P : ℕ → Type 0 = λ q. Children t q in subst P (sym ring) (let all = linked.children p in record {
      list = put_before before c all.list;
      chain = children_joined all.list all.chain;
      whole = λ k at. elim (cases_eq k c) [
        | inl same ↦ let Q : ℕ → Type 0 = λ j. Has (put_before before c all.list) j in subst Q (sym same) (put_has before c all.list)
        | inr apart ↦ put_keeps before c all.list k (all.whole k (was_in p k apart at))
      ];
    })
    | inr other_ring ↦ (let all = linked.children r in record {
      list = all.list;
      chain = other_chain r other_ring all.list all.chain;
      whole = λ k at. all.whole k (was_in r k (λ same. other_ring (same_Some r p (sym at ∙ ap (λ j. parent_of (t j)) same ∙ joins.joined))) at);
    })
  ]

  -- no box comes to stand above itself, unless the new one stood above its parent
  still_acyclic : (Reaches s c p → ⊥) → (k n : ℕ) → Climbs (suc n) t (Some k) k → ⊥
  still_acyclic low k n climbs = elim (climbs_split s t c joins.parents (suc n) (Some k) k climbs) [
    | inl old ↦ linked.acyclic k n old
    | inr past ↦
        let P : Option ℕ → Type 0 = λ o. Climbs past.1 t o k in
        elim (climbs_split s t c joins.parents past.1 (Some p) k (subst P joins.joined past.3)) [
          | inl up ↦ low (climbs_both s past.1 past.0 (Some p) k c up past.2)
          | inr again ↦ low (again.0, again.2)
        ]
  ]

  pub linked_joined : IsSome (t p) → (Reaches s c p → ⊥) → IsLinked t
  linked_joined live low = record {
    live = λ k r at. elim (cases_eq k c) [
      | inl same ↦
          let P : ℕ → Type 0 = λ q. IsSome (t q) in
          subst P (same_Some p r (sym joins.joined ∙ ap (λ j. parent_of (t j)) (sym same) ∙ at)) live
      | inr apart ↦ joins.live r (linked.live k r (was_in r k apart at))
    ];
    acyclic = still_acyclic low;
    on = λ r o at. on_at r o (place_of (ahead s p before) r o at);
    off = λ r o at. off_at r o (place_of before r o at);
    back = λ r o at. back_at r o (place_of (ahead s p before) r o at);
    forth = λ r o at. forth_at r o (place_of before r o at);
    alone = λ k none. elim (cases_eq k c) [
      | inl same ↦ absurd (none-some p (sym none ∙ ap (λ j. parent_of (t j)) same ∙ joins.joined))
      | inr apart ↦
          let was : parent_of (s k) ≡ None = sym (joins.parents k apart) ∙ none in
          let stray = joins.strays k apart was in
          let alone = linked.alone k was in
          (stray.0 ∙ alone.0, stray.1 ∙ alone.1)
    ];
    children = children_after;
  }

-- ---- a box is taken from among others

module _ (s t : Linking) (p c : ℕ) (linked : IsLinked s) (inside : parent_of (s c) ≡ Some p) (parts : Parts s t p c) where
  gone : (r : ℕ) (o : Option ℕ) → IsIn t r o → o ≢ Some c
  gone r o at is =
      let P : Option ℕ → Type 0 = λ n. IsIn t r n in
      none-some r (sym parts.parted ∙ subst P is at)

  in_before : (r : ℕ) (o : Option ℕ) → IsIn t r o → IsIn s r o
  in_before r None at = tt
  in_before r (Some k) at = sym (parts.parents k (λ same. gone r (Some k) at (ap Some same))) ∙ at

  in_after : (r : ℕ) (o : Option ℕ) → o ≢ Some c → IsIn s r o → IsIn t r o
  in_after r None other at = tt
  in_after r (Some k) other at = parts.parents k (λ same. other (ap Some same)) ∙ at

  next_other : next_of (s c) ≢ Some c
  next_other = next_apart s linked p c inside

  previous_other : previous_of (s c) ≢ Some c
  previous_other same = next_other (ap (behind s p) (sym same) ∙ linked.forth p (Some c) inside)

  next_in : IsIn t p (next_of (s c))
  next_in = in_after p (next_of (s c)) next_other (linked.on p (Some c) inside)

  previous_in : IsIn t p (previous_of (s c))
  previous_in = in_after p (previous_of (s c)) previous_other (linked.off p (Some c) inside)

  -- whether a place of a ring is that beside the box
  at_place : (here : Option ℕ) (r : ℕ) (o : Option ℕ) → ((r ≡ p) × (o ≡ here)) ⊎ (r ≡ p → o ≡ here → ⊥)
  at_place here r o = elim (cases_eq r p) [
    | inl ring ↦ elim (same_option o here) [
      | inl is ↦ inl (ring, is)
      | inr apart ↦ inr (λ _ is. apart is)
    ]
    | inr apart ↦ inr (λ ring _. apart ring)
  ]

  -- in what ring the box was
  ring_of : (r : ℕ) (o : Option ℕ) → IsIn s r o → o ≡ Some c → r ≡ p
  ring_of r o at is =
      let P : Option ℕ → Type 0 = λ n. IsIn s r n in
      same_Some r p (sym (subst P is at) ∙ inside)

  parted_on : (r : ℕ) (o : Option ℕ) → IsIn t r o → IsIn t r (behind t r o)
  parted_on r o at = elim (at_place (previous_of (s c)) r o) [
    | inl place ↦
        let P : ℕ → Option ℕ → Type 0 = λ q n. IsIn t q (behind t q n) in
        let Q : Option ℕ → Type 0 = λ n. IsIn t p n in
        let here : P p (previous_of (s c)) = subst Q (sym parts.behind_it) next_in in
        subst (λ (q : ℕ). P q o) (sym place.0) (subst (λ (n : Option ℕ). P p n) (sym place.1) here)
    | inr apart ↦
        let Q : Option ℕ → Type 0 = λ n. IsIn t r n in
        let was = in_before r o at in
        let other : behind s r o ≢ Some c = λ is.
        let ring = ring_of r (behind s r o) (linked.on r o was) is in
        apart ring (sym (linked.back r o was) ∙ ap (ahead s r) is) in
        subst Q (sym (parts.same_behind r o at apart)) (in_after r (behind s r o) other (linked.on r o was))
  ]

  parted_off : (r : ℕ) (o : Option ℕ) → IsIn t r o → IsIn t r (ahead t r o)
  parted_off r o at = elim (at_place (next_of (s c)) r o) [
    | inl place ↦
        let P : ℕ → Option ℕ → Type 0 = λ q n. IsIn t q (ahead t q n) in
        let Q : Option ℕ → Type 0 = λ n. IsIn t p n in
        let here : P p (next_of (s c)) = subst Q (sym parts.ahead_of_it) previous_in in
        subst (λ (q : ℕ). P q o) (sym place.0) (subst (λ (n : Option ℕ). P p n) (sym place.1) here)
    | inr apart ↦
        let Q : Option ℕ → Type 0 = λ n. IsIn t r n in
        let was = in_before r o at in
        let other : ahead s r o ≢ Some c = λ is.
        let ring = ring_of r (ahead s r o) (linked.off r o was) is in
        apart ring (sym (linked.forth r o was) ∙ ap (behind s r) is) in
        subst Q (sym (parts.same_ahead r o at apart)) (in_after r (ahead s r o) other (linked.off r o was))
  ]

  parted_back : (r : ℕ) (o : Option ℕ) → IsIn t r o → ahead t r (behind t r o) ≡ o
  parted_back r o at = elim (at_place (previous_of (s c)) r o) [
    | inl place ↦
        ap (λ q. ahead t q (behind t q o)) place.0 ∙ ap (λ n. ahead t p (behind t p n)) place.1 ∙ ap (ahead t p) parts.behind_it ∙ parts.ahead_of_it ∙ sym place.1
    | inr apart ↦
        let was = in_before r o at in
        let Q : Option ℕ → Type 0 = λ n. IsIn t r n in
        let next : behind t r o ≡ behind s r o = parts.same_behind r o at apart in
        ap (ahead t r) next
        ∙ parts.same_ahead r (behind s r o) (subst Q next (parted_on r o at))
        (λ ring is. gone r o at (sym (linked.back r o was) ∙ ap (ahead s r) is ∙ ap (λ q. ahead s q (next_of (s c))) ring ∙ linked.back p (Some c) inside))
        ∙ linked.back r o was
  ]

  parted_forth : (r : ℕ) (o : Option ℕ) → IsIn t r o → behind t r (ahead t r o) ≡ o
  parted_forth r o at = elim (at_place (next_of (s c)) r o) [
    | inl place ↦
        ap (λ q. behind t q (ahead t q o)) place.0 ∙ ap (λ n. behind t p (ahead t p n)) place.1 ∙ ap (behind t p) parts.ahead_of_it ∙ parts.behind_it ∙ sym place.1
    | inr apart ↦
        let was = in_before r o at in
        let Q : Option ℕ → Type 0 = λ n. IsIn t r n in
        let last : ahead t r o ≡ ahead s r o = parts.same_ahead r o at apart in
        ap (behind t r) last
        ∙ parts.same_behind r (ahead s r o) (subst Q last (parted_off r o at))
        (λ ring is. gone r o at (sym (linked.forth r o was) ∙ ap (behind s r) is ∙ ap (λ q. behind s q (previous_of (s c))) ring ∙ linked.forth p (Some c) inside))
        ∙ linked.forth r o was
  ]

  -- ---- lists of children

  pub other_children : (r : ℕ) → r ≢ p → (ks : List ℕ) → Chain s (first_of (s r)) ks → Chain t (first_of (t r)) ks
  other_children r apart ks chain =
      let P : Option ℕ → Type 0 = λ o. Chain t o ks in
      let at : (k : ℕ) → Has ks k → IsIn t r (Some k) = λ k has.
      let was = chain_inside s linked r None ks k tt chain has in
      in_after r (Some k) (λ same. apart (ring_of r (Some k) was same)) was in
      subst P (sym (parts.same_behind r None tt (λ ring _. apart ring)))
      (chain_stays s t (first_of (s r)) ks (λ k has. parts.same_behind r (Some k) (at k has) (λ ring _. apart ring)) chain)

  -- what stood behind the box stays
  behind_chain : (ks : List ℕ) → Chain s (next_of (s c)) ks → Chain t (next_of (s c)) ks
  behind_chain ks chain = chain_stays s t (next_of (s c)) ks same chain
    where
      same : (k : ℕ) → Has ks k → next_of (t k) ≡ next_of (s k)
      same k has =
          let was = chain_inside s linked p (Some c) ks k inside chain has in
          let other : k ≢ c = λ is. chain_apart s c ks chain (let P : ℕ → Type 0 = λ j. Has ks j in subst P is has) in
          parts.same_behind p (Some k) (in_after p (Some k) (λ is. other (same_Some k c is)) was)
          (λ _ is. chain_apart s c ks chain (chain_next s ks c k c chain (inr has) (ap (behind s p) is ∙ linked.forth p (Some c) inside)))

  without_chain : (o : Option ℕ) (ks : List ℕ) → IsIn t p o → Chain s (behind s p o) ks → Chain t (behind t p o) (without c ks)
  without_chain o [] at is =
      parts.same_behind p o at (λ _ place. none-some c (sym is ∙ ap (behind s p) place ∙ linked.forth p (Some c) inside)) ∙ is
  without_chain o (k ∷ ks) at (is, rest) = by_test (nat_eq k c) refl (without_chain (Some k) ks)
    where
      by_test : (test : Bool) → nat_eq k c ≡ test → (IsIn t p (Some k) → Chain s (next_of (s k)) ks → Chain t (next_of (t k)) (without c ks))
          → Chain t (behind t p o) (if test then ks else k ∷ without c ks)
      by_test true same later =
          let here : k ≡ c = eq_true k c same in
          let was = in_before p o at in
          let place : o ≡ previous_of (s c) = sym (linked.back p o was) ∙ ap (ahead s p) (is ∙ ap Some here) in
          let P : Option ℕ → Type 0 = λ n. Chain t n ks in
          let Q : ℕ → Type 0 = λ j. Chain s (next_of (s j)) ks in
          subst P (sym (ap (behind t p) place ∙ parts.behind_it)) (behind_chain ks (subst Q here rest))
      by_test false apart later =
          let other : Some k ≢ Some c = λ same. eq_false k c apart (same_Some k c same) in
          let was = in_before p o at in
          let P : Option ℕ → Type 0 = λ n. IsIn s p n in (
            parts.same_behind p o at (λ _ place. other (sym is ∙ ap (behind s p) place ∙ linked.forth p (Some c) inside)) ∙ is,
            later (in_after p (Some k) other (subst P is (linked.on p o was))) rest,
          )

  -- the box is no child any more
  pub children_parted : (ks : List ℕ) → Chain s (first_of (s p)) ks → Chain t (first_of (t p)) (without c ks)
  children_parted ks chain = without_chain None ks tt chain

  parted_children : (r : ℕ) → Children t r
  parted_children r = elim (cases_eq r p) [
    | inl ring ↦ let P : ℕ → Type 0 = λ q. Children t q in subst P (sym ring) (let all = linked.children p in record {
      list = without c all.list;
      chain = children_parted all.list all.chain;
      whole = λ k at. without_keeps c all.list k (λ same. gone p (Some k) at (ap Some same)) (all.whole k (in_before p (Some k) at));
    })
    | inr other_ring ↦ (let all = linked.children r in record {
      list = all.list;
      chain = other_children r other_ring all.list all.chain;
      whole = λ k at. all.whole k (in_before r (Some k) at);
    })
  ]

  pub climbs_before : (n : ℕ) (from : Option ℕ) (k : ℕ) → Climbs n t from k → Climbs n s from k
  climbs_before zero from k is = is
  climbs_before (suc n) from k (q, is, rest) = elim (cases_eq q c) [
    | inl same ↦
        let P : ℕ → Type 0 = λ j. Climbs n t (parent_of (t j)) k in
        let Q : Option ℕ → Type 0 = λ o. Climbs n t o k in
        absurd (nowhere n (subst Q parts.parted (subst P same rest)))
    | inr apart ↦
        let P : Option ℕ → Type 0 = λ o. Climbs n t o k in
        (q, is, climbs_before n (parent_of (s q)) k (subst P (parts.parents q apart) rest))
  ]
    where
      nowhere : (m : ℕ) → Climbs m t None k → ⊥
      nowhere zero at = none-some k at
      nowhere (suc m) (j, at, more) = none-some j at

  pub linked_parted : IsLinked t
  linked_parted = record {
    live = λ k r at. parts.live r (linked.live k r (in_before r (Some k) at));
    acyclic = λ k n climbs. linked.acyclic k n (climbs_before (suc n) (Some k) k climbs);
    on = parted_on;
    off = parted_off;
    back = parted_back;
    forth = parted_forth;
    alone = λ k none. elim (cases_eq k c) [
      | inl same ↦ (ap (λ j. next_of (t j)) same ∙ parts.next, ap (λ j. previous_of (t j)) same ∙ parts.previous)
      | inr apart ↦
          let was : parent_of (s k) ≡ None = sym (parts.parents k apart) ∙ none in
          let stray = parts.strays k apart was in
          let alone = linked.alone k was in
          (stray.0 ∙ alone.0, stray.1 ∙ alone.1)
    ];
    children = parted_children;
  }
