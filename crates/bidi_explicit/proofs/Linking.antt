-- What one more place does to the links.
use Rattle.std.proofs.Common.{◌≡◌, ◌∙◌, sym, refl, ap, subst, ℕ, ◌+◌, ◌<◌, ◌≤◌, Bool, true, false, ◌||◌, cond, eqb, List, [], ◌∷◌, length, get_or, set, Option, Some, None, inl, inr, arith}
use Rattle.std.specs.Prelude.{IfSome}
use Rattle.std.proofs.lemmas.Bool.{eq-eqb, ne_eqb, eqb-true, cases_eq, cases_order}
use Rattle.std.proofs.lemmas.List.{get_or-set_same, get_or-set_other, length-set}
use Rattle.bidi_explicit.specs.declared.links.Link.{Link}
use Rattle.bidi_explicit.specs.Sequences.{joined, beginning_with, others_than}
use Rattle.bidi_explicit.specs.Links.{no_link, next_at, begins_at, behind_at, freed, linked, skipped, is_first, Follows, AreChains, Hold}

-- other links that lead the same way from i on
pub record LeadAlike (links links' : List Link) (i : ℕ) : Type 0 where
  pub next : (j : ℕ) → i ≤ j → next_at links' j ≡ next_at links j
  pub length : length links' ≡ length links

module _ (links links' : List Link) (i : ℕ) (alike : LeadAlike links links' i) where
  follows_alike : (places : List ℕ) (p : ℕ) → i ≤ p → Follows links p places → Follows links' p places
  follows_alike [] p l f = (rw alike.length f.0, alike.next p l ∙ f.1)
  follows_alike (q ∷ places) p l f = let rise : p < q = f.2 in (rw alike.length f.0, alike.next p l ∙ f.1, f.2, follows_alike places q (omega arith) f.3)

  chains_alike : (sequences : List (List ℕ)) (k : ℕ) → i ≤ k → AreChains links k sequences → AreChains links' k sequences
  chains_alike [] k l a = tt
  chains_alike ([] ∷ sequences) k l a = a
  chains_alike ((p ∷ places) ∷ sequences) k l a = let b : k ≤ p = a.0 in (a.0, follows_alike places p (omega arith) a.1, chains_alike sequences (p + 1) (omega arith) a.2)

module _ (links : List Link) where
  pub chains_lower : (sequences : List (List ℕ)) (k i : ℕ) → i ≤ k → AreChains links k sequences → AreChains links i sequences
  chains_lower [] k i l a = tt
  chains_lower ([] ∷ sequences) k i l a = a
  chains_lower ((p ∷ places) ∷ sequences) k i l a = let b : k ≤ p = a.0 in (omega arith, a.1, a.2)

  -- no sequence begins below where they stand
  pub low_is_not_first : (sequences : List (List ℕ)) (k q : ℕ) → q < k → AreChains links k sequences → is_first q sequences ≡ false
  low_is_not_first [] k q l a = refl
  low_is_not_first ([] ∷ sequences) k q l a = absurd a
  low_is_not_first ((p ∷ places) ∷ sequences) k q l a =
      let b : k ≤ p = a.0 in
      let e : eqb p q ≡ false = ne_eqb p q (λ same. omega arith) in
      rw e (low_is_not_first sequences (p + 1) q (omega arith) a.2)

  others_are_chains : (q : ℕ) (sequences : List (List ℕ)) (k : ℕ) → AreChains links k sequences → AreChains links k (others_than q sequences)
  others_are_chains q [] k a = tt
  others_are_chains q ([] ∷ sequences) k a = absurd a
  others_are_chains q ((p ∷ places) ∷ sequences) k a = go (eqb p q)
      (let b : k ≤ p = a.0 in chains_lower sequences (p + 1) k (omega arith) a.2)
      (a.0, a.1, others_are_chains q sequences (p + 1) a.2)
    where
      go : (b : Bool) → AreChains links k sequences → AreChains links k ((p ∷ places) ∷ others_than q sequences) → AreChains links k (cond b sequences ((p ∷ places) ∷ others_than q sequences))
      go true x y = x
      go false x y = y

  -- the one that is taken up leads from its first place
  pub record IsTaken (q k : ℕ) (sequence : List ℕ) : Type 0 where
    pub places : List ℕ
    pub is : sequence ≡ q ∷ places
    pub follows : Follows links q places
    pub above : k ≤ q

  taken : (q : ℕ) (sequences : List (List ℕ)) (k : ℕ) → AreChains links k sequences → is_first q sequences ≡ true → IsTaken q k (beginning_with q sequences)
  taken q [] k a e = absurd (cc)
  taken q ([] ∷ sequences) k a e = absurd a
  taken q ((p ∷ places) ∷ sequences) k a e = go (eqb p q) refl (λ others. taken q sequences (p + 1) a.2 others)
    where
      go : (b : Bool) → eqb p q ≡ b → (is_first q sequences ≡ true → IsTaken q (p + 1) (beginning_with q sequences)) → IsTaken q k (cond (eqb p q) (p ∷ places) (beginning_with q sequences))
      go true same rest =
          let here : p ≡ q = eqb-true p q same in
          let P : ℕ → Type 0 = λ r. Follows links r places in
          let low : k ≤ p = a.0 in
          rw same (record { places = places; is = ap (λ (r : ℕ). r ∷ places) here; follows = subst P here a.1; above = omega arith })
      go false apart rest =
          let t : IsTaken q (p + 1) (beginning_with q sequences) = rest (rw apart at e) in
          let low : k ≤ p = a.0 in
          let high : p + 1 ≤ q = t.above in
          rw apart (record { places = t.places; is = t.is; follows = t.follows; above = omega arith })

  taken_is_gone : (q : ℕ) (sequences : List (List ℕ)) (k : ℕ) → AreChains links k sequences → is_first q (others_than q sequences) ≡ false
  taken_is_gone q [] k a = refl
  taken_is_gone q ([] ∷ sequences) k a = absurd a
  taken_is_gone q ((p ∷ places) ∷ sequences) k a = go (eqb p q) refl (taken_is_gone q sequences (p + 1) a.2)
    where
      go : (b : Bool) → eqb p q ≡ b → is_first q (others_than q sequences) ≡ false → is_first q (cond (eqb p q) sequences ((p ∷ places) ∷ others_than q sequences)) ≡ false
      go true same rest = let here : p ≡ q = eqb-true p q same in rw same (low_is_not_first sequences (p + 1) q (omega arith) a.2)
      go false apart rest = rw apart (rw apart rest)

others_stay : (j q : ℕ) (sequences : List (List ℕ)) → (j ≡ q → ⊥) → is_first j (others_than q sequences) ≡ is_first j sequences
others_stay j q [] n = refl
others_stay j q ([] ∷ sequences) n = others_stay j q sequences n
others_stay j q ((p ∷ places) ∷ sequences) n = go (eqb p q) refl (others_stay j q sequences n)
  where
    go : (b : Bool) → eqb p q ≡ b → is_first j (others_than q sequences) ≡ is_first j sequences → is_first j (cond (eqb p q) sequences ((p ∷ places) ∷ others_than q sequences)) ≡ (eqb p j || is_first j sequences)
    go true same rest =
        let here : p ≡ q = eqb-true p q same in
        let other : eqb p j ≡ false = ne_eqb p j (λ e. n (sym e ∙ here)) in
        rw same (rw other refl)
    go false apart rest = rw apart (ap (λ (b : Bool). eqb p j || b) rest)

-- a place with which none begins takes up nothing
nothing_taken : (q : ℕ) (sequences : List (List ℕ)) → is_first q sequences ≡ false → (beginning_with q sequences ≡ []) × (others_than q sequences ≡ sequences)
nothing_taken q [] e = (refl, refl)
nothing_taken q ([] ∷ sequences) e = let t = nothing_taken q sequences e in (t.0, ap (λ l. [] ∷ l) t.1)
nothing_taken q ((p ∷ places) ∷ sequences) e = go (eqb p q) refl (λ rest. nothing_taken q sequences rest)
  where
    go : (b : Bool) → eqb p q ≡ b → (is_first q sequences ≡ false → (beginning_with q sequences ≡ []) × (others_than q sequences ≡ sequences))
        → (cond (eqb p q) (p ∷ places) (beginning_with q sequences) ≡ []) × (cond (eqb p q) sequences ((p ∷ places) ∷ others_than q sequences) ≡ (p ∷ places) ∷ sequences)
    go true same rest = let bad : true ≡ false = (rw same at e) in absurd (cc)
    go false apart rest = let t = rest (rw apart at e) in rw apart (t.0, ap (λ l. (p ∷ places) ∷ l) t.1)

-- what a link says after a write to this place, and at the others
same_link : (links : List Link) (i : ℕ) (x : Link) → i < length links → get_or (set links i x) i no_link ≡ x
same_link links i x l = get_or-set_same links i x no_link l

other_link : (links : List Link) (i j : ℕ) (x : Link) → (j ≡ i → ⊥) → get_or (set links i x) j no_link ≡ get_or links j no_link
other_link links i j x n = get_or-set_other links i j x no_link n

-- a new list of links that differs from one at i alone
at_first : (links : List Link) (i : ℕ) (x : Link) (firsts firsts' : List (List ℕ)) → i < length links
    → x.begins ≡ is_first i firsts' → ((q : ℕ) → (q ≡ i → ⊥) → i ≤ q → begins_at links q ≡ is_first q firsts) → ((q : ℕ) → (q ≡ i → ⊥) → is_first q firsts' ≡ is_first q firsts)
    → (q : ℕ) → i ≤ q → begins_at (set links i x) q ≡ is_first q firsts'
at_first links i x firsts firsts' inside here there same q low = elim (cases_eq q i) [
  | inl e ↦
      let P : ℕ → Type 0 = λ r. begins_at (set links i x) r ≡ is_first r firsts' in
      subst P (sym e) (ap (λ (k : Link). k.begins) (same_link links i x inside) ∙ here)
  | inr n ↦ ap (λ (k : Link). k.begins) (other_link links i q x n) ∙ there q n low ∙ sym (same q n)
]

leads_alike : (links : List Link) (i : ℕ) (x : Link) → LeadAlike links (set links i x) (i + 1)
leads_alike links i x = record { next = λ j l. ap (λ (k : Link). k.next) (other_link links i j x (λ e. omega arith)); length = length-set links i x }

apart_first : (i q : ℕ) (sequences : List (List ℕ)) → (q ≡ i → ⊥) → is_first q ((i ∷ []) ∷ sequences) ≡ is_first q sequences
apart_first i q sequences n = let e : eqb i q ≡ false = ne_eqb i q (λ same. n (sym same)) in rw e refl

here_first : (i : ℕ) (places : List ℕ) (sequences : List (List ℕ)) → true ≡ is_first i ((i ∷ places) ∷ sequences)
here_first i places sequences = let e : eqb i i ≡ true = eq-eqb i i refl in rw e refl

module _ (links : List Link) (i behind : ℕ) (sequences : List (List ℕ)) (hold : Hold links (i + 1) sequences) (inside : i < length links) where
  above : (q : ℕ) → (q ≡ i → ⊥) → i ≤ q → begins_at links q ≡ is_first q sequences
  above q n l = hold.first q (elim (cases_order q i) [ inl e ↦ absurd (n e) | inr o ↦ elim o [ inl b ↦ omega arith | inr a ↦ omega arith ] ])

  pub hold_skipped : Hold (skipped links i behind) i sequences
  hold_skipped = record {
    chains = chains_lower (skipped links i behind) sequences (i + 1) i (omega arith) (chains_alike links (skipped links i behind) (i + 1) (leads_alike links i _) sequences (i + 1) (omega arith) hold.chains);
    first = at_first links i (record { next = None; begins = false; behind = behind }) sequences sequences inside (sym (low_is_not_first links sequences (i + 1) i (omega arith) hold.chains)) above (λ q n. refl);
  }

  hold_alone : Hold (linked links i None behind) i ((i ∷ []) ∷ sequences)
  hold_alone = record {
    chains = (omega arith, (rw length-set inside, ap (λ (k : Link). k.next) (same_link links i _ inside)), chains_alike links (linked links i None behind) (i + 1) (leads_alike links i _) sequences (i + 1) (omega arith) hold.chains);
    first = at_first links i (record { next = None; begins = true; behind = behind }) sequences ((i ∷ []) ∷ sequences) inside (here_first i [] sequences) above (λ q n. apart_first i q sequences n);
  }

  module _ (q : ℕ) (low : i < q) (within : q < length links) where
    freed_next : (j : ℕ) → next_at (freed links q) j ≡ next_at links j
    freed_next j = elim (cases_eq j q) [
      | inl e ↦ let P : ℕ → Type 0 = λ r. next_at (freed links q) r ≡ next_at links r in subst P (sym e) (ap (λ (k : Link). k.next) (same_link links q _ within))
      | inr n ↦ ap (λ (k : Link). k.next) (other_link links q j _ n)
    ]

    freed_begins : (j : ℕ) → (j ≡ q → ⊥) → begins_at (freed links q) j ≡ begins_at links j
    freed_begins j n = ap (λ (k : Link). k.begins) (other_link links q j _ n)

    freed_here : begins_at (freed links q) q ≡ false
    freed_here = ap (λ (k : Link). k.begins) (same_link links q _ within)

    freed_inside : i < length (freed links q)
    freed_inside = rw length-set inside

    alike : (x : Link) → LeadAlike links (set (freed links q) i x) (i + 1)
    alike x = record { next = λ j l. (leads_alike (freed links q) i x).next j l ∙ freed_next j; length = (leads_alike (freed links q) i x).length ∙ length-set links q _ }

    -- all but the one that begins with q still begin where they did
    freed_above : (j : ℕ) → (j ≡ i → ⊥) → i ≤ j → begins_at (freed links q) j ≡ is_first j (others_than q sequences)
    freed_above j n l = elim (cases_eq j q) [
      | inl e ↦
          let P : ℕ → Type 0 = λ r. begins_at (freed links q) r ≡ is_first r (others_than q sequences) in
          subst P (sym e) (freed_here ∙ sym (taken_is_gone links q sequences (i + 1) hold.chains))
      | inr m ↦ freed_begins j m ∙ above j n l ∙ sym (others_stay j q sequences m)
    ]

    taking : (b : Bool) → begins_at links q ≡ b → Hold (set (freed links q) i (record { next = cond b (Some q) None; begins = true; behind = behind })) i (joined (Some q) (i ∷ []) sequences)
    taking true e = whole (taken links q sequences (i + 1) hold.chains (sym (hold.first q (omega arith)) ∙ e))
      where
        whole : IsTaken links q (i + 1) (beginning_with q sequences) → Hold (set (freed links q) i (record { next = Some q; begins = true; behind = behind })) i ((i ∷ beginning_with q sequences) ∷ others_than q sequences)
        whole t =
            let x : Link = record { next = Some q; begins = true; behind = behind } in
            rw t.is (record {
              chains = (
                omega arith,
                (rw length-set freed_inside, ap (λ (k : Link). k.next) (same_link (freed links q) i x freed_inside), low, follows_alike links (set (freed links q) i x) (i + 1) (alike x) t.places q (omega arith) t.follows),
                chains_alike links (set (freed links q) i x) (i + 1) (alike x) (others_than q sequences) (i + 1) (omega arith) (others_are_chains links q sequences (i + 1) hold.chains),
              );
              first = at_first (freed links q) i x (others_than q sequences) ((i ∷ q ∷ t.places) ∷ others_than q sequences) freed_inside (here_first i (q ∷ t.places) (others_than q sequences)) freed_above
                  (λ j n. let e : eqb i j ≡ false = ne_eqb i j (λ same. n (sym same)) in rw e refl);
            })
    taking false e = none (nothing_taken q sequences (sym (hold.first q (omega arith)) ∙ e))
      where
        none : (beginning_with q sequences ≡ []) × (others_than q sequences ≡ sequences) → Hold (set (freed links q) i (record { next = None; begins = true; behind = behind })) i ((i ∷ beginning_with q sequences) ∷ others_than q sequences)
        none t =
            let x : Link = record { next = None; begins = true; behind = behind } in
            rw t.0 (record {
              chains = (
                omega arith,
                (rw length-set freed_inside, ap (λ (k : Link). k.next) (same_link (freed links q) i x freed_inside)),
                chains_alike links (set (freed links q) i x) (i + 1) (alike x) (others_than q sequences) (i + 1) (omega arith) (others_are_chains links q sequences (i + 1) hold.chains),
              );
              first = at_first (freed links q) i x (others_than q sequences) ((i ∷ []) ∷ others_than q sequences) freed_inside (here_first i [] (others_than q sequences)) freed_above
                  (λ j n. apart_first i j (others_than q sequences) n);
            })

    hold_taking : Hold (linked links i (Some q) behind) i (joined (Some q) (i ∷ []) sequences)
    hold_taking = taking (begins_at links q) refl

  pub hold_linked : (followed : Option ℕ) → IfSome followed (λ q. (i < q) × (q < length links)) → Hold (linked links i followed behind) i (joined followed (i ∷ []) sequences)
  hold_linked None l = hold_alone
  hold_linked (Some q) l = hold_taking q l.0 l.1

module _ (links : List Link) (i behind : ℕ) (inside : i < length links) where
  pub length_linked : (followed : Option ℕ) → length (linked links i followed behind) ≡ length links
  length_linked None = length-set links i _
  length_linked (Some q) = length-set (freed links q) i _ ∙ length-set links q _

  pub behind_here : (followed : Option ℕ) → behind_at (linked links i followed behind) i ≡ behind
  behind_here None = ap (λ (k : Link). k.behind) (same_link links i _ inside)
  behind_here (Some q) = ap (λ (k : Link). k.behind) (same_link (freed links q) i _ (rw length-set inside))

  pub behind_else : (followed : Option ℕ) → IfSome followed (λ q. (i < q) × (q < length links)) → (p : ℕ) → (p ≡ i → ⊥) → behind_at (linked links i followed behind) p ≡ behind_at links p
  behind_else None w p n = ap (λ (k : Link). k.behind) (other_link links i p _ n)
  behind_else (Some q) w p n = ap (λ (k : Link). k.behind) (other_link (freed links q) i p _ n) ∙ elim (cases_eq p q) [
    | inl e ↦ let P : ℕ → Type 0 = λ r. behind_at (freed links q) r ≡ behind_at links r in subst P (sym e) (ap (λ (k : Link). k.behind) (same_link links q _ w.1))
    | inr m ↦ ap (λ (k : Link). k.behind) (other_link links q p _ m)
  ]

  pub skipped_here : behind_at (skipped links i behind) i ≡ behind
  skipped_here = ap (λ (k : Link). k.behind) (same_link links i _ inside)

  pub skipped_else : (p : ℕ) → (p ≡ i → ⊥) → behind_at (skipped links i behind) p ≡ behind_at links p
  skipped_else p n = ap (λ (k : Link). k.behind) (other_link links i p _ n)
