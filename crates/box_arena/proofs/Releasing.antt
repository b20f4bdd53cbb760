-- A box is freed with all inside it.
use Rattle.std.proofs.Common.{◌≡◌, ◌∙◌, ◌≢◌, ◌⊎◌, ℕ, zero, suc, ◌+◌, false, List, [], ◌∷◌, Option, Some, None, option_map, IsSome, refl, sym, ap, subst, arith, inl, inr}
use Rattle.std.proofs.lemmas.Bool.{cases_eq}
use Rattle.std.proofs.lemmas.Option.{none-some, same_Some}
use Rattle.slab.specs.Slab.{Slab, ContainsKey, get}
use Rattle.box_arena.specs.declared.entry.Entry.{Entry}
use Rattle.box_arena.specs.declared.entry.Links.{Links}
use Rattle.box_arena.specs.At.{IsAbove, IsSound, first_at, links_at, mark_at, parent_at}
use Rattle.box_arena.specs.Arena.{IsSame, Releases}
use Rattle.box_arena.specs.Weight.{links_weight, weight}
use Rattle.box_arena.specs.Joining.{Joins, Parts}
use Rattle.box_arena.specs.Links.{Linking, Chain, Climbs, Has, IsIn, IsLinked, Reaches, ahead, parent_of, first_of, last_of, previous_of, next_of}
use Rattle.box_arena.specs.Marks.{is_seen}
use Rattle.box_arena.specs.Free.{Lessens, Removes, Steps}
use Rattle.box_arena.specs.Write.{OnlyLinks}
use Rattle.box_arena.proofs.Alike.{Alike, climbs_alike, linked_alike}
use Rattle.box_arena.proofs.Climbs.{linked_where, reaches_itself}
use Rattle.box_arena.proofs.Joined.{climbs_before, linked_joined, linked_parted}
use Rattle.box_arena.proofs.LinkSteps.{has_links, still_lives}

-- ---- links

-- a box without a first child has no child
pub childless : (s : Linking) → IsLinked s → (x : ℕ) → first_of (s x) ≡ None → (k : ℕ) → parent_of (s k) ≡ Some x → ⊥
childless s linked x bare k at =
    let all = linked.children x in
    none all.list all.chain (all.whole k at)
  where
    none : (ks : List ℕ) → Chain s (first_of (s x)) ks → Has ks k → ⊥
    none [] chain has = has
    none (j ∷ js) (is, rest) has = none-some j (sym bare ∙ is)

-- a box that has no parent and no children is taken away
module _ (s t : Linking) (x : ℕ) (linked : IsLinked s) (free : parent_of (s x) ≡ None) (bare : first_of (s x) ≡ None) (here : t x ≡ None)
    (others : (k : ℕ) → k ≢ x → t k ≡ s k) where
  no_last : last_of (s x) ≡ None
  no_last = ap (ahead s x) (sym bare) ∙ linked.back x None tt

  same_part : (f : Option Links → Option ℕ) → f None ≡ None → f (s x) ≡ None → (k : ℕ) → f (t k) ≡ f (s k)
  same_part f nothing was k = elim (cases_eq k x) [
    | inl same ↦ ap (λ j. f (t j)) same ∙ ap f here ∙ nothing ∙ sym was ∙ ap (λ j. f (s j)) (sym same)
    | inr apart ↦ ap f (others k apart)
  ]

  pub removed_alike : Alike s t
  removed_alike = record {
    parents = same_part parent_of refl free;
    firsts = same_part first_of refl bare;
    lasts = same_part last_of refl no_last;
    previous = same_part previous_of refl (linked.alone x free).1;
    nexts = same_part next_of refl (linked.alone x free).0;
  }

  pub linked_removed : IsLinked t
  linked_removed = linked_alike s t removed_alike (λ p k at.
      let P : Option Links → Type 0 = λ o. IsSome o in
      let other : p ≢ x = λ same. childless s linked x bare k (at ∙ ap Some same) in
      subst P (sym (others p other)) (linked.live k p at)) linked

-- a climb that ends at the root is there, or comes by a child of the root
pub last_step : (s : Linking) (n : ℕ) (from : Option ℕ) (root : ℕ) → Climbs n s from root → (from ≡ Some root) ⊎ ((c : ℕ) × (parent_of (s c) ≡ Some root))
last_step s zero from root is = inl is
last_step s (suc n) from root (q, is, rest) = elim (last_step s n (parent_of (s q)) root rest) [
  | inl at ↦ inr (q, at)
  | inr found ↦ inr found
]

-- where one box alone has another parent, which is the root, all that stood inside the root does
lifted : (s t : Linking) (x root : ℕ) → ((k : ℕ) → k ≢ x → parent_of (t k) ≡ parent_of (s k)) → parent_of (t x) ≡ Some root
    → (n : ℕ) (from : Option ℕ) → Climbs n s from root → (m : ℕ) × Climbs m t from root
lifted s t x root same up zero from is = (zero, is)
lifted s t x root same up (suc n) from (q, is, rest) = elim (cases_eq q x) [
  | inl at ↦ (suc zero, (q, is, ap (λ j. parent_of (t j)) at ∙ up))
  | inr apart ↦
      let (m, climbs) = lifted s t x root same up n (parent_of (s q)) rest in
      let P : Option ℕ → Type 0 = λ o. Climbs m t o root in
      (suc m, (q, is, subst P (sym (same q apart)) climbs))
]

-- and nothing else does, if that box did
lowered : (s t : Linking) (x root : ℕ) → ((k : ℕ) → k ≢ x → parent_of (t k) ≡ parent_of (s k)) → Reaches s root x
    → (n : ℕ) (from : Option ℕ) → Climbs n t from root → (m : ℕ) × Climbs m s from root
lowered s t x root same below zero from is = (zero, is)
lowered s t x root same below (suc n) from (q, is, rest) = elim (cases_eq q x) [
  | inl at ↦ (below.0, let P : Option ℕ → Type 0 = λ o. Climbs below.0 s o root in subst P (sym (is ∙ ap Some at)) below.1)
  | inr apart ↦
      let P : Option ℕ → Type 0 = λ o. Climbs n t o root in
      let (m, climbs) = lowered s t x root same below n (parent_of (s q)) (subst P (same q apart) rest) in
      (suc m, (q, is, climbs))
]

-- a climb from elsewhere doesn't come by a box with nothing inside
past_leaf : (s t : Linking) (x root : ℕ) → ((k : ℕ) → parent_of (s k) ≡ Some x → ⊥) → ((k : ℕ) → k ≢ x → parent_of (t k) ≡ parent_of (s k))
    → (n : ℕ) (from : Option ℕ) → from ≢ Some x → Climbs n s from root → Climbs n t from root
past_leaf s t x root bare same zero from apart is = is
past_leaf s t x root bare same (suc n) from apart (q, is, rest) =
    let other : q ≢ x = λ at. apart (is ∙ ap Some at) in
    let P : Option ℕ → Type 0 = λ o. Climbs n t o root in
    (q, is, subst P (sym (same q other)) (past_leaf s t x root bare same n (parent_of (s q)) (λ at. bare q at) rest))

-- ---- steps

module _ {T : Type 0} where
  -- what a function sees of a box that stays
  same_at : (old new : Slab (Entry T)) (k : ℕ) → get new k ≡ get old k → IsSame old.slots new.slots k
  same_at old new k same = record {
    links = ap (option_map (λ (e : Entry T). e.links)) same;
    mark = ap (option_map (λ (e : Entry T). e.mark)) same;
    held = ap (option_map (λ (e : Entry T). e.held)) same;
  }

  -- the first child of a box stands in it
  pub first_inside : (boxes : Slab (Entry T)) (p c : ℕ) → IsSound boxes.slots → first_at boxes.slots p ≡ Some c → parent_at boxes.slots c ≡ Some p
  first_inside boxes p c sound is =
      let P : Option ℕ → Type 0 = λ o. IsIn (links_at boxes.slots) p o in
      subst P is (sound.linked.on p None tt)

  gone_links : (boxes : Slab (Entry T)) (k : ℕ) → get boxes k ≡ None → links_at boxes.slots k ≡ None
  gone_links boxes k is = ap (option_map (λ (e : Entry T). e.links)) is

  lives_of : (old new : Slab (Entry T)) → OnlyLinks old new → (k : ℕ) → ContainsKey new k → ContainsKey old k
  lives_of old new only k live = from_held (get old k) (get new k) (only.held k) live
    where
      from_held : (o n : Option (Entry T)) → option_map (λ entry. entry.held) n ≡ option_map (λ entry. entry.held) o → IsSome n → IsSome o
      from_held None None same live = live
      from_held None (Some n) same live = absurd (cc)
      from_held (Some o) n same live = refl

  module _ (old mid new : Slab (Entry T)) (root child inner : ℕ) (live : ContainsKey old root) (sound : IsSound old.slots) (free : parent_at old.slots root ≡ None)
      (in_root : parent_at old.slots child ≡ Some root) (in_child : parent_at old.slots inner ≡ Some child)
      (parts : Parts (links_at old.slots) (links_at mid.slots) child inner) (first : OnlyLinks old mid) where
    child_other : child ≢ inner
    child_other same =
        let P : ℕ → Type 0 = λ j. Climbs 1 (links_at old.slots) (Some child) j in
        sound.linked.acyclic child zero (child, refl, ap (λ j. parent_at old.slots j) same ∙ in_child)

    root_other : root ≢ inner
    root_other same = none-some child (sym free ∙ ap (λ j. parent_at old.slots j) same ∙ in_child)

    pub mid_linked : IsLinked (links_at mid.slots)
    mid_linked = linked_parted (links_at old.slots) (links_at mid.slots) child inner sound.linked in_child parts

    pub mid_child : parent_at mid.slots child ≡ Some root
    mid_child = parts.parents child child_other ∙ in_root

    pub mid_live : (k : ℕ) → ContainsKey old k → ContainsKey mid k
    mid_live = still_lives old mid parts.live

    mid_root : parent_at mid.slots root ≡ None
    mid_root = parts.parents root root_other ∙ free

    not_above : Reaches (links_at mid.slots) inner root → ⊥
    not_above (zero, is) = root_other (same_Some root inner is)
    not_above (suc n, (q, is, rest)) =
        let P : Option ℕ → Type 0 = λ o. Climbs n (links_at mid.slots) o inner in
        nowhere n (subst P (ap (λ j. parent_at mid.slots j) (sym (same_Some root q is)) ∙ mid_root) rest)
      where
        nowhere : (m : ℕ) → Climbs m (links_at mid.slots) None inner → ⊥
        nowhere zero at = none-some inner at
        nowhere (suc m) (j, at, more) = none-some j at

    module _ (joins : Joins (links_at mid.slots) (links_at new.slots) root (Some child) inner) (only : OnlyLinks mid new)
        (lighter : weight root new.slots + 1 ≡ weight root mid.slots) (same : root ≢ child → weight root mid.slots ≡ weight root old.slots) where
      parents : (k : ℕ) → k ≢ inner → parent_at new.slots k ≡ parent_at old.slots k
      parents k apart = joins.parents k apart ∙ parts.parents k apart

      inner_in : Reaches (links_at old.slots) root inner
      inner_in = (suc (suc zero), (inner, refl, (child, in_child, in_root)))

      child_in : Reaches (links_at old.slots) root child
      child_in = (suc zero, (child, refl, in_root))

      child_of : (k : ℕ) (p : ℕ) → parent_at old.slots k ≡ Some p → Reaches (links_at old.slots) root p → Reaches (links_at old.slots) root k
      child_of k p at (n, up) = (suc n, (k, refl, let P : Option ℕ → Type 0 = λ o. Climbs n (links_at old.slots) o root in subst P (sym at) up))

      outside : (k : ℕ) → (IsAbove old.slots root k → ⊥) → links_at new.slots k ≡ links_at old.slots k
      outside k out =
          let not_inner : k ≢ inner = λ is. out (let P : ℕ → Type 0 = λ j. Reaches (links_at old.slots) root j in subst P (sym is) inner_in) in
          let not_child : k ≢ child = λ is. out (let P : ℕ → Type 0 = λ j. Reaches (links_at old.slots) root j in subst P (sym is) child_in) in
          let not_root : k ≢ root = λ is. out (let P : ℕ → Type 0 = λ j. Reaches (links_at old.slots) root j in subst P (sym is) (reaches_itself (links_at old.slots) root)) in
          let first_same : links_at mid.slots k ≡ links_at old.slots k = parts.untouched k not_inner not_child (λ at. out (child_of k child at child_in)) in
          joins.untouched k not_inner not_root (λ at. out (child_of k root (sym (ap parent_of first_same) ∙ at) (reaches_itself (links_at old.slots) root))) ∙ first_same

      pub lift_steps : Steps old new root
      lift_steps = record {
        lessens = record {
          sound = record {
            linked = linked_joined (links_at mid.slots) (links_at new.slots) root inner (Some child) mid_linked parts.parted mid_child joins
                (joins.live root (parts.live root (linked_where old root live))) not_above;
            still = λ k. ap is_seen (only.marks k ∙ first.marks k) ∙ sound.still k;
          };
          live_root = still_lives mid new joins.live root (mid_live root live);
          free_root = parents root root_other ∙ free;
          live = λ k lives. lives_of old mid first k (lives_of mid new only k lives);
          reach = λ k lives above. lifted (links_at old.slots) (links_at new.slots) inner root parents joins.joined above.0 (Some k) above.1;
          within = λ k above. lowered (links_at old.slots) (links_at new.slots) inner root parents inner_in above.0 (Some k) above.1;
          others = λ k out. record {
            links = outside k out;
            mark = only.marks k ∙ first.marks k;
            held = only.held k ∙ first.held k;
          };
          room = λ n fits. only.room n (first.room n fits);
        };
        fewer =
            let other : root ≢ child = λ is. none-some root (sym free ∙ ap (λ j. parent_at old.slots j) is ∙ in_root) in
            let before = same other in
            omega (arith, lighter, before);
      }

  module _ (old mid new : Slab (Entry T)) (root child : ℕ) (live : ContainsKey old root) (sound : IsSound old.slots) (free : parent_at old.slots root ≡ None)
      (in_root : parent_at old.slots child ≡ Some root) (leaf : first_at old.slots child ≡ None)
      (parts : Parts (links_at old.slots) (links_at mid.slots) root child) (first : OnlyLinks old mid) (heavier : weight root mid.slots ≡ weight root old.slots + 1)
      (removes : Removes mid new child) where
    other : root ≢ child
    other same = none-some root (sym free ∙ ap (λ j. parent_at old.slots j) same ∙ in_root)

    links_others : (k : ℕ) → k ≢ child → links_at new.slots k ≡ links_at mid.slots k
    links_others k apart = ap (option_map (λ (e : Entry T). e.links)) (removes.others k apart)

    linked_mid : IsLinked (links_at mid.slots)
    linked_mid = linked_parted (links_at old.slots) (links_at mid.slots) root child sound.linked in_root parts

    bare_mid : first_at mid.slots child ≡ None
    bare_mid = parts.same_behind child None tt (λ ring _. other (sym ring)) ∙ leaf

    alike : Alike (links_at mid.slots) (links_at new.slots)
    alike = removed_alike (links_at mid.slots) (links_at new.slots) child linked_mid parts.parted bare_mid (gone_links new child removes.here) links_others

    leaf_parents : (k : ℕ) → k ≢ child → parent_at new.slots k ≡ parent_at old.slots k
    leaf_parents k apart = ap parent_of (links_others k apart) ∙ parts.parents k apart

    leaf_in : Reaches (links_at old.slots) root child
    leaf_in = (suc zero, (child, refl, in_root))

    not_leaf : (k : ℕ) → ContainsKey new k → k ≢ child
    not_leaf k lives same =
        let P : Option (Entry T) → Type 0 = λ o. IsSome o in
        let dead : IsSome {T = Entry T} None = subst P (ap (get new) same ∙ removes.here) lives in
        absurd (cc)

    leaf_outside : (k : ℕ) → (IsAbove old.slots root k → ⊥) → IsSame old.slots new.slots k
    leaf_outside k out =
        let not_child : k ≢ child = λ is. out (let P : ℕ → Type 0 = λ j. Reaches (links_at old.slots) root j in subst P (sym is) leaf_in) in
        let not_root : k ≢ root = λ is. out (let P : ℕ → Type 0 = λ j. Reaches (links_at old.slots) root j in subst P (sym is) (reaches_itself (links_at old.slots) root)) in
        let after = same_at mid new k (removes.others k not_child) in
        record {
          links = after.links ∙ parts.untouched k not_child not_root (λ at. out (suc zero, (k, refl, at)));
          mark = after.mark ∙ first.marks k;
          held = after.held ∙ first.held k;
        }

    -- what was taken from among others weighs two
    weighs : (o : Option Links) → IsSome o → parent_of o ≡ None → links_weight root o ≡ 2
    weighs None lives none = absurd (cc)
    weighs (Some links) lives none = ap (λ p. links_weight root (Some (record links { parent = p }))) none

    child_lives : IsSome (links_at mid.slots child)
    child_lives = parts.live child (linked_where old child (has_links old root child (Some child) in_root refl))

    pub leaf_steps : Steps old new root
    leaf_steps = record {
      lessens = record {
        sound = record {
          linked = linked_removed (links_at mid.slots) (links_at new.slots) child linked_mid parts.parted bare_mid (gone_links new child removes.here) links_others;
          still = λ k. still_at k (cases_eq k child);
        };
        live_root = let P : Option (Entry T) → Type 0 = λ o. IsSome o in subst P (sym (removes.others root other)) (still_lives old mid parts.live root live);
        free_root = leaf_parents root other ∙ free;
        live = λ k lives.
            let P : Option (Entry T) → Type 0 = λ o. IsSome o in
            lives_of old mid first k (subst P (removes.others k (not_leaf k lives)) lives);
        reach = λ k lives above. (
          above.0,
          past_leaf (links_at old.slots) (links_at new.slots) child root (childless (links_at old.slots) sound.linked child leaf) leaf_parents above.0 (Some k) (λ is. not_leaf k lives (same_Some k child is)) above.1,
        );
        within = λ k above. (
          above.0,
          climbs_before (links_at old.slots) (links_at mid.slots) root child sound.linked in_root parts above.0 (Some k) root
              (climbs_alike (links_at mid.slots) (links_at new.slots) alike above.0 (Some k) root above.1),
        );
        others = leaf_outside;
        room = λ n fits. let more = removes.room n (first.room n fits) in omega (arith, more);
      };
      fewer =
          let two = weighs (links_at mid.slots child) child_lives parts.parted in
          let sums = removes.weights root in
          omega (arith, two, sums, heavier);
    }
      where
        still_at : (k : ℕ) → (k ≡ child) ⊎ (k ≡ child → ⊥) → is_seen (mark_at new.slots k) ≡ false
        still_at k (inl same) = ap (λ j. is_seen (mark_at new.slots j)) same ∙ ap (λ (o : Option (Entry T)). is_seen (option_map (λ entry. entry.mark) o)) removes.here
        still_at k (inr apart) = ap is_seen (ap (option_map (λ (e : Entry T). e.mark)) (removes.others k apart) ∙ first.marks k) ∙ sound.still k

  -- ---- all steps

  pub lessens_first : (boxes : Slab (Entry T)) (root : ℕ) → ContainsKey boxes root → IsSound boxes.slots → parent_at boxes.slots root ≡ None → Lessens boxes boxes root
  lessens_first boxes root live sound free = record {
    sound = sound;
    live_root = live;
    free_root = free;
    live = λ k lives. lives;
    reach = λ k lives above. above;
    within = λ k above. above;
    others = λ k out. record { links = refl; mark = refl; held = refl };
    room = λ n fits. fits;
  }

  pub lessens_more : (old now new : Slab (Entry T)) (root : ℕ) → Lessens old now root → Lessens now new root → Lessens old new root
  lessens_more old now new root before more = record {
    sound = more.sound;
    live_root = more.live_root;
    free_root = more.free_root;
    live = λ k lives. before.live k (more.live k lives);
    reach = λ k lives above. more.reach k lives (before.reach k (more.live k lives) above);
    within = λ k above. before.within k (more.within k above);
    others = λ k out.
        let one = before.others k out in
        let two = more.others k (λ above. out (before.within k above)) in
        record { links = two.links ∙ one.links; mark = two.mark ∙ one.mark; held = two.held ∙ one.held };
    room = λ n fits. more.room n (before.room n fits);
  }

  module _ (old now new : Slab (Entry T)) (root : ℕ) (lessens : Lessens old now root) (bare : first_at now.slots root ≡ None) (removes : Removes now new root) where
    root_links : (k : ℕ) → k ≢ root → links_at new.slots k ≡ links_at now.slots k
    root_links k apart = ap (option_map (λ (e : Entry T). e.links)) (removes.others k apart)

    -- nothing that lives stands inside the root any more
    alone_left : (k : ℕ) → IsAbove old.slots root k → ContainsKey now k → k ≡ root
    alone_left k above lives =
        let (n, climbs) = lessens.reach k lives above in
        elim (last_step (links_at now.slots) n (Some k) root climbs) [
          | inl is ↦ same_Some k root is
          | inr found ↦ absurd (childless (links_at now.slots) lessens.sound.linked root bare found.0 found.1)
        ]

    freed : (k : ℕ) → IsAbove old.slots root k → get new k ≡ None
    freed k above = elim (cases_eq k root) [
      | inl same ↦ ap (get new) same ∙ removes.here
      | inr apart ↦ removes.others k apart ∙ dead (get now k) (λ lives. apart (alone_left k above lives))
    ]
      where
        dead : (o : Option (Entry T)) → (IsSome o → ⊥) → o ≡ None
        dead None none = refl
        dead (Some e) none = absurd (none refl)

    pub releases : Releases old new root
    releases = record {
      freed = freed;
      others = λ k out.
          let apart : k ≢ root = λ is. out (let P : ℕ → Type 0 = λ j. Reaches (links_at old.slots) root j in subst P (sym is) (reaches_itself (links_at old.slots) root)) in
          let one = lessens.others k out in
          let two = same_at now new k (removes.others k apart) in
          record { links = two.links ∙ one.links; mark = two.mark ∙ one.mark; held = two.held ∙ one.held };
      live = λ k out was.
          let apart : k ≢ root = λ is. out (let P : ℕ → Type 0 = λ j. Reaches (links_at old.slots) root j in subst P (sym is) (reaches_itself (links_at old.slots) root)) in
          let P : Option (Entry T) → Type 0 = λ o. IsSome o in
          subst P (sym (removes.others k apart)) (alive_in (get now k) ((lessens.others k out).links) (linked_where old k was));
      room = λ n fits. removes.room n (lessens.room n fits);
    }
      where
        alive_in : {o : Option Links} (e : Option (Entry T)) → option_map (λ entry. entry.links) e ≡ o → IsSome o → IsSome e
        alive_in {o} None is was = let P : Option Links → Type 0 = λ l. IsSome l in absurd (none_is_none (subst P (sym is) was))
          where
            none_is_none : IsSome {T = Links} None → ⊥
            none_is_none some = absurd (cc)
        alive_in {o} (Some e) is was = refl

    pub sound_released : IsSound new.slots
    sound_released = record {
      linked = linked_removed (links_at now.slots) (links_at new.slots) root lessens.sound.linked lessens.free_root bare (gone_links new root removes.here) root_links;
      still = λ k. still_at k (cases_eq k root);
    }
      where
        still_at : (k : ℕ) → (k ≡ root) ⊎ (k ≡ root → ⊥) → is_seen (mark_at new.slots k) ≡ false
        still_at k (inl same) = ap (λ j. is_seen (mark_at new.slots j)) same ∙ ap (λ (o : Option (Entry T)). is_seen (option_map (λ entry. entry.mark) o)) removes.here
        still_at k (inr apart) = ap is_seen (ap (option_map (λ (e : Entry T). e.mark)) (removes.others k apart)) ∙ lessens.sound.still k
