-- What is handed from an arena to another: step after step.
use Rattle.std.proofs.Common.{◌≡◌, ◌∙◌, ℕ, Bool, true, false, Option, Some, None, option_map, option_and_then, IsSome, refl, sym, ap, subst, inl, inr}
use Rattle.std.specs.Prelude.{◌⊎◌, IfSome, if◌then◌else◌, nat_eq}
use Rattle.std.proofs.lemmas.Bool.{cases_eq}
use Rattle.std.proofs.lemmas.Option.{same_Some}
use Rattle.slab.specs.Slab.{Slab, get, ContainsKey}
use Rattle.fragment_types.specs.declared.constraint.Constraint.{Constraint}
use Rattle.fragment_types.specs.Fragment.{Pieces}
use Rattle.box_gen.specs.Tree.{Boxes, none, box}
use Rattle.box_arena.specs.declared.entry.Entry.{Entry}
use Rattle.box_arena.specs.declared.reusing.Stood.{Stood}
use Rattle.box_arena.specs.declared.reusing.Stood.TheVariants.{At, Elsewhere}
use Rattle.box_arena.specs.At.{Node, Slots, first_at, kept_at, links_at, next_at, node_at, parent_at, text_at}
use Rattle.box_arena.specs.Arena.{PutsResults, SameLinks, SameNodes}
use Rattle.box_arena.specs.Boxes.{StandFrom, Stands}
use Rattle.box_arena.specs.Links.{IsLinked, first_of, next_of, parent_of}
use Rattle.box_arena.specs.Reusing.{AreAround, Gives, IsResultFrom, IsTextFrom, IsTree, Reuses, StoodFrom, StoodInside, StoodUnder, TellsInside, TellsRow, around_at, stood_behind}
use Rattle.box_arena.proofs.Chains.{eq_true}

module _ {T : Type 0} where
  -- what stands in a box stands in one that lives
  pub parent_lives : (boxes : Slab (Entry T)) (key parent : ℕ) (entry : Entry T) → IsLinked (links_at boxes.slots) → get boxes key ≡ Some entry → entry.links.parent ≡ Some parent → ContainsKey boxes parent
  parent_lives boxes key parent entry linked is inside = by (get boxes parent) (linked.live key parent (ap (λ (o : Option (Entry T)). parent_of (option_map (λ e. e.links) o)) is ∙ inside))
    where
      by : (o : Option (Entry T)) → IsSome (option_map (λ e. e.links) o) → IsSome o
      by None live = absurd (cc)
      by (Some e) live = refl

  -- ---- the same boxes stand

  module _ (old new : Slots T) (links : SameLinks old new) (nodes : SameNodes old new) where
    -- the boxes that stand after stood before
    pub stand_before : (from : Option ℕ) (boxes : Boxes) → StandFrom new from boxes → StandFrom old from boxes
    stand_before from none is = is
    stand_before from (box name style content inner next) (key, at, is, inside, behind) =
        let P : Option ℕ → Type 0 = λ o. StandFrom new o inner in
        let Q : Option ℕ → Type 0 = λ o. StandFrom new o next in
        (key, at, sym (nodes key) ∙ is, stand_before (first_at old key) inner (subst P (ap first_of (links key)) inside), stand_before (next_at old key) next (subst Q (ap next_of (links key)) behind))

    pub stood : (key : ℕ) (tree : Boxes) → Stands new key tree → Stands old key tree
    stood key none is = is
    stood key (box name style content inner next) (is, inside, alone) =
        let P : Option ℕ → Type 0 = λ o. StandFrom new o inner in
        (sym (nodes key) ∙ is, stand_before (first_at old key) inner (subst P (ap first_of (links key)) inside), alone)

  module _ (old new : Slots T) (nodes : SameNodes old new) (links : SameLinks old new) where
    pub same_around : (key : ℕ) → around_at new key ≡ around_at old key
    same_around key = by (parent_at old key) (ap parent_of (links key))
      where
        by : (p : Option ℕ) → parent_at new key ≡ p → option_and_then (node_at new) (parent_at new key) ≡ option_and_then (node_at old) p
        by None is = ap (option_and_then (node_at new)) is
        by (Some p) is = ap (option_and_then (node_at new)) is ∙ nodes p

    -- a box that stands with those inside it still does
    pub still_tree : (key : ℕ) → IsTree old key → IsTree new key
    still_tree key tree = record {
      node = tree.node;
      inner = tree.inner;
      is = nodes key ∙ tree.is;
      inside = let P : Option ℕ → Type 0 = λ o. StandFrom new o tree.inner in subst P (sym (ap first_of (links key))) (stand_before new old (λ k. sym (links k)) (λ k. sym (nodes k)) (first_at old key) tree.inner tree.inside);
    }

  -- ---- nothing, and one thing after the other

  pub gives_none : (boxes : Slab (Entry T)) → Gives boxes boxes
  gives_none boxes = record { results = λ k c result is. is; texts = λ k text is. is; nodes = λ k. refl; links = λ k. refl; live = λ k is. is }

  pub reuses_none : (giver taker : Slab (Entry T)) → Reuses giver giver taker taker
  reuses_none giver taker = record {
    gives = gives_none giver;
    results = λ k c result is. inl is;
    texts = λ k text is. inl is;
    nodes = λ k. refl;
    links = λ k. refl;
    live = λ k is. is;
    room = λ n fits. fits;
  }

  module _ (giver given gone old mid new : Slab (Entry T)) (one : Reuses giver given old mid) (other : Reuses given gone mid new) where
    result_before : (k : ℕ) (c : Constraint) (result : Pieces) → IsResultFrom given.slots mid.slots k c result → IsResultFrom giver.slots old.slots k c result
    result_before k c result is = record {
      from = is.from;
      was = one.gives.results is.from c result is.was;
      tree = λ tree stands. stood giver.slots given.slots one.gives.links one.gives.nodes is.from tree (is.tree tree (stood mid.slots old.slots (λ j. sym (one.links j)) (λ j. sym (one.nodes j)) k tree stands));
      around =
          let P : Option Node → Type 0 = λ o. AreAround o (around_at mid.slots k) in
          let Q : Option Node → Type 0 = λ o. AreAround (around_at giver.slots is.from) o in
          subst Q (same_around old.slots mid.slots one.nodes one.links k) (subst P (same_around giver.slots given.slots one.gives.nodes one.gives.links is.from) is.around);
    }

    text_before : (k : ℕ) (text : T) → IsTextFrom given.slots mid.slots k text → IsTextFrom giver.slots old.slots k text
    text_before k text is = record {
      from = is.from;
      was = one.gives.texts is.from text is.was;
      node = sym (one.gives.nodes is.from) ∙ is.node ∙ one.nodes k;
    }

    result_of : (k : ℕ) (c : Constraint) (result : Pieces) → (kept_at mid.slots k c ≡ Some result) ⊎ IsResultFrom given.slots mid.slots k c result → (kept_at old.slots k c ≡ Some result) ⊎ IsResultFrom giver.slots old.slots k c result
    result_of k c result (inl is) = one.results k c result is
    result_of k c result (inr is) = inr (result_before k c result is)

    text_of : (k : ℕ) (text : T) → (text_at mid.slots k ≡ Some text) ⊎ IsTextFrom given.slots mid.slots k text → (text_at old.slots k ≡ Some text) ⊎ IsTextFrom giver.slots old.slots k text
    text_of k text (inl is) = one.texts k text is
    text_of k text (inr is) = inr (text_before k text is)

    pub reuses_then : Reuses giver gone old new
    reuses_then = record {
      gives = record {
        results = λ k c result is. one.gives.results k c result (other.gives.results k c result is);
        texts = λ k text is. one.gives.texts k text (other.gives.texts k text is);
        nodes = λ k. other.gives.nodes k ∙ one.gives.nodes k;
        links = λ k. other.gives.links k ∙ one.gives.links k;
        live = λ k is. other.gives.live k (one.gives.live k is);
      };
      results = λ k c result is. result_of k c result (other.results k c result is);
      texts = λ k text is. text_of k text (other.texts k text is);
      nodes = λ k. other.nodes k ∙ one.nodes k;
      links = λ k. other.links k ∙ one.links k;
      live = λ k is. other.live k (one.live k is);
      room = λ n fits. other.room n (one.room n fits);
    }

  -- ---- results that are taken

  pub reuses_results : (giver given old new : Slab (Entry T)) (from key : ℕ) → PutsResults giver given from (λ c. None) → PutsResults old new key (kept_at giver.slots from) → StoodUnder giver.slots old.slots from key
      → AreAround (around_at giver.slots from) (around_at old.slots key) → Reuses giver given old new
  reuses_results giver given old new from key gives takes tree around = record {
    gives = record {
      results = λ k c result is. given_less k c result is;
      texts = λ k text is. sym (gives.texts k) ∙ is;
      nodes = gives.nodes;
      links = gives.links;
      live = gives.live;
    };
    results = λ k c result is. taken k c result is;
    texts = λ k text is. inl (sym (takes.texts k) ∙ is);
    nodes = takes.nodes;
    links = takes.links;
    live = takes.live;
    room = takes.room;
  }
    where
      given_less : (k : ℕ) (c : Constraint) (result : Pieces) → kept_at given.slots k c ≡ Some result → kept_at giver.slots k c ≡ Some result
      given_less k c result is = elim (cases_eq k from) [
        | inl at ↦
            let P : ℕ → Type 0 = λ j. kept_at given.slots j c ≡ Some result in
            let gone : None ≡ Some result = sym (gives.here c) ∙ subst P at is in
            absurd (cc)
        | inr apart ↦ sym (gives.elsewhere k apart c) ∙ is
      ]

      taken : (k : ℕ) (c : Constraint) (result : Pieces) → kept_at new.slots k c ≡ Some result → (kept_at old.slots k c ≡ Some result) ⊎ IsResultFrom giver.slots old.slots k c result
      taken k c result is = elim (cases_eq k key) [
        | inl at ↦
            let P : ℕ → Type 0 = λ j. kept_at new.slots j c ≡ Some result in
            let Q : ℕ → Type 0 = λ j. IsResultFrom giver.slots old.slots j c result in
            inr (subst Q (sym at) (record { from = from; was = sym (takes.here c) ∙ subst P at is; tree = tree; around = around }))
        | inr apart ↦ inl (sym (takes.elsewhere k apart c) ∙ is)
      ]

  -- what is taken of a box whose text was taken before
  pub reuses_box : (giver given gone old mid new : Slab (Entry T)) (from key : ℕ) → Reuses giver given old mid → PutsResults given gone from (λ c. None) → PutsResults mid new key (kept_at given.slots from)
      → StoodUnder giver.slots old.slots from key → AreAround (around_at given.slots from) (around_at mid.slots key) → Reuses giver gone old new
  reuses_box giver given gone old mid new from key text gives takes tree around =
      reuses_then _ _ _ _ _ _ text
      (reuses_results given gone mid new from key gives takes (λ t is. stood given.slots giver.slots (λ j. sym (text.gives.links j)) (λ j. sym (text.gives.nodes j)) from t (tree t (stood old.slots mid.slots text.links text.nodes key t is))) around)

  -- ---- rows of boxes

  -- where one box of a row stood so, the boxes behind it tell of the row
  pub row_behind : (old new : Slots T) (from first : Option ℕ) (stood : Stood) (found : Option ℕ) (child : ℕ) → TellsRow old new from first stood (Some child) → IfSome found (λ found. StoodUnder old new found child)
      → TellsRow old new from first (stood_behind old stood found) (next_at new child)
  row_behind old new from first Elsewhere found child tells under = tt
  row_behind old new from first (At None) found child tells under = tt
  row_behind old new from first (At (Some expected)) None child tells under = tt
  row_behind old new from first (At (Some expected)) (Some found) child tells under = by (nat_eq expected found) refl
    where
      row : (expected ≡ found) → StoodFrom old new (next_at old found) (next_at new child) → StoodFrom old new (Some expected) (Some child)
      row same behind none is = absurd (cc)
      row same behind (box name style content inner next) (key, at, is, inside, rest) =
          let P : ℕ → Type 0 = λ j. (node_at new j ≡ Some (record { name = name; style = style; content = content })) × (StandFrom new (first_at new j) inner × StandFrom new (next_at new j) next) in
          let there = subst P (sym (same_Some _ _ at)) (is, (inside, rest)) in
          let stood = under (box name style content inner none) (there.0, there.1.0, refl) in
          (found, ap Some same, stood.0, stood.1, behind next there.1.1)

      by : (b : Bool) → nat_eq expected found ≡ b → TellsRow old new from first (if b then At (next_at old found) else Elsewhere) (next_at new child)
      by true is = λ behind. tells (row (eq_true expected found is) behind)
      by false is = tt

  -- the boxes inside one stood so, where the row has ended in both
  pub row_ends : (old new : Slots T) (from first : Option ℕ) (stood : Stood) (next : Option ℕ) → stood ≡ At None → next ≡ None → TellsRow old new from first stood next → StoodFrom old new from first
  row_ends old new from first stood next at end_ tells =
      let P : Stood → Type 0 = λ s. TellsRow old new from first s next in
      let Q : Option ℕ → Type 0 = λ o. TellsRow old new from first (At None) o in
      (subst Q end_ (subst P at tells)) (λ boxes is. at_end boxes is)
    where
      at_end : (boxes : Boxes) → StandFrom new None boxes → StandFrom old None boxes
      at_end none is = refl
      at_end (box name style content inner next) (key, absent, is, within, behind) = absurd (cc)

  -- a box that stood with the same boxes inside it
  pub tree_stood : (old new : Slots T) (from key : ℕ) → node_at old from ≡ node_at new key → StoodInside old new from key → StoodUnder old new from key
  tree_stood old new from key node inside none is = is
  tree_stood old new from key node inside (box name style content inner next) (is, within, alone) = (node ∙ is, inside inner within, alone)

  -- ---- the boxes inside one, one after the other

  -- those before the next one are done
  pub record Handing (giver given taker taken : Slab (Entry T)) (from : Option ℕ) (key : ℕ) (stood : Stood) (next : Option ℕ) : Type 0 where
    pub reuses : Reuses giver given taker taken
    pub rest : (boxes : Boxes) × StandFrom taker.slots next boxes
    pub tells : TellsInside giver.slots taker.slots from key stood next

  -- the next one stands with those inside it
  pub next_tree : (slots : Slots T) (key : ℕ) → (boxes : Boxes) × StandFrom slots (Some key) boxes → IsTree slots key
  next_tree slots key (none, is) = absurd (cc)
  next_tree slots key (box name style content inner next, (other, at, is, inside, behind)) =
      let P : ℕ → Type 0 = λ j. IsTree slots j in
      subst P (sym (same_Some _ _ at)) (record { node = record { name = name; style = style; content = content }; inner = inner; is = is; inside = inside })

  next_rest : (slots : Slots T) (key : ℕ) → (boxes : Boxes) × StandFrom slots (Some key) boxes → (boxes : Boxes) × StandFrom slots (next_at slots key) boxes
  next_rest slots key (none, is) = absurd (cc)
  next_rest slots key (box name style content inner next, (other, at, is, inside, behind)) =
      let P : ℕ → Type 0 = λ j. StandFrom slots (next_at slots j) next in
      (next, subst P (sym (same_Some _ _ at)) behind)

  -- one box more
  pub handing_next : (giver given gone taker taken got : Slab (Entry T)) (from : Option ℕ) (key : ℕ) (place : Stood) (next found : Option ℕ) (child : ℕ) → Handing giver given taker taken from key place next → next ≡ Some child
      → Reuses given gone taken got → IfSome found (λ found. StoodUnder given.slots taken.slots found child) → Handing giver gone taker got from key (stood_behind gone.slots place found) (next_at taken.slots child)
  handing_next giver given gone taker taken got from key place next found child handing is reuses under =
      let P : Option ℕ → Type 0 = λ o. Handing giver gone taker got from key (stood_behind gone.slots place found) o in
      let Q : Stood → Type 0 = λ s. Handing giver gone taker got from key s (next_at taker.slots child) in
      subst P (sym (ap next_of (handing.reuses.links child))) (subst Q (sym (same_behind place found)) (record {
        reuses = reuses_then _ _ _ _ _ _ handing.reuses reuses;
        rest = next_rest taker.slots child (let R : Option ℕ → Type 0 = λ o. (boxes : Boxes) × StandFrom taker.slots o boxes in subst R is handing.rest);
        tells = on from (let R : Option ℕ → Type 0 = λ o. TellsInside giver.slots taker.slots from key place o in subst R is handing.tells);
      }))
    where
      both : (k : ℕ) → next_at gone.slots k ≡ next_at giver.slots k
      both k = ap next_of (reuses.gives.links k ∙ handing.reuses.gives.links k)

      same_behind : (place : Stood) (found : Option ℕ) → stood_behind gone.slots place found ≡ stood_behind giver.slots place found
      same_behind Elsewhere found = refl
      same_behind (At None) found = refl
      same_behind (At (Some expected)) None = refl
      same_behind (At (Some expected)) (Some found) = ap (λ o. if nat_eq expected found then At o else Elsewhere) (both found)

      was_under : (found : Option ℕ) → IfSome found (λ found. StoodUnder given.slots taken.slots found child) → IfSome found (λ found. StoodUnder giver.slots taker.slots found child)
      was_under None under = under
      was_under (Some found) under = λ tree stands. stood giver.slots given.slots handing.reuses.gives.links handing.reuses.gives.nodes found tree (under tree (stood taken.slots taker.slots (λ j. sym (handing.reuses.links j)) (λ j. sym (handing.reuses.nodes j)) child tree stands))

      on : (from : Option ℕ) → TellsInside giver.slots taker.slots from key place (Some child) → TellsInside giver.slots taker.slots from key (stood_behind giver.slots place found) (next_at taker.slots child)
      on None tells = tells
      on (Some from) tells = row_behind giver.slots taker.slots (first_at giver.slots from) (first_at taker.slots key) place found child tells (was_under found under)

  -- where the row has ended and what stood there too, the boxes inside one stood inside the other
  pub handing_ends : (giver given taker taken : Slab (Entry T)) (from : Option ℕ) (key there : ℕ) (stood : Stood) (next : Option ℕ) → Handing giver given taker taken from key stood next → from ≡ Some there → stood ≡ At None → next ≡ None
      → StoodInside giver.slots taker.slots there key
  handing_ends giver given taker taken from key there stood next handing is at end_ =
      let R : Option ℕ → Type 0 = λ o. TellsInside giver.slots taker.slots o key stood next in
      row_ends giver.slots taker.slots (first_at giver.slots there) (first_at taker.slots key) stood next at end_ (subst R is handing.tells)

  -- it still does
  pub inside_still : (giver given taker taken : Slab (Entry T)) (from key : ℕ) → Reuses giver given taker taken → StoodInside giver.slots taker.slots from key → StoodInside given.slots taken.slots from key
  inside_still giver given taker taken from key reuses inside = λ boxes is.
      let P : Option ℕ → Type 0 = λ o. StandFrom taken.slots o boxes in
      let Q : Option ℕ → Type 0 = λ o. StandFrom given.slots o boxes in
      subst Q (sym (ap first_of (reuses.gives.links from)))
      (stand_before given.slots giver.slots (λ j. sym (reuses.gives.links j)) (λ j. sym (reuses.gives.nodes j)) (first_at giver.slots from) boxes
      (inside boxes (stand_before taker.slots taken.slots reuses.links reuses.nodes (first_at taker.slots key) boxes (subst P (ap first_of (reuses.links key)) is))))

  -- the next one stands as it stood
  pub child_tree : (giver given taker taken : Slab (Entry T)) (from : Option ℕ) (key child : ℕ) (stood : Stood) (next : Option ℕ) → Handing giver given taker taken from key stood next → next ≡ Some child → IsTree taken.slots child
  child_tree giver given taker taken from key child stood next handing is =
      let R : Option ℕ → Type 0 = λ o. (boxes : Boxes) × StandFrom taker.slots o boxes in
      still_tree taker.slots taken.slots handing.reuses.nodes handing.reuses.links child (next_tree taker.slots child (subst R is handing.rest))
