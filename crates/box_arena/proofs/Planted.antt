-- Trees that are planted child by child.
use Rattle.std.proofs.Common.{◌≡◌, ◌∙◌, ◌≢◌, ℕ, zero, suc, ◌+◌, ◌<◌, ◌≤◌, Bool, List, [], ◌∷◌, length, drop, slice_index_or, Option, Some, None, IsSome, option_map, refl, sym, ap, subst, arith, inl, inr}
use Rattle.std.specs.Prelude.{if◌then◌else◌, ⊤}
use Rattle.std.proofs.lemmas.Bool.{cases_eq}
use Rattle.std.proofs.lemmas.List.{drop_all, drop_more}
use Rattle.std.proofs.lemmas.Option.{none-some, same_Some}
use Rattle.slab.specs.Slab.{Slab, get, ContainsKey, HasRoomFor}
use Rattle.fragment_types.specs.declared.constraint.Constraint.{Constraint}
use Rattle.fragment_types.specs.declared.item.BoxName.{BoxName}
use Rattle.style_types.specs.declared.style.Style.{Style}
use Rattle.fragment_types.specs.Fragment.{Pieces}
use Rattle.box_gen.specs.declared.tree.BoxTree.{BoxTree, out-BoxTree}
use Rattle.box_gen.specs.declared.tree.BoxTree.TheFolds.{fold_out-BoxTree}
use Rattle.box_gen.specs.Boxes.{join}
use Rattle.box_gen.specs.Tree.{Boxes, Content, none, box, box_step, boxes_of, all_boxes_of, count}
use Rattle.box_gen.proofs.BoxLines.{before_is, join_assoc, join_none}
use Rattle.box_arena.specs.declared.entry.Entry.{Entry}
use Rattle.box_arena.specs.declared.entry.Links.{Links}
use Rattle.box_arena.specs.At.{HasChildren, IsAbove, Node, Slots, first_at, links_at, next_at, node_at, node_of, parent_at, result_at}
use Rattle.box_arena.specs.Arena.{Attaches, Inserts, LiveOn}
use Rattle.box_arena.specs.Boxes.{Stands, StandFrom}
use Rattle.box_arena.specs.Links.{Chain, Climbs, IsLinked, first_of, next_of, parent_of, put_before}
use Rattle.box_arena.specs.Marks.{is_marked}
use Rattle.box_arena.specs.Planting.{AreBare, AreLeft, AreUnder, IsBare, IsLeft, Plants}
use Rattle.box_arena.proofs.CallLemmas.{held_there, kept_in, node_in, text_in}
use Rattle.box_arena.proofs.Climbs.{reaches_itself, reaches_on}
use Rattle.box_arena.proofs.Survival.{survive_attach}

-- ---- how many boxes

pub count_join : (a b : Boxes) → count (join a b) ≡ count a + count b
unfolding join
count_join none b = omega arith
count_join (box name style content inner next) b = let more = count_join next b in omega (arith, more)

pub count_all : (tree : BoxTree) (trees : List BoxTree) → count (all_boxes_of (tree ∷ trees)) ≡ count (boxes_of tree) + count (all_boxes_of trees)
count_all tree trees = ap count (before_is tree (all_boxes_of trees)) ∙ count_join (boxes_of tree) (all_boxes_of trees)

module _ {T : Type 0} where
  -- ---- boxes under keys

  -- a box in the box under a key, with those inside it
  pub record IsChild (slots : Slots T) (key k : ℕ) (put : Node) (inner : Boxes) : Type 0 where
    pub parent : parent_at slots k ≡ Some key
    pub node : node_at slots k ≡ Some put
    pub inside : StandFrom slots (first_at slots k) inner

  -- under these keys stand these boxes, each with those inside it, in the box under a key
  abbrev pub AllStand : Slots T → (key : ℕ) → List ℕ → Boxes → Type 0
  AllStand slots key [] none = ⊤
  AllStand slots key [] (box name style content inner next) = ⊥
  AllStand slots key (k ∷ ks) none = ⊥
  AllStand slots key (k ∷ ks) (box name style content inner next) =
      IsChild slots key k (record { name = name; style = style; content = content }) inner × AllStand slots key ks next

  stand_from : (slots : Slots T) (key : ℕ) (from : Option ℕ) (ks : List ℕ) (boxes : Boxes) → Chain (links_at slots) from ks → AllStand slots key ks boxes → StandFrom slots from boxes
  stand_from slots key from [] none chain all = chain
  stand_from slots key from [] (box name style content inner next) chain all = absurd all
  stand_from slots key from (k ∷ ks) none chain all = absurd all
  stand_from slots key from (k ∷ ks) (box name style content inner next) (is, chain) (here, all) =
      (k, is, here.node, here.inside, stand_from slots key (next_at slots k) ks next chain all)

  -- one more, behind the others
  stand_more : (slots : Slots T) (key : ℕ) (ks : List ℕ) (boxes : Boxes) (c : ℕ) (name : BoxName) (style : Style) (content : Content) (inner : Boxes) → AllStand slots key ks boxes
      → IsChild slots key c (record { name = name; style = style; content = content }) inner → AllStand slots key (put_before None c ks) (join boxes (box name style content inner none))
  unfolding join
  stand_more slots key [] none c name style content inner all one = (one, tt)
  stand_more slots key [] (box n s co i next) c name style content inner all one = absurd all
  stand_more slots key (k ∷ ks) none c name style content inner all one = absurd all
  stand_more slots key (k ∷ ks) (box n s co i next) c name style content inner (here, all) one = (here, stand_more slots key ks next c name style content inner all one)

  pub lives : (boxes : Slab (Entry T)) (k : ℕ) (node : Node) → node_at boxes.slots k ≡ Some node → ContainsKey boxes k
  lives boxes k node is = by_slot (get boxes k) is
    where
      by_slot : (o : Option (Entry T)) → node_in (option_map (λ entry. entry.held) o) ≡ Some node → IsSome o
      by_slot None is = absurd (none-some node is)
      by_slot (Some entry) is = refl

  -- ---- what was there is as it was

  left_where : (old new : Slab (Entry T)) (k : ℕ) → get new k ≡ get old k → IsLeft old.slots new.slots k
  left_where old new k same = record {
    parent = ap (λ (o : Option (Entry T)). parent_of (option_map (λ entry. entry.links) o)) same;
    first = ap (λ (o : Option (Entry T)). first_of (option_map (λ entry. entry.links) o)) same;
    next = ap (λ (o : Option (Entry T)). next_of (option_map (λ entry. entry.links) o)) same;
    node = ap (λ (o : Option (Entry T)). node_in (option_map (λ entry. entry.held) o)) same;
    text = ap (λ (o : Option (Entry T)). text_in (option_map (λ entry. entry.held) o)) same;
    kept = λ c. ap (λ (o : Option (Entry T)). kept_in c (is_marked (option_map (λ entry. entry.mark) o)) (option_map (λ entry. entry.held) o)) same;
  }

  bare_where : (boxes : Slab (Entry T)) (k : ℕ) → get boxes k ≡ None → IsBare boxes.slots k
  bare_where boxes k free = record {
    kept = λ c. ap (λ (o : Option (Entry T)). kept_in c (is_marked (option_map (λ entry. entry.mark) o)) (option_map (λ entry. entry.held) o)) free;
    text = ap (λ (o : Option (Entry T)). text_in (option_map (λ entry. entry.held) o)) free;
  }

  left_on : (a b c : Slots T) (k : ℕ) → IsLeft a b k → IsLeft b c k → IsLeft a c k
  left_on a b c k one two = record {
    parent = two.parent ∙ one.parent;
    first = two.first ∙ one.first;
    next = two.next ∙ one.next;
    node = two.node ∙ one.node;
    text = two.text ∙ one.text;
    kept = λ size. two.kept size ∙ one.kept size;
  }

  bare_left : (old new : Slots T) (k : ℕ) → IsLeft old new k → IsBare old k → IsBare new k
  bare_left old new k left bare = record { kept = λ c. left.kept c ∙ bare.kept c; text = left.text ∙ bare.text }

  -- a key is in use or free
  in_use : (boxes : Slab (Entry T)) (k : ℕ) (P : Type 0) → (ContainsKey boxes k → P) → (get boxes k ≡ None → P) → P
  in_use boxes k P used free = by_slot (get boxes k) used free
    where
      by_slot : (o : Option (Entry T)) → (IsSome o → P) → (o ≡ None → P) → P
      by_slot None used free = free refl
      by_slot (Some entry) used free = used refl

  not_free : (boxes : Slab (Entry T)) (k j : ℕ) → ContainsKey boxes k → get boxes j ≡ None → k ≢ j
  not_free boxes k j used free same =
      let P : ℕ → Type 0 = λ i. ContainsKey boxes i in
      let Q : Option (Entry T) → Type 0 = λ o. IsSome o in
      no_entry (subst Q free (subst P same used))
    where
      no_entry : IsSome {T = Entry T} None → ⊥
      no_entry is = absurd (cc)

  module _ (now mid : Slab (Entry T)) (left : AreLeft now mid) where
    stand_left : (from : Option ℕ) (boxes : Boxes) → StandFrom now.slots from boxes → StandFrom mid.slots from boxes
    stand_left from none is = is
    stand_left from (box name style content inner next) (k, is, node, within, behind) =
        let same = left k (lives now k (record { name = name; style = style; content = content }) node) in
        let P : Option ℕ → Type 0 = λ o. StandFrom mid.slots o inner in
        let Q : Option ℕ → Type 0 = λ o. StandFrom mid.slots o next in
        (k, is, same.node ∙ node, subst P (sym same.first) (stand_left (first_at now.slots k) inner within), subst Q (sym same.next) (stand_left (next_at now.slots k) next behind))

    child_left : (key k : ℕ) (node : Node) (inner : Boxes) → IsChild now.slots key k node inner → IsChild mid.slots key k node inner
    child_left key k node inner is =
        let same = left k (lives now k node is.node) in
        let P : Option ℕ → Type 0 = λ o. StandFrom mid.slots o inner in
        record { parent = same.parent ∙ is.parent; node = same.node ∙ is.node; inside = subst P (sym same.first) (stand_left (first_at now.slots k) inner is.inside) }

    all_left : (key : ℕ) (ks : List ℕ) (boxes : Boxes) → AllStand now.slots key ks boxes → AllStand mid.slots key ks boxes
    all_left key [] none all = all
    all_left key [] (box name style content inner next) all = absurd all
    all_left key (k ∷ ks) none all = absurd all
    all_left key (k ∷ ks) (box name style content inner next) (here, all) =
        (child_left key k (record { name = name; style = style; content = content }) inner here, all_left key ks next all)

    chain_left : (key : ℕ) (from : Option ℕ) (ks : List ℕ) (boxes : Boxes) → AllStand now.slots key ks boxes → Chain (links_at now.slots) from ks → Chain (links_at mid.slots) from ks
    chain_left key from [] boxes all is = is
    chain_left key from (k ∷ ks) none all is = absurd all
    chain_left key from (k ∷ ks) (box name style content inner next) (here, all) (is, chain) =
        let same = left k (lives now k (record { name = name; style = style; content = content }) here.node) in
        let P : Option ℕ → Type 0 = λ o. Chain (links_at mid.slots) o ks in
        (is, subst P (sym same.next) (chain_left key (next_at now.slots k) ks next all chain))

  -- ---- a box is put among the children of one that isn't attached

  no_climb : (slots : Slots T) (n k : ℕ) → Climbs n (links_at slots) None k → ⊥
  no_climb slots zero k is = none-some k is
  no_climb slots (suc n) k (p, is, rest) = none-some p is

  module _ (mid new : Slab (Entry T)) (key c : ℕ) (linked : IsLinked (links_at mid.slots)) (apart : parent_at mid.slots key ≡ None) (free : parent_at mid.slots c ≡ None) (other : c ≢ key)
      (attaches : Attaches mid new key None c) where
    above_is : (k : ℕ) → IsAbove mid.slots k key → k ≡ key
    above_is k (zero, is) = sym (same_Some key k is)
    above_is k (suc n, (p, is, rest)) =
        let same : key ≡ p = same_Some key p is in
        let P : ℕ → Type 0 = λ j. parent_at mid.slots j ≡ None in
        let Q : Option ℕ → Type 0 = λ o. Climbs n (links_at mid.slots) o k in
        absurd (no_climb mid.slots n k (subst Q (subst P same apart) rest))

    -- a box in it isn't that box, and not the one that is put there
    within : (k : ℕ) → parent_at mid.slots k ≡ Some key → k ≢ key
    within k parent same = let P : ℕ → Type 0 = λ j. parent_at mid.slots j ≡ Some key in none-some key (sym apart ∙ subst P same parent)

    beside : (k : ℕ) → parent_at mid.slots k ≡ Some key → k ≢ c
    beside k parent same = let P : ℕ → Type 0 = λ j. parent_at mid.slots j ≡ Some key in none-some key (sym free ∙ subst P same parent)

    inside_on : (k : ℕ) (node : Node) (inner : Boxes) → k ≢ key → node_at mid.slots k ≡ Some node → StandFrom mid.slots (first_at mid.slots k) inner → StandFrom new.slots (first_at new.slots k) inner
    inside_on k node inner off is stands =
        let survives = survive_attach mid new key None c linked attaches k (λ above. off (above_is k above)) in
        (survives.on (box node.name node.style node.content inner none) (is, stands, refl)).1

    child_on : (k : ℕ) (node : Node) (inner : Boxes) → IsChild mid.slots key k node inner → IsChild new.slots key k node inner
    child_on k node inner is = record {
      parent = attaches.parents k (beside k is.parent) ∙ is.parent;
      node = attaches.nodes k ∙ is.node;
      inside = inside_on k node inner (within k is.parent) is.node is.inside;
    }

    all_on : (ks : List ℕ) (boxes : Boxes) → AllStand mid.slots key ks boxes → AllStand new.slots key ks boxes
    all_on [] none all = all
    all_on [] (box name style content inner next) all = absurd all
    all_on (k ∷ ks) none all = absurd all
    all_on (k ∷ ks) (box name style content inner next) (here, all) = (child_on k (record { name = name; style = style; content = content }) inner here, all_on ks next all)

    one_more : (ks : List ℕ) (boxes tree : Boxes) → AllStand mid.slots key ks boxes → Stands mid.slots c tree → AllStand new.slots key (put_before None c ks) (join boxes tree)
    one_more ks boxes none all stands = absurd stands
    one_more ks boxes (box name style content inner next) all (is, stands, alone) =
        let node : Node = record { name = name; style = style; content = content } in
        let here : IsChild new.slots key c node inner = record { parent = attaches.inside; node = attaches.nodes c ∙ is; inside = inside_on c node inner other is stands } in
        let P : Boxes → Type 0 = λ b. AllStand new.slots key (put_before None c ks) (join boxes (box name style content inner b)) in
        subst P (sym alone) (stand_more new.slots key ks boxes c name style content inner (all_on ks boxes all) here)

    left_attached : (k : ℕ) → IsLinked (links_at new.slots) → k ≢ key → k ≢ c → (parent_at mid.slots k ≡ Some key → ⊥) → IsLeft mid.slots new.slots k
    left_attached k linked_new off apart_from outside = record {
      parent = attaches.parents k apart_from;
      first = attaches.firsts k off;
      next = by_parent (parent_at mid.slots k) refl;
      node = attaches.nodes k;
      text = attaches.texts k;
      kept = attaches.kept k (λ above. off (above_is k above));
    }
      where
        by_parent : (o : Option ℕ) → parent_at mid.slots k ≡ o → next_at new.slots k ≡ next_at mid.slots k
        by_parent None is = (linked_new.alone k (attaches.parents k apart_from ∙ is)).0 ∙ sym (linked.alone k is).0
        by_parent (Some p) is = attaches.nexts k p is (λ same. outside (is ∙ ap (λ j. Some j) same))

    bare_attached : (k : ℕ) → k ≢ key → IsBare mid.slots k → IsBare new.slots k
    bare_attached k off bare = record { kept = λ size. attaches.kept k (λ above. off (above_is k above)) size ∙ bare.kept size; text = attaches.texts k ∙ bare.text }

    bare_parent : IsBare mid.slots key → IsBare new.slots key
    bare_parent bare = record {
      kept = λ size. ap (λ (marked : Bool). kept_of size marked) (attaches.marked.above key (reaches_itself (links_at mid.slots) key));
      text = attaches.texts key ∙ bare.text;
    }
      where
        kept_of : Constraint → Bool → Option Pieces
        kept_of size marked = if marked then None else result_at new.slots key size

  no_links_there : (boxes : Slab (Entry T)) (key : ℕ) → get boxes key ≡ None → IsSome (links_at boxes.slots key) → ⊥
  no_links_there boxes key free is = nothing (subst P free is)
    where
      P : Option (Entry T) → Type 0
      P o = IsSome (option_map (λ entry. entry.links) o)

      nothing : IsSome {T = Links} None → ⊥
      nothing is = absurd (cc)

  -- a box under a key that was free isn't above one that isn't attached
  pub not_above : (now mid : Slab (Entry T)) (key c : ℕ) → ContainsKey now key → get now c ≡ None → parent_at mid.slots key ≡ None → IsAbove mid.slots c key → ⊥
  not_above now mid key c alive free apart (zero, is) = not_free now key c alive free (same_Some key c is)
  not_above now mid key c alive free apart (suc n, (p, is, rest)) =
      let same : key ≡ p = same_Some key p is in
      let P : ℕ → Type 0 = λ j. parent_at mid.slots j ≡ None in
      let Q : Option ℕ → Type 0 = λ o. Climbs n (links_at mid.slots) o c in
      absurd (no_climb mid.slots n c (subst Q (subst P same apart) rest))

  -- what was above a box is
  climbs_left : (now mid : Slab (Entry T)) → AreLeft now mid → (n : ℕ) (from : Option ℕ) (k : ℕ) → Climbs n (links_at now.slots) from k → Climbs n (links_at mid.slots) from k
  climbs_left now mid left zero from k is = is
  climbs_left now mid left (suc n) from k (p, is, rest) =
      let P : Option ℕ → Type 0 = λ o. Climbs n (links_at mid.slots) o k in
      let Q : Option ℕ → Type 0 = λ o. Climbs n (links_at now.slots) o k in (
        p,
        is,
        in_use now p (Climbs n (links_at mid.slots) (parent_at mid.slots p) k)
            (λ used. subst P (sym (left p used).parent) (climbs_left now mid left n (parent_at now.slots p) k rest))
            (λ free. absurd (no_climb now.slots n k (subst Q (ap (λ (o : Option (Entry T)). parent_of (option_map (λ entry. entry.links) o)) free) rest))),
      )

  above_left : (now mid : Slab (Entry T)) → AreLeft now mid → (key k : ℕ) → IsAbove now.slots key k → IsAbove mid.slots key k
  above_left now mid left key k (n, climbs) = (n, climbs_left now mid left n (Some k) key climbs)

  climbs_attached : (mid new : Slab (Entry T)) (key c : ℕ) → Attaches mid new key None c → parent_at mid.slots c ≡ None → (n : ℕ) (from : Option ℕ) (k : ℕ) → Climbs n (links_at mid.slots) from k
      → Climbs n (links_at new.slots) from k
  climbs_attached mid new key c attaches free zero from k is = is
  climbs_attached mid new key c attaches free (suc n) from k (p, is, rest) =
      let P : Option ℕ → Type 0 = λ o. Climbs n (links_at new.slots) o k in
      let Q : Option ℕ → Type 0 = λ o. Climbs n (links_at mid.slots) o k in
      let on = climbs_attached mid new key c attaches free n (parent_at mid.slots p) k rest in (
        p,
        is,
        elim (cases_eq p c) [
          | inl same ↦ absurd (no_climb mid.slots n k (subst Q (ap (parent_at mid.slots) same ∙ free) rest))
          | inr off ↦ subst P (sym (attaches.parents p off)) on
        ],
      )

  above_on : (mid new : Slab (Entry T)) (key c : ℕ) → Attaches mid new key None c → parent_at mid.slots c ≡ None → (j k : ℕ) → IsAbove mid.slots j k → IsAbove new.slots j k
  above_on mid new key c attaches free j k (n, climbs) = (n, climbs_attached mid new key c attaches free n (Some k) j climbs)

  -- ---- a box under way: some of its children are planted

  pub record IsUnderWay (old now : Slab (Entry T)) (key : ℕ) (put : Node) (all : Boxes) (rest : List BoxTree) : Type 0 where
    pub free : get old key ≡ None
    pub alive : ContainsKey now key
    pub apart : parent_at now.slots key ≡ None
    pub node : node_at now.slots key ≡ Some put
    pub bare : AreBare old now
    pub left : AreLeft old now
    pub only : AreUnder old now key
    pub live : LiveOn old now
    pub linked : IsLinked (links_at old.slots)
    pub done : Boxes
    pub keys : List ℕ
    pub children : HasChildren now.slots key keys
    pub stand : AllStand now.slots key keys done
    pub joined : join done (all_boxes_of rest) ≡ all
    pub room : (n : ℕ) → HasRoomFor old (suc (count all) + n) → HasRoomFor now (count (all_boxes_of rest) + n)

  pub begun : (old now : Slab (Entry T)) (key : ℕ) (node : Node) (children : List BoxTree) → IsLinked (links_at old.slots) → Inserts old now key node
      → IsUnderWay old now key node (all_boxes_of children) children
  unfolding join
  begun old now key node children linked inserts = record {
    free = inserts.free;
    alive = inserts.alive;
    apart = inserts.here.parent;
    node = inserts.here.node;
    bare = λ k free. elim (cases_eq k key) [
      | inl same ↦ let P : ℕ → Type 0 = λ j. IsBare now.slots j in subst P (sym same) (record { kept = inserts.here.kept; text = inserts.here.text })
      | inr off ↦ bare_where now k (inserts.others k off ∙ free)
    ];
    left = λ k used. left_where old now k (inserts.others k (not_free old k key used inserts.free));
    only = λ k free used. elim (cases_eq k key) [
      | inl same ↦ let P : ℕ → Type 0 = λ j. IsAbove now.slots key j in subst P (sym same) (reaches_itself (links_at now.slots) key)
      | inr off ↦ absurd (not_free now k k used (inserts.others k off ∙ free) refl)
    ];
    live = inserts.live;
    linked = linked;
    done = none;
    keys = [];
    children = inserts.here.first;
    stand = tt;
    joined = refl;
    room = λ n fits. inserts.room (count (all_boxes_of children) + n) (omega (arith, fits));
  }

  pub one_on : (old now mid new : Slab (Entry T)) (key c : ℕ) (put : Node) (all : Boxes) (tree : BoxTree) (rest : List BoxTree) → IsUnderWay old now key put all (tree ∷ rest)
      → Plants now mid c (boxes_of tree) → Attaches mid new key None c → IsLinked (links_at mid.slots) → IsLinked (links_at new.slots) → IsUnderWay old new key put all rest
  one_on old now mid new key c put all tree rest way plants attaches linked linked_new =
      let here = plants.left key way.alive in
      let apart : parent_at mid.slots key ≡ None = here.parent ∙ way.apart in
      let other : c ≢ key = λ same. not_free now key c way.alive plants.free (sym same) in
      record {
        free = way.free;
        alive = attaches.live key (plants.live key way.alive);
        apart = attaches.parents key (λ same. other (sym same)) ∙ apart;
        node = attaches.nodes key ∙ here.node ∙ way.node;
        bare = λ k free.
            let bare_mid : IsBare mid.slots k = in_use now k (IsBare mid.slots k) (λ used. bare_left now.slots mid.slots k (plants.left k used) (way.bare k free)) (plants.bare k) in
            elim (cases_eq k key) [
              | inl same ↦
                  let P : ℕ → Type 0 = λ j. IsBare new.slots j in
                  let Q : ℕ → Type 0 = λ j. IsBare mid.slots j in
                  subst P (sym same) (bare_parent mid new key c linked apart plants.apart other attaches (subst Q same bare_mid))
              | inr off ↦ bare_attached mid new key c linked apart plants.apart other attaches k off bare_mid
            ];
        left = λ k used.
            let used_now = way.live k used in
            let through = left_on old.slots now.slots mid.slots k (way.left k used) (plants.left k used_now) in
            left_on old.slots mid.slots new.slots k through (left_attached mid new key c linked apart plants.apart other attaches k linked_new
            (not_free old k key used way.free) (not_free now k c used_now plants.free)
            (λ inside. no_links_there old key way.free (way.linked.live k key (sym through.parent ∙ inside))));
        only = λ k free used.
            let (held, is) = held_there new k used in
            let node_there = sym (attaches.nodes k) ∙ ap node_in is in
            let used_mid = lives mid k (node_of held.node) node_there in
            in_use now k (IsAbove new.slots key k)
            (λ used_now. above_on mid new key c attaches plants.apart key k (above_left now mid plants.left key k (way.only k free used_now)))
            (λ free_now. reaches_on (links_at new.slots) c key k (above_on mid new key c attaches plants.apart c k (plants.only k free_now used_mid)) attaches.inside);
        live = λ k used. attaches.live k (plants.live k (way.live k used));
        linked = way.linked;
        done = join way.done (boxes_of tree);
        keys = put_before None c way.keys;
        children = attaches.children way.keys (
            let P : Option ℕ → Type 0 = λ o. Chain (links_at mid.slots) o way.keys in
            subst P (sym here.first) (chain_left now mid plants.left key (first_at now.slots key) way.keys way.done way.stand way.children));
        stand = one_more mid new key c linked apart plants.apart other attaches way.keys way.done (boxes_of tree) (all_left now mid plants.left key way.keys way.done way.stand) plants.stands;
        joined = join_assoc way.done (boxes_of tree) (all_boxes_of rest) ∙ ap (λ b. join way.done b) (sym (before_is tree (all_boxes_of rest))) ∙ way.joined;
        room = λ n fits. attaches.room (count (all_boxes_of rest) + n) (plants.room (count (all_boxes_of rest) + n) (
            let more = way.room n fits in
            let sum = count_all tree rest in
            omega (arith, more, sum)));
      }

  pub finished : (old new : Slab (Entry T)) (key : ℕ) (put : Node) (all tree : Boxes) → IsUnderWay old new key put all [] → tree ≡ box put.name put.style put.content all none → Plants old new key tree
  finished old new key put all tree way is =
      let all_done : way.done ≡ all = sym (join_none way.done) ∙ way.joined in
      let P : Boxes → Type 0 = λ b. StandFrom new.slots (first_at new.slots key) b in
      let Q : Boxes → Type 0 = λ b. Stands new.slots key b in
      record {
        free = way.free;
        alive = way.alive;
        apart = way.apart;
        stands = subst Q (sym is) (way.node, subst P all_done (stand_from new.slots key (first_at new.slots key) way.keys way.done way.children way.stand), refl);
        bare = way.bare;
        left = way.left;
        only = way.only;
        live = way.live;
        room = λ n fits.
            let size : count tree ≡ suc (count all + 0) = ap count is in
            let more = way.room n (omega (arith, fits, size)) in
            omega (arith, more);
      }

  -- what is still to be planted has fewer boxes than all of it
  pub fewer : (old now : Slab (Entry T)) (key : ℕ) (put : Node) (all : Boxes) (tree : BoxTree) (rest : List BoxTree) → IsUnderWay old now key put all (tree ∷ rest) → count (boxes_of tree) < suc (count all)
  fewer old now key put all tree rest way =
      let sum = count_all tree rest in
      let whole = sym (count_join way.done (all_boxes_of (tree ∷ rest))) ∙ ap count way.joined in
      omega (arith, sum, whole)

-- the boxes of a tree are its own and those of its children
pub opened : (tree : BoxTree) → boxes_of tree ≡ box (node_of (out-BoxTree tree).node).name (node_of (out-BoxTree tree).node).style (node_of (out-BoxTree tree).node).content (all_boxes_of (out-BoxTree tree).children.items) none
opened tree = ap (λ (f : Boxes → Boxes). f none) (fold_out-BoxTree (Boxes → Boxes) box_step tree)

-- ---- boxes that are counted one by one

pub counted_on : (trees : List BoxTree) (k : ℕ) (tree : BoxTree) → k < length trees → tree ≡ slice_index_or trees k tree
    → count (all_boxes_of (drop k trees)) ≡ count (boxes_of tree) + count (all_boxes_of (drop (k + 1) trees))
counted_on trees k tree lt is = ap (λ ts. count (all_boxes_of ts)) (drop_more trees k tree lt ∙ ap (λ t. t ∷ drop (k + 1) trees) (sym is)) ∙ count_all tree (drop (k + 1) trees)

pub counted_all : (trees : List BoxTree) (k : ℕ) → length trees ≤ k → count (all_boxes_of (drop k trees)) ≡ 0
counted_all trees k end_ = ap (λ ts. count (all_boxes_of ts)) (drop_all k trees end_)

pub count_opened : (tree : BoxTree) (trees : List BoxTree) → trees ≡ (out-BoxTree tree).children.items → count (boxes_of tree) ≡ suc (count (all_boxes_of trees))
count_opened tree trees is =
    let whole : count (boxes_of tree) ≡ suc (count (all_boxes_of (out-BoxTree tree).children.items) + 0) = ap count (opened tree) in
    let same : count (all_boxes_of trees) ≡ count (all_boxes_of (out-BoxTree tree).children.items) = ap (λ ts. count (all_boxes_of ts)) is in
    omega (arith, whole, same)
