-- Nothing is lost of what is handed from an arena to another.
use Rattle.std.proofs.Common.{◌≡◌, ◌∙◌, ◌≢◌, ℕ, zero, suc, ◌+◌, ◌<◌, ◌≤◌, length, get_or, List, [], ◌∷◌, Bool, true, false, nat_eq, Option, Some, None, option_map, refl, sym, ap, ap₂, subst, arith, inl, inr}
use Rattle.std.specs.Prelude.{◌⊎◌, ◌^◌, if◌then◌else◌}
use Rattle.std.specs.BTreeMap.{BTreeMap, Updates}
use Rattle.std.specs.Ordering.{is_eq, nat_cmp}
use Rattle.std.proofs.lemmas.Bool.{cases_eq, cases_lt, false_from_ne_true}
use Rattle.std.proofs.lemmas.Bool.Decides.{nat_tests}
use Rattle.std.proofs.lemmas.List.{get_or_past}
use Rattle.std.proofs.Math.Nat.{le-max_left, le-max_right, max-le}
use Rattle.std.proofs.lemmas.Option.{none-some, same_Some}
use Rattle.slab.specs.Slab.{Slab}
use Rattle.fragment_types.specs.declared.constraint.Constraint.{Constraint}
use Rattle.fragment_types.specs.declared.item.BoxName.{BoxName}
use Rattle.fragment_types.specs.Fragment.{Pieces}
use Rattle.box_gen.specs.Tree.{Boxes, none, box, count, height}
use Rattle.box_arena.specs.declared.entry.Entry.{Entry}
use Rattle.box_arena.specs.declared.reusing.Stood.{Stood}
use Rattle.box_arena.specs.declared.reusing.Stood.TheVariants.{At, Elsewhere}
use Rattle.box_arena.specs.At.{IsAbove, Node, Slots, first_at, kept_at, links_at, next_at, node_at, parent_at, text_at}
use Rattle.box_arena.specs.Arena.{KeepsText, LosesText, PutsResults, SameLinks, SameNodes}
use Rattle.box_arena.specs.Boxes.{StandFrom, Stands}
use Rattle.box_arena.specs.Links.{Chain, Climbs, Has, IsIn, IsLinked, Linking, next_of, parent_of}
use Rattle.box_arena.specs.Reusing.{AreAround, AreNamedOnce, FindsBelow, FindsEach, Goes, GoesOver, HandsUnder, IsGoneThrough, LeavesNothing, LosesNothing, Reuses, around_at, key_named, names_cmp, stood_behind}
use Rattle.box_arena.proofs.CallLemmas.{node_in}
use Rattle.box_arena.proofs.Chains.{eq_false}
use Rattle.box_arena.proofs.Climbs.{reaches_itself, reaches_on}
use Rattle.box_arena.proofs.Sizes.{both_tied}
use Rattle.box_arena.proofs.Handovers.{reuses_none, reuses_then, same_around, stood}

-- ---- what stays or goes over whole

pub goes_on : {I X : Type 0} → (one two three : I → Option X) → (first second third : I → Option X) → Goes one two first second → Goes two three second third → Goes one three first third
goes_on one two three first second third (inl a) (inl b) = inl ((λ i. b.0 i ∙ a.0 i), (λ i. b.1 i ∙ a.1 i))
goes_on one two three first second third (inl a) (inr (some, gone, there)) = inr ((λ absent. some (λ i. a.0 i ∙ absent i)), gone, (λ i. there i ∙ a.0 i))
goes_on one two three first second third (inr (some, gone, there)) (inl b) = inr (some, (λ i. b.0 i ∙ gone i), (λ i. b.1 i ∙ there i))
goes_on one two three first second third (inr (some, gone, there)) (inr (still, left, others)) = absurd (still gone)

-- what is there goes over, where it doesn't stay
pub gone_over : {I X : Type 0} → (giver given old new : I → Option X) (i : I) (x : X) → Goes giver given old new → given i ≡ None → giver i ≡ Some x → new i ≡ Some x
gone_over giver given old new i x (inl stays) gone was = absurd (none-some x (sym gone ∙ (stays.0 i ∙ was)))
gone_over giver given old new i x (inr (some, left, there)) gone was = there i ∙ was

-- ---- boxes above a box

pub above_split : (s : Linking) (n : ℕ) (from : Option ℕ) (key : ℕ) → Climbs (suc n) s from key → (c : ℕ) × Climbs n s from c × (parent_of (s c) ≡ Some key)
above_split s zero from key (p, is, rest) = (p, is, rest)
above_split s (suc n) from key (p, is, rest) =
    let (c, climb, inside) = above_split s n (parent_of (s p)) key rest in
    (c, (p, is, climb), inside)

-- ---- names

nat_tied : (x y : ℕ) → is_eq (nat_cmp x y) ≡ true → x ≡ y
nat_tied x y tied = grind (arith, nat_tests)

abbrev name_of : ℕ → ℕ → BoxName
name_of node ordinal = record { node = node; ordinal = ordinal }

names_differ : (one other : BoxName) → (other ≡ one → ⊥) → is_eq (names_cmp (one.node, one.ordinal) (other.node, other.ordinal)) ≡ false
names_differ one other apart = false_from_ne_true _ (λ tied.
    let both = both_tied (nat_cmp one.node other.node) (nat_cmp one.ordinal other.ordinal) tied in
    apart (sym (ap₂ name_of (nat_tied one.node other.node both.0) (nat_tied one.ordinal other.ordinal both.1))))

module _ {T : Type 0} where
  -- a box inside another one is inside one of its children
  inside_child : (slots : Slots T) (key k : ℕ) → IsAbove slots key k → (k ≡ key) ⊎ ((c : ℕ) × IsAbove slots c k × (parent_at slots c ≡ Some key))
  inside_child slots key k (zero, is) = inl (same_Some k key is)
  inside_child slots key k (suc n, climbs) = let (c, climb, inside) = above_split (links_at slots) n (Some k) key climbs in inr (c, (n, climb), inside)

  climbs_moved : (old new : Slots T) → SameLinks old new → (n : ℕ) (from : Option ℕ) (k : ℕ) → Climbs n (links_at new) from k → Climbs n (links_at old) from k
  climbs_moved old new links zero from k is = is
  climbs_moved old new links (suc n) from k (p, is, rest) =
      let P : Option ℕ → Type 0 = λ o. Climbs n (links_at old) o k in
      (p, is, subst P (ap parent_of (links p)) (climbs_moved old new links n (parent_at new p) k rest))

  pub above_moved : (old new : Slots T) → SameLinks old new → (key k : ℕ) → IsAbove new key k → IsAbove old key k
  above_moved old new links key k (n, climbs) = (n, climbs_moved old new links n (Some k) key climbs)

  -- ---- names

  named_moved : (old new : Slots T) → SameNodes old new → AreNamedOnce old → AreNamedOnce new
  named_moved old new nodes named one other node same is also alike = named one other node same (sym (nodes one) ∙ is) (sym (nodes other) ∙ also) alike

  pub finds_moved : (keys : BTreeMap (ℕ × ℕ) ℕ) (old new : Slots T) → SameNodes old new → FindsEach keys old → FindsEach keys new
  finds_moved keys old new nodes finds = record { named = named_moved old new nodes finds.named; found = λ k node is. finds.found k node (sym (nodes k) ∙ is) }

  -- a box of that name is found
  pub found_at : (keys : BTreeMap (ℕ × ℕ) ℕ) (giver taker : Slots T) (key : ℕ) → FindsEach keys giver → {here : Node} → node_at taker key ≡ Some here → (node : Node) → node_at taker key ≡ Some node
      → (from : ℕ) → node_at giver from ≡ Some node → key_named keys here.name ≡ Some from
  found_at keys giver taker key finds {here} at node is from was =
      let P : Node → Type 0 = λ n. key_named keys n.name ≡ Some from in
      subst P (same_Some _ _ (sym is ∙ at)) (finds.found from node was)

  -- the trees of two boxes are one: so are the boxes
  pub same_box : (one other : Slots T) (k j : ℕ) (tree : Boxes) → Stands one k tree → Stands other j tree → (node : Node) × (node_at one k ≡ Some node) × (node_at other j ≡ Some node)
  same_box one other k j none is also = absurd is
  same_box one other k j (box name style content inner next) (is, inside, alone) (also, within, single) = (record { name = name; style = style; content = content }, is, also)

  -- each box is found whose key is below the end
  pub finds_begun : (keys : BTreeMap (ℕ × ℕ) ℕ) (slots : Slots T) → FindsBelow keys slots 0
  finds_begun keys slots named k node below is = absurd (omega (arith, below))

  pub finds_none : (keys : BTreeMap (ℕ × ℕ) ℕ) (slots : Slots T) (end_ : ℕ) → FindsBelow keys slots end_ → node_at slots end_ ≡ None → FindsBelow keys slots (end_ + 1)
  finds_none keys slots end_ finds absent named k node below is = elim (cases_eq k end_) [
    | inl at ↦ let P : ℕ → Type 0 = λ j. node_at slots j ≡ Some node in absurd (none-some node (sym absent ∙ subst P at is))
    | inr apart ↦ finds named k node (omega (arith, below, apart)) is
  ]

  pub finds_more : (keys more : BTreeMap (ℕ × ℕ) ℕ) (slots : Slots T) (end_ : ℕ) (here : Node) → FindsBelow keys slots end_ → node_at slots end_ ≡ Some here
      → Updates names_cmp keys more (here.name.node, here.name.ordinal) (Some end_) → FindsBelow more slots (end_ + 1)
  finds_more keys more slots end_ here finds there updates named k node below is = elim (cases_eq k end_) [
    | inl at ↦
        let P : ℕ → Type 0 = λ j. node_at slots j ≡ Some node in
        let Q : Node → Type 0 = λ n. key_named more n.name ≡ Some k in
        subst Q (same_Some _ _ (sym there ∙ subst P at is)) (updates.1 ∙ ap Some (sym at))
    | inr apart ↦
        updates.2 (node.name.node, node.name.ordinal) (names_differ here.name node.name (λ same. apart (named k end_ node here is there same)))
        ∙ finds named k node (omega (arith, below, apart)) is
  ]

  pub finds_all : (keys : BTreeMap (ℕ × ℕ) ℕ) (slots : Slots T) (end_ : ℕ) → length slots ≤ end_ → FindsBelow keys slots end_ → AreNamedOnce slots → FindsEach keys slots
  finds_all keys slots end_ long finds named = record {
    named = named;
    found = λ k node is. elim (cases_lt k end_) [
      | inl below ↦ finds named k node below is
      | inr past ↦
          let absent : get_or slots k None ≡ None = get_or_past slots k None (omega arith) in
          let P : Option (Entry T) → Type 0 = λ o. node_in (option_map (λ entry. entry.held) o) ≡ Some node in
          absurd (none-some node (subst P absent is))
    ];
  }

  -- ---- one box

  -- what is kept for one box goes over to one that is what it was, and no other has its name
  pub hands_one : (giver given old new : Slots T) (from key : ℕ) → node_at giver from ≡ node_at old key → GoesOver giver given old new from key
      → ((k : ℕ) → k ≢ from → (text_at given k ≡ text_at giver k) × ((c : Constraint) → kept_at given k c ≡ kept_at giver k c))
      → ((k : ℕ) → k ≢ key → (text_at new k ≡ text_at old k) × ((c : Constraint) → kept_at new k c ≡ kept_at old k c)) → HandsUnder giver given old new key
  hands_one giver given old new from key same over there here = record {
    over = λ named once k f node is was. elim (cases_eq k key) [
      | inl at ↦
          let P : ℕ → Type 0 = λ j. node_at old j ≡ Some node in
          let f_is : f ≡ from = named f from node node was (same ∙ subst P at is) refl in
          let Q : ℕ → Type 0 = λ j. GoesOver giver given old new f j in
          let R : ℕ → Type 0 = λ j. GoesOver giver given old new j key in
          subst Q (sym at) (subst R (sym f_is) over)
      | inr apart ↦
          let P : ℕ → Type 0 = λ j. node_at giver j ≡ Some node in
          let other : f ≢ from = λ f_is. apart (once k key node node is (sym same ∙ subst P f_is was) refl) in
          record {
            text = inl ((λ one. (there f other).0), (λ one. (here k apart).0));
            results = inl ((there f other).1, (here k apart).1);
          }
    ];
    elsewhere = λ k c result is. elim (cases_eq k key) [
      | inl at ↦ let P : ℕ → Type 0 = λ j. IsAbove old key j in inr (subst P (sym at) (reaches_itself (links_at old) key))
      | inr apart ↦ inl (sym ((here k apart).1 c) ∙ is)
    ];
  }

  -- nothing
  pub hands_none : (giver old : Slots T) (root : ℕ) → HandsUnder giver giver old old root
  hands_none giver old root = record {
    over = λ named once k f node is was. record { text = inl ((λ one. refl), (λ one. refl)); results = inl ((λ c. refl), (λ c. refl)) };
    elsewhere = λ k c result is. inl is;
  }

  -- its text
  pub hands_text : (giver given old new : Slab (Entry T)) (from key : ℕ) (text : T) → node_at giver.slots from ≡ node_at old.slots key → text_at giver.slots from ≡ Some text
      → LosesText giver given from → KeepsText old new key text → HandsUnder giver.slots given.slots old.slots new.slots key
  hands_text giver given old new from key text same was loses keeps =
      hands_one giver.slots given.slots old.slots new.slots from key same
      (record {
        text = inr ((λ absent. none-some text (sym (absent tt) ∙ was)), (λ one. loses.put.here), (λ one. keeps.put.here ∙ sym was));
        results = inl (loses.kept from, keeps.kept key);
      })
      (λ k apart. (loses.put.elsewhere k apart, loses.kept k))
      (λ k apart. (keeps.put.elsewhere k apart, keeps.kept k))

  -- its text stays away
  pub hands_no_text : (giver given : Slab (Entry T)) (old : Slots T) (from key : ℕ) → node_at giver.slots from ≡ node_at old key → text_at giver.slots from ≡ None → LosesText giver given from
      → HandsUnder giver.slots given.slots old old key
  hands_no_text giver given old from key same was loses =
      hands_one giver.slots given.slots old old from key same
      (record {
        text = inl ((λ one. loses.put.here ∙ sym was), (λ one. refl));
        results = inl (loses.kept from, (λ c. refl));
      })
      (λ k apart. (loses.put.elsewhere k apart, loses.kept k))
      (λ k apart. (refl, (λ c. refl)))

  -- its results, if there are any
  pub hands_results : (giver given old new : Slab (Entry T)) (from key : ℕ) → node_at giver.slots from ≡ node_at old.slots key → (((c : Constraint) → kept_at giver.slots from c ≡ None) → ⊥)
      → PutsResults giver given from (λ c. None) → PutsResults old new key (kept_at giver.slots from) → HandsUnder giver.slots given.slots old.slots new.slots key
  hands_results giver given old new from key same some gives takes =
      hands_one giver.slots given.slots old.slots new.slots from key same
      (record {
        text = inl ((λ one. gives.texts from), (λ one. takes.texts key));
        results = inr (some, gives.here, takes.here);
      })
      (λ k apart. (gives.texts k, gives.elsewhere k apart))
      (λ k apart. (takes.texts k, takes.elsewhere k apart))

  -- ---- one after the other

  module _ (giver given old mid : Slab (Entry T)) (gone new : Slots T) (root inner : ℕ) (one : HandsUnder giver.slots given.slots old.slots mid.slots root) (reuses : Reuses giver given old mid)
      (other : HandsUnder given.slots gone mid.slots new inner) (inside : (k : ℕ) → IsAbove old.slots inner k → IsAbove old.slots root k) where
    pub hands_then : HandsUnder giver.slots gone old.slots new root
    hands_then = record {
      over = λ named once k f node is was.
          let first = one.over named once k f node is was in
          let second = other.over (named_moved giver.slots given.slots reuses.gives.nodes named) (named_moved old.slots mid.slots reuses.nodes once) k f node (reuses.nodes k ∙ is) (reuses.gives.nodes f ∙ was) in
          record {
            text = goes_on _ _ _ _ _ _ first.text second.text;
            results = goes_on _ _ _ _ _ _ first.results second.results;
          };
      elsewhere = λ k c result is. kept_before k c result (other.elsewhere k c result is);
    }
      where
        kept_before : (k : ℕ) (c : Constraint) (result : Pieces) → (kept_at mid.slots k c ≡ Some result) ⊎ IsAbove mid.slots inner k → (kept_at old.slots k c ≡ Some result) ⊎ IsAbove old.slots root k
        kept_before k c result (inl is) = one.elsewhere k c result is
        kept_before k c result (inr above) = inr (inside k (above_moved old.slots mid.slots reuses.links inner k above))

  -- ---- what is left

  pub leaves_still : (giver given old new : Slab (Entry T)) (key : ℕ) → Reuses giver given old new → LeavesNothing giver.slots old.slots key → LeavesNothing given.slots new.slots key
  leaves_still giver given old new key reuses leaves = record {
    texts = λ from node is was. by_text from (leaves.texts from node (sym (reuses.nodes key) ∙ is) (sym (reuses.gives.nodes from) ∙ was)) (text_at given.slots from) refl;
    results = λ from tree c stands stood_there around.
        let P : Option Node → Type 0 = λ o. AreAround o (around_at new.slots key) in
        let Q : Option Node → Type 0 = λ o. AreAround (around_at giver.slots from) o in
        by_result from c
        (leaves.results from tree c (stood old.slots new.slots reuses.links reuses.nodes key tree stands) (stood giver.slots given.slots reuses.gives.links reuses.gives.nodes from tree stood_there)
        (subst Q (same_around old.slots new.slots reuses.nodes reuses.links key) (subst P (same_around giver.slots given.slots reuses.gives.nodes reuses.gives.links from) around)))
        (kept_at given.slots from c) refl;
  }
    where
      by_text : (from : ℕ) → text_at giver.slots from ≡ None → (o : Option T) → text_at given.slots from ≡ o → o ≡ None
      by_text from absent None is = refl
      by_text from absent (Some text) is = absurd (none-some text (sym absent ∙ reuses.gives.texts from text is))

      by_result : (from : ℕ) (c : Constraint) → kept_at giver.slots from c ≡ None → (o : Option Pieces) → kept_at given.slots from c ≡ o → o ≡ None
      by_result from c absent None is = refl
      by_result from c absent (Some result) is = absurd (none-some result (sym absent ∙ reuses.gives.results from c result is))

  -- ---- the boxes of a row

  -- it is one of those that stand side by side
  abbrev pub IsInRow : Slots T → (from : Option ℕ) → Boxes → ℕ → Type 0
  IsInRow slots from none c = ⊥
  IsInRow slots from (box name style content inner next) c = (key : ℕ) × (from ≡ Some key) × ((key ≡ c) ⊎ IsInRow slots (next_at slots key) next c)

  pub in_row : (slots : Slots T) (from : Option ℕ) (ks : List ℕ) (boxes : Boxes) (c : ℕ) → Chain (links_at slots) from ks → StandFrom slots from boxes → Has ks c → IsInRow slots from boxes c
  in_row slots from [] boxes c chain stands has = absurd has
  in_row slots from (k ∷ ks) none c (is, chain) stands has = absurd (none-some k (sym stands ∙ is))
  in_row slots from (k ∷ ks) (box name style content inner next) c (is, chain) (key, at, node, within, behind) has =
      let P : ℕ → Type 0 = λ j. StandFrom slots (next_at slots j) next in
      let there : StandFrom slots (next_at slots k) next = subst P (same_Some key k (sym at ∙ is)) behind in
      (k, is, by_has (λ later. in_row slots (next_at slots k) ks next c chain there later) has)
    where
      by_has : (Has ks c → IsInRow slots (next_at slots k) next c) → Has (k ∷ ks) c → (k ≡ c) ⊎ IsInRow slots (next_at slots k) next c
      by_has on (inl same) = inl same
      by_has on (inr later) = inr (on later)

  -- the boxes of a row are gone through up to the next one
  pub record IsOnWay (giver given taker taken : Slots T) (from : Option ℕ) (key : ℕ) (inner : Boxes) (place : Stood) (next : Option ℕ) (steps : ℕ) : Type 0 where
    pub rest : Boxes
    pub stands : StandFrom taker next rest
    pub count : count rest + steps ≤ count inner
    pub height : height rest ≤ height inner
    pub same : (f : ℕ) → from ≡ Some f → StandFrom giver (first_at giver f) inner → (x : Option ℕ) × (place ≡ At x) × StandFrom giver x rest
    pub done : (c : ℕ) → parent_at taker c ≡ Some key → ((k : ℕ) → IsAbove taker c k → LeavesNothing given taken k) ⊎ IsInRow taker next rest c

  pub way_begins : (giver taker : Slots T) (from : Option ℕ) (key : ℕ) (inner : Boxes) (place : Stood) → IsLinked (links_at taker) → StandFrom taker (first_at taker key) inner
      → ((f : ℕ) → from ≡ Some f → place ≡ At (first_at giver f)) → IsOnWay giver giver taker taker from key inner place (first_at taker key) 0
  way_begins giver taker from key inner place linked stands at = record {
    rest = inner;
    stands = stands;
    count = omega arith;
    height = omega arith;
    same = λ f is there. (first_at giver f, at f is, there);
    done = λ c parent. let all = linked.children key in inr (in_row taker (first_at taker key) all.list inner c all.chain stands (all.whole c parent));
  }

  -- where the next one of a row stands
  same_place : (gone : Slots T) (y : ℕ) (b : Bool) → nat_eq y y ≡ b → (if b then At (next_at gone y) else Elsewhere) ≡ At (next_at gone y)
  same_place gone y true is = refl
  same_place gone y false is = absurd (eq_false y y is refl)

  module _ (giver given gone taker taken got : Slab (Entry T)) (from : Option ℕ) (key child depth steps : ℕ) (place : Stood) (next found : Option ℕ) (inner : Boxes) (is : next ≡ Some child)
      (low : height inner ≤ depth) (few : count inner < 2 ^ 18) (before : Reuses giver given taker taken) (here : Reuses given gone taken got)
      (finds : (tree : Boxes) → IsGoneThrough taken.slots child depth tree → (there : ℕ) → Stands given.slots there tree → found ≡ Some there)
      (leaves : (tree : Boxes) → IsGoneThrough taken.slots child depth tree → (k : ℕ) → IsAbove taken.slots child k → LeavesNothing gone.slots got.slots k) where
    next_is : next_at taker.slots child ≡ next_at taken.slots child
    next_is = sym (ap next_of (before.links child))

    step : (rest : Boxes) → StandFrom taker.slots next rest → count rest + steps ≤ count inner → height rest ≤ height inner
        → ((f : ℕ) → from ≡ Some f → StandFrom giver.slots (first_at giver.slots f) inner → (x : Option ℕ) × (place ≡ At x) × StandFrom giver.slots x rest)
        → ((c : ℕ) → parent_at taker.slots c ≡ Some key → ((k : ℕ) → IsAbove taker.slots c k → LeavesNothing given.slots taken.slots k) ⊎ IsInRow taker.slots next rest c)
        → IsOnWay giver.slots gone.slots taker.slots got.slots from key inner (stood_behind gone.slots place found) (next_at taken.slots child) (steps + 1)
    step none stands less lower same done = absurd (none-some child (sym stands ∙ is))
    step (box name style content within behind) (first, at, node, inside, after) less lower same done =
        let there : first ≡ child = same_Some first child (sym at ∙ is) in
        let P : ℕ → Type 0 = λ j. Stands taker.slots j (box name style content within none) in
        let Q : ℕ → Type 0 = λ j. StandFrom taker.slots (next_at taker.slots j) behind in
        let R : Option ℕ → Type 0 = λ o. StandFrom taker.slots o behind in
        let tree : Stands taker.slots child (box name style content within none) = subst P there (node, inside, refl) in
        let through : IsGoneThrough taken.slots child depth (box name style content within none) = record {
          stands = stood taken.slots taker.slots (λ j. sym (before.links j)) (λ j. sym (before.nodes j)) child (box name style content within none) tree;
          height = max-le (omega (arith, le-max_left (suc (height within)) (height behind), lower, low)) (omega arith);
          count = omega (arith, less, few);
        } in
        record {
          rest = behind;
          stands = subst R next_is (subst Q there after);
          count = omega (arith, less);
          height = omega (arith, le-max_right (suc (height within)) (height behind), lower);
          same = λ f holds stood_there. on f (same f holds stood_there) through;
          done = λ c parent. more c there (done c parent) through;
        }
      where
        on : (f : ℕ) → (x : Option ℕ) × (place ≡ At x) × StandFrom giver.slots x (box name style content within behind) → IsGoneThrough taken.slots child depth (box name style content within none)
            → (x : Option ℕ) × (stood_behind gone.slots place found ≡ At x) × StandFrom giver.slots x behind
        on f (x, was, (y, x_is, node_y, inside_y, after_y)) through =
            let found_is : found ≡ Some y =
            finds (box name style content within none) through y
            (stood given.slots giver.slots (λ j. sym (before.gives.links j)) (λ j. sym (before.gives.nodes j)) y (box name style content within none) (node_y, inside_y, refl)) in (
              next_at giver.slots y,
              ap₂ (stood_behind gone.slots) (was ∙ ap At x_is) found_is ∙ same_place gone.slots y (nat_eq y y) refl ∙ ap At (ap next_of (here.gives.links y ∙ before.gives.links y)),
              after_y,
            )

        more : (c : ℕ) → first ≡ child → ((k : ℕ) → IsAbove taker.slots c k → LeavesNothing given.slots taken.slots k) ⊎ IsInRow taker.slots next (box name style content within behind) c
            → IsGoneThrough taken.slots child depth (box name style content within none)
            → ((k : ℕ) → IsAbove taker.slots c k → LeavesNothing gone.slots got.slots k) ⊎ IsInRow taker.slots (next_at taken.slots child) behind c
        more c there (inl all) through = inl (λ k above. leaves_still given gone taken got k here (all k above))
        more c there (inr (j, j_is, inl same)) through =
            let P : ℕ → Type 0 = λ i. (k : ℕ) → IsAbove taker.slots i k → LeavesNothing gone.slots got.slots k in
            let c_is : child ≡ c = same_Some child j (sym is ∙ j_is) ∙ same in
            inl (subst P c_is (λ k above. leaves (box name style content within none) through k (above_moved taken.slots taker.slots (λ i. sym (before.links i)) child k above)))
        more c there (inr (j, j_is, inr later)) through =
            let P : Option ℕ → Type 0 = λ o. IsInRow taker.slots o behind c in
            inr (subst P (ap (next_at taker.slots) (same_Some j child (sym j_is ∙ is)) ∙ next_is) later)

    -- one box more
    pub way_on : IsOnWay giver.slots given.slots taker.slots taken.slots from key inner place next steps
        → IsOnWay giver.slots gone.slots taker.slots got.slots from key inner (stood_behind gone.slots place found) (next_at taken.slots child) (steps + 1)
    way_on way = step way.rest way.stands way.count way.height way.same way.done

  -- the row has ended
  module _ (giver given taker taken : Slots T) (from : Option ℕ) (key : ℕ) (inner : Boxes) (place : Stood) (next : Option ℕ) (steps : ℕ) (way : IsOnWay giver given taker taken from key inner place next steps)
      (few : count inner < 2 ^ 18) (over : (next ≡ None) ⊎ (2 ^ 18 ≤ steps)) where
    none_left : (rest : Boxes) → StandFrom taker next rest → count rest + steps ≤ count inner → (next ≡ None) ⊎ (2 ^ 18 ≤ steps) → rest ≡ none
    none_left none stands less over = refl
    none_left (box name style content within behind) (first, at, node, inside, after) less (inl absent) = absurd (none-some first (sym absent ∙ at))
    none_left (box name style content within behind) (first, at, node, inside, after) less (inr past) = absurd (omega (arith, less, few, past))

    ended : way.rest ≡ none
    ended = none_left way.rest way.stands way.count over

    pub way_next : next ≡ None
    way_next = let P : Boxes → Type 0 = λ b. StandFrom taker next b in subst P ended way.stands

    pub way_place : (f : ℕ) → from ≡ Some f → StandFrom giver (first_at giver f) inner → place ≡ At None
    way_place f is there =
        let (x, at, rest) = way.same f is there in
        let P : Boxes → Type 0 = λ b. StandFrom giver x b in
        at ∙ ap At (subst P ended rest)

    pub way_done : (c k : ℕ) → parent_at taker c ≡ Some key → IsAbove taker c k → LeavesNothing given taken k
    way_done c k parent above = by (way.done c parent)
      where
        by : ((k : ℕ) → IsAbove taker c k → LeavesNothing given taken k) ⊎ IsInRow taker next way.rest c → LeavesNothing given taken k
        by (inl all) = all k above
        by (inr later) = let P : Boxes → Type 0 = λ b. IsInRow taker next b c in absurd (subst P ended later)

  -- ---- a box with those inside it

  -- the trees that stand from there on are one
  one_row : (slots : Slots T) (from : Option ℕ) (a b : Boxes) → StandFrom slots from a → StandFrom slots from b → a ≡ b
  one_row slots from none none is also = refl
  one_row slots from none (box name style content inner next) is (key, at, node, inside, behind) = absurd (none-some key (sym is ∙ at))
  one_row slots from (box name style content inner next) none (key, at, node, inside, behind) is = absurd (none-some key (sym is ∙ at))
  one_row slots from (box name style content inner next) (box name' style' content' inner' next') (key, at, node, inside, behind) (other, also, node', inside', behind') =
      let same : other ≡ key = same_Some other key (sym also ∙ at) in
      let P : ℕ → Type 0 = λ j. (node_at slots j ≡ Some (record { name = name'; style = style'; content = content' })) × StandFrom slots (first_at slots j) inner' × StandFrom slots (next_at slots j) next' in
      let (node_here, inside_here, behind_here) = subst P same (node', inside', behind') in
      let nodes = same_Some _ _ (sym node ∙ node_here) in
      ap (λ (n : Node). box n.name n.style n.content inner next) nodes
      ∙ ap₂ (λ i n. box name' style' content' i n) (one_row slots (first_at slots key) inner inner' inside inside_here) (one_row slots (next_at slots key) next next' behind behind_here)

  one_tree : (slots : Slots T) (key : ℕ) (a b : Boxes) → Stands slots key a → Stands slots key b → a ≡ b
  one_tree slots key none b is also = absurd is
  one_tree slots key (box name style content inner next) none is also = absurd also
  one_tree slots key (box name style content inner next) (box name' style' content' inner' next') (node, inside, alone) (node', inside', alone') =
      ap (λ (n : Node). box n.name n.style n.content inner next) (same_Some _ _ (sym node ∙ node'))
      ∙ ap₂ (λ i n. box name' style' content' i n) (one_row slots (first_at slots key) inner inner' inside inside') (alone ∙ sym alone')

  -- what is inside a tree, as far as it is gone through
  pub record IsWithin (taker : Slots T) (key depth : ℕ) (inner : Boxes) : Type 0 where
    pub stands : StandFrom taker (first_at taker key) inner
    pub low : height inner < depth
    pub few : count inner < 2 ^ 18

  pub within : (taker : Slots T) (key depth : ℕ) (tree : Boxes) → IsGoneThrough taker key depth tree → (node : Node) × (node_at taker key ≡ Some node) × (inner : Boxes) × IsWithin taker key depth inner
  within taker key depth none through = absurd through.stands
  within taker key depth (box name style content inner next) through =
      let (node, inside, alone) = through.stands in (
        record { name = name; style = style; content = content },
        node,
        inner,
        record {
          stands = inside;
          low = omega (arith, le-max_left (suc (height inner)) (height next), through.height);
          few = omega (arith, through.count);
        },
      )

  -- a box whose place was found has nothing left for it
  module _ (giver given gone taker taken got : Slab (Entry T)) (key : ℕ) (stood_at : (node : Node) → node_at taker.slots key ≡ Some node → (f : ℕ) → node_at giver.slots f ≡ Some node → text_at gone.slots f ≡ None)
      (before : Reuses giver given taker taken) (here : Reuses given gone taken got)
      (results : (f : ℕ) (tree : Boxes) → Stands taker.slots key tree → Stands giver.slots f tree → AreAround (around_at given.slots f) (around_at taken.slots key) → (c : Constraint) → kept_at gone.slots f c ≡ None) where
    both : Reuses giver gone taker got
    both = reuses_then giver given gone taker taken got before here

    pub leaves_own : LeavesNothing gone.slots got.slots key
    leaves_own = record {
      texts = λ f node is was. stood_at node (sym (both.nodes key) ∙ is) f (sym (both.gives.nodes f) ∙ was);
      results = λ f tree c stands there around.
          let P : Option Node → Type 0 = λ o. AreAround o (around_at got.slots key) in
          let Q : Option Node → Type 0 = λ o. AreAround (around_at given.slots f) o in
          results f tree (stood taker.slots got.slots both.links both.nodes key tree stands) (stood giver.slots gone.slots both.gives.links both.gives.nodes f tree there)
          (subst Q (same_around taken.slots got.slots here.nodes here.links key) (subst P (same_around given.slots gone.slots here.gives.nodes here.gives.links f) around)) c;
    }

  -- the same inside it stood inside the other one
  pub inside_stood : (giver taker : Slots T) (from key : ℕ) (inner tree : Boxes) → StandFrom taker (first_at taker key) inner → Stands taker key tree → Stands giver from tree → StandFrom giver (first_at giver from) inner
  inside_stood giver taker from key inner none stands is there = absurd is
  inside_stood giver taker from key inner (box name style content own next) stands (node, inside, alone) (node', inside', alone') =
      let P : Boxes → Type 0 = λ b. StandFrom giver (first_at giver from) b in
      subst P (one_row taker (first_at taker key) own inner inside stands) inside'

  -- the next box of a row stands in the same box
  pub inside_on : (old now : Slots T) (key child : ℕ) (next : Option ℕ) → IsLinked (links_at old) → SameLinks old now → IsIn (links_at old) key next → next ≡ Some child → IsIn (links_at old) key (next_at now child)
  inside_on old now key child next linked links inside is =
      let P : Option ℕ → Type 0 = λ o. IsIn (links_at old) key o in
      subst P (sym (ap next_of (links child))) (linked.on key (Some child) (subst P is inside))

  -- and all inside it are inside that one
  pub inside_all : (old : Slots T) (key child : ℕ) (next : Option ℕ) → IsIn (links_at old) key next → next ≡ Some child → (k : ℕ) → IsAbove old child k → IsAbove old key k
  inside_all old key child next inside is k above =
      let P : Option ℕ → Type 0 = λ o. IsIn (links_at old) key o in
      reaches_on (links_at old) child key k above (subst P is inside)

  -- the boxes inside one are gone through, and what is kept for the one it was went over
  module _ (giver given gone taker taken got : Slab (Entry T)) (key depth steps : ℕ) (from next : Option ℕ) (place : Stood) (there : ℕ) (is : from ≡ Some there) (before : Reuses giver given taker taken)
      (here : Reuses given gone taken got) (found : (node : Node) → node_at taker.slots key ≡ Some node → (f : ℕ) → node_at giver.slots f ≡ Some node → from ≡ Some f) (over : (next ≡ None) ⊎ (2 ^ 18 ≤ steps))
      (way : (inner : Boxes) → IsWithin taker.slots key depth inner → IsOnWay giver.slots given.slots taker.slots taken.slots from key inner place next steps) where
    pub row_same : (tree : Boxes) → IsGoneThrough taker.slots key depth tree → (f : ℕ) → Stands giver.slots f tree → (place ≡ At None) × (next ≡ None)
    row_same tree through f stood_there =
        let (node, at, inner, in_it) = within taker.slots key depth tree through in
        let on = way inner in_it in
        let (own, own_at, was) = same_box taker.slots giver.slots key f tree through.stands stood_there in (
          way_place giver.slots given.slots taker.slots taken.slots from key inner place next steps on in_it.few over f (found own own_at f was)
              (inside_stood giver.slots taker.slots f key inner tree in_it.stands through.stands stood_there),
          way_next giver.slots given.slots taker.slots taken.slots from key inner place next steps on in_it.few over,
        )

    pub all_left : text_at gone.slots there ≡ None → (place ≡ At None → next ≡ None → AreAround (around_at given.slots there) (around_at taken.slots key) → (c : Constraint) → kept_at gone.slots there c ≡ None)
        → (tree : Boxes) → IsGoneThrough taker.slots key depth tree → (k : ℕ) → IsAbove taker.slots key k → LeavesNothing gone.slots got.slots k
    all_left text results tree through k above = by (inside_child taker.slots key k above)
      where
        it : (f : ℕ) → from ≡ Some f → there ≡ f
        it f found_there = same_Some there f (sym is ∙ found_there)

        texts : (node : Node) → node_at taker.slots key ≡ Some node → (f : ℕ) → node_at giver.slots f ≡ Some node → text_at gone.slots f ≡ None
        texts node at f was = let P : ℕ → Type 0 = λ j. text_at gone.slots j ≡ None in subst P (it f (found node at f was)) text

        of_tree : (f : ℕ) (other : Boxes) → Stands taker.slots key other → Stands giver.slots f other → AreAround (around_at given.slots f) (around_at taken.slots key) → (c : Constraint) → kept_at gone.slots f c ≡ None
        of_tree f other stands stood_there around c =
            let same : tree ≡ other = one_tree taker.slots key tree other through.stands stands in
            let P : Boxes → Type 0 = λ b. Stands giver.slots f b in
            let (place_is, next_is) = row_same tree through f (subst P (sym same) stood_there) in
            let (own, own_at, was) = same_box taker.slots giver.slots key f other stands stood_there in
            let f_is = it f (found own own_at f was) in
            let Q : ℕ → Type 0 = λ j. kept_at gone.slots j c ≡ None in
            let R : ℕ → Type 0 = λ j. AreAround (around_at given.slots j) (around_at taken.slots key) in
            subst Q f_is (results place_is next_is (subst R (sym f_is) around) c)

        by : (k ≡ key) ⊎ ((c : ℕ) × IsAbove taker.slots c k × (parent_at taker.slots c ≡ Some key)) → LeavesNothing gone.slots got.slots k
        by (inl same) = let P : ℕ → Type 0 = λ j. LeavesNothing gone.slots got.slots j in subst P (sym same) (leaves_own giver given gone taker taken got key texts before here of_tree)
        by (inr (c, inside, parent)) =
            let (node, at, inner, in_it) = within taker.slots key depth tree through in
            leaves_still given gone taken got k here
            (way_done giver.slots given.slots taker.slots taken.slots from key inner place next steps (way inner in_it) in_it.few over c k parent inside)

  -- the boxes inside one are gone through, which was nothing before
  pub others_left : (giver given taker taken : Slab (Entry T)) (key depth steps : ℕ) (from next : Option ℕ) (place : Stood) → from ≡ None → Reuses giver given taker taken
      → ((node : Node) → node_at taker.slots key ≡ Some node → (f : ℕ) → node_at giver.slots f ≡ Some node → from ≡ Some f) → (next ≡ None) ⊎ (2 ^ 18 ≤ steps)
      → ((inner : Boxes) → IsWithin taker.slots key depth inner → IsOnWay giver.slots given.slots taker.slots taken.slots from key inner place next steps)
      → (tree : Boxes) → IsGoneThrough taker.slots key depth tree → (k : ℕ) → IsAbove taker.slots key k → LeavesNothing given.slots taken.slots k
  others_left giver given taker taken key depth steps from next place nowhere before found over way tree through k above = by (inside_child taker.slots key k above)
    where
      never : (node : Node) → node_at taker.slots key ≡ Some node → (f : ℕ) → node_at giver.slots f ≡ Some node → ⊥
      never node at f was = none-some f (sym nowhere ∙ found node at f was)

      of_tree : (f : ℕ) (other : Boxes) → Stands taker.slots key other → Stands giver.slots f other → AreAround (around_at given.slots f) (around_at taken.slots key) → (c : Constraint) → kept_at given.slots f c ≡ None
      of_tree f other stands stood_there around c = let (own, own_at, was) = same_box taker.slots giver.slots key f other stands stood_there in absurd (never own own_at f was)

      by : (k ≡ key) ⊎ ((c : ℕ) × IsAbove taker.slots c k × (parent_at taker.slots c ≡ Some key)) → LeavesNothing given.slots taken.slots k
      by (inl same) =
          let P : ℕ → Type 0 = λ j. LeavesNothing given.slots taken.slots j in
          subst P (sym same) (leaves_own giver given given taker taken taken key (λ node at f was. absurd (never node at f was)) before (reuses_none given taken) of_tree)
      by (inr (c, inside, parent)) =
          let (node, at, inner, in_it) = within taker.slots key depth tree through in
          way_done giver.slots given.slots taker.slots taken.slots from key inner place next steps (way inner in_it) in_it.few over c k parent inside

  -- ---- all of it

  pub nothing_lost : (giver given old new : Slab (Entry T)) (root : ℕ) → AreNamedOnce giver.slots → AreNamedOnce old.slots → Reuses giver given old new → HandsUnder giver.slots given.slots old.slots new.slots root
      → ((k : ℕ) → IsAbove old.slots root k → LeavesNothing given.slots new.slots k) → LosesNothing giver.slots old.slots new.slots root
  nothing_lost giver given old new root named once reuses hands leaves = record {
    texts = λ key from node text above is was there.
        let over = hands.over named once key from node is was in
        gone_over _ _ _ _ tt text over.text ((leaves key above).texts from node (reuses.nodes key ∙ is) (reuses.gives.nodes from ∙ was)) there;
    results = λ key from tree c result above stands was around there.
        let (node, is, also) = same_box old.slots giver.slots key from tree stands was in
        let over = hands.over named once key from node is also in
        let P : Option Node → Type 0 = λ o. AreAround o (around_at new.slots key) in
        let Q : Option Node → Type 0 = λ o. AreAround (around_at giver.slots from) o in
        gone_over _ _ _ _ c result over.results
        ((leaves key above).results from tree c
        (stood new.slots old.slots (λ j. sym (reuses.links j)) (λ j. sym (reuses.nodes j)) key tree stands)
        (stood given.slots giver.slots (λ j. sym (reuses.gives.links j)) (λ j. sym (reuses.gives.nodes j)) from tree was)
        (subst P (sym (same_around giver.slots given.slots reuses.gives.nodes reuses.gives.links from)) (subst Q (sym (same_around old.slots new.slots reuses.nodes reuses.links key)) around)))
        there;
    elsewhere = hands.elsewhere;
  }
