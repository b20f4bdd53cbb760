-- An insertion that is taken back: the nodes that came go, and no others.
use Rattle.std.proofs.Common.{◌≡◌, ◌∙◌, ℕ, zero, suc, ◌+◌, ◌-◌, ◌<◌, ◌≤◌, Bool, true, false, List, [], ◌∷◌, ◌++◌, take, drop, get_or, append-nil, refl, ap, sym, subst, arith, Option, Some, None, option_map, if◌then◌else◌, inl, inr}
use Rattle.std.specs.Prelude.{nat_eq, not, flat_map, is_some}
use Rattle.std.specs.List.{Contains, list_any, slice_get}
use Rattle.std.proofs.lemmas.Bool.{cases_lt, eqb-true, false≢true, le-ltb, lt-ltb}
use Rattle.std.proofs.lemmas.List.{take-append-drop}
use Rattle.std.proofs.lemmas.List.Elements.{filter-append}
use Rattle.std.proofs.lemmas.Option.{none-some}
use Rattle.basic_laws.proofs.Lists.{any_contained, contained_any, contains_equal, contains_none, contains_other}
use Rattle.css_types.specs.declared.value.Declaration.{Declaration}
use Rattle.html_read.specs.Values.{Node}
use Rattle.dom_store.specs.State.{Entry, State, greatest_depth}
use Rattle.dom_store.specs.Opening.{children_from, what_of}
use Rattle.dom_store.specs.Standing.{children_at, inclusive_descendants, lives, parent_at}
use Rattle.dom_store.specs.Building.{with_next}
use Rattle.dom_store.specs.Edits.{changed, inserted, inserted_at, under, with_children, with_put}
use Rattle.dom_store.specs.Exact.{taken, without_each}
use Rattle.dom_store.proofs.SameLaws.{are_equal}
use Rattle.tree_laws.specs.Reached.{IsAtLevel, IsReached}
use Rattle.tree_laws.specs.Wholeness.{IsWhole, times}
use Rattle.tree_laws.proofs.Keeping.{children_of, none_changed, parent_of}
use Rattle.tree_laws.proofs.Levels.{IsBelow, chain_of_descendant, contained_flat, contained_times, descendant_of_chain, flat_contained, parent_of_child, times_contained}
use Rattle.tree_laws.proofs.Places.{none_before}
use Rattle.tree_laws.proofs.Refusing.{lives_below}
use Rattle.tree_laws.proofs.Staying.{goes_on}
use Rattle.tree_laws.proofs.Times.{times-put}

-- ---- numbers that are taken from a list

module _ (numbers : List ℕ) where
  abbrev test : ℕ → Bool
  test child = not (list_any (nat_eq child) numbers)

  all_taken : (others : List ℕ) → ((number : ℕ) → Contains others number → Contains numbers number) → without_each numbers others ≡ []
  all_taken [] are = refl
  all_taken (first ∷ others) are =
      rw (any_contained numbers first (are first (contains_equal first first others refl))) (all_taken others (λ number there. are number (contains_other first number others there)))

  none_taken : (others : List ℕ) → ((number : ℕ) → Contains others number → list_any (nat_eq number) numbers ≡ false) → without_each numbers others ≡ others
  none_taken [] apart = refl
  none_taken (first ∷ others) apart =
      rw (apart first (contains_equal first first others refl)) (ap (λ (l : List ℕ). first ∷ l) (none_taken others (λ number there. apart number (contains_other first number others there))))

  -- what was put is taken, and the others stay
  pub put_taken : (index : ℕ) (others : List ℕ) → ((number : ℕ) → Contains others number → list_any (nat_eq number) numbers ≡ false) → without_each numbers (with_put index numbers others) ≡ others
  put_taken index others apart =
      let front = take index others in
      let rest = drop index others in
      filter-append test (front ++ numbers) rest
      ∙ (ap (λ (l : List ℕ). l ++ without_each numbers rest) (filter-append test front numbers ∙ ap (λ (l : List ℕ). without_each numbers front ++ l) (all_taken numbers (λ number there. there)))
      ∙ (ap (λ (l : List ℕ). l ++ without_each numbers rest) (append-nil (without_each numbers front))
      ∙ (sym (filter-append test front rest) ∙ (ap (without_each numbers) (take-append-drop index others) ∙ none_taken others apart))))

-- ---- the nodes that came

module _ (state : State) (whole : IsWhole state) (parent index : ℕ) (nodes : List Node) (own : List (List Declaration)) (parent_lives : lives state parent ≡ true)
    (more_whole : IsWhole (inserted state parent index nodes own)) (more_reached : IsReached (inserted state parent index nodes own)) where
  abbrev placed : List Node
  placed = under parent state.next nodes

  abbrev fresh : List ℕ
  fresh = children_from state.next parent placed

  abbrev entry_from : (place : ℕ) → Node → Entry
  entry_from place node = record { parent = node.parent; children = children_from state.next (state.next + place) placed; what = what_of node.kind (get_or own place []) }

  abbrev more : State
  more = inserted state parent index nodes own

  abbrev more_at : (number : ℕ) → (old : Bool) → Option Entry
  more_at number old = if old then (changed state parent (with_children (with_put index fresh))).node_at number else inserted_at placed own state.next (number - state.next)

  abbrev came : List ℕ
  came = flat_map (inclusive_descendants more) fresh

  -- a child that stood there before
  early_child : (upper child : ℕ) → Contains (children_at state upper) child → child < state.next
  early_child upper child there = by (state.node_at child) refl
    where
      stands : parent_at state child ≡ Some upper
      stands = parent_of_child state whole upper child there

      by : (o : Option Entry) → state.node_at child ≡ o → child < state.next
      by None at = absurd (none-some upper (sym (ap parent_of at) ∙ stands))
      by (Some entry) at = lives_below state whole child (ap (λ (o : Option Entry). is_some o) at)

  late_fresh : (upper child : ℕ) → Contains (children_from state.next upper placed) child → state.next ≤ child
  late_fresh upper child there = elim (cases_lt child state.next) [
    | inl early ↦ absurd (let some = times_contained (children_from state.next upper placed) child there in omega (arith, some, none_before placed state.next upper child early))
    | inr late ↦ late
  ]

  apart_fresh : (child : ℕ) → Contains (children_at state parent) child → list_any (nat_eq child) fresh ≡ false
  apart_fresh child there = by (list_any (nat_eq child) fresh) refl
    where
      by : (b : Bool) → list_any (nat_eq child) fresh ≡ b → list_any (nat_eq child) fresh ≡ false
      by true is = absurd (omega (arith, early_child parent child there, late_fresh parent child (contained_any fresh child is)))
      by false is = is

  -- the children of a node that came came too
  late_child : (upper child : ℕ) → state.next ≤ upper → Contains (children_at more upper) child → state.next ≤ child
  late_child upper child late there =
      by (slice_get placed (upper - state.next)) (subst (λ (children : List ℕ). Contains children child) (ap (λ (b : Bool). children_of (more_at upper b)) (le-ltb upper state.next late)) there)
    where
      by : (o : Option Node) → Contains (children_of (option_map (entry_from (upper - state.next)) o)) child → state.next ≤ child
      by None among = absurd (contains_none child among)
      by (Some node) among = late_fresh (state.next + (upper - state.next)) child among

  late_below : (levels top number : ℕ) → state.next ≤ top → IsBelow more top levels number → state.next ≤ number
  late_below zero top number late same = subst (λ (n : ℕ). state.next ≤ n) (sym same) late
  late_below (suc levels) top number late (upper, below, there) = late_child upper number (late_below levels top upper late below) there

  all_late : (number : ℕ) → Contains came number → state.next ≤ number
  all_late number there =
      let (top, among, inner) = flat_contained (inclusive_descendants more) fresh number there in
      let (levels, none, few, below) = chain_of_descendant more greatest_depth 0 top number inner in
      late_below levels top number (late_fresh parent top among) below

  -- a node that came into one that was there is one of the tops
  is_top : (upper number : ℕ) → upper < state.next → state.next ≤ number → Contains (children_at more upper) number → Contains fresh number
  is_top upper number early late there =
      by (nat_eq upper parent) (state.node_at upper) refl (subst (λ (children : List ℕ). Contains children number) (ap (λ (b : Bool). children_of (more_at upper b)) (lt-ltb upper state.next early)) there)
    where
      too_early : Contains (children_at state upper) number → Contains fresh number
      too_early among = absurd (omega (arith, early_child upper number among, late))

      by : (b : Bool) (o : Option Entry) → state.node_at upper ≡ o → Contains (children_of (if b then option_map (with_children (with_put index fresh)) o else o)) number → Contains fresh number
      by true None at among = absurd (contains_none number among)
      by true (Some held) at among = elim (cases_lt 0 (times number fresh)) [
        | inl some ↦ contained_times fresh number some
        | inr none ↦ too_early (subst (λ (children : List ℕ). Contains children number) (sym (ap children_of at)) (contained_times held.children number
            (omega (arith, none, times-put index number fresh held.children, times_contained (with_put index fresh held.children) number among))))
      ]
      by false o at among = too_early (subst (λ (children : List ℕ). Contains children number) (sym (ap children_of at)) among)

  all_came : (level number : ℕ) → level < greatest_depth → state.next ≤ number → IsAtLevel more level number → Contains came number
  all_came zero number low late at = absurd (omega (arith, at, late, lives_below state whole parent parent_lives))
  all_came (suc level) number low late (upper, at, there) = elim (cases_lt upper state.next) [
    | inl early ↦ contained_flat (inclusive_descendants more) fresh number number (is_top upper number early late there) (descendant_of_chain more 0 0 greatest_depth number number (omega arith) (omega arith) refl)
    | inr after ↦
        let (top, among, inner) = flat_contained (inclusive_descendants more) fresh upper (all_came level upper (omega (arith, low)) after at) in
        contained_flat (inclusive_descendants more) fresh top number among (goes_on more more_whole more_reached top level upper number low at there inner)
  ]

  -- ---- the state in which they are gone

  abbrev gone_at : (number : ℕ) → Option Entry
  gone_at number = (changed more parent (with_children (without_each fresh))).node_at number

  late_none : (number : ℕ) → state.next ≤ number → (b : Bool) → list_any (nat_eq number) came ≡ b → (if b then None else gone_at number) ≡ state.node_at number
  late_none number late true out = sym (whole.below number late)
  late_none number late false out = by (more.node_at number) refl
    where
      by : (o : Option Entry) → more.node_at number ≡ o → gone_at number ≡ state.node_at number
      by None at = none_changed (with_children (without_each fresh)) (nat_eq number parent) (more.node_at number) at ∙ sym (whole.below number late)
      by (Some held) at =
          let (level, low, its) = more_reached.reached number (ap (λ (o : Option Entry). is_some o) at) in
          absurd (false≢true (sym out ∙ any_contained came number (all_came level number low late its)))

  early_same : (number : ℕ) → number < state.next → (b : Bool) → list_any (nat_eq number) came ≡ b → (if b then None else gone_at number) ≡ state.node_at number
  early_same number early true out = absurd (omega (arith, early, all_late number (contained_any came number out)))
  early_same number early false out = rw (lt-ltb number state.next early) (by (nat_eq number parent) refl (state.node_at number) refl)
    where
      by : (b : Bool) → nat_eq number parent ≡ b → (o : Option Entry) → state.node_at number ≡ o
          → (if b then option_map (with_children (without_each fresh)) (if b then option_map (with_children (with_put index fresh)) o else o) else (if b then option_map (with_children (with_put index fresh)) o else o)) ≡ o
      by true same None at = refl
      by true same (Some held) at =
          let own : children_at state parent ≡ held.children = ap (children_at state) (sym (eqb-true number parent same)) ∙ ap children_of at in
          ap (λ (l : List ℕ). Some (record held { children = l })) (put_taken fresh index held.children (λ child there. apart_fresh child (subst (λ (children : List ℕ). Contains children child) (sym own) there)))
      by false apart o at = refl

  pub inserted_back : taken more parent fresh ≡ with_next more.next state
  inserted_back = are_equal _ _ (record {
    nodes = λ number. elim (cases_lt number state.next) [
      | inl early ↦ early_same number early (list_any (nat_eq number) came) refl
      | inr late ↦ late_none number late (list_any (nat_eq number) came) refl
    ];
    next = refl;
  })
