-- A removal that is taken back: the nodes that went stand again where they stood.
use Rattle.std.proofs.Common.{◌≡◌, ◌≢◌, ◌∙◌, ℕ, zero, suc, ◌+◌, ◌<◌, Bool, true, false, List, [], ◌∷◌, ◌++◌, map, filter, append-nil, refl, ap, sym, subst, arith, Option, Some, None, option_map, if◌then◌else◌, inl, inr}
use Rattle.std.specs.Prelude.{nat_eq, filter_map, flat_map, unwrap_or, ◌||◌, is_some}
use Rattle.std.specs.List.{Contains, find, list_any}
use Rattle.std.specs.Option.{option_or}
use Rattle.std.proofs.lemmas.Bool.{eq-eqb, eqb-true, ne_eqb}
use Rattle.std.proofs.lemmas.Bool.Decides.{eqb_tells}
use Rattle.std.proofs.lemmas.List.{map-append}
use Rattle.std.proofs.lemmas.List.Elements.{filter-append, filter_map-append}
use Rattle.basic_laws.proofs.Lists.{contained_any, contains_equal, contains_other}
use Rattle.dom_store.specs.State.{Entry, State, greatest_depth}
use Rattle.dom_store.specs.Standing.{below_levels, children_at, inclusive_descendants, lives, parent_at}
use Rattle.dom_store.specs.Edits.{changed, changed_if, removed, with_children, with_put, without, without_nodes}
use Rattle.dom_store.specs.Exact.{NumberedOf, entry_among, numbered_at, numbers_under, restored}
use Rattle.dom_store.specs.Steps.{numbered_of, place_in}
use Rattle.dom_store.proofs.SameLaws.{are_equal}
use Rattle.tree_laws.specs.Reached.{IsAtLevel, IsReached}
use Rattle.tree_laws.specs.Wholeness.{IsWhole, times}
use Rattle.tree_laws.proofs.Keeping.{children_of, parent_of}
use Rattle.std.proofs.lemmas.Option.{none-some}
use Rattle.tree_laws.proofs.Levels.{times_contained, IsBelow, below_first, chain_of_descendant, flat_contained, level_below, parent_of_child}
use Rattle.tree_laws.proofs.Stepping.{put_again, stands_once}
use Rattle.tree_laws.proofs.Times.{hit, hit_apart, hit_same}
use Rattle.tree_laws.proofs.Uniqueness.{lower_apart, one_above, one_level, parent_below}

-- ---- lists of lists

flat_same : (f g : ℕ → List ℕ) (numbers : List ℕ) → ((number : ℕ) → Contains numbers number → f number ≡ g number) → flat_map f numbers ≡ flat_map g numbers
flat_same f g [] same = refl
flat_same f g (first ∷ numbers) same =
    ap (λ (l : List ℕ). l ++ flat_map f numbers) (same first (contains_equal first first numbers refl))
    ∙ ap (λ (l : List ℕ). g first ++ l) (flat_same f g numbers (λ number there. same number (contains_other first number numbers there)))

flat_each : (numbers : List ℕ) → flat_map (λ number. number ∷ []) numbers ≡ numbers
flat_each [] = refl
flat_each (first ∷ numbers) = ap (λ (l : List ℕ). first ∷ l) (flat_each numbers)

flat_none : (f : ℕ → List ℕ) (numbers : List ℕ) → ((number : ℕ) → Contains numbers number → f number ≡ []) → flat_map f numbers ≡ []
flat_none f [] none = refl
flat_none f (first ∷ numbers) none =
    ap (λ (l : List ℕ). l ++ flat_map f numbers) (none first (contains_equal first first numbers refl)) ∙ flat_none f numbers (λ number there. none number (contains_other first number numbers there))

-- where only one of them gives something, and it is there once
flat_only : (f : ℕ → List ℕ) (one : ℕ) (numbers : List ℕ) → times one numbers ≡ 1 → ((number : ℕ) → Contains numbers number → number ≢ one → f number ≡ []) → flat_map f numbers ≡ f one
flat_only f one [] once none = absurd (omega (arith, once))
flat_only f one (first ∷ numbers) once none = elim (eqb_tells one first) [
  | inl (here, same) ↦
      let rest : times one numbers ≡ 0 = omega (arith, once, subst (λ (n : ℕ). hit one n ≡ 1) same (hit_same one)) in
      ap (λ (l : List ℕ). f first ++ l) (flat_none f numbers (λ number there. none number (contains_other first number numbers there) (λ is. absurd (let some = times_contained numbers one (subst (Contains numbers) is there) in omega (arith, rest, some)))))
      ∙ (append-nil (f first) ∙ ap f (sym same))
  | inr (there, apart) ↦
      ap (λ (l : List ℕ). l ++ flat_map f numbers) (none first (contains_equal first first numbers refl) (λ is. apart (sym is)))
      ∙ flat_only f one numbers (omega (arith, once, hit_apart one first apart)) (λ number in_rest. none number (contains_other first number numbers in_rest))
]

-- ---- of a list of nodes, those that have a parent

module _ (state : State) (parent : ℕ) where
  abbrev under : List ℕ → List ℕ
  under numbers = numbers_under parent (filter_map (numbered_of state) numbers)

  under_both : (one two : List ℕ) → under (one ++ two) ≡ under one ++ under two
  under_both one two =
      let nodes = filter_map (numbered_of state) in
      let test = λ (node : NumberedOf). nat_eq parent node.parent in
      ap (numbers_under parent) (filter_map-append (numbered_of state) one two)
      ∙ (ap (map (λ (node : NumberedOf). node.number)) (filter-append test (nodes one) (nodes two)) ∙ map-append (λ (node : NumberedOf). node.number) (filter test (nodes one)) (filter test (nodes two)))

  under_flat : (f : ℕ → List ℕ) (numbers : List ℕ) → under (flat_map f numbers) ≡ flat_map (λ number. under (f number)) numbers
  under_flat f [] = refl
  under_flat f (first ∷ numbers) = under_both (f first) (flat_map f numbers) ∙ ap (λ (l : List ℕ). under (f first) ++ l) (under_flat f numbers)

  -- one that has it, and one that has another
  under_here : (number : ℕ) (o : Option Entry) → state.node_at number ≡ o → parent_of o ≡ Some parent → under (number ∷ []) ≡ number ∷ []
  under_here number None at is = absurd (none-some parent is)
  under_here number (Some entry) at is =
      let own : unwrap_or entry.parent 0 ≡ parent = ap (λ (o : Option ℕ). unwrap_or o 0) is in
      rw at (rw own (rw (eq-eqb parent parent refl) refl))

  under_away : (number other : ℕ) (o : Option Entry) → state.node_at number ≡ o → parent_of o ≡ Some other → other ≢ parent → under (number ∷ []) ≡ []
  under_away number other None at is apart = absurd (none-some other is)
  under_away number other (Some entry) at is apart =
      let own : unwrap_or entry.parent 0 ≡ other = ap (λ (o : Option ℕ). unwrap_or o 0) is in
      rw at (rw own (rw (ne_eqb parent other (λ same. apart (sym same))) refl))

  -- none of them has it
  under_none : (numbers : List ℕ) → ((number : ℕ) → Contains numbers number → (other : ℕ) × (parent_at state number ≡ Some other) × (other ≢ parent)) → under numbers ≡ []
  under_none [] others = refl
  under_none (first ∷ numbers) others =
      let (other, is, apart) = others first (contains_equal first first numbers refl) in
      under_both (first ∷ []) numbers
      ∙ (ap (λ (l : List ℕ). l ++ under numbers) (under_away first other (state.node_at first) refl is apart)
      ∙ under_none numbers (λ number there. others number (contains_other first number numbers there)))

-- ---- below a node, those that have a parent are its children, in their order

module _ (state : State) (whole : IsWhole state) where
  abbrev part : (levels : ℕ) → (top : ℕ) → List ℕ
  part levels top = below_levels 0 levels state top

  -- a part in which the parent isn't, nor is it above
  without_parent : (most top parent upper : ℕ) → parent_at state top ≡ Some upper → upper ≢ parent → ((levels : ℕ) → levels < most → IsBelow state top levels parent → ⊥) → under state parent (part most top) ≡ []
  without_parent most top parent upper is apart away =
      under_none state parent (part most top) (λ number there.
      let (levels, none, few, below) = chain_of_descendant state most 0 top number there in
      by levels few number below)
    where
      by : (levels : ℕ) → levels < most → (number : ℕ) → IsBelow state top levels number → (other : ℕ) × (parent_at state number ≡ Some other) × (other ≢ parent)
      by zero few number same = (upper, ap (parent_at state) same ∙ is, apart)
      by (suc levels) few number (other, below, there) = (other, parent_of_child state whole other number there, λ same. away levels (omega (arith, few)) (subst (IsBelow state top levels) same below))

  -- nodes below the children of a node that is lower than the parent
  lower_away : (most level low top parent : ℕ) → IsAtLevel state level top → IsAtLevel state low parent → low < level → under state parent (flat_map (part most) (children_at state top)) ≡ []
  lower_away most level low top parent at higher less =
      under_none state parent (flat_map (part most) (children_at state top)) (λ number there.
      let (child, among, inner) = flat_contained (part most) (children_at state top) number there in
      let (levels, few, (other, below, last)) = parent_below state whole most top child number among inner in
      let its = level_below state level levels top other at below in
      (other, parent_of_child state whole other number last, λ same. lower_apart state whole low (level + levels) parent other higher its (omega (arith, less)) (sym same)))

  -- of a node and those below it, the node alone has its parent
  pub alone : (most level top parent : ℕ) → IsAtLevel state level parent → Contains (children_at state parent) top → under state parent (part (suc most) top) ≡ top ∷ []
  unfolding below_levels
  alone most level top parent at there =
      under_both state parent (top ∷ []) (flat_map (part most) (children_at state top))
      ∙ (ap (λ (l : List ℕ). l ++ under state parent (flat_map (part most) (children_at state top))) (under_here state parent top (state.node_at top) refl (parent_of_child state whole parent top there))
      ∙ ap (λ (l : List ℕ). top ∷ l) (lower_away most (suc level) level top parent (parent, at, there) at (omega arith)))

  -- the first of a part, of which no node has the parent
  not_first : (most levels level top upper number : ℕ) → IsAtLevel state level upper → Contains (children_at state upper) top → IsBelow state top levels number
      → under state number (part (suc most) top) ≡ flat_map (λ child. under state number (part most child)) (children_at state top)
  unfolding below_levels
  not_first most levels level top upper number at there below =
      let lower = level_below state (suc level) levels top number (upper, at, there) below in
      let apart : upper ≢ number = lower_apart state whole level (suc level + levels) upper number at lower (omega arith) in
      under_both state number (top ∷ []) (flat_map (part most) (children_at state top))
      ∙ (ap (λ (l : List ℕ). l ++ under state number (flat_map (part most) (children_at state top))) (under_away state number top upper (state.node_at top) refl (parent_of_child state whole upper top there) apart)
      ∙ under_flat state number (part most) (children_at state top))

  pub children_below : (levels most level top upper number : ℕ) → levels < most → IsAtLevel state level upper → Contains (children_at state upper) top → IsBelow state top levels number
      → under state number (part (suc most) top) ≡ children_at state number
  children_below levels zero level top upper number few at there below = absurd (omega (arith, few))
  children_below zero (suc most) level top upper number few at there same =
      let tops : under state top (part (suc (suc most)) top) ≡ children_at state top =
      not_first (suc most) 0 level top upper top at there refl
      ∙ (flat_same (λ child. under state top (part (suc most) child)) (λ child. child ∷ []) (children_at state top) (λ child among. alone most (suc level) child top (upper, at, there) among)
      ∙ flat_each (children_at state top)) in
      subst (λ (n : ℕ). under state n (part (suc (suc most)) top) ≡ children_at state n) (sym same) tops
  children_below (suc levels) (suc most) level top upper number few at there below =
      let (child, first, rest) = below_first state levels top number below in
      let here : IsAtLevel state (suc level) top = (upper, at, there) in
      let top_parent = parent_of_child state whole top in
      let lower = level_below state (suc (suc level)) levels child number (top, here, first) rest in
      let apart : top ≢ number = lower_apart state whole (suc level) (suc (suc level) + levels) top number here lower (omega arith) in
      not_first (suc most) (suc levels) level top upper number at there below
      ∙ (flat_only (λ c. under state number (part (suc most) c)) child (children_at state top) (stands_once state whole child top (top_parent child first) first) (λ other among differs.
      without_parent (suc most) other number top (top_parent other among) apart (λ deep within its.
      let same : deep ≡ levels = omega (arith, one_level state whole (suc (suc level) + deep) (suc (suc level) + levels) number (level_below state (suc (suc level)) deep other number (top, here, among) its) lower) in
      differs (one_above state whole levels other child number (subst (λ (n : ℕ). IsBelow state other n number) same its) rest)))
      ∙ children_below levels most (suc level) child top number (omega (arith, few)) here first rest)

-- ---- a node of a list, by its number

found_first : (state : State) (number first : ℕ) (o : Option Entry) → state.node_at first ≡ o → (numbers : List ℕ)
    → find (λ node. nat_eq number node.number) (filter_map (numbered_of state) numbers) ≡ (if list_any (nat_eq number) numbers then numbered_of state number else None)
    → find (λ node. nat_eq number node.number) (filter_map (numbered_of state) (first ∷ numbers)) ≡ (if (nat_eq number first || list_any (nat_eq number) numbers) then numbered_of state number else None)
found_first state number first None at numbers others = elim (eqb_tells number first) [
  | inl (here, same) ↦
      let dead : numbered_of state number ≡ None = ap (numbered_of state) same ∙ rw at refl in
      rw (at, here) (others ∙ dead_either (list_any (nat_eq number) numbers) (numbered_of state number) dead)
  | inr (there, apart) ↦ rw (at, there) others
]
  where
    dead_either : (b : Bool) (o : Option NumberedOf) → o ≡ None → (if b then o else None) ≡ o
    dead_either true o is = refl
    dead_either false o is = sym is
found_first state number first (Some entry) at numbers others = elim (eqb_tells number first) [
  | inl (here, same) ↦
      let its : numbered_of state number ≡ Some (record { number = first; parent = unwrap_or entry.parent 0; what = entry.what }) = ap (numbered_of state) same ∙ rw at refl in
      rw (at, here) (sym its)
  | inr (there, apart) ↦ rw (at, there) others
]

pub found_among : (state : State) (number : ℕ) (numbers : List ℕ)
    → find (λ node. nat_eq number node.number) (filter_map (numbered_of state) numbers) ≡ (if list_any (nat_eq number) numbers then numbered_of state number else None)
found_among state number [] = refl
found_among state number (first ∷ numbers) = found_first state number first (state.node_at first) refl numbers (found_among state number numbers)

-- ---- the state in which they stand again

or_nothing : (one : Option Entry) (other : Option Entry) → one ≡ None → option_or one other ≡ other
or_nothing None other is = refl
or_nothing (Some entry) other is = absurd (none-some entry (sym is))

module _ (state : State) (whole : IsWhole state) (reached : IsReached state) (number parent : ℕ) (is : parent_at state number ≡ Some parent) (there : Contains (children_at state parent) number) (level : ℕ) (low : suc level < greatest_depth) (at : IsAtLevel state level parent) where
  abbrev gone : List ℕ
  gone = inclusive_descendants state number

  abbrev nodes : List NumberedOf
  nodes = filter_map (numbered_of state) gone

  abbrev place_there : ℕ
  place_there = place_in number (children_at state parent)

  abbrev here : IsAtLevel state (suc level) number
  here = (parent, at, there)

  -- the one that went from the parent's children
  top_alone : numbers_under parent nodes ≡ number ∷ []
  top_alone = alone state whole 63 level number parent at there

  -- one that went has its children
  children_again : (other : ℕ) → Contains gone other → numbers_under other nodes ≡ children_at state other
  children_again other among =
      let (levels, none, few, below) = chain_of_descendant state greatest_depth 0 number other among in
      let (deep, shallow, its) = reached.reached other (lives_below_top levels other below) in
      let sum : deep ≡ suc level + levels = one_level state whole deep (suc level + levels) other its (level_below state (suc level) levels number other here below) in
      children_below state whole levels 63 level number parent other (omega (arith, shallow, sum)) at there below
    where
      alive : (n upper : ℕ) (o : Option Entry) → state.node_at n ≡ o → parent_at state n ≡ Some upper → is_some o ≡ true
      alive n upper None of stands = absurd (none-some upper (sym (ap parent_of of) ∙ stands))
      alive n upper (Some entry) of stands = refl

      lives_below_top : (levels n : ℕ) → IsBelow state number levels n → lives state n ≡ true
      lives_below_top zero n same = alive n parent (state.node_at n) refl (ap (parent_at state) same ∙ is)
      lives_below_top (suc levels) n (upper, below, last) = alive n upper (state.node_at n) refl (parent_of_child state whole upper n last)

  has_parent : (other : ℕ) → Contains gone other → (upper : ℕ) × (parent_at state other ≡ Some upper)
  has_parent other among = let (levels, none, few, below) = chain_of_descendant state greatest_depth 0 number other among in by levels other below
    where
      by : (levels n : ℕ) → IsBelow state number levels n → (upper : ℕ) × (parent_at state n ≡ Some upper)
      by zero n same = (parent, ap (parent_at state) same ∙ is)
      by (suc levels) n (upper, below, last) = (upper, parent_of_child state whole upper n last)

  same_entry : (other : ℕ) (o : Option Entry) → state.node_at other ≡ o → (upper : ℕ) → parent_of o ≡ Some upper → numbers_under other nodes ≡ children_of o → option_map (entry_among nodes) (numbered_of state other) ≡ o
  same_entry other None of upper stands are = absurd (none-some upper stands)
  same_entry other (Some entry) of upper stands are =
      let own : Some (unwrap_or entry.parent 0) ≡ entry.parent = ap (λ (o : Option ℕ). Some (unwrap_or o 0)) stands ∙ sym stands in
      rw of (λ k. Some (record { parent = own k; children = are k; what = entry.what }))

  abbrev left : State
  left = changed state parent (with_children (without number))

  abbrev went : State
  went = without_nodes gone left

  abbrev put : State
  put = changed went parent (with_children (with_put place_there (number ∷ [])))

  stands_again : (other : ℕ) (o : Option Entry) → state.node_at other ≡ o → (b : Bool) → nat_eq other parent ≡ b
      → (if b then option_map (with_children (with_put place_there (number ∷ []))) (if b then option_map (with_children (without number)) o else o) else (if b then option_map (with_children (without number)) o else o)) ≡ o
  stands_again other None of true same = refl
  stands_again other (Some entry) of true same =
      let own : children_at state parent ≡ entry.children = ap (children_at state) (sym (eqb-true other parent same)) ∙ ap children_of of in
      ap (λ (l : List ℕ). Some (record entry { children = l }))
      (ap (λ (l : List ℕ). with_put (place_in number l) (number ∷ []) (without number entry.children)) own
      ∙ put_again number entry.children (ap (times number) (sym own) ∙ stands_once state whole number parent is there))
  stands_again other o of false same = refl

  went_again : (other : ℕ) (b : Bool) → list_any (nat_eq other) gone ≡ b → option_or (numbered_at nodes other) (put.node_at other) ≡ state.node_at other
  went_again other true out =
      let among = contained_any gone other out in
      let (upper, stands) = has_parent other among in
      let one : find (λ node. nat_eq other node.number) nodes ≡ numbered_of state other = found_among state other gone ∙ rw out refl in
      let found : numbered_at nodes other ≡ state.node_at other =
      ap (option_map (entry_among nodes)) one ∙ same_entry other (state.node_at other) refl upper stands (children_again other among) in
      or_there (numbered_at nodes other) (state.node_at other) (put.node_at other) found upper stands
    where
      or_there : (one was later : Option Entry) → one ≡ was → (upper : ℕ) → parent_of was ≡ Some upper → option_or one later ≡ was
      or_there None was later same upper stands = absurd (none-some upper (ap parent_of same ∙ stands))
      or_there (Some entry) was later same upper stands = same
  went_again other false out =
      let none : find (λ node. nat_eq other node.number) nodes ≡ None = found_among state other gone ∙ rw out refl in
      or_nothing (numbered_at nodes other) (put.node_at other) (ap (option_map (entry_among nodes)) none)
      ∙ rw out (stands_again other (state.node_at other) refl (nat_eq other parent) refl)

  pub removed_back : restored (removed state number) parent place_there nodes ≡ state
  removed_back =
      ap (λ (o : Option ℕ). restored (without_nodes gone (changed_if state o (with_children (without number)))) parent place_there nodes) is
      ∙ are_equal _ _ (record {
        nodes = λ other.
            ap (λ (l : List ℕ). option_or (numbered_at nodes other) ((changed went parent (with_children (with_put place_there l))).node_at other)) top_alone
            ∙ went_again other (list_any (nat_eq other) gone) refl;
        next = refl;
      })

  pub removed_next : (removed state number).next ≡ state.next
  removed_next = ap (λ (o : Option ℕ). (without_nodes gone (changed_if state o (with_children (without number)))).next) is
