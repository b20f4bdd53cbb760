-- Nodes that stand again, one after the other.
use Rattle.std.proofs.Common.{◌≡◌, ◌≢◌, ◌∙◌, ℕ, ◌+◌, ◌<◌, Bool, true, false, true≢false, List, [], ◌∷◌, ◌++◌, get_or, length, map, filter, take, drop, append-nil, append_assoc, refl, ap, sym, subst, Option, Some, None, option_map, if◌then◌else◌, inl, inr}
use Rattle.std.specs.Prelude.{nat_eq, ◌||◌, unwrap_or}
use Rattle.std.specs.List.{find, list_any, slice_get}
use Rattle.std.specs.Option.{option_or}
use Rattle.std.proofs.lemmas.Bool.{eq-eqb, eqb-false, ne_eqb, or_parts, or_right}
use Rattle.std.proofs.lemmas.Bool.Decides.{eqb_tells}
use Rattle.std.proofs.lemmas.List.{map-append, take-append-drop, take_more}
use Rattle.std.proofs.lemmas.List.Elements.{filter-append}
use Rattle.std.proofs.lemmas.List.Folds.{find-append, list_any-append}
use Rattle.std.proofs.lemmas.Option.{get_or_from_slice_get, none-some, same_Some, slice_get-map, slice_get_read, slice_get_within}
use Rattle.dom_store.specs.declared.exact.Numbered as code_numbered
use Rattle.dom_store.specs.State.{Entry, State}
use Rattle.dom_store.specs.Standing.{children_at}
use Rattle.dom_store.specs.Edits.{changed, with_children, with_put, without_nodes}
use Rattle.dom_store.specs.Exact.{NumberedOf, entry_among, numbered_as, numbered_at, numbers_under, restored}
use Rattle.dom_store.specs.Exactly.{CanStand, CanStandBehind, IsSameBut, with_last, with_node, with_standing}
use Rattle.dom_store.proofs.Places.{drop_at}
use Rattle.dom_store.proofs.RemoveLaws.{any_more}
use Rattle.dom_store.proofs.SameLaws.{are_equal}

-- ---- the numbers of nodes

abbrev pub numbers_of : List NumberedOf → List ℕ
numbers_of nodes = map (λ node. node.number) nodes

-- without where they lie in memory they have the same
pub numbers_as : (nodes : List code_numbered.Numbered) → numbers_of (map numbered_as nodes) ≡ map (λ node. node.number) nodes
numbers_as [] = refl
numbers_as (node ∷ nodes) = ap (λ (l : List ℕ). node.number ∷ l) (numbers_as nodes)

-- one is among the numbers, the other isn't
differ_among : (one other : ℕ) (numbers : List ℕ) → list_any (nat_eq one) numbers ≡ true → list_any (nat_eq other) numbers ≡ false → one ≢ other
differ_among one other numbers is none same = true≢false (sym is ∙ subst (λ (n : ℕ). list_any (nat_eq n) numbers ≡ false) (sym same) none)

pub none_found : (number : ℕ) (nodes : List NumberedOf) → list_any (nat_eq number) (numbers_of nodes) ≡ false → find (λ node. nat_eq number node.number) nodes ≡ None
none_found number [] none = refl
none_found number (node ∷ nodes) none =
    let (first, later) = or_parts (nat_eq number node.number) (list_any (nat_eq number) (numbers_of nodes)) none in
    rw first (none_found number nodes later)

-- a number that one of them has
some_found : (number : ℕ) (nodes : List NumberedOf) → list_any (nat_eq number) (numbers_of nodes) ≡ true → find (λ node. nat_eq number node.number) nodes ≢ None
some_found number [] is none = true≢false (sym is)
some_found number (node ∷ nodes) is none = elim (eqb_tells number node.number) [
  | inl (here, same) ↦ none-some node (sym (rw here at none))
  | inr (there, apart) ↦ some_found number nodes (rw there at is) (rw there at none)
]

found_number : (number : ℕ) (nodes : List NumberedOf) (one : NumberedOf) → find (λ node. nat_eq number node.number) nodes ≡ Some one → one.number ≡ number
found_number number [] one is = absurd (none-some one is)
found_number number (node ∷ nodes) one is = elim (eqb_tells number node.number) [
  | inl (here, same) ↦ ap (λ (n : NumberedOf). n.number) (sym (same_Some node one (rw here at is))) ∙ sym same
  | inr (there, apart) ↦ found_number number nodes one (rw there at is)
]

-- ---- those that have a parent

under_more : (parent : ℕ) (front : List NumberedOf) (node : NumberedOf) → numbers_under parent (front ++ node ∷ []) ≡ numbers_under parent front ++ numbers_under parent (node ∷ [])
under_more parent front node =
    let test = λ (one : NumberedOf). nat_eq parent one.parent in
    ap (map (λ (one : NumberedOf). one.number)) (filter-append test front (node ∷ [])) ∙ map-append (λ (one : NumberedOf). one.number) (filter test front) (filter test (node ∷ []))

pub under_here : (parent : ℕ) (node : NumberedOf) → node.parent ≡ parent → numbers_under parent (node ∷ []) ≡ node.number ∷ []
under_here parent node is = rw (eq-eqb parent node.parent (sym is)) refl

pub under_away : (parent : ℕ) (node : NumberedOf) → node.parent ≢ parent → numbers_under parent (node ∷ []) ≡ []
under_away parent node apart = rw (ne_eqb parent node.parent (λ same. apart (sym same))) refl

-- ---- nodes of which each has the parent, or one before it, as its own, and none has the parent's number

pub record IsFamily (parent : ℕ) (front : List NumberedOf) : Type 0 where
  pub apart : list_any (nat_eq parent) (numbers_of front) ≡ false
  pub under : (number : ℕ) → list_any (nat_eq number) (parent ∷ numbers_of front) ≡ false → numbers_under number front ≡ []

numbers_more : (front : List NumberedOf) (node : NumberedOf) → numbers_of (front ++ node ∷ []) ≡ numbers_of front ++ node.number ∷ []
numbers_more front node = map-append (λ (one : NumberedOf). one.number) front (node ∷ [])

module _ (old : State) (parent : ℕ) (front : List NumberedOf) (node : NumberedOf) (behind : CanStandBehind old (parent ∷ numbers_of front) node) (family : IsFamily parent front) where
  new_apart : node.number ≢ parent
  new_apart = eqb-false node.number parent (or_parts (nat_eq node.number parent) (list_any (nat_eq node.number) (numbers_of front)) behind.once).0

  new_number : list_any (nat_eq node.number) (numbers_of front) ≡ false
  new_number = (or_parts (nat_eq node.number parent) (list_any (nat_eq node.number) (numbers_of front)) behind.once).1

  own_apart : node.parent ≢ node.number
  own_apart = differ_among node.parent node.number (parent ∷ numbers_of front) behind.parent behind.once

  under_after : (number : ℕ) → list_any (nat_eq number) (parent ∷ numbers_of (front ++ node ∷ [])) ≡ false → numbers_under number (front ++ node ∷ []) ≡ []
  under_after number none =
      let (not_parent, all) = or_parts (nat_eq number parent) (list_any (nat_eq number) (numbers_of (front ++ node ∷ []))) none in
      let apart : (nat_eq number node.number || list_any (nat_eq number) (numbers_of front)) ≡ false = sym (ap (list_any (nat_eq number)) (numbers_more front node) ∙ any_more (nat_eq number) (numbers_of front) node.number) ∙ all in
      let (not_new, before) = or_parts (nat_eq number node.number) (list_any (nat_eq number) (numbers_of front)) apart in
      let nowhere : list_any (nat_eq number) (parent ∷ numbers_of front) ≡ false = rw (not_parent, before) refl in
      under_more number front node
      ∙ (ap (λ (l : List ℕ). l ++ numbers_under number (node ∷ [])) (family.under number nowhere)
      ∙ under_away number node (differ_among node.parent number (parent ∷ numbers_of front) behind.parent nowhere))

  pub family_more : IsFamily parent (front ++ node ∷ [])
  family_more = record {
    apart = ap (list_any (nat_eq parent)) (numbers_more front node) ∙ (any_more (nat_eq parent) (numbers_of front) node.number ∙ rw (ne_eqb parent node.number (λ same. new_apart (sym same)), family.apart) refl);
    under = under_after;
  }

  abbrev all : List NumberedOf
  all = front ++ node ∷ []

  found_in : (number : ℕ) → find (λ one. nat_eq number one.number) all ≡ option_or (find (λ one. nat_eq number one.number) front) (find (λ one. nat_eq number one.number) (node ∷ []))
  found_in number = find-append (λ (one : NumberedOf). nat_eq number one.number) front (node ∷ [])

  -- the new node has no children yet
  numbered_new : numbered_at all node.number ≡ Some (record { parent = Some node.parent; children = []; what = node.what })
  numbered_new =
      let own : find (λ one. nat_eq node.number one.number) (node ∷ []) ≡ Some node = rw (eq-eqb node.number node.number refl) refl in
      let is : find (λ one. nat_eq node.number one.number) all ≡ Some node = found_in node.number ∙ rw (none_found node.number front new_number) own in
      let childless : numbers_under node.number all ≡ [] =
      under_more node.number front node ∙ (ap (λ (l : List ℕ). l ++ numbers_under node.number (node ∷ [])) (family.under node.number behind.once) ∙ under_away node.number node own_apart) in
      ap (option_map (entry_among all)) is ∙ ap (λ (l : List ℕ). Some (record { parent = Some node.parent; children = l; what = node.what })) childless

  other_entry : (number : ℕ) (o : Option NumberedOf) → find (λ one. nat_eq number one.number) front ≡ o → option_map (entry_among all) o ≡ option_map (with_children (λ children. children ++ numbers_under number (node ∷ []))) (option_map (entry_among front) o)
  other_entry number None at = refl
  other_entry number (Some one) at =
      ap (λ (l : List ℕ). Some (record { parent = Some one.parent; children = l; what = one.what }))
      (under_more one.number front node ∙ ap (λ (n : ℕ). numbers_under one.number front ++ numbers_under n (node ∷ [])) (found_number number front one at))

  -- the others have it last among their children, where it has them as its parent
  numbered_other : (number : ℕ) → number ≢ node.number → numbered_at all number ≡ option_map (with_children (λ children. children ++ numbers_under number (node ∷ []))) (numbered_at front number)
  numbered_other number apart =
      let others : Option NumberedOf → Option NumberedOf = option_or (find (λ one. nat_eq number one.number) front) in
      let none : find (λ one. nat_eq number one.number) (node ∷ []) ≡ None = rw (ne_eqb number node.number apart) refl in
      let is : find (λ one. nat_eq number one.number) all ≡ find (λ one. nat_eq number one.number) front = found_in number ∙ (ap others none ∙ or_none (find (λ one. nat_eq number one.number) front)) in
      ap (option_map (entry_among all)) is ∙ other_entry number (find (λ one. nat_eq number one.number) front) refl
    where
      or_none : (o : Option NumberedOf) → option_or o None ≡ o
      or_none None = refl
      or_none (Some one) = refl

  none_more : (o : Option Entry) (more : List ℕ) → more ≡ [] → option_map (with_children (λ children. children ++ more)) o ≡ o
  none_more None more is = refl
  none_more (Some entry) more is = ap (λ (l : List ℕ). Some (record entry { children = l })) (ap (λ (l : List ℕ). entry.children ++ l) is ∙ append-nil entry.children)

  -- one that isn't its parent is what it was
  stays : (number : ℕ) → number ≢ node.number → node.parent ≢ number → (with_standing front old).node_at number ≡ (with_standing all old).node_at number
  stays number apart away =
      ap (λ (o : Option Entry). option_or o (old.node_at number))
      (sym (numbered_other number apart ∙ none_more (numbered_at front number) (numbers_under number (node ∷ [])) (under_away number node away)))

  -- nor does the top change, where it is its parent
  top_stays : parent ≢ node.number → (with_standing front old).node_at parent ≡ (with_standing all old).node_at parent
  top_stays apart =
      let none : numbered_at front parent ≡ None = ap (option_map (entry_among front)) (none_found parent front family.apart) in
      let more : numbered_at all parent ≡ None = numbered_other parent apart ∙ ap (option_map (with_children (λ children. children ++ numbers_under parent (node ∷ [])))) none in
      ap (λ (o : Option Entry). option_or o (old.node_at parent)) (none ∙ sym more)

  -- another parent gets it
  grows : (o : Option Entry) → numbered_at front node.parent ≡ o → node.parent ≢ parent
      → option_map (with_children (λ children. children ++ node.number ∷ [])) (option_or o (old.node_at node.parent)) ≡ option_or (option_map (with_children (λ children. children ++ numbers_under node.parent (node ∷ []))) o) (old.node_at node.parent)
  grows None at apart =
      let among : list_any (nat_eq node.parent) (numbers_of front) ≡ true = rw (ne_eqb node.parent parent apart) at behind.parent in
      absurd (some_found node.parent front among (nothing (find (λ one. nat_eq node.parent one.number) front) at))
    where
      nothing : (o : Option NumberedOf) → option_map (entry_among front) o ≡ None → o ≡ None
      nothing None is = refl
      nothing (Some one) is = absurd (none-some _ (sym is))
  grows (Some entry) at apart = ap (λ (l : List ℕ). Some (record entry { children = entry.children ++ l })) (sym (under_here node.parent node refl))

  abbrev stands : State
  stands = with_node node.number (record { parent = Some node.parent; children = []; what = node.what }) (with_standing front old)

  stands_top : node.parent ≡ parent → stands ≡ with_standing all old
  stands_top top = are_equal _ _ (record {
    nodes = λ number. elim (eqb_tells number node.number) [
      | inl (here, same) ↦ rw here (sym (ap (λ (n : ℕ). option_or (numbered_at all n) (old.node_at n)) same ∙ rw numbered_new refl))
      | inr (there, apart) ↦ rw there (elim (eqb_tells number parent) [
        | inl (its, is) ↦ subst (λ (n : ℕ). (with_standing front old).node_at n ≡ (with_standing all old).node_at n) (sym is) (top_stays (λ same. new_apart (sym same)))
        | inr (other, away) ↦ stays number apart (λ same. away (sym same ∙ top))
      ])
    ];
    next = refl;
  })

  stands_below : node.parent ≢ parent → changed stands node.parent (with_children (λ children. children ++ node.number ∷ [])) ≡ with_standing all old
  stands_below below = are_equal _ _ (record {
    nodes = λ number. elim (eqb_tells number node.number) [
      | inl (here, same) ↦ rw (ne_eqb number node.parent (λ is. own_apart (sym is ∙ same)), here) (sym (ap (λ (n : ℕ). option_or (numbered_at all n) (old.node_at n)) same ∙ rw numbered_new refl))
      | inr (there, apart) ↦ elim (eqb_tells number node.parent) [
        | inl (its, is) ↦
            rw (its, there) (subst (λ (n : ℕ). option_map (with_children (λ children. children ++ node.number ∷ [])) ((with_standing front old).node_at n) ≡ (with_standing all old).node_at n) (sym is)
            (grows (numbered_at front node.parent) refl below ∙ ap (λ (o : Option Entry). option_or o (old.node_at node.parent)) (sym (numbered_other node.parent own_apart))))
        | inr (other, away) ↦ rw (other, there) (stays number apart (λ same. away (sym same)))
      ]
    ];
    next = refl;
  })

  -- one node more stands
  pub stands_more : with_last parent node (with_standing front old) ≡ with_standing all old
  stands_more = elim (eqb_tells node.parent parent) [
    | inl (here, top) ↦ rw here (stands_top top)
    | inr (there, below) ↦ rw there (stands_below below)
  ]

-- ---- nodes that can stand

module _ (state : State) where
  -- none of them has a number of those that stand
  pub can_apart : (standing : List ℕ) (nodes : List NumberedOf) → CanStand state standing nodes → (number : ℕ) → list_any (nat_eq number) standing ≡ true → list_any (nat_eq number) (numbers_of nodes) ≡ false
  unfolding CanStand
  can_apart standing [] can number is = refl
  can_apart standing (node ∷ nodes) (behind, later) number is =
      let still : list_any (nat_eq number) (standing ++ node.number ∷ []) ≡ true = any_more (nat_eq number) standing node.number ∙ or_right (nat_eq number node.number) (list_any (nat_eq number) standing) is in
      rw (ne_eqb number node.number (differ_among number node.number standing is behind.once)) (can_apart (standing ++ node.number ∷ []) nodes later number still)

  -- none of them lived
  pub can_gone : (standing : List ℕ) (nodes : List NumberedOf) → CanStand state standing nodes → (number : ℕ) → list_any (nat_eq number) (numbers_of nodes) ≡ true → state.node_at number ≡ None
  unfolding CanStand
  can_gone standing [] can number is = absurd (true≢false (sym is))
  can_gone standing (node ∷ nodes) (behind, later) number is = elim (eqb_tells number node.number) [
    | inl (here, same) ↦ ap state.node_at same ∙ behind.gone
    | inr (there, apart) ↦ can_gone (standing ++ node.number ∷ []) nodes later number (rw there at is)
  ]

  can_first : (standing : List ℕ) (node : NumberedOf) (nodes : List NumberedOf) → CanStand state standing (node ∷ nodes) → CanStandBehind state standing node × CanStand state (standing ++ node.number ∷ []) nodes
  unfolding CanStand
  can_first standing node nodes can = can

  -- without them it is again what it was
  pub all_out : (standing : List ℕ) (nodes : List NumberedOf) → CanStand state standing nodes → (new : State) → IsSameBut (numbers_of nodes) state new → without_nodes (numbers_of nodes) new ≡ state
  all_out standing nodes can new same = are_equal _ _ (record { nodes = λ number. out number (list_any (nat_eq number) (numbers_of nodes)) refl; next = same.next })
    where
      out : (number : ℕ) (b : Bool) → list_any (nat_eq number) (numbers_of nodes) ≡ b → (if b then None else new.node_at number) ≡ state.node_at number
      out number true is = sym (can_gone standing nodes can number is)
      out number false is = same.others number is

  pub same_standing : (nodes : List NumberedOf) → IsSameBut (numbers_of nodes) state (with_standing nodes state)
  same_standing nodes = record {
    others = λ number none. ap (λ (o : Option NumberedOf). option_or (option_map (entry_among nodes) o) (state.node_at number)) (none_found number nodes none);
    next = refl;
  }

  module _ (parent : ℕ) (nodes : List NumberedOf) (can : CanStand state (parent ∷ []) nodes) where
    none_parent : numbered_at nodes parent ≡ None
    none_parent = ap (option_map (entry_among nodes)) (none_found parent nodes (can_apart (parent ∷ []) nodes can parent (rw (eq-eqb parent parent refl) refl)))

    -- the parent's children are what they were
    pub parent_standing : children_at (with_standing nodes state) parent ≡ children_at state parent
    parent_standing = ap (λ (o : Option Entry). unwrap_or (option_map (λ entry. entry.children) (option_or o (state.node_at parent))) []) none_parent

    -- and then have them
    pub all_restored : (index : ℕ) → changed (with_standing nodes state) parent (with_children (with_put index (numbers_under parent nodes))) ≡ restored state parent index nodes
    all_restored index =
        let put : Option Entry → Option Entry = option_map (with_children (with_put index (numbers_under parent nodes))) in
        are_equal _ _ (record {
          nodes = λ number. elim (eqb_tells number parent) [
            | inl (here, same) ↦
                let none : numbered_at nodes number ≡ None = ap (numbered_at nodes) same ∙ none_parent in
                rw here (ap (λ (o : Option Entry). put (option_or o (state.node_at number))) none ∙ ap (λ (o : Option Entry). option_or o (put (state.node_at number))) (sym none))
            | inr (there, apart) ↦ rw there refl
          ];
          next = refl;
        })

-- ---- one after the other

-- so many of the nodes stand, the others can stand behind them
pub record Restores (parent : ℕ) (nodes : List NumberedOf) (at : ℕ) (old new : State) (before after : List ℕ) : Type 0 where
  pub family : IsFamily parent (take at nodes)
  pub left : CanStand old (parent ∷ numbers_of (take at nodes)) (drop at nodes)
  pub state : new ≡ with_standing (take at nodes) old
  pub tops : after ≡ before ++ numbers_under parent (take at nodes)

pub none_restored : (parent : ℕ) (nodes : List NumberedOf) (old : State) (before : List ℕ) → CanStand old (parent ∷ []) nodes → Restores parent nodes 0 old old before before
none_restored parent nodes old before can = record {
  family = record { apart = refl; under = λ number none. refl };
  left = can;
  state = refl;
  tops = sym (append-nil before);
}

module _ (parent : ℕ) (nodes : List NumberedOf) (at : ℕ) (old mid : State) (before after : List ℕ) (restores : Restores parent nodes at old mid before after) (node : NumberedOf) (here : slice_get nodes at ≡ Some node) where
  next_can : CanStandBehind old (parent ∷ numbers_of (take at nodes)) node × CanStand old ((parent ∷ numbers_of (take at nodes)) ++ node.number ∷ []) (drop (at + 1) nodes)
  next_can = can_first old (parent ∷ numbers_of (take at nodes)) node (drop (at + 1) nodes) (subst (CanStand old (parent ∷ numbers_of (take at nodes))) (drop_at nodes at node here) restores.left)

  next_taken : take (at + 1) nodes ≡ take at nodes ++ node ∷ []
  next_taken = take_more nodes at node (slice_get_within nodes at node here) ∙ ap (λ (n : NumberedOf). take at nodes ++ n ∷ []) (get_or_from_slice_get nodes at node node here)

  -- the next one was drawn, and has no node
  pub next_drawn : node.number < mid.next
  next_drawn = subst (λ (s : State). node.number < s.next) (sym restores.state) next_can.0.drawn

  pub next_free : mid.node_at node.number ≡ None
  next_free =
      let apart = new_number old parent (take at nodes) node next_can.0 restores.family in
      ap (λ (s : State). s.node_at node.number) restores.state ∙ ((same_standing old (take at nodes)).others node.number apart ∙ next_can.0.gone)

  pub one_restored : (new : State) (more : List ℕ) → new ≡ with_last parent node mid → more ≡ after ++ numbers_under parent (node ∷ []) → Restores parent nodes (at + 1) old new before more
  one_restored new more is are = record {
    family = subst (IsFamily parent) (sym next_taken) (family_more old parent (take at nodes) node next_can.0 restores.family);
    left = subst (λ (l : List ℕ). CanStand old l (drop (at + 1) nodes)) (ap (λ (l : List ℕ). parent ∷ l) (sym (ap (map (λ (one : NumberedOf). one.number)) next_taken ∙ numbers_more (take at nodes) node))) next_can.1;
    state = is ∙ (ap (with_last parent node) restores.state ∙ (stands_more old parent (take at nodes) node next_can.0 restores.family ∙ ap (λ (l : List NumberedOf). with_standing l old) (sym next_taken)));
    tops = are
        ∙ (ap (λ (l : List ℕ). l ++ numbers_under parent (node ∷ [])) restores.tops
        ∙ (append_assoc before (numbers_under parent (take at nodes)) (numbers_under parent (node ∷ []))
        ∙ ap (λ (l : List ℕ). before ++ l) (sym (ap (numbers_under parent) next_taken ∙ under_more parent (take at nodes) node))));
  }

  -- where the next one may stand too, the others are what they were
  pub some_restored : (new : State) → IsSameBut (node.number ∷ []) mid new → IsSameBut (numbers_of nodes) old new
  some_restored new same = record { others = kept; next = same.next ∙ ap (λ (s : State). s.next) restores.state }
    where
      whole : nodes ≡ (take at nodes ++ node ∷ []) ++ drop (at + 1) nodes
      whole = sym (take-append-drop (at + 1) nodes) ∙ ap (λ (l : List NumberedOf). l ++ drop (at + 1) nodes) next_taken

      kept : (number : ℕ) → list_any (nat_eq number) (numbers_of nodes) ≡ false → new.node_at number ≡ old.node_at number
      kept number none =
          let all : numbers_of nodes ≡ (numbers_of (take at nodes) ++ node.number ∷ []) ++ numbers_of (drop (at + 1) nodes) =
          ap numbers_of whole ∙ (map-append (λ (one : NumberedOf). one.number) (take at nodes ++ node ∷ []) (drop (at + 1) nodes) ∙ ap (λ (l : List ℕ). l ++ numbers_of (drop (at + 1) nodes)) (numbers_more (take at nodes) node)) in
          let front = numbers_of (take at nodes) ++ node.number ∷ [] in
          let (in_front, later) = or_parts (list_any (nat_eq number) front) (list_any (nat_eq number) (numbers_of (drop (at + 1) nodes)))
          (sym (ap (list_any (nat_eq number)) all ∙ list_any-append (nat_eq number) front (numbers_of (drop (at + 1) nodes))) ∙ none) in
          let (not_new, before_it) = or_parts (nat_eq number node.number) (list_any (nat_eq number) (numbers_of (take at nodes))) (sym (any_more (nat_eq number) (numbers_of (take at nodes)) node.number) ∙ in_front) in
          same.others number (rw not_new refl) ∙ (ap (λ (s : State). s.node_at number) restores.state ∙ (same_standing old (take at nodes)).others number before_it)

-- the node at a place, without where it lies in memory
pub node_there : (nodes : List code_numbered.Numbered) (at : ℕ) (node : code_numbered.Numbered) → at < length nodes → node ≡ get_or nodes at node → slice_get (map numbered_as nodes) at ≡ Some (numbered_as node)
node_there nodes at node within is = slice_get-map numbered_as nodes at ∙ ap (option_map numbered_as) (slice_get_read nodes (length nodes) at node refl within is)

-- ---- one node

pub same_node : (number : ℕ) (entry : Entry) (old new : State) → new ≡ with_node number entry old → IsSameBut (number ∷ []) old new
same_node number entry old new is = record {
  others = λ other none.
      let (apart, nothing) = or_parts (nat_eq other number) false none in
      ap (λ (s : State). s.node_at other) is ∙ rw apart refl;
  next = ap (λ (s : State). s.next) is;
}

pub same_all : (numbers : List ℕ) (old new : State) → new ≡ old → IsSameBut numbers old new
same_all numbers old new is = record { others = λ number none. ap (λ (s : State). s.node_at number) is; next = ap (λ (s : State). s.next) is }

-- a node stands again in one that isn't the top
pub stands_last : (top : ℕ) (node : NumberedOf) (entry : Entry) (old mid new : State) → node.parent ≢ top → entry ≡ record { parent = Some node.parent; children = []; what = node.what } → mid ≡ with_node node.number entry old
    → new ≡ changed mid node.parent (with_children (λ children. children ++ node.number ∷ [])) → new ≡ with_last top node old
stands_last top node entry old mid new apart same put is =
    is
    ∙ (ap (λ (s : State). changed s node.parent (with_children (λ children. children ++ node.number ∷ []))) (put ∙ ap (λ (e : Entry). with_node node.number e old) same) ∙ rw (ne_eqb node.parent top apart) refl)
