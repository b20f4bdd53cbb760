-- Steps of edits that lead there again: children that are taken, and nodes that stand again.
use Rattle.std.proofs.Common.{◌≡◌, ◌∙◌, ℕ, zero, suc, ◌+◌, ◌-◌, ◌<◌, Bool, true, false, List, [], ◌∷◌, length, get_or, drop, map, refl, ap, sym, arith, Option, Some, None, option_map, if◌then◌else◌, inl, inr}
use Rattle.std.specs.Prelude.{nat_eq, not, unwrap_or}
use Rattle.std.specs.List.{find, list_any, slice_get}
use Rattle.std.specs.Option.{option_or}
use Rattle.std.proofs.lemmas.Bool.{cases_lt, eq-eqb, le-ltb, lt-ltb, ne_eqb}
use Rattle.std.proofs.lemmas.List.{append-nil}
use Rattle.std.proofs.lemmas.List.Elements.{filter_agree}
use Rattle.std.proofs.lemmas.Option.{slice_get-map}
use Rattle.basic_laws.proofs.Booleans.{or_false}
use Rattle.css_types.specs.declared.value.Declaration.{Declaration}
use Rattle.html_read.specs.Values.{Node}
use Rattle.dom_store.specs.State.{Entry, State}
use Rattle.dom_store.specs.Building.{with_next}
use Rattle.dom_store.specs.Opening.{children_from, put_if, what_of}
use Rattle.dom_store.specs.Standing.{children_at, inclusive_descendants, parent_at}
use Rattle.dom_store.specs.Edits.{changed, changed_if, inserted, inserted_at, parent_under, removed, under, with_children, with_put, without, without_nodes}
use Rattle.dom_store.specs.Exact.{NumberedOf, entry_among, numbered_at, numbers_under, restored, taken, without_each}
use Rattle.dom_store.specs.Steps.{numbered_from}
use Rattle.dom_store.proofs.RemoveLaws.{changed_alike}
use Rattle.dom_store.proofs.SameLaws.{are_equal}
use Rattle.tree_laws.specs.Wholeness.{IsWhole}
use Rattle.tree_laws.proofs.Keeping.{none_changed}

-- ---- a child that is taken

pub taken_again : (state : State) (number parent : ℕ) → parent_at state number ≡ Some parent → taken state parent (number ∷ []) ≡ removed state number
taken_again state number parent is =
    let below = inclusive_descendants state number in
    let alone : (child : ℕ) → not (list_any (nat_eq child) (number ∷ [])) ≡ not (nat_eq child number) = λ child. ap not (or_false (nat_eq child number)) in
    ap (λ (l : List ℕ). without_nodes l (changed state parent (with_children (without_each (number ∷ []))))) (append-nil below)
    ∙ (ap (without_nodes below) (changed_alike state parent (without_each (number ∷ [])) (without number) (filter_agree _ _ alone (children_at state parent)))
    ∙ ap (λ (o : Option ℕ). without_nodes below (changed_if state o (with_children (without number)))) (sym is))

-- ---- nodes that were inserted

later_own : (own : List (List Declaration)) (place : ℕ) → get_or (drop 1 own) place [] ≡ get_or own (suc place) []
later_own [] zero = refl
later_own [] (suc place) = refl
later_own (first ∷ own) place = refl

-- a read node, with its number
abbrev given : (number place : ℕ) → List (List Declaration) → Node → NumberedOf
given number place own node = record { number = number; parent = unwrap_or node.parent 0; what = what_of node.kind (get_or own place []) }

none_early : (nodes : List Node) (own : List (List Declaration)) (at number : ℕ) → number < at → find (λ node. nat_eq number node.number) (numbered_from at nodes own) ≡ None
unfolding numbered_from
none_early [] own at number early = refl
none_early (node ∷ nodes) own at number early =
    rw (ne_eqb number at (λ same. omega (arith, early, same))) (none_early nodes (drop 1 own) (at + 1) number (omega (arith, early)))

found_at : (nodes : List Node) (own : List (List Declaration)) (at place number : ℕ) → number ≡ at + place → find (λ node. nat_eq number node.number) (numbered_from at nodes own) ≡ option_map (given number place own) (slice_get nodes place)
unfolding numbered_from
found_at [] own at place number is = refl
found_at (node ∷ nodes) own at zero number is =
    let same : number ≡ at = omega (arith, is) in
    rw (eq-eqb number at same) (ap (λ (n : ℕ). Some (record { number = n; parent = unwrap_or node.parent 0; what = what_of node.kind (get_or own 0 []) })) (sym same))
found_at (node ∷ nodes) own at (suc place) number is =
    rw (ne_eqb number at (λ same. omega (arith, is, same)))
    (found_at nodes (drop 1 own) (at + 1) place number (omega (arith, is))
    ∙ ap (λ (l : List Declaration). option_map (λ node. record { number = number; parent = unwrap_or node.parent 0; what = what_of node.kind l }) (slice_get nodes place)) (later_own own place))

put_first : (b : Bool) (at : ℕ) (node : NumberedOf) (others : List NumberedOf) (numbers : List ℕ) → node.number ≡ at → map (λ n. n.number) others ≡ numbers → map (λ n. n.number) (if b then node ∷ others else others) ≡ put_if b at numbers
put_first true at node others numbers is are = λ k. is k ∷ are k
put_first false at node others numbers is are = are

module _ (parent next : ℕ) where
  -- the children of a node among them
  under_same : (nodes : List Node) (own : List (List Declaration)) (at holder : ℕ) → numbers_under holder (numbered_from at (under parent next nodes) own) ≡ children_from at holder (under parent next nodes)
  unfolding numbered_from children_from
  under_same [] own at holder = refl
  under_same (node ∷ nodes) own at holder = put_first (nat_eq holder (parent_under parent next node.parent)) at _ _ _ refl (under_same nodes (drop 1 own) (at + 1) holder)

  module _ (nodes : List Node) (own : List (List Declaration)) where
    abbrev placed : List Node
    placed = under parent next nodes

    abbrev comes : Node → Node
    comes node = record { parent = Some (parent_under parent next node.parent); kind = node.kind }

    abbrev all : List NumberedOf
    all = numbered_from next placed own

    abbrev entry_from : (place : ℕ) → Node → Entry
    entry_from place node = record { parent = node.parent; children = children_from next (next + place) placed; what = what_of node.kind (get_or own place []) }

    same_entry : (place number : ℕ) → number ≡ next + place → (o : Option Node) → option_map (entry_among all) (option_map (given number place own) (option_map comes o)) ≡ option_map (entry_from place) (option_map comes o)
    same_entry place number is None = refl
    same_entry place number is (Some node) =
        ap (λ (l : List ℕ). Some (record { parent = Some (parent_under parent next node.parent); children = l; what = what_of node.kind (get_or own place []) }))
        (under_same nodes own next number ∙ ap (λ (n : ℕ). children_from next n placed) is)

    -- the node of a number that was drawn
    come_again : (place number : ℕ) → number ≡ next + place → numbered_at all number ≡ inserted_at placed own next place
    come_again place number is =
        ap (option_map (entry_among all)) (found_at placed own next place number is)
        ∙ (ap (λ (o : Option Node). option_map (entry_among all) (option_map (given number place own) o)) (slice_get-map comes nodes place)
        ∙ (same_entry place number is (slice_get nodes place) ∙ ap (option_map (entry_from place)) (sym (slice_get-map comes nodes place))))

    come_never : (number : ℕ) → number < next → numbered_at all number ≡ None
    come_never number early = ap (option_map (entry_among all)) (none_early placed own next number early)

or_none : (one other : Option Entry) → other ≡ None → option_or one other ≡ one
or_none None other is = is
or_none (Some entry) other is = refl

pub inserted_again : (state : State) → IsWhole state → (parent index next : ℕ) (nodes : List Node) (own : List (List Declaration)) → next ≡ state.next + length nodes
    → restored (with_next next state) parent index (numbered_from state.next (under parent state.next nodes) own) ≡ inserted state parent index nodes own
inserted_again state whole parent index next nodes own is =
    let fresh = numbered_from state.next (under parent state.next nodes) own in
    let put : List ℕ → State = λ tops. changed state parent (with_children (with_put index tops)) in
    let tops = under_same parent state.next nodes own state.next parent in
    are_equal _ _ (record {
      nodes = λ number. elim (cases_lt number state.next) [
        | inl early ↦ rw (lt-ltb number state.next early)
            (ap (λ (o : Option Entry). option_or o ((put (numbers_under parent fresh)).node_at number)) (come_never parent state.next nodes own number early)
            ∙ ap (λ (l : List ℕ). (put l).node_at number) tops)
        | inr late ↦
            let there : number ≡ state.next + (number - state.next) = omega (arith, late) in
            rw (le-ltb number state.next late)
            (or_none (numbered_at fresh number) ((put (numbers_under parent fresh)).node_at number) (none_changed (with_children (with_put index (numbers_under parent fresh))) (nat_eq number parent) (state.node_at number) (whole.below number late))
            ∙ come_again parent state.next nodes own (number - state.next) number there)
      ];
      next = is;
    })
