-- A document with one node more.
use Rattle.std.proofs.Common.{◌≡◌, ◌≢◌, ◌∙◌, ℕ, ◌+◌, ◌<◌, true, false, true≢false, List, slice_index_or, refl, ap, sym, subst, arith, Option, Some, None, IsSome, option_map, option_and_then, inl, inr}
use Rattle.std.specs.Prelude.{Result, Ok, Err, OnErr}
use Rattle.std.specs.Result.{is_err}
use Rattle.std.specs.Ordering.{is_eq, nat_cmp}
use Rattle.std.specs.BTreeMap as keyed
use Rattle.std.specs.BTreeMap.{BTreeMap}
use Rattle.slab.specs.Slab as slots
use Rattle.slab.specs.Slab.{Slab}
use Rattle.std.proofs.lemmas.Bool.{cases_eq, eq-eqb, ne_eqb}
use Rattle.std.proofs.lemmas.Bool.Decides.{eqb_tells, nat_tests}
use Rattle.dom_store.specs.declared.node.Node.{Node}
use Rattle.dom_store.specs.Building.{Adds, with_next}
use Rattle.dom_store.specs.Exactly.{with_node}
use Rattle.dom_store.specs.Keys.{IsKeyed}
use Rattle.dom_store.specs.State.{Entry, State, entry_of}
use Rattle.dom_store.proofs.SameLaws.{are_equal}

-- the entry of a number
abbrev pub entry_under : (ℕ → Option ℕ) → (ℕ → Option Node) → ℕ → Option Entry
entry_under key_of node_under number = option_and_then (λ key. option_map entry_of (node_under key)) (key_of number)

-- a number that isn't this one compares otherwise
pub is_other : (this number : ℕ) → number ≢ this → is_eq (nat_cmp this number) ≡ false
is_other this number apart = grind (arith, nat_tests)

-- a number is given the vacant key, and a node is put under it
pub record Gives (key_of key_of' : ℕ → Option ℕ) (node_under node_under' : ℕ → Option Node) (number key : ℕ) (node : Node) : Type 0 where
  pub here : key_of' number ≡ Some key
  pub others : (other : ℕ) → other ≢ number → key_of' other ≡ key_of other
  pub vacant : node_under key ≡ None
  pub put : node_under' key ≡ Some node
  pub stay : (k : ℕ) → k ≢ key → node_under' k ≡ node_under k

-- a slab with room made is given this node, and the map its key
pub gives_key : (old roomy new : Slab Node) (keys more : BTreeMap ℕ ℕ) (number key given : ℕ) (node : Node) → roomy.slots ≡ old.slots → key ≡ roomy.vacant_key → given ≡ roomy.vacant_key
    → keyed.get nat_cmp more number ≡ Some key → ((other : ℕ) → is_eq (nat_cmp number other) ≡ false → keyed.get nat_cmp more other ≡ keyed.get nat_cmp keys other)
    → slots.get roomy given ≡ None → slots.Updates roomy new given (Some node) → Gives (keyed.get nat_cmp keys) (keyed.get nat_cmp more) (slots.get old) (slots.get new) number given node
gives_key old roomy new keys more number key given node kept same also here others vacant updates =
    let at = λ (k : ℕ). ap (λ (all : List (Option Node)). slice_index_or all k None) kept in
    record {
      here = here ∙ ap Some (same ∙ sym also);
      others = λ other apart. others other (is_other number other apart);
      vacant = sym (at given) ∙ vacant;
      put = updates.changed;
      stay = λ k apart. updates.others k apart ∙ at k;
    }

module _ (key_of key_of' : ℕ → Option ℕ) (node_under node_under' : ℕ → Option Node) (next number key : ℕ) (node : Node) (keyed : IsKeyed key_of node_under next) (gives : Gives key_of key_of' node_under node_under' number key node) where
  -- the key that a number has already isn't the vacant one
  another : (other k : ℕ) → key_of other ≡ Some k → k ≢ key
  another other k is same = let nothing : Option Node = None in let no : IsSome nothing = subst IsSome (ap node_under same ∙ gives.vacant) (keyed.live other k is) in cc

  live_after : (other k : ℕ) → key_of' other ≡ Some k → IsSome (node_under' k)
  live_after other k is = elim (cases_eq other number) [
    | inl same ↦
        let its : k ≡ key = cc (gives.here) in
        rw (its, gives.put) refl
    | inr apart ↦
        let was : key_of other ≡ Some k = sym (gives.others other apart) ∙ is in
        subst IsSome (sym (gives.stay k (another other k was))) (keyed.live other k was)
  ]

  below_after : number < next → (other k : ℕ) → key_of' other ≡ Some k → other < next
  below_after low other k is = elim (cases_eq other number) [
    | inl same ↦ omega (arith, low, same)
    | inr apart ↦ keyed.below other k (sym (gives.others other apart) ∙ is)
  ]

  apart_after : (one other k : ℕ) → key_of' one ≡ Some k → key_of' other ≡ Some k → one ≡ other
  apart_after one other k is also = elim (cases_eq one number) [
    | inl same ↦ elim (cases_eq other number) [
      | inl too ↦ cc
      | inr apart ↦
          let its : k ≡ key = cc (gives.here) in
          absurd (another other k (sym (gives.others other apart) ∙ also) its)
    ]
    | inr apart ↦ elim (cases_eq other number) [
      | inl too ↦
          let its : k ≡ key = cc (gives.here) in
          absurd (another one k (sym (gives.others one apart) ∙ is) its)
      | inr further ↦ keyed.apart one other k (sym (gives.others one apart) ∙ is) (sym (gives.others other further) ∙ also)
    ]
  ]

  -- each number still has a key of its own
  pub keyed_after : number < next → IsKeyed key_of' node_under' next
  keyed_after low = record { live = live_after; apart = apart_after; below = below_after low }

  stays_under : (other : ℕ) (o : Option ℕ) → key_of other ≡ o → option_and_then (λ key. option_map entry_of (node_under' key)) o ≡ option_and_then (λ key. option_map entry_of (node_under key)) o
  stays_under other None is = refl
  stays_under other (Some k) is = ap (option_map entry_of) (gives.stay k (another other k is))

  -- the number is this node, and the others keep theirs
  pub put_after : record { node_at = entry_under key_of' node_under'; next = next } ≡ with_node number (entry_of node) (record { node_at = entry_under key_of node_under; next = next })
  put_after = are_equal _ _ (record {
    nodes = λ other. elim (eqb_tells other number) [
      | inl (true_here, same) ↦ rw true_here (rw (same, gives.here, gives.put) refl)
      | inr (false_here, apart) ↦ rw false_here (ap (option_and_then (λ key. option_map entry_of (node_under' key))) (gives.others other apart) ∙ stays_under other (key_of other) refl)
    ];
    next = refl;
  })

-- the next number is given: a node that is put under it is one more
pub adds_put : (old new : State) (entry : Entry) → new ≡ with_node old.next entry (with_next (old.next + 1) old) → Adds old new entry
adds_put old new entry is = record {
  here = ap (λ (s : State). s.node_at old.next) is ∙ rw (eq-eqb old.next old.next refl) refl;
  others = λ number apart. ap (λ (s : State). s.node_at number) is ∙ rw (ne_eqb number old.next apart) refl;
  next = ap (λ (s : State). s.next) is;
}

-- what holds of a refusal, where there is one
pub when_err : {T E : Type 0} (P : Type 0) (result : Result T E) → is_err result ≡ true → OnErr result P → P
when_err P (Ok value) refused holds = absurd (true≢false (sym refused))
when_err P (Err error) refused holds = holds
