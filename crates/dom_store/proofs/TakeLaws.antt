-- A document from which one node goes.
use Rattle.std.proofs.Common.{◌≡◌, ◌≢◌, ◌∙◌, ℕ, false, [], ◌∷◌, refl, ap, sym, subst, Option, Some, None, IsSome, option_map, option_and_then, inl, inr}
use Rattle.std.specs.Ordering.{is_eq, nat_cmp}
use Rattle.std.specs.BTreeMap as keyed
use Rattle.std.specs.BTreeMap.{BTreeMap}
use Rattle.slab.specs.Slab as slots
use Rattle.slab.specs.Slab.{Slab}
use Rattle.std.proofs.lemmas.Bool.Decides.{eqb_tells}
use Rattle.dom_store.specs.declared.node.Node.{Node}
use Rattle.dom_store.specs.Keys.{IsKeyed}
use Rattle.dom_store.specs.State.{entry_of}
use Rattle.dom_store.specs.Edits.{without_nodes}
use Rattle.dom_store.proofs.AddLaws.{is_other}
use Rattle.dom_store.proofs.SameLaws.{are_equal}
use Rattle.dom_store.proofs.WriteLaws.{state_with}

-- a number loses its key, and the node under that key goes
pub record Takes (key_of key_of' : ℕ → Option ℕ) (node_under node_under' : ℕ → Option Node) (number key : ℕ) : Type 0 where
  pub here : key_of number ≡ Some key
  pub gone : key_of' number ≡ None
  pub others : (other : ℕ) → other ≢ number → key_of' other ≡ key_of other
  pub stay : (k : ℕ) → k ≢ key → node_under' k ≡ node_under k

pub takes_key : (old new : Slab Node) (keys fewer : BTreeMap ℕ ℕ) (number key : ℕ) → keyed.get nat_cmp keys number ≡ Some key → keyed.get nat_cmp fewer number ≡ None
    → ((other : ℕ) → is_eq (nat_cmp number other) ≡ false → keyed.get nat_cmp fewer other ≡ keyed.get nat_cmp keys other) → slots.Updates old new key None
    → Takes (keyed.get nat_cmp keys) (keyed.get nat_cmp fewer) (slots.get old) (slots.get new) number key
takes_key old new keys fewer number key here gone others updates = record {
  here = here;
  gone = gone;
  others = λ other apart. others other (is_other number other apart);
  stay = updates.others;
}

module _ (key_of key_of' : ℕ → Option ℕ) (node_under node_under' : ℕ → Option Node) (next number key : ℕ) (keyed : IsKeyed key_of node_under next) (takes : Takes key_of key_of' node_under node_under' number key) where
  -- a number that has a key still isn't the one that lost it
  still : (other k : ℕ) → key_of' other ≡ Some k → other ≢ number
  still other k is same = let bad : Some k ≡ None = sym is ∙ (ap key_of' same ∙ takes.gone) in absurd (cc)

  was : (other k : ℕ) → key_of' other ≡ Some k → key_of other ≡ Some k
  was other k is = sym (takes.others other (still other k is)) ∙ is

  another : (other k : ℕ) → other ≢ number → key_of other ≡ Some k → k ≢ key
  another other k apart is same = apart (keyed.apart other number k is (takes.here ∙ ap Some (sym same)))

  -- each number that is left still has a key of its own
  pub keyed_without : IsKeyed key_of' node_under' next
  keyed_without = record {
    live = λ other k is. subst IsSome (sym (takes.stay k (another other k (still other k is) (was other k is)))) (keyed.live other k (was other k is));
    apart = λ one other k is also. keyed.apart one other k (was one k is) (was other k also);
    below = λ other k is. keyed.below other k (was other k is);
  }

  other_without : (other : ℕ) → other ≢ number → (o : Option ℕ) → key_of other ≡ o → option_and_then (λ k. option_map entry_of (node_under' k)) o ≡ option_and_then (λ k. option_map entry_of (node_under k)) o
  other_without other apart None is = refl
  other_without other apart (Some k) is = ap (option_map entry_of) (takes.stay k (another other k apart is))

  -- the node goes, and the others are what they were
  pub taken_out : state_with key_of' node_under' next ≡ without_nodes (number ∷ []) (state_with key_of node_under next)
  taken_out = are_equal _ _ (record {
    nodes = λ other. elim (eqb_tells other number) [
      | inl (true_here, same) ↦
          let none : key_of' other ≡ None = ap key_of' same ∙ takes.gone in
          rw (true_here, none) refl
      | inr (false_here, apart) ↦ rw false_here (ap (option_and_then (λ k. option_map entry_of (node_under' k))) (takes.others other apart) ∙ other_without other apart (key_of other) refl)
    ];
    next = refl;
  })
