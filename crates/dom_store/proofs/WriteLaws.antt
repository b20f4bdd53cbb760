-- A document of which one node was changed.
use Rattle.std.proofs.Common.{◌≡◌, ◌≢◌, ◌∙◌, ℕ, refl, ap, sym, subst, Option, Some, None, IsSome, option_map, option_and_then, if◌then◌else◌, inl, inr}
use Rattle.std.specs.Prelude.{nat_eq}
use Rattle.std.proofs.lemmas.Bool.{cases_eq}
use Rattle.std.proofs.lemmas.Bool.Decides.{eqb_tells}
use Rattle.std.specs.Ordering.{nat_cmp}
use Rattle.std.specs.BTreeMap as keyed
use Rattle.std.specs.BTreeMap.{BTreeMap}
use Rattle.slab.specs.Slab as slots
use Rattle.slab.specs.Slab.{Slab}
use Rattle.slab.proofs.SlabLemmas.{Updates-with_value}
use Rattle.dom_store.specs.declared.node.Node.{Node}
use Rattle.dom_store.specs.Keys.{IsKeyed}
use Rattle.dom_store.specs.State.{Entry, State, entry_of}
use Rattle.dom_store.specs.Edits.{changed}
use Rattle.dom_store.proofs.AddLaws.{entry_under}
use Rattle.dom_store.proofs.SameLaws.{are_equal}

abbrev pub state_with : (ℕ → Option ℕ) → (ℕ → Option Node) → (next : ℕ) → State
state_with key_of node_under next = record { node_at = entry_under key_of node_under; next = next }

-- the node under a key is another
pub record Writes (node_under node_under' : ℕ → Option Node) (key : ℕ) (was is : Node) : Type 0 where
  pub before : node_under key ≡ Some was
  pub put : node_under' key ≡ Some is
  pub stay : (k : ℕ) → k ≢ key → node_under' k ≡ node_under k

module _ (key_of : ℕ → Option ℕ) (node_under node_under' : ℕ → Option Node) (next key : ℕ) (was is : Node) (keyed : IsKeyed key_of node_under next) (writes : Writes node_under node_under' key was is) where
  live_still : (k : ℕ) → IsSome (node_under k) → IsSome (node_under' k)
  live_still k lives = elim (cases_eq k key) [
    | inl same ↦ rw (same, writes.put) refl
    | inr apart ↦ subst IsSome (sym (writes.stay k apart)) lives
  ]

  -- each number still has a key of its own
  pub keyed_written : IsKeyed key_of node_under' next
  keyed_written = record { live = λ number k at. live_still k (keyed.live number k at); apart = keyed.apart; below = keyed.below }

  module _ (number : ℕ) (change : Entry → Entry) (here : key_of number ≡ Some key) (changes : entry_of is ≡ change (entry_of was)) where
    here_written : entry_under key_of node_under' number ≡ option_map change (entry_under key_of node_under number)
    here_written = rw (here, writes.put, writes.before) (ap Some changes)

    other_written : (other : ℕ) → other ≢ number → (o : Option ℕ) → key_of other ≡ o → option_and_then (λ k. option_map entry_of (node_under' k)) o ≡ option_and_then (λ k. option_map entry_of (node_under k)) o
    other_written other apart None at = refl
    other_written other apart (Some k) at = ap (option_map entry_of) (writes.stay k (λ same. apart (keyed.apart other number k at (here ∙ ap Some (sym same)))))

    at_written : (other : ℕ) → entry_under key_of node_under' other ≡ (if nat_eq other number then option_map change (entry_under key_of node_under other) else entry_under key_of node_under other)
    at_written other = elim (eqb_tells other number) [
      | inl (true_here, same) ↦ rw true_here (subst (λ (n : ℕ). entry_under key_of node_under' n ≡ option_map change (entry_under key_of node_under n)) (sym same) here_written)
      | inr (false_here, apart) ↦ rw false_here (other_written other apart (key_of other) refl)
    ]

    -- the node of this number is changed so, and the others are what they were
    pub written : state_with key_of node_under' next ≡ changed (state_with key_of node_under next) number change
    written = are_equal _ _ (record { nodes = at_written; next = refl })

-- a number that has no node
pub none_written : (key_of : ℕ → Option ℕ) (node_under : ℕ → Option Node) (next number : ℕ) (change : Entry → Entry) → key_of number ≡ None
    → state_with key_of node_under next ≡ changed (state_with key_of node_under next) number change
none_written key_of node_under next number change none = are_equal _ _ (record {
  nodes = λ other. elim (eqb_tells other number) [
    | inl (true_here, same) ↦
        let nothing : entry_under key_of node_under other ≡ None = rw (same, none) refl in
        rw (true_here, nothing) refl
    | inr (false_here, apart) ↦ rw false_here refl
  ];
  next = refl;
})

-- the slab of a document, and the map of its keys
pub put_under : (nodes : Slab Node) (keys : BTreeMap ℕ ℕ) (next number key : ℕ) (was is : Node) (change : Entry → Entry) → IsKeyed (keyed.get nat_cmp keys) (slots.get nodes) next
    → keyed.get nat_cmp keys number ≡ Some key → slots.get nodes key ≡ Some was → entry_of is ≡ change (entry_of was)
    → state_with (keyed.get nat_cmp keys) (slots.get (slots.with_value nodes key is)) next ≡ changed (state_with (keyed.get nat_cmp keys) (slots.get nodes) next) number change
put_under nodes keys next number key was is change sound here before changes =
    let contains : slots.ContainsKey nodes key = rw before refl in
    let updates = Updates-with_value nodes key is contains in
    written (keyed.get nat_cmp keys) (slots.get nodes) (slots.get (slots.with_value nodes key is)) next key was is sound (record { before = before; put = updates.changed; stay = updates.others }) number change here changes
