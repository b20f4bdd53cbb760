-- Documents that are copied node by node.
use Rattle.std.proofs.Common.{◌≡◌, ◌∙◌, ℕ, ◌+◌, ◌<◌, ◌≤◌, List, [], ◌∷◌, refl, ap, sym, subst, arith, Option, Some, None, option_map, option_and_then, inl, inr, true}
use Rattle.std.specs.declared.cmp.Ordering.TheVariants.{Less}
use Rattle.std.specs.Ordering.{is_eq, nat_cmp}
use Rattle.std.proofs.lemmas.Bool.Decides.{nat_tests}
use Rattle.std.specs.Cmp.{nat_cmp_total}
use Rattle.std.specs.List.{AllByRecursion}
use Rattle.std.specs.List.Sorted.{IsStrictlySortedBy}
use Rattle.std.specs.BTreeMap.{is_at}
use Rattle.std.specs.Map.{keys_of, lookup}
use Rattle.std.proofs.lemmas.Bool.{cases_eq, cases_lt}
use Rattle.std.proofs.lemmas.Map.{lookup-none}
use Rattle.std.proofs.lemmas.Map.Keys.{sorted_head, sorted_tail}
use Rattle.std.proofs.lemmas.Map.Entries.{lookup_head, lookup_tail, none_below_head}
use Rattle.dom_store.specs.declared.node.Node.{Node}
use Rattle.dom_store.specs.Building.{Adds, IsFilledFrom, with_next}
use Rattle.dom_store.specs.Keys.{IsKeyed}
use Rattle.dom_store.specs.State.{Entry, State, entry_of}
use Rattle.dom_store.proofs.AddLaws.{entry_under, is_other}
use Rattle.dom_store.proofs.CountLaws.{none_past}
use Rattle.dom_store.proofs.SameLaws.{are_equal}

-- the nodes below the next number are copied, and these entries of the map are left
pub record IsCopied (key_of : ℕ → Option ℕ) (whole : State) (rest : List (ℕ × ℕ)) (copy : State) : Type 0 where
  pub filled : IsFilledFrom whole copy
  pub left : (number : ℕ) → copy.next ≤ number → lookup (is_at (nat_cmp number)) rest ≡ key_of number
  pub sorted : IsStrictlySortedBy nat_cmp (keys_of rest)
  pub high : AllByRecursion (λ number. copy.next ≤ number) (keys_of rest)

-- numbers compare otherwise, and how
less : (number other : ℕ) → number < other → nat_cmp number other ≡ Less
less number other low = grind (arith, nat_tests)

is_itself : (number : ℕ) → is_eq (nat_cmp number number) ≡ true
is_itself number = grind (arith, nat_tests)

above_head : (number : ℕ) (keys : List ℕ) → AllByRecursion (λ other. nat_cmp number other ≡ Less) keys → AllByRecursion (λ other. number + 1 ≤ other) keys
above_head number [] above = tt
above_head number (other ∷ keys) above = (more number other above.0, above_head number keys above.1)
  where
    more : (number other : ℕ) → nat_cmp number other ≡ Less → number + 1 ≤ other
    more number other is = grind (arith, nat_tests, is)

module _ (key_of : ℕ → Option ℕ) (node_under : ℕ → Option Node) (next : ℕ) (keyed : IsKeyed key_of node_under next) where
  abbrev whole : State
  whole = record { node_at = entry_under key_of node_under; next = next }

  -- nothing is copied
  pub none_copied : (entries : List (ℕ × ℕ)) (copy : State) → copy.next ≡ 0 → ((number : ℕ) → copy.node_at number ≡ None) → ((number : ℕ) → lookup (is_at (nat_cmp number)) entries ≡ key_of number) → IsStrictlySortedBy nat_cmp (keys_of entries)
      → IsCopied key_of whole entries copy
  none_copied entries copy zero none at sorted = record {
    filled = record { below = λ number low. absurd (omega (arith, zero, low)); above = λ number high. none number };
    left = λ number high. at number;
    sorted = sorted;
    high = all_high (keys_of entries);
  }
    where
      all_high : (keys : List ℕ) → AllByRecursion (λ number. copy.next ≤ number) keys
      all_high [] = tt
      all_high (key ∷ keys) = (omega (arith, zero), all_high keys)

  -- all is copied
  pub all_copied : (entries : List (ℕ × ℕ)) (copy : State) → entries ≡ [] → IsCopied key_of whole entries copy → with_next next copy ≡ whole
  all_copied entries copy ends before =
      let copied = subst (λ (l : List (ℕ × ℕ)). IsCopied key_of whole l copy) ends before in
      are_equal _ _ (record {
        nodes = λ number. elim (cases_lt number copy.next) [
          | inl low ↦ copied.filled.below number low
          | inr high ↦ copied.filled.above number high ∙ sym (ap (option_and_then (λ k. option_map entry_of (node_under k))) (sym (copied.left number high)))
        ];
        next = refl;
      })

  -- the next number may be set
  pub none_high : (entries : List (ℕ × ℕ)) (copy : State) → IsCopied key_of whole entries copy → (number : ℕ) → next ≤ number → copy.node_at number ≡ None
  none_high entries copy copied number past = elim (cases_lt number copy.next) [
    | inl low ↦ copied.filled.below number low ∙ none_past key_of node_under next keyed number past
    | inr high ↦ copied.filled.above number high
  ]

  module _ (number key : ℕ) (rest entries : List (ℕ × ℕ)) (copy : State) (begins : entries ≡ (number, key) ∷ rest) (before : IsCopied key_of whole entries copy) where
    copied : IsCopied key_of whole ((number, key) ∷ rest) copy
    copied = subst (λ (l : List (ℕ × ℕ)). IsCopied key_of whole l copy) begins before

    -- the number isn't below the next one
    pub up : copy.next ≤ number
    up = copied.high.0

    pub none_up : (other : ℕ) → number ≤ other → copy.node_at other ≡ None
    none_up other high = copied.filled.above other (omega (arith, up, high))

    pub its_key : key_of number ≡ Some key
    its_key = sym (copied.left number up) ∙ lookup_head (is_at (nat_cmp number)) (number, key) rest (is_itself number)

    pub low : number < next
    low = keyed.below number key its_key

    -- numbers up to this one have no node
    between : (other : ℕ) → copy.next ≤ other → other < number → entry_under key_of node_under other ≡ None
    between other high low = ap (option_and_then (λ k. option_map entry_of (node_under k)))
        (sym (copied.left other high) ∙ lookup-none (is_at (nat_cmp other)) ((number, key) ∷ rest) (none_below_head nat_cmp_total other (number, key) rest copied.sorted (less other number low)))

    pub one_copied : (node : Node) (entry : Entry) (new : State) → node_under key ≡ Some node → entry ≡ entry_of node → Adds (with_next number copy) new entry → IsCopied key_of whole rest new
    one_copied node entry new here is adds = record {
      filled = record {
        below = λ other low. elim (cases_eq other number) [
          | inl same ↦ ap new.node_at same ∙ (adds.here ∙ (ap Some is ∙ (sym its_entry ∙ ap (entry_under key_of node_under) (sym same))))
          | inr apart ↦ adds.others other apart ∙ elim (cases_lt other copy.next) [
            | inl before ↦ copied.filled.below other before
            | inr after ↦ copied.filled.above other after ∙ sym (between other after (omega (arith, apart, low, adds.next)))
          ]
        ];
        above = λ other high. adds.others other (λ same. omega (arith, adds.next, high, same)) ∙ copied.filled.above other (omega (arith, adds.next, high, up));
      };
      left = λ other high. sym (lookup_tail (is_at (nat_cmp other)) (number, key) rest (is_other other number (λ same. omega (arith, adds.next, high, same)))) ∙ copied.left other (omega (arith, adds.next, high, up));
      sorted = sorted_tail nat_cmp number (keys_of rest) copied.sorted;
      high = subst (λ (n : ℕ). AllByRecursion (λ other. n ≤ other) (keys_of rest)) (sym adds.next) (above_head number (keys_of rest) (sorted_head nat_cmp number (keys_of rest) copied.sorted));
    }
      where
        its_entry : entry_under key_of node_under number ≡ Some (entry_of node)
        its_entry = rw (its_key, here) refl
