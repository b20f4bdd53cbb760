-- How many numbers have something.
use Rattle.std.proofs.Common.{◌≡◌, ◌≢◌, ◌∙◌, ℕ, zero, suc, ◌+◌, ◌<◌, ◌≤◌, refl, ap, sym, arith, Option, Some, None, IsSome, is_some, option_map, option_and_then, inl, inr, true, if◌then◌else◌}
use Rattle.std.proofs.lemmas.Bool.{cases_eq, cases_lt}
use Rattle.dom_store.specs.declared.node.Node.{Node}
use Rattle.dom_store.specs.Keys.{IsKeyed}
use Rattle.dom_store.specs.State.{Entry, entry_of}
use Rattle.dom_store.specs.Standing.{count_below, one_if}
use Rattle.dom_store.proofs.AddLaws.{entry_under}

-- where the same numbers have something
pub count_same : {X Y : Type 0} (one : ℕ → Option X) (other : ℕ → Option Y) (limit : ℕ) → ((n : ℕ) → n < limit → one_if (one n) ≡ one_if (other n)) → count_below one limit ≡ count_below other limit
unfolding count_below
count_same one other zero same = refl
count_same one other (suc limit) same =
    let before = count_same one other limit (λ n low. same n (omega arith)) in
    let here = same limit (omega arith) in
    omega (arith, before, here)

-- where no number from the first limit on has something
pub count_past : {X : Type 0} (at : ℕ → Option X) (low high : ℕ) → ((n : ℕ) → low ≤ n → at n ≡ None) → low ≤ high → count_below at high ≡ count_below at low
unfolding count_below
count_past at low zero none above = let same : zero ≡ low = omega (arith, above) in ap (count_below at) same
count_past at low (suc high) none above = elim (cases_lt high low) [
  | inl last ↦ let same : suc high ≡ low = omega (arith, above, last) in ap (count_below at) same
  | inr more ↦
      let before = count_past at low high none more in
      let nothing : one_if (at high) ≡ 0 = ap one_if (none high more) in
      omega (arith, before, nothing)
]

-- one number has nothing any more
pub count_less : {X : Type 0} (at at' : ℕ → Option X) (number limit : ℕ) (x : X) → number < limit → at number ≡ Some x → at' number ≡ None → ((n : ℕ) → n ≢ number → at' n ≡ at n)
    → count_below at' limit + 1 ≡ count_below at limit
unfolding count_below
count_less at at' number zero x low here gone others = absurd (omega arith)
count_less at at' number (suc limit) x low here gone others = elim (cases_eq limit number) [
  | inl same ↦
      let before = count_same at' at limit (λ n less. ap one_if (others n (λ is. omega (arith, is)))) in
      let was : one_if (at limit) ≡ 1 = ap one_if (ap at same ∙ here) in
      let is : one_if (at' limit) ≡ 0 = ap one_if (ap at' same ∙ gone) in
      omega (arith, before, was, is)
  | inr apart ↦
      let before = count_less at at' number limit x (omega (arith, apart)) here gone others in
      let stays : one_if (at' limit) ≡ one_if (at limit) = ap one_if (others limit apart) in
      omega (arith, before, stays)
]

-- nothing has a key
pub keyed_empty : (key_of : ℕ → Option ℕ) (node_under : ℕ → Option Node) → ((n : ℕ) → key_of n ≡ None) → IsKeyed key_of node_under 0
keyed_empty key_of node_under none = record {
  live = λ number key is. let nothing = none number in absurd (cc);
  apart = λ one other key is also. let nothing = none one in absurd (cc);
  below = λ number key is. let nothing = none number in absurd (cc);
}

pub count_empty : {X : Type 0} (at : ℕ → Option X) → count_below at 0 ≡ 0
unfolding count_below
count_empty at = refl

-- a map has one entry more
pub counted_more : (key_of key_of' : ℕ → Option ℕ) (number key next before after : ℕ) (was : Option ℕ) → was ≡ None → after ≡ before + (if is_some was then 0 else 1) → before ≡ count_below key_of next
    → number < next → key_of number ≡ None → key_of' number ≡ Some key → ((n : ℕ) → n ≢ number → key_of' n ≡ key_of n) → after ≡ count_below key_of' next
counted_more key_of key_of' number key next before after was none longer counted low free here others =
    let extra : ℕ = if is_some was then 0 else 1 in
    let one : extra ≡ 1 = rw none refl in
    omega (arith, one, longer, counted, count_less key_of' key_of number next key low here free (λ n apart. sym (others n apart)))

-- or one less
pub counted_less : (key_of key_of' : ℕ → Option ℕ) (number key next before after : ℕ) → after + 1 ≡ before → before ≡ count_below key_of next
    → number < next → key_of number ≡ Some key → key_of' number ≡ None → ((n : ℕ) → n ≢ number → key_of' n ≡ key_of n) → after ≡ count_below key_of' next
counted_less key_of key_of' number key next before after shorter counted low here gone others =
    omega (arith, shorter, counted, count_less key_of key_of' number next key low here gone others)

module _ (key_of : ℕ → Option ℕ) (node_under : ℕ → Option Node) (next : ℕ) (keyed : IsKeyed key_of node_under next) where
  nothing_lives : let nothing : Option Node = None in IsSome nothing → ⊥
  nothing_lives lives = absurd (cc)

  one_lives : (node : Option Node) → IsSome node → one_if (option_map entry_of node) ≡ 1
  one_lives None lives = absurd (nothing_lives lives)
  one_lives (Some node) lives = refl

  one_each : (number : ℕ) (key : Option ℕ) → key_of number ≡ key → one_if (option_and_then (λ k. option_map entry_of (node_under k)) key) ≡ one_if key
  one_each number None is = refl
  one_each number (Some key) is = one_lives (node_under key) (keyed.live number key is)

  -- as many nodes live as numbers have keys
  pub live_keys : count_below (entry_under key_of node_under) next ≡ count_below key_of next
  live_keys = count_same (entry_under key_of node_under) key_of next (λ number low. one_each number (key_of number) refl)

  none_lives : (node : Option Node) → IsSome node → option_map entry_of node ≢ None
  none_lives None lives = absurd (nothing_lives lives)
  none_lives (Some node) lives = λ is. let bad = is in absurd (cc)

  no_key_if : (number : ℕ) (key : Option ℕ) → key_of number ≡ key → option_and_then (λ k. option_map entry_of (node_under k)) key ≡ None → key ≡ None
  no_key_if number None is none = refl
  no_key_if number (Some key) is none = absurd (none_lives (node_under key) (keyed.live number key is) none)

  -- a number without a node has no key
  pub no_key : (number : ℕ) → entry_under key_of node_under number ≡ None → key_of number ≡ None
  no_key number none = no_key_if number (key_of number) refl none

  past_if : (number : ℕ) (key : Option ℕ) → key_of number ≡ key → next ≤ number → key ≡ None
  past_if number None is past = refl
  past_if number (Some key) is past = absurd (omega (arith, keyed.below number key is))

  -- no number from the next one on has a key
  pub no_key_past : (number : ℕ) → next ≤ number → key_of number ≡ None
  no_key_past number past = past_if number (key_of number) refl past

  -- nor a node
  pub none_past : (number : ℕ) → next ≤ number → entry_under key_of node_under number ≡ None
  none_past number past = ap (option_and_then (λ k. option_map entry_of (node_under k))) (no_key_past number past)

  lives_if : (number : ℕ) (entry : Option Entry) → entry_under key_of node_under number ≡ entry → is_some entry ≡ true → number < next
  lives_if number None is lives = absurd (cc)
  lives_if number (Some entry) is lives = elim (cases_lt number next) [
    | inl low ↦ low
    | inr past ↦ let nothing = none_past number past in absurd (cc)
  ]

  -- a number with a node is below the next one
  pub lives_below : (number : ℕ) → is_some (entry_under key_of node_under number) ≡ true → number < next
  lives_below number lives = lives_if number (entry_under key_of node_under number) refl lives

  module _ (other : ℕ) (none : (number : ℕ) → other ≤ number → entry_under key_of node_under number ≡ None) where
    below_if : (number key : ℕ) → key_of number ≡ Some key → number < other
    below_if number key is = elim (cases_lt number other) [
      | inl low ↦ low
      | inr past ↦ let nothing = no_key number (none number past) in absurd (cc)
    ]

    -- another number may be given next
    pub keyed_next : IsKeyed key_of node_under other
    keyed_next = record { live = keyed.live; apart = keyed.apart; below = below_if }

    pub count_next : count_below key_of next ≡ count_below key_of other
    count_next = elim (cases_lt other next) [
      | inl lower ↦ count_past key_of other next (λ number past. no_key number (none number past)) (omega arith)
      | inr higher ↦ sym (count_past key_of next other no_key_past higher)
    ]
