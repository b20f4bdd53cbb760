-- What an edit keeps.
use Rattle.std.proofs.Common.{◌≡◌, ◌≢◌, ◌∙◌, ℕ, zero, suc, ◌+◌, ◌-◌, ◌<◌, ◌≤◌, Bool, true, false, List, [], ◌∷◌, get_or, refl, ap, sym, subst, arith, Option, Some, None, option_map, if◌then◌else◌, inl, inr}
use Rattle.std.specs.Prelude.{◌||◌, flat_map, nat_eq, nat_lt, unwrap_or}
use Rattle.std.specs.List.{All, list_any, slice_get}
use Rattle.std.proofs.lemmas.Bool.{true≢false, cases_eq, cases_lt, eq-eqb, le-ltb, lt-ltb, ne_eqb}
use Rattle.std.proofs.lemmas.Bool.Decides.{eqb_tells}
use Rattle.std.proofs.lemmas.List.Folds.{list_any-append}
use Rattle.std.proofs.lemmas.Option.{none-some, same_Some}
use Rattle.html_read.specs.Values.{Node}
use Rattle.css_types.specs.declared.value.Declaration.{Declaration}
use Rattle.dom_store.specs.declared.error.EditError.TheVariants.{IsRoot, NotText}
use Rattle.dom_store.specs.Edits.{set_text, set_style, set_class, insert, remove, move_to, after, changed, changed_if, inserted_at, under, with_children, with_classes, with_moved, with_own, with_parent, with_put, with_what, without, without_nodes}
use Rattle.dom_store.specs.Laws.{HaveParents, KeepRoots, KeepSaid}
use Rattle.dom_store.specs.Opening.{children_from, what_of}
use Rattle.dom_store.specs.Refusals.{in_html, is_element, is_of, is_root, no_node, not_text}
use Rattle.dom_store.specs.Standing.{below_levels, children_at, inclusive_descendants, parent_at, unless_skipped}
use Rattle.dom_store.specs.State.{AreSaid, Entry, IsElement, IsEntryAt, IsRooted, IsSaid, IsSaidState, State, What, element, text}
use Rattle.dom_store.proofs.JudgeLaws.{first_none, not_refused}
use Rattle.dom_store.proofs.RootLaws.{said_at, said_what}

-- ---- declarations

said_changed : (state : State) (number : ℕ) (change : Entry → Entry) → IsSaidState state → ((entry : Entry) → IsSaid entry.what → IsSaid (change entry).what) → IsSaidState (changed state number change)
said_changed state number change said keeps other entry is = elim (eqb_tells other number) [
  | inl (here, same) ↦ at (state.node_at other) refl (subst (λ (b : Bool). (if b then option_map change (state.node_at other) else state.node_at other) ≡ Some entry) here is)
  | inr (there, apart) ↦ said other entry (subst (λ (b : Bool). (if b then option_map change (state.node_at other) else state.node_at other) ≡ Some entry) there is)
]
  where
    at : (o : Option Entry) → state.node_at other ≡ o → option_map change o ≡ Some entry → IsSaid entry.what
    at None before after = absurd (none-some entry after)
    at (Some was) before after = subst (λ (e : Entry). IsSaid e.what) (same_Some (change was) entry after) (keeps was (said other was before))

said_changed_if : (state : State) (number : Option ℕ) (change : Entry → Entry) → IsSaidState state → ((entry : Entry) → IsSaid entry.what → IsSaid (change entry).what) → IsSaidState (changed_if state number change)
said_changed_if state None change said keeps = said
said_changed_if state (Some number) change said keeps = said_changed state number change said keeps

said_without : (state : State) (numbers : List ℕ) → IsSaidState state → IsSaidState (without_nodes numbers state)
said_without state numbers said other entry is = by (list_any (nat_eq other) numbers) refl
  where
    by : (b : Bool) → list_any (nat_eq other) numbers ≡ b → IsSaid entry.what
    by true goes = absurd (none-some entry (subst (λ (b : Bool). (if b then None else state.node_at other) ≡ Some entry) goes is))
    by false stays = said other entry (subst (λ (b : Bool). (if b then None else state.node_at other) ≡ Some entry) stays is)

own_said : (own : List Declaration) → AreSaid own → (what : What) → IsSaid what → IsSaid (with_own own what)
own_said own are (element tag id classes dir before) said = are
own_said own are (text letters) said = said

classes_said : (words : List (List ℕ)) (what : What) → IsSaid what → IsSaid (with_classes words what)
classes_said words (element tag id classes dir own) said = said
classes_said words (text letters) said = said

-- ---- which are what they are

-- a change of a node leaves what makes `html` and `body` roots
record Keeps (number : ℕ) (change : Entry → Entry) : Type 0 where
  children : (entry : Entry) → number ≡ 0 → entry.children ≡ 1 ∷ [] → (change entry).children ≡ 1 ∷ []
  parent : (entry : Entry) → number < 2 → (change entry).parent ≡ entry.parent
  what : (entry : Entry) → number < 2 → IsElement entry.what → IsElement (change entry).what

module _ (state : State) (rooted : IsRooted state) (number : ℕ) (change : Entry → Entry) where
  at_number : (other : ℕ) (entry : Entry) → IsEntryAt state other entry → number ≡ other → IsEntryAt (changed state number change) other (change entry)
  at_number other entry is same = rw (eq-eqb other number (sym same), is) refl

  at_other : (other : ℕ) (entry : Entry) → IsEntryAt state other entry → number ≢ other → IsEntryAt (changed state number change) other entry
  at_other other entry is apart = rw (ne_eqb other number (λ same. apart (sym same))) is

  changed_rooted : Keeps number change → IsRooted (changed state number change)
  changed_rooted keeps = record {
    html = elim (cases_eq number 0) [
      | inl same ↦ (change rooted.html.0, at_number 0 rooted.html.0 rooted.html.1 same, keeps.what rooted.html.0 (omega (arith, same)) rooted.html.2, keeps.parent rooted.html.0 (omega (arith, same)) ∙ rooted.html.3, keeps.children rooted.html.0 same rooted.html.4)
      | inr apart ↦ (rooted.html.0, at_other 0 rooted.html.0 rooted.html.1 apart, rooted.html.2, rooted.html.3, rooted.html.4)
    ];
    body = elim (cases_eq number 1) [
      | inl same ↦ (change rooted.body.0, at_number 1 rooted.body.0 rooted.body.1 same, keeps.what rooted.body.0 (omega (arith, same)) rooted.body.2, keeps.parent rooted.body.0 (omega (arith, same)) ∙ rooted.body.3)
      | inr apart ↦ (rooted.body.0, at_other 1 rooted.body.0 rooted.body.1 apart, rooted.body.2, rooted.body.3)
    ];
    drawn = rooted.drawn;
  }

-- other nodes than these two
keeps_others : (number : ℕ) (change : Entry → Entry) → 2 ≤ number → Keeps number change
keeps_others number change high = record {
  children = λ entry same is. absurd (omega (arith, high, same));
  parent = λ entry low. absurd (omega (arith, high, low));
  what = λ entry low is. absurd (omega (arith, high, low));
}

-- the children of another node than `html`
keeps_children : (number : ℕ) (change : List ℕ → List ℕ) → number ≢ 0 → Keeps number (with_children change)
keeps_children number change apart = record { children = λ entry same is. absurd (apart same); parent = λ entry low. refl; what = λ entry low is. is }

-- a node that isn't `body` leaves the children
keeps_without : (parent number : ℕ) → number ≢ 1 → Keeps parent (with_children (without number))
keeps_without parent number apart = record {
  children = λ entry same is. ap (without number) is ∙ (rw (ne_eqb 1 number (λ one. apart (sym one))) refl);
  parent = λ entry low. refl;
  what = λ entry low is. is;
}

keeps_what : (number : ℕ) (change : What → What) → ((what : What) → IsElement what → IsElement (change what)) → Keeps number (with_what change)
keeps_what number change keeps = record { children = λ entry same is. is; parent = λ entry low. refl; what = λ entry low is. keeps entry.what is }

own_element : (own : List Declaration) (what : What) → IsElement what → IsElement (with_own own what)
own_element own (element tag id classes dir before) is = tt
own_element own (text letters) is = is

classes_element : (words : List (List ℕ)) (what : What) → IsElement what → IsElement (with_classes words what)
classes_element words (element tag id classes dir own) is = tt
classes_element words (text letters) is = is

changed_if_rooted : (state : State) → IsRooted state → (number : Option ℕ) (change : Entry → Entry) → ((n : ℕ) → Keeps n change) → IsRooted (changed_if state number change)
changed_if_rooted state rooted None change keeps = rooted
changed_if_rooted state rooted (Some number) change keeps = changed_rooted state rooted number change (keeps number)

-- ---- a removed node has neither below it

flat_none : (test : ℕ → Bool) (f : ℕ → List ℕ) (children : List ℕ) → ((child : ℕ) → list_any (nat_eq child) children ≡ true → list_any test (f child) ≡ false) → list_any test (flat_map f children) ≡ false
flat_none test f [] none = refl
flat_none test f (child ∷ children) none =
    let first : list_any test (f child) ≡ false = none child (rw (eq-eqb child child refl) refl) in
    let later : list_any test (flat_map f children) ≡ false = flat_none test f children (λ other among. none other (among_more (nat_eq other child) (list_any (nat_eq other) children) among)) in
    list_any-append test (f child) (flat_map f children) ∙ rw (first, later) refl
  where
    among_more : (a b : Bool) → b ≡ true → (a || b) ≡ true
    among_more true b is = refl
    among_more false b is = is

module _ (state : State) (rooted : IsRooted state) (parents : HaveParents state) where
  -- a child of another node than `html` is neither of the two
  child_high : (number child : ℕ) → 2 ≤ number → list_any (nat_eq child) (children_at state number) ≡ true → 2 ≤ child
  child_high number child high among = elim (cases_eq child 0) [
    | inl zero_it ↦
        let none : parent_at state child ≡ None = ap (parent_at state) zero_it ∙ (rw (rooted.html.1) rooted.html.3) in
        absurd (none-some number (sym none ∙ parents number child among))
    | inr not_zero ↦ elim (cases_eq child 1) [
      | inl one_it ↦
          let some : parent_at state child ≡ Some 0 = ap (parent_at state) one_it ∙ (rw (rooted.body.1) rooted.body.3) in
          let same : number ≡ 0 = ap (λ (o : Option ℕ). unwrap_or o 0) (sym (parents number child among) ∙ some) in
          absurd (omega (arith, high, same))
      | inr not_one ↦ omega (arith, not_zero, not_one)
    ]
  ]

  itself : (root : ℕ) → root < 2 → (skipped number : ℕ) → 2 ≤ number → list_any (nat_eq root) (unless_skipped skipped number) ≡ false
  itself root low zero number high = rw (ne_eqb root number (λ same. omega (arith, low, high, same))) refl
  itself root low (suc skipped) number high = refl

  none_below : (root : ℕ) → root < 2 → (levels skipped number : ℕ) → 2 ≤ number → list_any (nat_eq root) (below_levels skipped levels state number) ≡ false
  unfolding below_levels
  none_below root low zero skipped number high = refl
  none_below root low (suc levels) skipped number high =
      let deeper = below_levels (skipped - 1) levels state in
      let here : list_any (nat_eq root) (unless_skipped skipped number) ≡ false = itself root low skipped number high in
      let later : list_any (nat_eq root) (flat_map deeper (children_at state number)) ≡ false =
      flat_none (nat_eq root) deeper (children_at state number) (λ child among. none_below root low levels (skipped - 1) child (child_high number child high among)) in
      list_any-append (nat_eq root) (unless_skipped skipped number) (flat_map deeper (children_at state number)) ∙ rw (here, later) refl

without_rooted : (state : State) (numbers : List ℕ) → list_any (nat_eq 0) numbers ≡ false → list_any (nat_eq 1) numbers ≡ false → IsRooted state → IsRooted (without_nodes numbers state)
without_rooted state numbers no_html no_body rooted = record {
  html = (rooted.html.0, rw no_html (rooted.html.1), rooted.html.2, rooted.html.3, rooted.html.4);
  body = (rooted.body.0, rw no_body (rooted.body.1), rooted.body.2, rooted.body.3);
  drawn = rooted.drawn;
}

inserted_rooted : (state : State) (parent index : ℕ) (nodes : List Node) (own : List (List Declaration)) → parent ≢ 0 → IsRooted state → IsRooted (after state (insert parent index nodes own))
inserted_rooted state parent index nodes own apart rooted =
    let put = changed_rooted state rooted parent _ (keeps_children parent (with_put index (children_from state.next parent (under parent state.next nodes))) apart) in
    let first : nat_lt 0 state.next ≡ true = lt-ltb 0 state.next (omega (arith, rooted.drawn)) in
    let second : nat_lt 1 state.next ≡ true = lt-ltb 1 state.next rooted.drawn in
    record {
      html = (put.html.0, rw first (put.html.1), put.html.2, put.html.3, put.html.4);
      body = (put.body.0, rw second (put.body.1), put.body.2, put.body.3);
      drawn = omega (arith, rooted.drawn);
    }

-- ---- what isn't refused

element_is : (what : What) → IsElement what → is_element what ≡ true
element_is (element tag id classes dir own) is = refl
element_is (text letters) is = absurd is

text_high : (state : State) (number : ℕ) → IsRooted state → not_text state number ≡ None → 2 ≤ number
text_high state number rooted none = elim (cases_eq number 0) [
  | inl zero_it ↦
      let is : is_of is_element state number ≡ true = ap (is_of is_element state) zero_it ∙ (rw (rooted.html.1) (element_is _ rooted.html.2)) in
      absurd (true≢false (sym is ∙ not_refused _ NotText none))
  | inr not_zero ↦ elim (cases_eq number 1) [
    | inl one_it ↦
        let is : is_of is_element state number ≡ true = ap (is_of is_element state) one_it ∙ (rw (rooted.body.1) (element_is _ rooted.body.2)) in
        absurd (true≢false (sym is ∙ not_refused _ NotText none))
    | inr not_one ↦ omega (arith, not_zero, not_one)
  ]
]

root_high : (number : ℕ) → is_root number ≡ None → 2 ≤ number
root_high number none = elim (cases_eq number 0) [
  | inl zero_it ↦ let is : (nat_eq number 0 || nat_eq number 1) ≡ true = rw (eq-eqb number 0 zero_it) refl in absurd (true≢false (sym is ∙ not_refused _ IsRoot none))
  | inr not_zero ↦ elim (cases_eq number 1) [
    | inl one_it ↦ let is : (nat_eq number 0 || nat_eq number 1) ≡ true = rw (ne_eqb number 0 not_zero, eq-eqb number 1 one_it) refl in absurd (true≢false (sym is ∙ not_refused _ IsRoot none))
    | inr not_one ↦ omega (arith, not_zero, not_one)
  ]
]

not_html : (parent : ℕ) → in_html parent ≡ None → parent ≢ 0
not_html parent none same = true≢false (sym (eq-eqb parent 0 same) ∙ not_refused _ IsRoot none)

-- ---- the laws

pub keep_roots : KeepRoots
keep_roots state (set_text number letters) rooted parents none =
    let (lives, one) = first_none (no_node state (number ∷ [])) _ none in
    let (is_text, two) = first_none (not_text state number) _ one in
    changed_rooted state rooted number _ (keeps_others number _ (text_high state number rooted is_text))
keep_roots state (set_style number own) rooted parents none = changed_rooted state rooted number _ (keeps_what number (with_own own) (own_element own))
keep_roots state (set_class number words) rooted parents none = changed_rooted state rooted number _ (keeps_what number (with_classes words) (classes_element words))
keep_roots state (insert parent index nodes own) rooted parents none =
    let (lives, one) = first_none (no_node state (parent ∷ [])) _ none in
    let (apart, two) = first_none (in_html parent) _ one in
    inserted_rooted state parent index nodes own (not_html parent apart) rooted
keep_roots state (remove number) rooted parents none =
    let (lives, one) = first_none (no_node state (number ∷ [])) _ none in
    let (root, two) = first_none (is_root number) _ one in
    let high = root_high number root in
    let left = changed_if_rooted state rooted (parent_at state number) _ (λ n. keeps_without n number (λ same. omega (arith, high, same))) in
    without_rooted _ (inclusive_descendants state number) (none_below state rooted parents 0 (omega arith) 64 0 number high) (none_below state rooted parents 1 (omega arith) 64 0 number high) left
keep_roots state (move_to number parent index) rooted parents none =
    let (lives, one) = first_none (no_node state (number ∷ parent ∷ [])) _ none in
    let (root, two) = first_none (is_root number) _ one in
    let (apart, three) = first_none (in_html parent) _ two in
    let high = root_high number root in
    let left = changed_if_rooted state rooted (parent_at state number) _ (λ n. keeps_without n number (λ same. omega (arith, high, same))) in
    let put = changed_rooted _ left parent _ (keeps_children parent (with_moved number index) (not_html parent apart)) in
    changed_rooted _ put number _ (keeps_others number (with_parent parent) high)

said_inserted : (nodes : List Node) (own : List (List Declaration)) (next place : ℕ) (entry : Entry) → All AreSaid own → inserted_at nodes own next place ≡ Some entry → IsSaid entry.what
said_inserted nodes own next place entry said is = at (slice_get nodes place) is
  where
    at : (o : Option Node) → option_map (λ node. record { parent = node.parent; children = children_from next (next + place) nodes; what = what_of node.kind (get_or own place []) }) o ≡ Some entry → IsSaid entry.what
    at None is = absurd (none-some entry is)
    at (Some node) is = subst (λ (e : Entry). IsSaid e.what) (same_Some _ entry is) (said_what node.kind (get_or own place []) (said_at own place said))

said_under : (state : State) (parent index : ℕ) (nodes : List Node) (own : List (List Declaration)) → IsSaidState state → All AreSaid own → IsSaidState (after state (insert parent index nodes own))
said_under state parent index nodes own said edit number entry is = elim (cases_lt number state.next) [
  | inl low ↦
      let placed = under parent state.next nodes in
      let put = said_changed state parent (with_children (with_put index (children_from state.next parent placed))) said (λ entry is. is) in
      put number entry (subst (λ (b : Bool). (if b then (changed state parent (with_children (with_put index (children_from state.next parent placed)))).node_at number else inserted_at placed own state.next (number - state.next)) ≡ Some entry) (lt-ltb number state.next low) is)
  | inr past ↦
      let placed = under parent state.next nodes in
      said_inserted placed own state.next (number - state.next) entry edit
      (subst (λ (b : Bool). (if b then (changed state parent (with_children (with_put index (children_from state.next parent placed)))).node_at number else inserted_at placed own state.next (number - state.next)) ≡ Some entry) (le-ltb number state.next past) is)
]

pub keep_said : KeepSaid
keep_said state (set_text number letters) said edit = said_changed state number _ said (λ entry is. tt)
keep_said state (set_style number own) said edit = said_changed state number _ said (λ entry is. own_said own edit entry.what is)
keep_said state (set_class number words) said edit = said_changed state number _ said (λ entry is. classes_said words entry.what is)
keep_said state (insert parent index nodes own) said edit = said_under state parent index nodes own said edit
keep_said state (remove number) said edit =
    let left = changed_if state (parent_at state number) (with_children (without number)) in
    said_without left (inclusive_descendants state number) (said_changed_if state (parent_at state number) (with_children (without number)) said (λ entry is. is))
keep_said state (move_to number parent index) said edit =
    let left = changed_if state (parent_at state number) (with_children (without number)) in
    let put = changed left parent (with_children (with_moved number index)) in
    let left_said = said_changed_if state (parent_at state number) (with_children (without number)) said (λ entry is. is) in
    let put_said = said_changed left parent (with_children (with_moved number index)) left_said (λ entry is. is) in
    said_changed put number (with_parent parent) put_said (λ entry is. is)
