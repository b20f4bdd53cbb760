-- No declaration of a document ties it exactly where the document can be turned.
use Rattle.std.proofs.Common.{◌≡◌, ◌∙◌, ℕ, zero, suc, ◌-◌, ◌<◌, Bool, true, false, List, [], ◌∷◌, ◌++◌, map, Option, Some, None, option_map, unwrap_or, inl, inr, refl, sym, ap, subst, arith}
use Rattle.std.specs.Prelude.{cond, filter, is_some}
use Rattle.std.specs.List.{All, Contains}
use Rattle.std.proofs.lemmas.List.Elements.{All-nil, All-cons, All-head, All-tail}
use Rattle.basic_laws.proofs.Lists.{contains_cases, contains_first, contains_none}
use Rattle.css_types.specs.declared.value.Declaration.{Declaration}
use Rattle.css_types.specs.Rule.{Ruling}
use Rattle.dom_store.specs.State.{Entry, State, Tree, What, element, text, tree_of, tree_to, tree_with}
use Rattle.dom_store.specs.Standing.{children_at, lives}
use Rattle.tree_laws.specs.Reached.{IsAtLevel, IsReached}
use Rattle.style_modes.specs.Turnable.{IsTurnable, TieNone, TiesNone, ties}
use Rattle.style_modes.specs.Tying.{NoneIsFirstWhereTurnable, NoneTiesWhereTurnable, first_of, lesser, own_places, places_in, places_of, rule_places, tying_places}

abbrev Free : Declaration → Type 0
Free d = ties d.property ≡ false

-- ---- where there are none

some_no_none : {A : Type 0} (x : A) (xs : List A) → x ∷ xs ≡ [] → ⊥
some_no_none x xs is = cc

both_none : {A : Type 0} (one other : List A) → one ++ other ≡ [] → (one ≡ []) × (other ≡ [])
both_none [] other is = (refl, is)
both_none (x ∷ one) other is = absurd (some_no_none x (one ++ other) is)

free_where : (own : List Declaration) → places_of own ≡ [] → TieNone own
free_where [] none = All-nil Free
free_where (d ∷ own) none = by_test (ties d.property) refl (free_where own)
  where
    by_test : (b : Bool) → ties d.property ≡ b → (places_of own ≡ [] → TieNone own) → TieNone (d ∷ own)
    by_test true is rest = absurd (some_no_none d.place (places_of own) (ap (λ (b : Bool). map (λ (x : Declaration). x.place) (cond b (d ∷ filter (λ x. ties x.property) own) (filter (λ x. ties x.property) own))) (sym is) ∙ none))
    by_test false is rest =
        All-cons Free d own is (rest (ap (λ (b : Bool). map (λ (x : Declaration). x.place) (cond b (d ∷ filter (λ x. ties x.property) own) (filter (λ x. ties x.property) own))) (sym is) ∙ none))

rules_free_where : (rules : List Ruling) → rule_places rules ≡ [] → All (λ (rule : Ruling). TieNone rule.declarations) rules
rules_free_where [] none = All-nil (λ (rule : Ruling). TieNone rule.declarations)
rules_free_where (rule ∷ rules) none =
    let both = both_none (places_of rule.declarations) (rule_places rules) none in
    All-cons (λ (rule : Ruling). TieNone rule.declarations) rule rules (free_where rule.declarations both.0) (rules_free_where rules both.1)

own_free_where : (what : What) → own_places what ≡ [] → TiesNone what
own_free_where (element tag id classes dir own) none = free_where own none
own_free_where (text letters) none = tt

-- ---- nodes

module _ (number : ℕ) (below : List ℕ → Tree) where
  rest_none : (found : Option Entry) (next : Tree) → places_in (tree_with found number below next) ≡ [] → places_in next ≡ []
  unfolding places_in
  rest_none None next none = none
  rest_none (Some entry) next none =
      (both_none (places_in (below entry.children)) (places_in next) (both_none (own_places entry.what) (places_in (below entry.children) ++ places_in next) none).1).1

  here_none : (found : Option Entry) (entry : Entry) (next : Tree) → found ≡ Some entry → places_in (tree_with found number below next) ≡ []
      → (own_places entry.what ≡ []) × (places_in (below entry.children) ≡ [])
  unfolding places_in
  here_none found entry next is none =
      let both = both_none (own_places entry.what) (places_in (below entry.children) ++ places_in next) (ap (λ (f : Option Entry). places_in (tree_with f number below next)) (sym is) ∙ none) in
      (both.0, (both_none (places_in (below entry.children)) (places_in next) both.1).0)

-- of a node among some, where none of them and of what is inside them ties
of_one : (state : State) (depth : ℕ) (numbers : List ℕ) (number : ℕ) (entry : Entry) → Contains numbers number → state.node_at number ≡ Some entry → places_in (tree_to (suc depth) state numbers) ≡ []
    → (own_places entry.what ≡ []) × (places_in (tree_to depth state entry.children) ≡ [])
unfolding tree_to
of_one state depth [] number entry among alive none = absurd (contains_none number among)
of_one state depth (first ∷ numbers) number entry among alive none =
    elim (contains_cases first number numbers among) [
      | inl is ↦ here_none first (tree_to depth state) (state.node_at first) entry (tree_to (suc depth) state numbers) (ap (λ (n : ℕ). state.node_at n) is ∙ alive) none
      | inr behind ↦ of_one state depth numbers number entry behind alive (rest_none first (tree_to depth state) (state.node_at first) (tree_to (suc depth) state numbers) none)
    ]

-- the children of a node that doesn't live are none
of_children : (state : State) (parent number : ℕ) (found : Option Entry) → state.node_at parent ≡ found → Contains (children_at state parent) number → (entry : Entry) × (state.node_at parent ≡ Some entry) × Contains entry.children number
of_children state parent number None is there = absurd (contains_none number (subst (λ (f : Option Entry). Contains (unwrap_or (option_map (λ (e : Entry). e.children) f) []) number) is there))
of_children state parent number (Some entry) is there = (entry, is, subst (λ (f : Option Entry). Contains (unwrap_or (option_map (λ (e : Entry). e.children) f) []) number) is there)

-- A node at a level stands among others, where none of these and of what is inside them ties.
record StandsFree (state : State) (depth number : ℕ) : Type 0 where
  among : List ℕ
  there : Contains among number
  none : places_in (tree_to depth state among) ≡ []

at_level : (state : State) → places_in (tree_of state) ≡ [] → (level number : ℕ) → level < 64 → IsAtLevel state level number → StandsFree state (64 - level) number
at_level state none zero number lt is = record { among = 0 ∷ []; there = subst (Contains (0 ∷ [])) (sym is) (contains_first 0 []); none = none }
at_level state none (suc level) number lt (parent, above, there) =
    let stands = at_level state none level parent (omega (arith, lt)) above in
    let own = of_children state parent number (state.node_at parent) refl there in
    let one_less : 64 - level ≡ suc (64 - suc level) = omega (arith, lt) in
    record {
      among = own.0.children;
      there = own.2;
      none = (of_one state (64 - suc level) stands.among parent own.0 stands.there own.1 (ap (λ (d : ℕ). places_in (tree_to d state stands.among)) (sym one_less) ∙ stands.none)).1;
    }

turnable_where : (rules : List Ruling) (state : State) → IsReached state → tying_places rules state ≡ [] → IsTurnable rules state
turnable_where rules state reached none =
    let both = both_none (rule_places rules) (places_in (tree_of state)) none in
    record {
      rules = rules_free_where rules both.0;
      own = λ number entry is.
          let at = reached.reached number (ap is_some is) in
          let stands = at_level state both.1 at.0 number at.1 at.2 in
          let one_less : 64 - at.0 ≡ suc (64 - suc at.0) = omega (arith, at.1) in
          own_free_where entry.what (of_one state (64 - suc at.0) stands.among number entry stands.there is (ap (λ (d : ℕ). places_in (tree_to d state stands.among)) (sym one_less) ∙ stands.none)).0;
    }

-- ---- where it can be turned

none_of : (own : List Declaration) → TieNone own → places_of own ≡ []
none_of [] free = refl
none_of (d ∷ own) free =
    ap (λ (b : Bool). map (λ (x : Declaration). x.place) (cond b (d ∷ filter (λ x. ties x.property) own) (filter (λ x. ties x.property) own))) (All-head Free d own free)
    ∙ none_of own (All-tail Free d own free)

none_of_rules : (rules : List Ruling) → All (λ (rule : Ruling). TieNone rule.declarations) rules → rule_places rules ≡ []
none_of_rules [] free = refl
none_of_rules (rule ∷ rules) free =
    ap (λ (l : List ℕ). l ++ rule_places rules) (none_of rule.declarations (All-head (λ (rule : Ruling). TieNone rule.declarations) rule rules free))
    ∙ none_of_rules rules (All-tail (λ (rule : Ruling). TieNone rule.declarations) rule rules free)

none_of_own : (what : What) → TiesNone what → own_places what ≡ []
none_of_own (element tag id classes dir own) free = none_of own free
none_of_own (text letters) free = refl

module _ (state : State) (free : (number : ℕ) (entry : Entry) → state.node_at number ≡ Some entry → TiesNone entry.what) where
  none_with : (number : ℕ) (below : List ℕ → Tree) (next : Tree) (found : Option Entry) → state.node_at number ≡ found → ((numbers : List ℕ) → places_in (below numbers) ≡ []) → places_in next ≡ []
      → places_in (tree_with found number below next) ≡ []
  unfolding places_in
  none_with number below next None is inner after = after
  none_with number below next (Some entry) is inner after =
      ap (λ (l : List ℕ). l ++ (places_in (below entry.children) ++ places_in next)) (none_of_own entry.what (free number entry is))
      ∙ ap (λ (l : List ℕ). l ++ places_in next) (inner entry.children) ∙ after

  none_in : (depth : ℕ) (numbers : List ℕ) → places_in (tree_to depth state numbers) ≡ []
  unfolding tree_to places_in
  none_in zero numbers = refl
  none_in (suc depth) [] = refl
  none_in (suc depth) (number ∷ numbers) = none_with number (tree_to depth state) (tree_to (suc depth) state numbers) (state.node_at number) refl (λ below. none_in depth below) (none_in (suc depth) numbers)

none_where : (rules : List Ruling) (state : State) → IsTurnable rules state → tying_places rules state ≡ []
none_where rules state turnable =
    ap (λ (l : List ℕ). l ++ places_in (tree_of state)) (none_of_rules rules turnable.rules) ∙ none_in state turnable.own 64 (0 ∷ [])

pub none_ties_where_turnable : NoneTiesWhereTurnable
none_ties_where_turnable rules state reached = (turnable_where rules state reached, none_where rules state)

-- ---- the first of them

no_first_of_some : (place : ℕ) (rest : Option ℕ) → lesser (Some place) rest ≡ None → ⊥
no_first_of_some place None is = cc
no_first_of_some place (Some other) is = cc

none_first : (places : List ℕ) → first_of places ≡ None → places ≡ []
none_first [] is = refl
none_first (place ∷ places) is = absurd (no_first_of_some place (first_of places) is)

pub none_is_first_where_turnable : NoneIsFirstWhereTurnable
none_is_first_where_turnable rules state reached =
    let law = none_ties_where_turnable rules state reached in
    (λ none. law.0 (none_first (tying_places rules state) none), λ turnable. ap first_of (law.1 turnable))
