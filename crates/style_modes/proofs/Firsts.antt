-- The first of the places that tie, of some and of others.
use Rattle.std.proofs.Common.{◌≡◌, ◌∙◌, ℕ, zero, suc, ◌+◌, ◌-◌, ◌<◌, ◌≤◌, List, [], ◌∷◌, ◌++◌, length, drop, get_or, Option, Some, None, min, refl, sym, ap, arith, append-nil}
use Rattle.std.proofs.lemmas.List.{drop_all, drop_more}
use Rattle.css_types.specs.Rule.{rulings_of}
use Rattle.css_types.specs.declared.rule.Rule.{Rule}
use Rattle.dom_store.specs.State as dom
use Rattle.dom_store.specs.State.{Entry, State, Tree, tree_to, tree_with}
use Rattle.style_modes.specs.Tying.{first_of, lesser, own_places, places_in, places_of, rule_places}

no_lesser : (one : Option ℕ) → lesser one None ≡ one
no_lesser None = refl
no_lesser (Some one) = refl

min_grouped : (a b c : ℕ) → min a (min b c) ≡ min (min a b) c
min_grouped a b c = omega arith

pub lesser_grouped : (one two three : Option ℕ) → lesser one (lesser two three) ≡ lesser (lesser one two) three
lesser_grouped None two three = refl
lesser_grouped (Some one) None three = refl
lesser_grouped (Some one) (Some two) None = refl
lesser_grouped (Some one) (Some two) (Some three) = ap Some (min_grouped one two three)

pub first_both : (one other : List ℕ) → first_of (one ++ other) ≡ lesser (first_of one) (first_of other)
first_both [] other = refl
first_both (place ∷ one) other = ap (lesser (Some place)) (first_both one other) ∙ lesser_grouped (Some place) (first_of one) (first_of other)

module _ (number : ℕ) (below : List ℕ → Tree) where
  -- a node before those that follow it
  pub first_with : (found : Option Entry) (next : Tree) → first_of (places_in (tree_with found number below next)) ≡ lesser (first_of (places_in (tree_with found number below dom.none))) (first_of (places_in next))
  unfolding places_in
  first_with None next = refl
  first_with (Some entry) next =
      ap (λ (l : List ℕ). first_of (own_places entry.what ++ l)) refl
      ∙ first_both (own_places entry.what) (places_in (below entry.children) ++ places_in next)
      ∙ ap (lesser (first_of (own_places entry.what))) (first_both (places_in (below entry.children)) (places_in next))
      ∙ lesser_grouped (first_of (own_places entry.what)) (first_of (places_in (below entry.children))) (first_of (places_in next))
      ∙ ap (λ (f : Option ℕ). lesser f (first_of (places_in next)))
      (sym (first_both (own_places entry.what) (places_in (below entry.children)))
      ∙ ap (λ (l : List ℕ). first_of (own_places entry.what ++ l)) (sym (append-nil (places_in (below entry.children)))))

  -- one that lives, with all inside it
  pub first_own : (found : Option Entry) (entry : Entry) → found ≡ Some entry
      → lesser (first_of (own_places entry.what)) (first_of (places_in (below entry.children))) ≡ first_of (places_in (tree_with found number below dom.none))
  unfolding places_in
  first_own found entry is =
      sym (first_both (own_places entry.what) (places_in (below entry.children)))
      ∙ ap (λ (l : List ℕ). first_of (own_places entry.what ++ l)) (sym (append-nil (places_in (below entry.children))))
      ∙ ap (λ (f : Option Entry). first_of (places_in (tree_with f number below dom.none))) (sym is)

  pub first_none : (found : Option Entry) → found ≡ None → None ≡ first_of (places_in (tree_with found number below dom.none))
  unfolding places_in
  first_none found is = ap (λ (f : Option Entry). first_of (places_in (tree_with f number below dom.none))) (sym is)

-- one node more
pub first_step : (state : State) (depth : ℕ) (numbers : List ℕ) (k : ℕ) (before now at all : Option ℕ) → 0 < depth → k < length numbers
    → at ≡ first_of (places_in (tree_with (state.node_at (get_or numbers k 0)) (get_or numbers k 0) (tree_to (depth - 1) state) dom.none)) → now ≡ lesser before at
    → lesser before (first_of (places_in (tree_to depth state (drop k numbers)))) ≡ all
    → lesser now (first_of (places_in (tree_to depth state (drop (k + 1) numbers)))) ≡ all
unfolding tree_to
first_step state zero numbers k before now at all some lt own made kept = absurd (omega (arith, some))
first_step state (suc depth) numbers k before now at all some lt own made kept =
    let number = get_or numbers k 0 in
    let behind = tree_to (suc depth) state (drop (k + 1) numbers) in
    let one_less : suc depth - 1 ≡ depth = omega arith in
    ap (λ (n : Option ℕ). lesser n (first_of (places_in behind))) (made ∙ ap (lesser before) own)
    ∙ sym (lesser_grouped before (first_of (places_in (tree_with (state.node_at number) number (tree_to (suc depth - 1) state) dom.none))) (first_of (places_in behind)))
    ∙ ap (λ (d : ℕ). lesser before (lesser (first_of (places_in (tree_with (state.node_at number) number (tree_to d state) dom.none))) (first_of (places_in behind)))) one_less
    ∙ ap (lesser before) (sym (first_with number (tree_to depth state) (state.node_at number) behind))
    ∙ ap (λ (l : List ℕ). lesser before (first_of (places_in (tree_to (suc depth) state l)))) (sym (drop_more numbers k 0 lt))
    ∙ kept

-- where none is left
pub first_whole : (state : State) (depth : ℕ) (numbers : List ℕ) (k : ℕ) (now all : Option ℕ) → length numbers ≤ k
    → lesser now (first_of (places_in (tree_to depth state (drop k numbers)))) ≡ all → now ≡ all
unfolding tree_to places_in
first_whole state depth numbers k now all le kept =
    sym (no_lesser now) ∙ ap (lesser now) (sym (nothing depth)) ∙ ap (λ (l : List ℕ). lesser now (first_of (places_in (tree_to depth state l)))) (sym (drop_all k numbers le)) ∙ kept
  where
    nothing : (depth : ℕ) → first_of (places_in (tree_to depth state [])) ≡ None
    nothing zero = refl
    nothing (suc depth) = refl

pub first_at_no_depth : (state : State) (depth : ℕ) (numbers : List ℕ) → depth ≡ 0 → None ≡ first_of (places_in (tree_to depth state numbers))
unfolding tree_to places_in
first_at_no_depth state depth numbers is = ap (λ (d : ℕ). first_of (places_in (tree_to d state numbers))) (sym is)

-- ---- rules

pub rule_step : (rules : List Rule) (k : ℕ) (rule : Rule) (before now at all : Option ℕ) → k < length rules → rule ≡ get_or rules k rule
    → at ≡ first_of (places_of rule.declarations.value.items) → now ≡ lesser before at
    → lesser before (first_of (rule_places (rulings_of (drop k rules)))) ≡ all
    → lesser now (first_of (rule_places (rulings_of (drop (k + 1) rules)))) ≡ all
rule_step rules k rule before now at all lt is own made kept =
    let here = places_of rule.declarations.value.items in
    let behind = rule_places (rulings_of (drop (k + 1) rules)) in
    ap (λ (n : Option ℕ). lesser n (first_of behind)) (made ∙ ap (lesser before) own)
    ∙ sym (lesser_grouped before (first_of here) (first_of behind))
    ∙ ap (lesser before) (sym (first_both here behind))
    ∙ ap (λ (r : Rule). lesser before (first_of (rule_places (rulings_of (r ∷ drop (k + 1) rules))))) is
    ∙ ap (λ (l : List Rule). lesser before (first_of (rule_places (rulings_of l)))) (sym (drop_more rules k rule lt))
    ∙ kept

pub rule_whole : (rules : List Rule) (k : ℕ) (now all : Option ℕ) → length rules ≤ k → lesser now (first_of (rule_places (rulings_of (drop k rules)))) ≡ all → now ≡ all
rule_whole rules k now all le kept =
    sym (no_lesser now) ∙ ap (λ (l : List Rule). lesser now (first_of (rule_places (rulings_of l)))) (sym (drop_all k rules le)) ∙ kept
