-- Documents from which nodes go.
use Rattle.std.proofs.Common.{◌≡◌, ◌∙◌, ℕ, ◌+◌, ◌<◌, Bool, true, false, List, [], ◌∷◌, ◌++◌, length, get_or, take, refl, ap, sym, subst, Option, Some, None, option_map, if◌then◌else◌, inl, inr}
use Rattle.std.specs.Prelude.{nat_eq, ◌||◌}
use Rattle.std.specs.List.{list_any}
use Rattle.std.proofs.lemmas.Bool.Decides.{eqb_tells}
use Rattle.std.proofs.lemmas.List.{take_more}
use Rattle.dom_store.specs.State.{Entry, State}
use Rattle.dom_store.specs.Standing.{children_at}
use Rattle.dom_store.specs.Edits.{changed, with_children, without_nodes}
use Rattle.dom_store.proofs.SameLaws.{are_equal}

-- nothing goes
pub none_out : (state : State) → state ≡ without_nodes [] state
none_out state = refl

swapped : (a b c : Bool) → (a || (b || c)) ≡ (b || (a || c))
swapped true true c = refl
swapped true false c = refl
swapped false true c = refl
swapped false false c = refl

pub any_more : (test : ℕ → Bool) (numbers : List ℕ) (number : ℕ) → list_any test (numbers ++ number ∷ []) ≡ (test number || list_any test numbers)
any_more test [] number = refl
any_more test (first ∷ numbers) number = ap (λ (b : Bool). test first || b) (any_more test numbers number) ∙ swapped (test first) (test number) (list_any test numbers)

out_either : (a b : Bool) (entry : Option Entry) → (if (a || false) then None else (if b then None else entry)) ≡ (if (a || b) then None else entry)
out_either true true entry = refl
out_either true false entry = refl
out_either false true entry = refl
out_either false false entry = refl

-- one more goes
pub out_more : (numbers : List ℕ) (number : ℕ) (state : State) → without_nodes (number ∷ []) (without_nodes numbers state) ≡ without_nodes (numbers ++ number ∷ []) state
out_more numbers number state = are_equal _ _ (record {
  nodes = λ other. out_either (nat_eq other number) (list_any (nat_eq other) numbers) (state.node_at other) ∙ ap (λ (b : Bool). if b then None else state.node_at other) (sym (any_more (nat_eq other) numbers number));
  next = refl;
})

-- the first of a list and one more
pub out_next : (numbers : List ℕ) (at : ℕ) (state : State) → at < length numbers → without_nodes (get_or numbers at 0 ∷ []) (without_nodes (take at numbers) state) ≡ without_nodes (take (at + 1) numbers) state
out_next numbers at state within = out_more (take at numbers) (get_or numbers at 0) state ∙ ap (λ (l : List ℕ). without_nodes l state) (sym (take_more numbers at 0 within))

module _ (state : State) (number : ℕ) (change other : List ℕ → List ℕ) (is : change (children_at state number) ≡ other (children_at state number)) where
  alike_here : (o : Option Entry) → state.node_at number ≡ o → option_map (with_children change) o ≡ option_map (with_children other) o
  alike_here None at = refl
  alike_here (Some entry) at =
      let own : children_at state number ≡ entry.children = rw at refl in
      ap (λ (l : List ℕ). Some (record entry { children = l })) (ap change (sym own) ∙ (is ∙ ap other own))

  -- changes that make the same of the node's own children
  pub changed_alike : changed state number (with_children change) ≡ changed state number (with_children other)
  changed_alike = are_equal _ _ (record {
    nodes = λ one. elim (eqb_tells one number) [
      | inl (true_here, same) ↦ rw true_here (subst (λ (n : ℕ). option_map (with_children change) (state.node_at n) ≡ option_map (with_children other) (state.node_at n)) (sym same) (alike_here (state.node_at number) refl))
      | inr (false_here, apart) ↦ rw false_here refl
    ];
    next = refl;
  })
