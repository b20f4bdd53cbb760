-- The nodes of an element, number by number.
use Rattle.std.proofs.Common.{◌≡◌, ◌∙◌, ℕ, zero, suc, ◌+◌, ◌<◌, ◌≤◌, List, [], ◌∷◌, ◌++◌, length, drop, get_or, refl, sym, ap, subst, arith, Option, Some, None}
use Rattle.std.proofs.lemmas.List.{drop_all, drop_more}
use Rattle.std.proofs.lemmas.List.Elements.{All-nil, All-push}
use Rattle.dom_store.specs.State as dom
use Rattle.std.specs.List.{All}
use Rattle.style_types.specs.declared.style.Style.{Style}
use Rattle.style_types.specs.declared.tree.StyledNode.{StyledNode}
use Rattle.css_types.specs.Rule.{Ruling}
use Rattle.style_types.specs.Tree.{Nodes, none, before, all_nodes_of, nodes_of}
use Rattle.dom_store.specs.State.{What, Entry, State, Tree, tree_to, tree_with}
use Rattle.style_tree.specs.Styling.{AreBounded, styled_in, styled_one}
use Rattle.style_tree.proofs.Joining.{before_all, all_is, one_more}

-- with those that are left the nodes are those of all numbers
pub record IsGoing (rules : List Ruling) (state : State) (parent : Style) (depth : ℕ) (numbers : List ℕ) (i : ℕ) (made : List StyledNode) : Type 0 where
  pub styled : before_all made (styled_in rules state parent (tree_to depth state (drop i numbers))) ≡ styled_in rules state parent (tree_to depth state numbers)
  pub bounded : All (λ n. AreBounded (nodes_of n)) made

module _ (rules : List Ruling) (state : State) (parent : Style) (numbers : List ℕ) where
  pub starts : (depth : ℕ) → IsGoing rules state parent depth numbers 0 []
  unfolding before_all
  starts depth = record { styled = refl; bounded = All-nil (λ (n : StyledNode). AreBounded (nodes_of n)) }

  -- what is left begins with the number at this place
  left_is : (depth i d : ℕ) → i < length numbers → tree_to (suc depth) state (drop i numbers)
      ≡ tree_with (state.node_at (get_or numbers i d)) (get_or numbers i d) (tree_to depth state) (tree_to (suc depth) state (drop (i + 1) numbers))
  unfolding tree_to
  left_is depth i d lt = ap (tree_to (suc depth) state) (drop_more numbers i d lt)

  styled_is : (number : ℕ) (what : What) (inner next : Tree) → styled_in rules state parent (dom.node number what inner next)
      ≡ styled_one rules state parent number what inner (styled_in rules state parent next)
  unfolding styled_in
  styled_is number what inner next = refl

  some_goes : (depth i d : ℕ) (entry : Entry) (made : List StyledNode) (n : StyledNode) → i < length numbers → state.node_at (get_or numbers i d) ≡ Some entry
      → ((next : Nodes) → before n next ≡ styled_one rules state parent (get_or numbers i d) entry.what (tree_to depth state entry.children) next)
      → AreBounded (nodes_of n) → IsGoing rules state parent (suc depth) numbers i made → IsGoing rules state parent (suc depth) numbers (i + 1) (made ++ n ∷ [])
  some_goes depth i d entry made n lt is styled bounded now =
      let number = get_or numbers i d in
      let rest = tree_to (suc depth) state (drop (i + 1) numbers) in
      let left : tree_to (suc depth) state (drop i numbers) ≡ dom.node number entry.what (tree_to depth state entry.children) rest =
      left_is depth i d lt ∙ ap (λ (o : Option Entry). tree_with o number (tree_to depth state) rest) is in
      let one : before n (styled_in rules state parent rest) ≡ styled_in rules state parent (tree_to (suc depth) state (drop i numbers)) =
      styled (styled_in rules state parent rest) ∙ sym (ap (styled_in rules state parent) left ∙ styled_is number entry.what (tree_to depth state entry.children) rest) in
      record {
        styled = one_more made n (styled_in rules state parent rest) ∙ ap (before_all made) one ∙ now.styled;
        bounded = All-push (λ (m : StyledNode). AreBounded (nodes_of m)) made n now.bounded bounded;
      }

  none_goes : (depth i d : ℕ) (made : List StyledNode) → i < length numbers → state.node_at (get_or numbers i d) ≡ None
      → IsGoing rules state parent (suc depth) numbers i made → IsGoing rules state parent (suc depth) numbers (i + 1) made
  none_goes depth i d made lt is now =
      let number = get_or numbers i d in
      let rest = tree_to (suc depth) state (drop (i + 1) numbers) in
      let left : tree_to (suc depth) state (drop i numbers) ≡ rest =
      left_is depth i d lt ∙ ap (λ (o : Option Entry). tree_with o number (tree_to depth state) rest) is in
      record { styled = ap (λ (t : Tree). before_all made (styled_in rules state parent t)) (sym left) ∙ now.styled; bounded = now.bounded }

  nothing : (depth : ℕ) → styled_in rules state parent (tree_to depth state []) ≡ none
  unfolding styled_in tree_to
  nothing zero = refl
  nothing (suc depth) = refl

  pub ends : (depth i : ℕ) (made : List StyledNode) → length numbers ≤ i → IsGoing rules state parent depth numbers i made
      → all_nodes_of made ≡ styled_in rules state parent (tree_to depth state numbers)
  ends depth i made le now =
      all_is made ∙ ap (before_all made) (sym (nothing depth)) ∙ ap (λ (l : List ℕ). before_all made (styled_in rules state parent (tree_to depth state l))) (sym (drop_all i numbers le)) ∙ now.styled

  -- where the depth isn't used up
  pub some_goes_on : (depth less i d : ℕ) (entry : Entry) (made new : List StyledNode) (n : StyledNode) → suc less ≡ depth → i < length numbers → Some entry ≡ state.node_at (get_or numbers i d)
      → ((next : Nodes) → before n next ≡ styled_one rules state parent (get_or numbers i d) entry.what (tree_to less state entry.children) next)
      → AreBounded (nodes_of n) → new ≡ made ++ n ∷ [] → IsGoing rules state parent depth numbers i made → IsGoing rules state parent depth numbers (i + 1) new
  some_goes_on depth less i d entry made new n one lt is styled bounded pushed now =
      let now_ = subst (λ (k : ℕ). IsGoing rules state parent k numbers i made) (sym one) now in
      let then_ = some_goes less i d entry made n lt (sym is) styled bounded now_ in
      let all = subst (λ (k : ℕ). IsGoing rules state parent k numbers (i + 1) (made ++ n ∷ [])) one then_ in
      subst (IsGoing rules state parent depth numbers (i + 1)) (sym pushed) all

  pub none_goes_on : (depth less i d : ℕ) (made new : List StyledNode) → suc less ≡ depth → i < length numbers → None ≡ state.node_at (get_or numbers i d)
      → new ≡ made → IsGoing rules state parent depth numbers i made → IsGoing rules state parent depth numbers (i + 1) new
  none_goes_on depth less i d made new one lt is same now =
      let now_ = subst (λ (k : ℕ). IsGoing rules state parent k numbers i made) (sym one) now in
      let all = subst (λ (k : ℕ). IsGoing rules state parent k numbers (i + 1) made) one (none_goes less i d made lt (sym is) now_) in
      subst (IsGoing rules state parent depth numbers (i + 1)) (sym same) all

  -- where it is
  pub used_up : (depth : ℕ) → depth ≡ 0 → none ≡ styled_in rules state parent (tree_to depth state numbers)
  unfolding styled_in tree_to
  used_up zero is = refl
  used_up (suc depth) is = absurd (omega (arith, is))
