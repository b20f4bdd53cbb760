-- What stands below an element that an edit doesn't touch.
use Rattle.std.proofs.Common.{◌≡◌, ◌∙◌, ℕ, zero, suc, ◌<◌, true, List, [], ◌∷◌, refl, ap, sym, subst, Option, Some, None, option_map, inl, inr}
use Rattle.std.specs.Prelude.{flat_map, is_some}
use Rattle.std.specs.List.{Contains}
use Rattle.std.proofs.lemmas.Option.{none-some, same_Some}
use Rattle.css_types.specs.Rule.{Ruling}
use Rattle.style_types.specs.declared.style.Display.TheVariants.{Inline}
use Rattle.style_types.specs.declared.style.Style.{Style}
use Rattle.style_types.specs.Tree.{Nodes}
use Rattle.style_types.specs.Tree as styled
use Rattle.dom_store.specs.State.{What, element, text, Entry, State, IsRooted, Tree, greatest_depth, line, tree_to, tree_with}
use Rattle.dom_store.specs.State as dom
use Rattle.dom_store.specs.Standing.{children_at, inclusive_ancestors, inclusive_descendants, lives}
use Rattle.dom_store.specs.Refusals.{is_element, is_of}
use Rattle.tree_laws.specs.Reached.{IsReached}
use Rattle.tree_laws.specs.Wholeness.{IsWhole}
use Rattle.tree_laws.proofs.Keeping.{children_of, parent_of}
use Rattle.tree_laws.proofs.Levels.{IsBelow, ancestor_of_chain, chain_of_descendant}
use Rattle.cascade.specs.Winners.{winners}
use Rattle.computed.specs.Step.{style_of}
use Rattle.style_tree.specs.Styling.{kind_of, style_at, styled_in}
use Rattle.box_limits.proofs.Among.{IsIn, contained, found, in_all}
use Rattle.box_limits.proofs.Levels.{child_line, child_lives, parent_is}
use Rattle.edit_scope.specs.Scope.{display_at, holder}
use Rattle.edit_scope.proofs.HolderLaws.{few_levels, held_at, is_reached}
use Rattle.edit_scope.proofs.LineLaws.{IsSame, element_lives, itself_same}
use Rattle.edit_scope.proofs.Taking.{IsKept, IsTaken}

-- ---- a node that keeps its line and its children

pub record IsSettled (state next : State) (number : ℕ) : Type 0 where
  pub alive : lives next number ≡ true
  pub lived : lives state number ≡ true
  pub lines : line next number ≡ line state number

entries_same : (one other : Entry) → one.parent ≡ other.parent → one.children ≡ other.children → one.what ≡ other.what → one ≡ other
entries_same one other parents children whats =
    ap (λ (p : Option ℕ). let made : Entry = record { parent = p; children = one.children; what = one.what } in made) parents
    ∙ ap (λ (l : List ℕ). let made : Entry = record { parent = other.parent; children = l; what = one.what } in made) children
    ∙ ap (λ (w : What). let made : Entry = record { parent = other.parent; children = other.children; what = w } in made) whats

-- a node is told by its parent, its children and what it is
node_same : (one other : Option Entry) → parent_of one ≡ parent_of other → children_of one ≡ children_of other → option_map (λ entry. entry.what) one ≡ option_map (λ entry. entry.what) other → one ≡ other
node_same None None parents children whats = refl
node_same None (Some other) parents children whats = absurd (none-some other.what whats)
node_same (Some one) None parents children whats = absurd (none-some one.what (sym whats))
node_same (Some one) (Some other) parents children whats = ap (λ (e : Entry). Some e) (entries_same one other parents children (same_Some one.what other.what whats))

module _ (state next : State) (whole_before : IsWhole state) (reached_before : IsReached state) (whole : IsWhole next) (reached : IsReached next) where
  -- its children keep theirs
  pub child_settled : (parent child : ℕ) → IsSettled state next parent → IsKept state next parent → IsIn child (children_at next parent) → IsSettled state next child
  child_settled parent child settled keeps there =
      let before : IsIn child (children_at state parent) = subst (IsIn child) keeps.children there in
      let (level, low, at) = reached.reached parent settled.alive in
      let (entry, here, stands, lines) = child_line next whole reached level parent child at there in
      let (first, few, was_at) = reached_before.reached parent settled.lived in
      let (old, was, stood, others) = child_line state whole_before reached_before first parent child was_at before in
      let same : entry.what ≡ old.what = same_Some entry.what old.what (sym (ap (option_map (λ (e : Entry). e.what)) here) ∙ keeps.whats child there ∙ ap (option_map (λ (e : Entry). e.what)) was) in
      record {
        alive = ap (λ (o : Option Entry). is_some o) here;
        lived = ap (λ (o : Option Entry). is_some o) was;
        lines = lines ∙ ap (λ (l : List What). entry.what ∷ l) settled.lines ∙ ap (λ (w : What). w ∷ line state parent) same ∙ sym others;
      }

  child_same : (parent child : ℕ) → IsKept state next parent → IsIn child (children_at next parent) → IsKept state next child → next.node_at child ≡ state.node_at child
  child_same parent child keeps there keeps_child =
      node_same (next.node_at child) (state.node_at child)
      (parent_is next whole parent child there ∙ sym (parent_is state whole_before parent child (subst (IsIn child) keeps.children there)))
      keeps_child.children (keeps.whats child there)

-- the style of a node hangs on its line
pub same_style : (rules : List Ruling) (state next : State) (child : ℕ) (what : What) (style : Style) → line next child ≡ line state child → style_at rules next child what style ≡ style_at rules state child what style
same_style rules state next child (element tag id classes dir own) style lines = ap (λ (l : List What). style_of style (winners rules l style)) lines
same_style rules state next child (text letters) style lines = refl

-- ---- below an element that isn't touched

module _ (rules : List Ruling) (state now : State) (scoped : List ℕ) (t : IsTaken rules state now scoped) (number : ℕ) (is_one : is_of is_element now number ≡ true)
    (apart : display_at rules now number ≡ Inline → ⊥) (away : IsIn number (flat_map (inclusive_ancestors now) scoped) → ⊥) where
  pub outside : IsIn number scoped → ⊥
  outside there = away (is_reached now scoped number there)

  alive : lives now number ≡ true
  alive = element_lives (now.node_at number) is_one

  pub same : IsSame state now number
  same = itself_same rules state now scoped t number is_one outside

  settled_itself : IsSettled state now number
  settled_itself = record { alive = alive; lived = same.lived; lines = same.lines 64 }

  -- no holder below it is in the scope
  unfilled : (levels upper : ℕ) → IsBelow now number levels upper → lives now upper ≡ true → IsIn (holder rules now upper) scoped → ⊥
  unfilled levels upper below lives_ there =
      let low : levels < greatest_depth = few_levels now t.later.whole t.later.reached number levels upper alive lives_ below in
      let above : IsIn number (inclusive_ancestors now upper) = found number (inclusive_ancestors now upper) (ancestor_of_chain now t.later.whole levels greatest_depth number upper low below) in
      let held : IsIn number (inclusive_ancestors now (holder rules now upper)) = held_at now (display_at rules now) number apart greatest_depth (Some upper) above in
      away (in_all (inclusive_ancestors now) number (holder rules now upper) scoped there held)

  pub keeps_below : (levels upper : ℕ) → IsBelow now number levels upper → IsSettled state now upper → IsKept state now upper
  keeps_below levels upper below settled = t.keeps number upper is_one outside settled.lived settled.alive (unfilled levels upper below settled.alive)

  pub settled_below : (levels upper : ℕ) → IsBelow now number levels upper → IsSettled state now upper
  settled_below zero upper below = subst (IsSettled state now) (sym below) settled_itself
  settled_below (suc levels) upper (parent, below, there) =
      let over = settled_below levels parent below in
      child_settled state now t.before.whole t.before.reached t.later.whole t.later.reached parent upper over (keeps_below levels parent below over) (found upper (children_at now parent) there)

  -- so all below it is what it was
  pub node_below : (levels upper : ℕ) → IsBelow now number levels upper → now.node_at upper ≡ state.node_at upper
  node_below zero upper below =
      subst (λ (n : ℕ). now.node_at n ≡ state.node_at n) (sym below)
      (node_same (now.node_at number) (state.node_at number) same.parent (keeps_below 0 number refl settled_itself).children same.whats)
  node_below (suc levels) upper (parent, below, there) =
      child_same state now t.before.whole t.before.reached t.later.whole t.later.reached parent upper
      (keeps_below levels parent below (settled_below levels parent below)) (found upper (children_at now parent) there)
      (keeps_below (suc levels) upper (parent, below, there) (settled_below (suc levels) upper (parent, below, there)))

  pub chain_to : (upper : ℕ) → Contains (inclusive_descendants now number) upper → (levels : ℕ) × IsBelow now number levels upper
  chain_to upper there = let (levels, none, few, below) = chain_of_descendant now greatest_depth 0 number upper there in (levels, below)

  -- ---- trees

  module _ (depth : ℕ) (inner : (levels upper : ℕ) → IsBelow now number levels upper → (numbers : List ℕ) → ((child : ℕ) → IsIn child numbers → IsIn child (children_at now upper)) → tree_to depth now numbers ≡ tree_to depth state numbers)
      (levels upper : ℕ) (below : IsBelow now number levels upper) where
    tree_row : (numbers : List ℕ) → ((child : ℕ) → IsIn child numbers → IsIn child (children_at now upper)) → tree_to (suc depth) now numbers ≡ tree_to (suc depth) state numbers
    unfolding tree_to
    tree_row [] within = refl
    tree_row (child ∷ numbers) within =
        let there = within child (inl refl) in
        let further : IsBelow now number (suc levels) child = (upper, below, contained child (children_at now upper) there) in
        let (entry, here, stands) = child_lives now t.later.whole upper child there in
        let was : state.node_at child ≡ Some entry = sym (node_below (suc levels) child further) ∙ here in
        let children : entry.children ≡ children_at now child = sym (ap (λ (o : Option Entry). children_of o) here) in
        ap (λ (o : Option Entry). tree_with o child (tree_to depth now) (tree_to (suc depth) now numbers)) here
        ∙ ap (λ (t : Tree). dom.node child entry.what t (tree_to (suc depth) now numbers)) (inner (suc levels) child further entry.children (λ other among. subst (IsIn other) children among))
        ∙ ap (λ (t : Tree). dom.node child entry.what (tree_to depth state entry.children) t) (tree_row numbers (λ other among. within other (inr among)))
        ∙ sym (ap (λ (o : Option Entry). tree_with o child (tree_to depth state) (tree_to (suc depth) state numbers)) was)

  trees_same : (depth levels upper : ℕ) → IsBelow now number levels upper → (numbers : List ℕ) → ((child : ℕ) → IsIn child numbers → IsIn child (children_at now upper)) → tree_to depth now numbers ≡ tree_to depth state numbers
  unfolding tree_to
  trees_same zero levels upper below numbers within = refl
  trees_same (suc depth) levels upper below numbers within = tree_row depth (trees_same depth) levels upper below numbers within

  pub trees_stay : (depth : ℕ) → tree_to depth now (children_at now number) ≡ tree_to depth state (children_at state number)
  trees_stay depth =
      trees_same depth 0 number refl (children_at now number) (λ child there. there)
      ∙ ap (tree_to depth state) (keeps_below 0 number refl settled_itself).children

  -- ---- styled trees

  module _ (depth : ℕ) (inner : (levels upper : ℕ) → IsBelow now number levels upper → (style : Style) (numbers : List ℕ) → ((child : ℕ) → IsIn child numbers → IsIn child (children_at now upper))
      → styled_in rules now style (tree_to depth now numbers) ≡ styled_in rules state style (tree_to depth state numbers)) (levels upper : ℕ) (below : IsBelow now number levels upper) (style : Style) where
    styled_row : (numbers : List ℕ) → ((child : ℕ) → IsIn child numbers → IsIn child (children_at now upper)) → styled_in rules now style (tree_to (suc depth) now numbers) ≡ styled_in rules state style (tree_to (suc depth) state numbers)
    unfolding tree_to styled_in
    styled_row [] within = refl
    styled_row (child ∷ numbers) within =
        let there = within child (inl refl) in
        let further : IsBelow now number (suc levels) child = (upper, below, contained child (children_at now upper) there) in
        let (entry, here, stands) = child_lives now t.later.whole upper child there in
        let was : state.node_at child ≡ Some entry = sym (node_below (suc levels) child further) ∙ here in
        let children : entry.children ≡ children_at now child = sym (ap (λ (o : Option Entry). children_of o) here) in
        let own : Style = style_at rules now child entry.what style in
        let own_same : own ≡ style_at rules state child entry.what style = same_style rules state now child entry.what style (settled_below (suc levels) child further).lines in
        ap (λ (o : Option Entry). styled_in rules now style (tree_with o child (tree_to depth now) (tree_to (suc depth) now numbers))) here
        ∙ ap (λ (n : Nodes). styled.node child (kind_of entry.what) own n (styled_in rules now style (tree_to (suc depth) now numbers)))
        (inner (suc levels) child further own entry.children (λ other among. subst (IsIn other) children among))
        ∙ ap (λ (s : Style). styled.node child (kind_of entry.what) s (styled_in rules state s (tree_to depth state entry.children)) (styled_in rules now style (tree_to (suc depth) now numbers))) own_same
        ∙ ap (λ (n : Nodes). styled.node child (kind_of entry.what) (style_at rules state child entry.what style) (styled_in rules state (style_at rules state child entry.what style) (tree_to depth state entry.children)) n)
        (styled_row numbers (λ other among. within other (inr among)))
        ∙ sym (ap (λ (o : Option Entry). styled_in rules state style (tree_with o child (tree_to depth state) (tree_to (suc depth) state numbers))) was)

  pub nodes_same : (depth levels upper : ℕ) → IsBelow now number levels upper → (style : Style) (numbers : List ℕ) → ((child : ℕ) → IsIn child numbers → IsIn child (children_at now upper))
      → styled_in rules now style (tree_to depth now numbers) ≡ styled_in rules state style (tree_to depth state numbers)
  unfolding tree_to styled_in
  nodes_same zero levels upper below style numbers within = refl
  nodes_same (suc depth) levels upper below style numbers within = styled_row depth (nodes_same depth) levels upper below style numbers within

  pub nodes_stay : (depth : ℕ) (style : Style) → styled_in rules now style (tree_to depth now (children_at now number)) ≡ styled_in rules state style (tree_to depth state (children_at state number))
  nodes_stay depth style =
      nodes_same depth 0 number refl style (children_at now number) (λ child there. there)
      ∙ ap (λ (l : List ℕ). styled_in rules state style (tree_to depth state l)) (keeps_below 0 number refl settled_itself).children
