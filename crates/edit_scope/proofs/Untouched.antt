-- What an edit leaves as it is, of elements that aren't in its scope, and of those that it doesn't touch.
use Rattle.std.proofs.Common.{◌≡◌, ◌∙◌, ℕ, zero, suc, true, List, [], ◌∷◌, refl, ap, sym, subst, Option, Some, inl}
use Rattle.std.specs.Prelude.{flat_map}
use Rattle.std.specs.List.{Contains}
use Rattle.std.proofs.lemmas.Bool.{and_parts, false≢true}
use Rattle.style_types.specs.declared.style.Display.TheVariants.{Inline}
use Rattle.style_types.specs.declared.style.Style.{Style}
use Rattle.style_types.specs.Tree as styled
use Rattle.style_types.specs.Tree.{Nodes}
use Rattle.css_types.specs.Rule.{Ruling}
use Rattle.face_api.specs.Table.{Table}
use Rattle.dom_store.specs.State as dom
use Rattle.dom_store.specs.State.{Entry, greatest_depth, line, none, tree_to, tree_with}
use Rattle.dom_store.specs.Standing.{children_at, inclusive_ancestors}
use Rattle.dom_store.specs.Edits as tree
use Rattle.dom_store.specs.Refusals.{is_element, is_of, may_hold}
use Rattle.tree_laws.specs.Reached.{IsReached}
use Rattle.tree_laws.proofs.Keeping.{children_of}
use Rattle.tree_laws.proofs.Levels.{IsBelow}
use Rattle.style_tree.specs.Styling.{body_style, kind_of, styled_in}
use Rattle.box_gen.specs.Boxes.{content, made}
use Rattle.box_limits.proofs.Among.{IsIn, contained, found}
use Rattle.box_limits.proofs.Judged.{html_children}
use Rattle.box_limits.proofs.Levels.{child_lives}
use Rattle.edits.specs.Change.{Change, of_tree, metric, retire, rule, unrule}
use Rattle.edits.specs.Edited.{after}
use Rattle.edits.specs.State.{State}
use Rattle.edit_scope.specs.Boxes.{body_in, box_of, inside_of}
use Rattle.edit_scope.specs.Laws.{IsUnscoped, IsUntouched, KeepsBelow, KeepsBox, KeepsLine, Takes, UnscopedContent, UnscopedLines, UntouchedBelow, UntouchedBoxes, UntouchedLines}
use Rattle.edit_scope.specs.Scope.{display_at, element_style, every_element, has_box, is_boxed, reached, scope, tree_scope}
use Rattle.edit_scope.proofs.BelowLaws.{chain_to, keeps_below, node_below, nodes_same, nodes_stay, outside, settled_below, trees_stay}
use Rattle.edit_scope.proofs.BoxLaws.{around_stays, body_stays, holder_stays, style_stays}
use Rattle.edit_scope.proofs.ContentLaws.{content_stays}
use Rattle.edit_scope.proofs.EditLaws.{takes_tree}
use Rattle.edit_scope.proofs.HolderLaws.{is_reached}
use Rattle.edit_scope.proofs.LeafLaws.{held_element}
use Rattle.edit_scope.proofs.LineLaws.{every_in, itself_same}
use Rattle.edit_scope.proofs.Taking.{IsTaken}

-- ---- lines

lines_of : (rules : List Ruling) (state now : dom.State) (scoped : List ℕ) (number : ℕ) → IsTaken rules state now scoped → is_of is_element now number ≡ true → (IsIn number scoped → ⊥) → KeepsLine state now number
lines_of rules state now scoped number t element outside =
    let same = itself_same rules state now scoped t number element outside in
    record { lived = same.lived; parent = same.parent; ancestors = same.ancestors greatest_depth; line = same.lines greatest_depth }

-- an edit of anything else has every element in its scope
pub none_left : {A : Type 0} → (state : dom.State) → IsReached state → (number : ℕ) → is_of is_element state number ≡ true → (Contains (every_element state) number → ⊥) → A
none_left state all number element outside = absurd (outside (contained number (every_element state) (every_in state all number element)))

pub unscoped_lines : UnscopedLines
unscoped_lines state (of_tree edit) number takes unscoped =
    lines_of state.rules state.tree (tree.after state.tree edit) (tree_scope state.rules state.tree edit) number (takes_tree state edit takes) unscoped.element (λ there. unscoped.outside (contained number (scope state (of_tree edit)) there))
unscoped_lines state (metric face c upright value) number takes unscoped = none_left state.tree takes.reached number unscoped.element unscoped.outside
unscoped_lines state (retire face) number takes unscoped = none_left state.tree takes.reached number unscoped.element unscoped.outside
unscoped_lines state (rule rules) number takes unscoped = none_left state.tree takes.reached number unscoped.element unscoped.outside
unscoped_lines state (unrule index) number takes unscoped = none_left state.tree takes.reached number unscoped.element unscoped.outside

-- ---- elements that aren't touched

box_element : (rules : List Ruling) (state : dom.State) (number : ℕ) → has_box rules state number ≡ true → is_of is_element state number ≡ true
box_element rules state number is = held_element (state.node_at number) (and_parts (is_of may_hold state number) (is_boxed (display_at rules state number)) is).0

box_apart : (rules : List Ruling) (state : dom.State) (number : ℕ) → has_box rules state number ≡ true → display_at rules state number ≡ Inline → ⊥
box_apart rules state number is inline = false≢true (sym (ap is_boxed inline) ∙ (and_parts (is_of may_hold state number) (is_boxed (display_at rules state number)) is).1)

unscoped : (state : State) (change : Change) (number : ℕ) → IsUntouched state change number → IsUnscoped state change number
unscoped state change number untouched = record {
  element = box_element (after state change).rules (after state change).tree number untouched.box;
  outside = λ there. untouched.outside (contained number (reached state change) (is_reached (after state change).tree (scope state change) number (found number (scope state change) there)));
}

pub untouched_lines : UntouchedLines
untouched_lines state change number takes untouched = unscoped_lines state change number takes (unscoped state change number untouched)

module _ (rules : List Ruling) (state now : dom.State) (scoped : List ℕ) (t : IsTaken rules state now scoped) (number : ℕ) (element : is_of is_element now number ≡ true)
    (apart : display_at rules now number ≡ Inline → ⊥) (away : IsIn number (flat_map (inclusive_ancestors now) scoped) → ⊥) where
  below_of : KeepsBelow state now number
  below_of = record {
    nodes = λ other there.
        let (levels, below) = chain_to rules state now scoped t number element apart away other there in
        node_below rules state now scoped t number element apart away levels other below;
    lines = λ other there.
        let (levels, below) = chain_to rules state now scoped t number element apart away other there in
        (settled_below rules state now scoped t number element apart away levels other below).lines;
    trees = trees_stay rules state now scoped t number element apart away;
  }

  out : IsIn number scoped → ⊥
  out = outside rules state now scoped t number element apart away

  -- `body` is below `html`
  below_body : number ≡ 0 → IsBelow now number 1 1
  below_body is = (number, refl, subst (λ (n : ℕ). Contains (children_at now n) 1) (sym is) (contained 1 (children_at now 0) (subst (IsIn 1) (sym (html_children rules now t.later.rooted)) (inl refl))))

  body : number ≡ 0 → line now 1 ≡ line state 1
  body is = (settled_below rules state now scoped t number element apart away 1 1 (below_body is)).lines

  same_style : element_style rules now number ≡ element_style rules state number
  same_style = style_stays rules state now scoped t number element out body

  body_inside : number ≡ 0 → (depth : ℕ) → body_in rules now (tree_to depth now (1 ∷ [])) ≡ body_in rules state (tree_to depth state (1 ∷ []))
  unfolding tree_to
  body_inside is zero = refl
  body_inside is (suc depth) =
      let style = body_stays rules state now scoped t number element out body in
      let (entry, here, stands) = child_lives now t.later.whole 0 1 (subst (IsIn 1) (sym (html_children rules now t.later.rooted)) (inl refl)) in
      let was : state.node_at 1 ≡ Some entry = sym (node_below rules state now scoped t number element apart away 1 1 (below_body is)) ∙ here in
      let children : entry.children ≡ children_at now 1 = sym (ap (λ (o : Option Entry). children_of o) here) in
      ap (λ (o : Option Entry). body_in rules now (tree_with o 1 (tree_to depth now) none)) here
      ∙ ap (λ (s : Style). styled.node 1 (kind_of entry.what) s (styled_in rules now s (tree_to depth now entry.children)) styled.none) style
      ∙ ap (λ (n : Nodes). styled.node 1 (kind_of entry.what) (body_style rules state) n styled.none)
      (nodes_same rules state now scoped t number element apart away depth 1 1 (below_body is) (body_style rules state) entry.children (λ child there. subst (IsIn child) children there))
      ∙ sym (ap (λ (o : Option Entry). body_in rules state (tree_with o 1 (tree_to depth state) none)) was)

  inside_stays : (depth some : ℕ) → some ≡ number → inside_of rules now depth some ≡ inside_of rules state depth some
  inside_stays depth zero is =
      let kept = subst (λ (n : ℕ). children_at now n ≡ children_at state n) (sym is) (keeps_below rules state now scoped t number element apart away 0 number refl (settled_below rules state now scoped t number element apart away 0 number refl)).children in
      let one = html_children rules now t.later.rooted in
      ap (λ (l : List ℕ). body_in rules now (tree_to depth now l)) one
      ∙ body_inside (sym is) depth
      ∙ ap (λ (l : List ℕ). body_in rules state (tree_to depth state l)) (sym one ∙ kept)
  inside_stays depth (suc some) is =
      let same = subst (λ (n : ℕ). styled_in rules now (element_style rules now (suc some)) (tree_to depth now (children_at now n)) ≡ styled_in rules state (element_style rules now (suc some)) (tree_to depth state (children_at state n)))
      (sym is) (nodes_stay rules state now scoped t number element apart away depth (element_style rules now (suc some))) in
      same
      ∙ ap (λ (s : Style). styled_in rules state s (tree_to depth state (children_at state (suc some)))) (subst (λ (n : ℕ). element_style rules now n ≡ element_style rules state n) (sym is) same_style)

  pub box_stays : (depth : ℕ) → box_of rules now depth number ≡ box_of rules state depth number
  box_stays depth =
      ap (λ (style : Style). made number style (content (inside_of rules now depth number))) same_style
      ∙ ap (λ (nodes : Nodes). made number (element_style rules state number) (content nodes)) (inside_stays depth number refl)

  boxes_of : (faces : List (Option Table)) → KeepsBox (record { tree = state; rules = rules; faces = faces }) (record { tree = now; rules = rules; faces = faces }) number
  boxes_of faces = record {
    style = same_style;
    holder = holder_stays rules state now scoped t number element out body;
    around = around_stays rules state now scoped t number element out body;
    box = box_stays;
  }

away_of : (state : State) (change : Change) (number : ℕ) → IsUntouched state change number → IsIn number (reached state change) → ⊥
away_of state change number untouched there = untouched.outside (contained number (reached state change) there)

-- every element is touched
all_reached : {A : Type 0} → (state : State) (change : Change) (number : ℕ) → Takes state change → IsUntouched state change number → (after state change).tree ≡ state.tree → scope state change ≡ every_element state.tree → A
all_reached state change number takes untouched same every =
    absurd ((unscoped state change number untouched).outside (subst (λ (l : List ℕ). Contains l number) (sym every)
    (contained number (every_element state.tree) (every_in state.tree takes.reached number (subst (λ (s : dom.State). is_of is_element s number ≡ true) same (unscoped state change number untouched).element)))))

pub untouched_below : UntouchedBelow
untouched_below state (of_tree edit) number takes untouched = below_of state.rules state.tree (tree.after state.tree edit) (tree_scope state.rules state.tree edit) (takes_tree state edit takes) number (box_element state.rules (tree.after state.tree edit) number untouched.box) (box_apart state.rules (tree.after state.tree edit) number untouched.box) (away_of state (of_tree edit) number untouched)
untouched_below state (metric face c upright value) number takes untouched = all_reached state (metric face c upright value) number takes untouched refl refl
untouched_below state (retire face) number takes untouched = all_reached state (retire face) number takes untouched refl refl
untouched_below state (rule rules) number takes untouched = all_reached state (rule rules) number takes untouched refl refl
untouched_below state (unrule index) number takes untouched = all_reached state (unrule index) number takes untouched refl refl

pub untouched_boxes : UntouchedBoxes
untouched_boxes state (of_tree edit) number takes untouched = boxes_of state.rules state.tree (tree.after state.tree edit) (tree_scope state.rules state.tree edit) (takes_tree state edit takes) number (box_element state.rules (tree.after state.tree edit) number untouched.box) (box_apart state.rules (tree.after state.tree edit) number untouched.box) (away_of state (of_tree edit) number untouched) state.faces
untouched_boxes state (metric face c upright value) number takes untouched = all_reached state (metric face c upright value) number takes untouched refl refl
untouched_boxes state (retire face) number takes untouched = all_reached state (retire face) number takes untouched refl refl
untouched_boxes state (rule rules) number takes untouched = all_reached state (rule rules) number takes untouched refl refl
untouched_boxes state (unrule index) number takes untouched = all_reached state (unrule index) number takes untouched refl refl

-- ---- content

pub unscoped_content : UnscopedContent
unscoped_content state (of_tree edit) number takes unscoped box depth =
    content_stays state.rules state.tree (tree.after state.tree edit) (tree_scope state.rules state.tree edit) (takes_tree state edit takes) number unscoped.element (box_apart state.rules (tree.after state.tree edit) number box) (λ there. unscoped.outside (contained number (scope state (of_tree edit)) there)) depth
unscoped_content state (metric face c upright value) number takes unscoped box depth = none_left state.tree takes.reached number unscoped.element unscoped.outside
unscoped_content state (retire face) number takes unscoped box depth = none_left state.tree takes.reached number unscoped.element unscoped.outside
unscoped_content state (rule rules) number takes unscoped box depth = none_left state.tree takes.reached number unscoped.element unscoped.outside
unscoped_content state (unrule index) number takes unscoped box depth = none_left state.tree takes.reached number unscoped.element unscoped.outside
