-- What is laid out in the box of an element that isn't in the scope of an edit.
use Rattle.std.proofs.Common.{◌≡◌, ◌∙◌, ℕ, zero, suc, true, false, List, [], ◌∷◌, refl, ap, sym, subst, arith, Option, Some, option_map, inl, inr}
use Rattle.std.proofs.lemmas.Bool.{false≢true}
use Rattle.std.proofs.lemmas.Option.{none-some, same_Some}
use Rattle.style_types.specs.declared.style.Display.{Display}
use Rattle.style_types.specs.declared.style.Display.TheVariants.{Block, Inline, InlineBlock, FlowRoot, Hidden}
use Rattle.style_types.specs.declared.style.Style.{Style}
use Rattle.style_types.specs.Tree as styled
use Rattle.style_types.specs.Tree.{Nodes, NodeKind}
use Rattle.css_types.specs.Rule.{Ruling}
use Rattle.dom_store.specs.State as dom
use Rattle.dom_store.specs.State.{What, Entry, State, line, tree_to, tree_with}
use Rattle.dom_store.specs.Standing.{children_at, inclusive_ancestors}
use Rattle.dom_store.specs.Refusals.{is_element, is_of}
use Rattle.tree_laws.specs.Reached.{IsAtLevel}
use Rattle.tree_laws.proofs.Keeping.{children_of}
use Rattle.style_tree.specs.Styling.{body_style, kind_of, style_at, styled_in}
use Rattle.box_gen.specs.Boxes.{content, made, parts_by, role_of}
use Rattle.box_gen.specs.Parts.{Part}
use Rattle.box_limits.specs.Lines.{place_on, style_on}
use Rattle.box_limits.proofs.Among.{IsIn, contained}
use Rattle.box_limits.proofs.Judged.{body_place_is, html_children}
use Rattle.box_limits.proofs.Levels.{child_line, child_lives, parent_is}
use Rattle.box_limits.proofs.Parts.{two_at}
use Rattle.box_limits.proofs.Walks.{HasTwo, style_at_is}
use Rattle.edit_scope.specs.Boxes.{body_in, box_of, inside_of, own_boxes}
use Rattle.edit_scope.specs.Scope.{display_at, element_style, holder, holder_in, unless_inline}
use Rattle.edit_scope.proofs.BelowLaws.{IsSettled, child_settled, same_style}
use Rattle.edit_scope.proofs.BoxLaws.{body_stays, style_stays}
use Rattle.edit_scope.proofs.HolderLaws.{ancestors_are, ancestors_of_child, not_inline}
use Rattle.edit_scope.proofs.InsideLaws.{is_inline}
use Rattle.edit_scope.proofs.LineLaws.{element_lives, itself_same}
use Rattle.edit_scope.proofs.ShellLaws.{AreLike, like_append, made_like, parts_like}
use Rattle.edit_scope.proofs.Taking.{IsKept, IsTaken}

-- ---- inline boxes

pub inline_display : (kind : NodeKind) (display : Display) (style : Style) → style.display ≡ display → is_inline (role_of kind style) ≡ true → display ≡ Inline
inline_display styled.element Block style is inline = absurd (let no : false ≡ true = sym (rw is refl) ∙ inline in cc)
inline_display styled.element Inline style is inline = refl
inline_display styled.element InlineBlock style is inline = absurd (let no : false ≡ true = sym (rw is refl) ∙ inline in cc)
inline_display styled.element FlowRoot style is inline = absurd (let no : false ≡ true = sym (rw is refl) ∙ inline in cc)
inline_display styled.element Hidden style is inline = absurd (let no : false ≡ true = sym (rw is refl) ∙ inline in cc)
inline_display styled.line_break Block style is inline = absurd (let no : false ≡ true = sym (rw is refl) ∙ inline in cc)
inline_display styled.line_break Inline style is inline = refl
inline_display styled.line_break InlineBlock style is inline = absurd (let no : false ≡ true = sym (rw is refl) ∙ inline in cc)
inline_display styled.line_break FlowRoot style is inline = absurd (let no : false ≡ true = sym (rw is refl) ∙ inline in cc)
inline_display styled.line_break Hidden style is inline = absurd (let no : false ≡ true = sym (rw is refl) ∙ inline in cc)
inline_display (styled.text letters) display style is inline = absurd (false≢true inline)

pub style_below : (rules : List Ruling) (what : What) (above : List What) → HasTwo above → (place_on rules (what ∷ above)).style ≡ style_on rules (what ∷ above) what (place_on rules above).style
unfolding place_on
style_below rules what [] two = absurd two
style_below rules what (one ∷ []) two = absurd two
style_below rules what (one ∷ other ∷ others) two = refl

-- ---- in an element whose holder isn't in the scope

module _ (rules : List Ruling) (state now : State) (scoped : List ℕ) (t : IsTaken rules state now scoped) (number : ℕ) (element : is_of is_element now number ≡ true)
    (apart : display_at rules now number ≡ Inline → ⊥) (outside : IsIn number scoped → ⊥) where
  -- what is inline in the element
  record IsHeld (upper : ℕ) : Type 0 where
    settled : IsSettled state now upper
    held : holder rules now upper ≡ number

  keeps : (upper : ℕ) → IsHeld upper → IsKept state now upper
  keeps upper h = t.keeps number upper element outside h.settled.lived h.settled.alive (λ there. outside (subst (λ (n : ℕ). IsIn n scoped) h.held there))

  child_stays : (upper child : ℕ) → IsHeld upper → IsIn child (children_at now upper) → IsSettled state now child
  child_stays upper child h there = child_settled state now t.before.whole t.before.reached t.later.whole t.later.reached upper child h.settled (keeps upper h) there

  -- a child that is an inline box has the same holder
  child_held : (upper child : ℕ) → IsHeld upper → IsIn child (children_at now upper) → display_at rules now child ≡ Inline → holder rules now child ≡ number
  unfolding holder_in
  child_held upper child h there inline =
      ap (holder_in (display_at rules now)) (ancestors_of_child now t.later.whole t.later.reached upper child (contained child (children_at now upper) there))
      ∙ ap (λ (d : Display). unless_inline d child (holder_in (display_at rules now) (inclusive_ancestors now upper))) inline
      ∙ h.held

  two_in : (upper child : ℕ) → IsHeld upper → IsIn child (children_at now upper) → HasTwo (line now child)
  two_in upper child h there =
      let (level, low, at) = t.later.reached.reached upper h.settled.alive in
      two_at now t.later.rooted t.later.whole t.later.reached level child (upper, at, contained child (children_at now upper) there)

  abbrev place_style : (upper : ℕ) → Style
  place_style upper = (place_on rules (line now upper)).style

  not_html : (upper child : ℕ) → IsIn child (children_at now upper) → element_style rules now child ≡ place_style child
  not_html upper zero there = absurd (none-some upper (sym t.later.whole.html ∙ parent_is now t.later.whole upper 0 there))
  not_html upper (suc child) there = refl

  -- what stands in such an element, down to a depth
  abbrev Alike : (depth : ℕ) → Type 0
  Alike depth = (upper : ℕ) → IsHeld upper → HasTwo (line now upper) → (style : Style) → style ≡ place_style upper → (numbers : List ℕ) → ((child : ℕ) → IsIn child numbers → IsIn child (children_at now upper))
      → AreLike (content (styled_in rules now style (tree_to depth now numbers))) (content (styled_in rules state style (tree_to depth state numbers)))

  -- one child of it
  abbrev parts_of : State → (depth child : ℕ) → What → Style → List ℕ → List Part
  parts_of some depth child what own numbers = parts_by (role_of (kind_of what) own) child own (content (styled_in rules some own (tree_to depth some numbers)))

  child_like : (depth : ℕ) → Alike depth → (upper child : ℕ) → IsHeld upper → IsIn child (children_at now upper) → (what : What) (own : Style) → own ≡ place_style child
      → AreLike (parts_of now depth child what own (children_at now child)) (parts_of state depth child what own (children_at state child))
  child_like depth inner upper child h there what own is =
      parts_like (role_of (kind_of what) own) child own (content (styled_in rules now own (tree_to depth now (children_at now child)))) (content (styled_in rules state own (tree_to depth state (children_at state child))))
      (λ role.
      let display : own.display ≡ Inline = inline_display (kind_of what) own.display own refl (ap is_inline role) in
      let its : IsHeld child = record {
        settled = child_stays upper child h there;
        held = child_held upper child h there (ap (λ (s : Style). s.display) (not_html upper child there ∙ sym is) ∙ display);
      } in
      subst (λ (l : List ℕ). AreLike (content (styled_in rules now own (tree_to depth now (children_at now child)))) (content (styled_in rules state own (tree_to depth state l)))) (keeps child its).children
      (inner child its (two_in upper child h there) own is (children_at now child) (λ other among. among)))

  module _ (depth : ℕ) (inner : Alike depth) (upper : ℕ) (h : IsHeld upper) (two : HasTwo (line now upper)) (style : Style) (is : style ≡ place_style upper) where
    styled_is : (child : ℕ) (what : What) → line now child ≡ what ∷ line now upper → style_at rules now child what style ≡ place_style child
    styled_is child what lines =
        style_at_is rules now child what style
        ∙ ap (λ (l : List What). style_on rules l what style) lines
        ∙ ap (λ (s : Style). style_on rules (what ∷ line now upper) what s) is
        ∙ sym (style_below rules what (line now upper) two)
        ∙ sym (ap (λ (l : List What). (place_on rules l).style) lines)

    row_like : (numbers : List ℕ) → ((child : ℕ) → IsIn child numbers → IsIn child (children_at now upper))
        → AreLike (content (styled_in rules now style (tree_to (suc depth) now numbers))) (content (styled_in rules state style (tree_to (suc depth) state numbers)))
    unfolding tree_to styled_in content
    row_like [] within = refl
    row_like (child ∷ numbers) within =
        let there = within child (inl refl) in
        let (level, low, at) = t.later.reached.reached upper h.settled.alive in
        let (entry, here, stands, lines) = child_line now t.later.whole t.later.reached level upper child at there in
        let (old, was, stood) = child_lives state t.before.whole upper child (subst (IsIn child) (keeps upper h).children there) in
        let same : entry.what ≡ old.what = same_Some entry.what old.what (sym (ap (option_map (λ (e : Entry). e.what)) here) ∙ (keeps upper h).whats child there ∙ ap (option_map (λ (e : Entry). e.what)) was) in
        let own : Style = style_at rules now child entry.what style in
        let own_same : own ≡ style_at rules state child old.what style =
        same_style rules state now child entry.what style (child_stays upper child h there).lines ∙ ap (λ (w : What). style_at rules state child w style) same in
        let children : children_at now child ≡ entry.children = ap (λ (o : Option Entry). children_of o) here in
        let before : children_at state child ≡ old.children = ap (λ (o : Option Entry). children_of o) was in
        let first : AreLike (parts_of now depth child entry.what own entry.children) (parts_of state depth child old.what (style_at rules state child old.what style) old.children) =
        subst (λ (l : List Part). AreLike l (parts_of state depth child old.what (style_at rules state child old.what style) old.children)) (ap (parts_of now depth child entry.what own) children)
        (subst (AreLike (parts_of now depth child entry.what own (children_at now child)))
        (ap (λ (w : What). parts_of state depth child w own (children_at state child)) same
        ∙ ap (λ (s : Style). parts_of state depth child old.what s (children_at state child)) own_same
        ∙ ap (parts_of state depth child old.what (style_at rules state child old.what style)) before)
        (child_like depth inner upper child h there entry.what own (styled_is child entry.what lines))) in
        subst (λ (o : Option Entry). AreLike (content (styled_in rules now style (tree_with o child (tree_to depth now) (tree_to (suc depth) now numbers)))) (content (styled_in rules state style (tree_to (suc depth) state (child ∷ numbers))))) (sym here)
        (subst (λ (o : Option Entry). AreLike (content (styled_in rules now style (tree_with (Some entry) child (tree_to depth now) (tree_to (suc depth) now numbers)))) (content (styled_in rules state style (tree_with o child (tree_to depth state) (tree_to (suc depth) state numbers))))) (sym was)
        (like_append (parts_of now depth child entry.what own entry.children) (content (styled_in rules now style (tree_to (suc depth) now numbers)))
        (parts_of state depth child old.what (style_at rules state child old.what style) old.children) (content (styled_in rules state style (tree_to (suc depth) state numbers)))
        first (row_like numbers (λ other among. within other (inr among)))))

  alike : (depth : ℕ) → Alike depth
  unfolding tree_to styled_in content
  alike zero upper h two style is numbers within = refl
  alike (suc depth) upper h two style is numbers within = row_like depth (alike depth) upper h two style is numbers within

  -- ---- in the element itself

  itself : IsHeld number
  unfolding holder_in
  itself =
      let same = itself_same rules state now scoped t number element outside in
      record {
        settled = record { alive = element_lives (now.node_at number) element; lived = same.lived; lines = same.lines 64 };
        held = ap (holder_in (display_at rules now)) (ancestors_are now 63 number) ∙ not_inline (display_at rules now number) number _ apart;
      }

  below_html : number ≡ 0 → IsIn 1 (children_at now number)
  below_html is = subst (λ (n : ℕ). IsIn 1 (children_at now n)) (sym is) (subst (IsIn 1) (sym (html_children rules now t.later.rooted)) (inl refl))

  pub body : number ≡ 0 → line now 1 ≡ line state 1
  body is = (child_stays number 1 itself (below_html is)).lines

  body_like : number ≡ 0 → (depth : ℕ) → AreLike (content (body_in rules now (tree_to depth now (1 ∷ [])))) (content (body_in rules state (tree_to depth state (1 ∷ []))))
  unfolding tree_to styled_in content
  body_like is zero = refl
  body_like is (suc depth) =
      let there = below_html is in
      let (entry, here, stands) = child_lives now t.later.whole number 1 there in
      let (old, was, stood) = child_lives state t.before.whole number 1 (subst (IsIn 1) (keeps number itself).children there) in
      let same : entry.what ≡ old.what = same_Some entry.what old.what (sym (ap (option_map (λ (e : Entry). e.what)) here) ∙ (keeps number itself).whats 1 there ∙ ap (option_map (λ (e : Entry). e.what)) was) in
      let style = body_stays rules state now scoped t number element outside body in
      let children : children_at now 1 ≡ entry.children = ap (λ (o : Option Entry). children_of o) here in
      let before : children_at state 1 ≡ old.children = ap (λ (o : Option Entry). children_of o) was in
      let first : AreLike (parts_of now depth 1 entry.what (body_style rules now) entry.children) (parts_of state depth 1 old.what (body_style rules state) old.children) =
      subst (λ (l : List Part). AreLike l (parts_of state depth 1 old.what (body_style rules state) old.children)) (ap (parts_of now depth 1 entry.what (body_style rules now)) children)
      (subst (AreLike (parts_of now depth 1 entry.what (body_style rules now) (children_at now 1)))
      (ap (λ (w : What). parts_of state depth 1 w (body_style rules now) (children_at state 1)) same
      ∙ ap (λ (s : Style). parts_of state depth 1 old.what s (children_at state 1)) style
      ∙ ap (parts_of state depth 1 old.what (body_style rules state)) before)
      (child_like depth (alike depth) number 1 itself there entry.what (body_style rules now) (ap (λ p. p.style) (body_place_is rules now t.later.rooted t.later.whole t.later.reached)))) in
      subst (λ (o : Option Entry). AreLike (content (body_in rules now (tree_with o 1 (tree_to depth now) dom.none))) (content (body_in rules state (tree_to (suc depth) state (1 ∷ []))))) (sym here)
      (subst (λ (o : Option Entry). AreLike (content (body_in rules now (tree_with (Some entry) 1 (tree_to depth now) dom.none))) (content (body_in rules state (tree_with o 1 (tree_to depth state) dom.none)))) (sym was)
      (like_append (parts_of now depth 1 entry.what (body_style rules now) entry.children) [] (parts_of state depth 1 old.what (body_style rules state) old.children) [] first refl))

  two_own : (upper some : ℕ) → upper ≡ suc some → IsHeld upper → HasTwo (line now upper)
  two_own upper some is h = let (level, low, at) = t.later.reached.reached upper h.settled.alive in by level at
    where
      by : (level : ℕ) → IsAtLevel now level upper → HasTwo (line now upper)
      by zero at = absurd (omega (arith, is, at))
      by (suc level) at = two_at now t.later.rooted t.later.whole t.later.reached level upper at

  inside_like : (depth some : ℕ) → some ≡ number → AreLike (content (inside_of rules now depth some)) (content (inside_of rules state depth some))
  inside_like depth zero is =
      let one = html_children rules now t.later.rooted in
      let kept = subst (λ (n : ℕ). children_at now n ≡ children_at state n) (sym is) (keeps number itself).children in
      subst (λ (l : List ℕ). AreLike (content (body_in rules now (tree_to depth now l))) (content (body_in rules state (tree_to depth state (children_at state 0))))) (sym one)
      (subst (λ (l : List ℕ). AreLike (content (body_in rules now (tree_to depth now (1 ∷ [])))) (content (body_in rules state (tree_to depth state l)))) (sym one ∙ kept) (body_like (sym is) depth))
  inside_like depth (suc some) is =
      let h = subst IsHeld (sym is) itself in
      let style = subst (λ (n : ℕ). element_style rules now n ≡ element_style rules state n) (sym is) (style_stays rules state now scoped t number element outside body) in
      subst (λ (s : Style). AreLike (content (styled_in rules now (element_style rules now (suc some)) (tree_to depth now (children_at now (suc some))))) (content (styled_in rules state s (tree_to depth state (children_at state (suc some)))))) style
      (subst (λ (l : List ℕ). AreLike (content (styled_in rules now (element_style rules now (suc some)) (tree_to depth now (children_at now (suc some))))) (content (styled_in rules state (element_style rules now (suc some)) (tree_to depth state l)))) (keeps (suc some) h).children
      (alike depth (suc some) h (two_own (suc some) some refl h) (element_style rules now (suc some)) refl (children_at now (suc some)) (λ child there. there)))

  pub content_stays : (depth : ℕ) → own_boxes (box_of rules now depth number) ≡ own_boxes (box_of rules state depth number)
  content_stays depth =
      ap (λ (s : Style). own_boxes (made number s (content (inside_of rules now depth number)))) (style_stays rules state now scoped t number element outside body)
      ∙ made_like number (element_style rules state number) (content (inside_of rules now depth number)) (content (inside_of rules state depth number)) (inside_like depth number refl)
