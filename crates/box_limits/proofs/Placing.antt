-- Where nodes stand, from the node that they stand in.
use Rattle.std.proofs.Common.{◌≡◌, ◌∙◌, ℕ, zero, suc, ◌-◌, ◌<◌, List, [], ◌∷◌, refl, ap, sym, subst, arith, Option, Some, None, option_map}
use Rattle.std.specs.Prelude.{unwrap_or, option_and_then, IsSome}
use Rattle.std.proofs.lemmas.Option.{none-some}
use Rattle.std.specs.Borrow.{Bor}
use Rattle.style_types.specs.declared.style.Style.{Style}
use Rattle.css_types.specs.Rule.{Ruling}
use Rattle.dom_store.specs.declared.node.Node.{Node}
use Rattle.dom_store.specs.State.{What, Entry, State, entry_of, line, line_to, line_with, what_of}
use Rattle.dom_store.specs.Standing.{children_at, parent_at}
use Rattle.tree_laws.specs.Reached.{IsAtLevel}
use Rattle.style_tree.specs.Styling.{body_style, style_at}
use Rattle.box_limits.specs.declared.place.Place.{Place}
use Rattle.box_limits.specs.Lines.{outside, place_in, place_of_body, place_on, style_on}
use Rattle.box_limits.specs.Judging.{IsTree}
use Rattle.box_limits.proofs.Among.{IsIn, found, only}
use Rattle.box_limits.proofs.Judged.{body, body_place_is, html_children}
use Rattle.box_limits.proofs.Levels.{child_line, line_is, no_line}
use Rattle.box_limits.proofs.Parts.{two_at}
use Rattle.box_limits.proofs.Walks.{HasTwo, place_below, style_at_is}

-- ---- the node that was found

pub same_entry : (entry other : Entry) → Some entry ≡ Some other → entry ≡ other
same_entry entry other is = ap (λ (o : Option Entry). unwrap_or o entry) is

pub some_from : (entry : Entry) (found : Option (Bor Node)) → option_map (λ n. entry_of n.now) found ≡ Some entry → IsSome found
some_from entry None is = absurd (let none : None ≡ Some entry = is in cc)
some_from entry (Some node) is = refl

module _ (rules : List Ruling) (state : State) (tree : IsTree state) where
  pub body_lives : (found : Option (Bor Node)) → option_map (λ n. entry_of n.now) found ≡ state.node_at 1 → IsSome found
  body_lives found at = some_from tree.rooted.body.0 found (at ∙ tree.rooted.body.1)

  pub body_placed : (found : Option (Bor Node)) (node : Bor Node) → found ≡ Some node → option_map (λ n. entry_of n.now) found ≡ state.node_at 1
      → (style : Style) → style ≡ body_style rules state → (outer made : Place) → outer ≡ place_of_body style → made ≡ place_in (what_of node.now.kind) style outer → made ≡ place_on rules (line state 1)
  unfolding body
  body_placed found node is at style styled_ outer made around here =
      let entry : entry_of node.now ≡ tree.rooted.body.0 = same_entry (entry_of node.now) tree.rooted.body.0 (sym (ap (option_map (λ (n : Bor Node). entry_of n.now)) is) ∙ at ∙ tree.rooted.body.1) in
      here ∙ ap (place_in (what_of node.now.kind) style) around
      ∙ ap (λ (e : Entry). place_in e.what style (place_of_body style)) entry
      ∙ ap (λ (s : Style). place_in tree.rooted.body.0.what s (place_of_body s)) styled_
      ∙ body_place_is rules state tree.rooted tree.whole tree.reached

  -- ---- the place in a node

  pub nowhere : (number : ℕ) → None ≡ state.node_at number → (made : Place) → made ≡ outside → made ≡ place_on rules (line state number)
  unfolding line_to place_on
  nowhere number is made here = here ∙ sym (ap (λ (o : Option Entry). place_on rules (line_with (line_to 63 state) o)) (sym is))

  pub nothing_above : (number : ℕ) (entry : Entry) → Some entry ≡ state.node_at number → entry.parent ≡ None → (made : Place) → made ≡ outside → made ≡ place_on rules (line state number)
  unfolding place_on
  nothing_above number entry is top made here =
      let lines : line state number ≡ entry.what ∷ [] = line_is state tree.whole 63 number entry (sym is) ∙ ap (λ (l : List What). entry.what ∷ l) (ap (line_to 63 state) top ∙ no_line state tree.whole 63) in
      here ∙ sym (ap (place_on rules) lines)

  has_two : (level parent number : ℕ) → IsAtLevel state level parent → IsIn number (children_at state parent) → (number ≡ 1 → ⊥) → HasTwo (line state parent)
  has_two zero parent number at there apart =
      absurd (apart (only 1 number (subst (IsIn number) (html_children rules state tree.rooted) (subst (λ (n : ℕ). IsIn number (children_at state n)) at there))))
  has_two (suc level) parent number at there apart = two_at state tree.rooted tree.whole tree.reached level parent at

  pub place_placed : (number parent most : ℕ) (entry : Entry) → Some entry ≡ state.node_at number → entry.parent ≡ Some parent → (number ≡ 1 → ⊥)
      → (above : Place) → ((level : ℕ) → IsAtLevel state level parent → level < most - 1 → above ≡ place_on rules (line state parent))
      → (style : Style) → style ≡ style_at rules state number entry.what above.style → (made : Place) → made ≡ place_in entry.what style above
      → (level : ℕ) → IsAtLevel state level number → level < most → made ≡ place_on rules (line state number)
  place_placed number parent most entry is stands apart above before style styled_ made here zero at within =
      let html : parent_at state number ≡ None = ap (parent_at state) at ∙ tree.whole.html in
      let its : parent_at state number ≡ Some parent = ap (λ (o : Option Entry). option_and_then (λ entry. entry.parent) o) (sym is) ∙ stands in
      absurd (none-some parent (sym html ∙ its))
  place_placed number parent most entry is stands apart above before style styled_ made here (suc level) (upper, at, contains) within =
      let there = found number (children_at state upper) contains in
      let (child, lives_, under, lines) = child_line state tree.whole tree.reached level upper number at there in
      let same : child ≡ entry = same_entry child entry (sym lives_ ∙ sym is) in
      let upper_is : upper ≡ parent = ap (λ (o : Option ℕ). unwrap_or o upper) (sym under ∙ ap (λ (e : Entry). e.parent) same ∙ stands) in
      let place_is : above ≡ place_on rules (line state upper) = before level (subst (IsAtLevel state level) upper_is at) (omega (arith, within)) ∙ ap (λ (n : ℕ). place_on rules (line state n)) (sym upper_is) in
      let line_is_ : line state number ≡ entry.what ∷ line state upper = lines ∙ ap (λ (e : Entry). e.what ∷ line state upper) same in
      let as_line = style_on rules (entry.what ∷ line state upper) entry.what (place_on rules (line state upper)).style in
      let style_is : style ≡ as_line =
      styled_ ∙ style_at_is rules state number entry.what above.style ∙ ap (λ (l : List What). style_on rules l entry.what above.style) line_is_
      ∙ ap (λ (p : Place). style_on rules (entry.what ∷ line state upper) entry.what p.style) place_is in
      here ∙ ap (λ (s : Style). place_in entry.what s above) style_is ∙ ap (place_in entry.what as_line) place_is
      ∙ sym (place_below rules entry.what (line state upper) (has_two level upper number at there apart)) ∙ ap (place_on rules) (sym line_is_)

pub children_found : (state : State) (number : ℕ) (found : Option (Bor Node)) (node : Bor Node) → found ≡ Some node → option_map (λ n. entry_of n.now) found ≡ state.node_at number → node.now.children.items ≡ children_at state number
children_found state number found node is at =
    ap (λ (o : Option Entry). unwrap_or (option_map (λ entry. entry.children) o) []) (sym (ap (option_map (λ (n : Bor Node). entry_of n.now)) is) ∙ at)
