-- Where the boxes of elements stand in a page.
use Rattle.std.proofs.Common.{◌≡◌, ◌∙◌, ◌⊎◌, ℕ, zero, suc, ◌+◌, true, false, List, [], ◌∷◌, ◌++◌, refl, ap, sym, subst, arith, Option, Some, None, option_map, inl, inr}
use Rattle.std.specs.Prelude.{flat_map, unwrap_or}
use Rattle.std.specs.List.{Contains}
use Rattle.std.proofs.lemmas.Bool.{false≢true}
use Rattle.std.proofs.lemmas.Option.{none-some, same_Some}
use Rattle.style_types.specs.declared.style.Display.TheVariants.{FlowRoot, Inline}
use Rattle.style_types.specs.declared.style.Style.{Style}
use Rattle.style_types.specs.Tree as styled
use Rattle.style_types.specs.Tree.{NodeKind, Nodes}
use Rattle.css_types.specs.Rule.{Ruling}
use Rattle.dom_store.specs.State as dom
use Rattle.dom_store.specs.State.{What, Entry, State, IsElement, IsRooted, greatest_depth, line, tree_to, tree_with}
use Rattle.dom_store.specs.Standing.{ancestors_to, children_at, parent_at}
use Rattle.dom_store.specs.Refusals.{is_element, is_of}
use Rattle.tree_laws.specs.Reached.{IsAtLevel, IsReached}
use Rattle.tree_laws.specs.Wholeness.{IsWhole}
use Rattle.tree_laws.proofs.Keeping.{children_of}
use Rattle.tree_laws.proofs.Levels.{parent_of_child}
use Rattle.style_tree.specs.Styling.{body_style, kind_of, style_at, styled_document, styled_in}
use Rattle.box_gen.specs.Boxes.{Role, content, made, nothing, parts_by, role_of, root_boxes}
use Rattle.box_gen.specs.Parts.{Part}
use Rattle.box_gen.specs.Places.{IsAmong, IsPlaceOf, Place, RunAlike, tree_of}
use Rattle.box_gen.specs.Tree.{Boxes}
use Rattle.box_limits.specs.Lines.{place_on, style_on}
use Rattle.box_limits.proofs.Among.{IsIn, contained, found}
use Rattle.box_limits.proofs.Judged.{body_place_is, html_children}
use Rattle.box_limits.proofs.Levels.{child_line}
use Rattle.box_limits.proofs.Parts.{two_at}
use Rattle.box_limits.proofs.Walks.{HasTwo, style_at_is}
use Rattle.edit_scope.specs.Boxes.{body_in, box_of, inside_of}
use Rattle.edit_scope.specs.Pages.{PagesHaveBoxes}
use Rattle.edit_scope.specs.Scope.{display_at, element_style, holder, holder_above, holder_in, unless_inline}
use Rattle.edit_scope.proofs.ContentLaws.{inline_display, style_below}
use Rattle.edit_scope.proofs.DepthLaws.{tree_below}
use Rattle.edit_scope.proofs.HolderLaws.{ancestors_are, ancestors_of_child, not_inline}
use Rattle.edit_scope.proofs.InsideLaws.{Hosts, IsOwnOf, IsRightIn, inner_of, is_box, is_inline, made_hosts, made_split, no_own, own_either, own_first, own_inline, own_made, own_of, own_second, shell_of}
use Rattle.edit_scope.proofs.PageLaws.{pages_are_boxes}
use Rattle.edit_scope.proofs.Taking.{what_at}

-- ---- the boxes of many parts

module _ (parts_at : ℕ → List Part) (own : Boxes) where
  own_among : (numbers : List ℕ) → IsOwnOf (flat_map parts_at numbers) own → (number : ℕ) × IsIn number numbers × IsOwnOf (parts_at number) own
  own_among [] one = absurd one
  own_among (number ∷ numbers) one = elim (own_either (parts_at number) (flat_map parts_at numbers) own one) [
    | inl here ↦ (number, inl refl, here)
    | inr later ↦ let (other, among, is) = own_among numbers later in (other, inr among, is)
  ]

  among_own : (numbers : List ℕ) (number : ℕ) → IsIn number numbers → IsOwnOf (parts_at number) own → IsOwnOf (flat_map parts_at numbers) own
  among_own [] number there one = absurd there
  among_own (other ∷ numbers) number (inl same) one = own_first (parts_at other) (flat_map parts_at numbers) own (subst (λ (n : ℕ). IsOwnOf (parts_at n) own) (sym same) one)
  among_own (other ∷ numbers) number (inr later) one = own_second (parts_at other) (flat_map parts_at numbers) own (among_own numbers number later one)

-- ---- what a node is in its container

abbrev pub role_in : Option What → Style → Role
role_in None style = nothing
role_in (Some what) style = role_of (kind_of what) style

not_box : (kind : NodeKind) (style : Style) → style.display ≡ Inline → is_box (role_of kind style) ≡ false
not_box styled.element style is = rw is refl
not_box styled.line_break style is = rw is refl
not_box (styled.text letters) style is = refl

box_is_element : (o : Option What) (style : Style) → is_box (role_in o style) ≡ true → (what : What) × (o ≡ Some what) × (is_element what ≡ true)
box_is_element None style is = absurd (false≢true is)
box_is_element (Some (dom.element tag id classes dir own)) style is = (dom.element tag id classes dir own, refl, refl)
box_is_element (Some (dom.text letters)) style is = absurd (false≢true is)

apart_in : (o : Option What) (style : Style) → is_box (role_in o style) ≡ true → style.display ≡ Inline → ⊥
apart_in None style is inline = false≢true is
apart_in (Some what) style is inline = false≢true (sym (not_box (kind_of what) style inline) ∙ is)

inline_in : (o : Option What) (style : Style) → is_inline (role_in o style) ≡ true → style.display ≡ Inline
inline_in None style is = absurd (false≢true is)
inline_in (Some what) style is = inline_display (kind_of what) style.display style refl is

element_by : (o : Option Entry) (what : What) → option_map (λ entry. entry.what) o ≡ Some what → is_element what ≡ true → unwrap_or (option_map (λ entry. is_element entry.what) o) false ≡ true
element_by None what is element = absurd (none-some what is)
element_by (Some entry) what is element = ap is_element (same_Some entry.what what is) ∙ element

elements_are : (what : What) → IsElement what → is_element what ≡ true
elements_are (dom.element tag id classes dir own) is = refl
elements_are (dom.text letters) is = absurd is

inside_deep : (rules : List Ruling) (state : State) (depth number : ℕ) → tree_to depth state (children_at state number) ≡ tree_to 63 state (children_at state number)
    → inside_of rules state depth number ≡ inside_of rules state 63 number
inside_deep rules state depth zero same = ap (body_in rules state) same
inside_deep rules state depth (suc number) same = ap (styled_in rules state (element_style rules state (suc number))) same

module _ (rules : List Ruling) (state : State) where
  abbrev pub role_for : (number : ℕ) → Role
  role_for number = role_in (what_at state number) (element_style rules state number)

  -- a node that is in no hidden one, as all above it are, so many levels below `html`
  abbrev pub IsShown : (level number : ℕ) → Type 0
  IsShown zero number = number ≡ 0
  IsShown (suc level) number = (parent : ℕ) × IsShown level parent × Contains (children_at state parent) number × ((is_inline (role_for number) ≡ true) ⊎ (is_box (role_for number) ≡ true))

  shown_at : (level number : ℕ) → IsShown level number → IsAtLevel state level number
  shown_at zero number shown = shown
  shown_at (suc level) number (parent, above, there, is) = (parent, shown_at level parent above, there)

  -- a box of its own
  abbrev pub IsBoxed : (number : ℕ) → Type 0
  IsBoxed number = (number ≡ 0) ⊎ (is_box (role_for number) ≡ true)

  -- its box stands in a box of that style: `html` in none, another in one whose lines run as those of its holder from outside
  abbrev pub IsAround : (number : ℕ) → Option Style → Type 0
  IsAround zero around = around ≡ None
  IsAround (suc number) None = ⊥
  IsAround (suc number) (Some around) = RunAlike around (element_style rules state (holder_above rules state (suc number)))

  -- the box of an element, or one of its anonymous blocks
  abbrev IsHere : (depth number : ℕ) → Place → Type 0
  IsHere depth number place = ((tree_of place ≡ box_of rules state depth number) × IsAround number place.around) ⊎ IsRightIn number (element_style rules state number) (box_of rules state depth number) place

  -- a box of a page is that of an element that is shown
  pub record IsFound (place : Place) : Type 0 where
    pub level : ℕ
    pub depth : ℕ
    pub sum : level + depth ≡ 63
    pub shown : IsShown level place.name.node
    pub boxed : IsBoxed place.name.node
    pub here : IsHere depth place.name.node place

  found_at : (place : Place) (number level depth : ℕ) → place.name.node ≡ number → level + depth ≡ 63 → IsShown level number → IsBoxed number → IsHere depth number place → IsFound place
  found_at place number level depth is sum shown boxed here = record {
    level = level;
    depth = depth;
    sum = sum;
    shown = subst (IsShown level) (sym is) shown;
    boxed = subst IsBoxed (sym is) boxed;
    here = subst (λ (n : ℕ). IsHere depth n place) (sym is) here;
  }

  -- one child with its content
  abbrev parts_of : (depth child : ℕ) → List Part
  parts_of depth child = parts_by (role_for child) child (element_style rules state child) (content (inside_of rules state depth child))

  child_is : (depth child : ℕ) (entry : Entry) (own : Style) → state.node_at child ≡ Some entry → own ≡ element_style rules state child → (child ≡ 0 → ⊥)
      → parts_by (role_of (kind_of entry.what) own) child own (content (styled_in rules state own (tree_to depth state entry.children))) ≡ parts_of depth child
  child_is depth zero entry own here is apart = absurd (apart refl)
  child_is depth (suc child) entry own here is apart =
      let style : Style = element_style rules state (suc child) in
      ap (λ (s : Style). parts_by (role_of (kind_of entry.what) s) (suc child) s (content (styled_in rules state s (tree_to depth state entry.children)))) is
      ∙ sym (ap (λ (o : Option Entry). parts_by (role_in (option_map (λ (e : Entry). e.what) o) style) (suc child) style (content (styled_in rules state style (tree_to depth state (children_of o))))) here)

  module _ (rooted : IsRooted state) (whole : IsWhole state) (reached : IsReached state) where
    not_html : (parent child : ℕ) → Contains (children_at state parent) child → child ≡ 0 → ⊥
    not_html parent child there is = none-some parent (sym (ap (parent_at state) is ∙ whole.html) ∙ parent_of_child state whole parent child there)

    below_style : (child : ℕ) → (child ≡ 0 → ⊥) → element_style rules state child ≡ (place_on rules (line state child)).style
    below_style zero apart = absurd (apart refl)
    below_style (suc child) apart = refl

    -- ---- what stands in an element, child by child

    module _ (depth level upper : ℕ) (at : IsAtLevel state level upper) (two : HasTwo (line state upper)) (style : Style) (is : style ≡ (place_on rules (line state upper)).style) where
      styled_is : (child : ℕ) (what : What) → (child ≡ 0 → ⊥) → line state child ≡ what ∷ line state upper → style_at rules state child what style ≡ element_style rules state child
      styled_is child what apart lines =
          style_at_is rules state child what style
          ∙ ap (λ (l : List What). style_on rules l what style) lines
          ∙ ap (λ (s : Style). style_on rules (what ∷ line state upper) what s) is
          ∙ sym (style_below rules what (line state upper) two)
          ∙ sym (ap (λ (l : List What). (place_on rules l).style) lines)
          ∙ sym (below_style child apart)

      row_is : (numbers : List ℕ) → ((child : ℕ) → IsIn child numbers → IsIn child (children_at state upper))
          → content (styled_in rules state style (tree_to (suc depth) state numbers)) ≡ flat_map (parts_of depth) numbers
      unfolding tree_to styled_in content
      row_is [] within = refl
      row_is (child ∷ numbers) within =
          let there = within child (inl refl) in
          let (entry, here, stands, lines) = child_line state whole reached level upper child at there in
          let apart = not_html upper child (contained child (children_at state upper) there) in
          ap (λ (o : Option Entry). content (styled_in rules state style (tree_with o child (tree_to depth state) (tree_to (suc depth) state numbers)))) here
          ∙ ap (λ (l : List Part). l ++ content (styled_in rules state style (tree_to (suc depth) state numbers)))
          (child_is depth child entry (style_at rules state child entry.what style) here (styled_is child entry.what apart lines) apart)
          ∙ ap (λ (l : List Part). parts_of depth child ++ l) (row_is numbers (λ other among. within other (inr among)))

    html_is : (depth : ℕ) → content (body_in rules state (tree_to (suc depth) state (1 ∷ []))) ≡ flat_map (parts_of depth) (1 ∷ [])
    unfolding tree_to styled_in content
    html_is depth =
        let body = rooted.body.0 in
        ap (λ (o : Option Entry). content (body_in rules state (tree_with o 1 (tree_to depth state) dom.none))) rooted.body.1
        ∙ ap (λ (l : List Part). l ++ [])
        (child_is depth 1 body (body_style rules state) rooted.body.1 (ap (λ p. p.style) (body_place_is rules state rooted whole reached)) (λ is. absurd (omega (arith, is))))

    inside_is : (depth level upper : ℕ) → IsAtLevel state level upper → content (inside_of rules state (suc depth) upper) ≡ flat_map (parts_of depth) (children_at state upper)
    inside_is depth level zero at =
        let one = html_children rules state rooted in
        ap (λ (l : List ℕ). content (body_in rules state (tree_to (suc depth) state l))) one ∙ html_is depth ∙ sym (ap (flat_map (parts_of depth)) one)
    inside_is depth zero (suc upper) at = absurd (omega (arith, at))
    inside_is depth (suc level) (suc upper) at =
        row_is depth (suc level) (suc upper) at (two_at state rooted whole reached level (suc upper) at) (element_style rules state (suc upper)) refl (children_at state (suc upper)) (λ child there. there)

    inside_none : (upper : ℕ) → content (inside_of rules state 0 upper) ≡ []
    unfolding tree_to styled_in content
    inside_none zero = refl
    inside_none (suc upper) = refl

    -- ---- holders

    html_held : holder rules state 0 ≡ 0
    unfolding holder_in
    html_held = ap (holder_in (display_at rules state)) (ancestors_are state 63 0)

    module _ (parent child : ℕ) (there : Contains (children_at state parent) child) where
      holder_is : holder rules state child ≡ unless_inline (display_at rules state child) child (holder rules state parent)
      unfolding holder_in
      holder_is = ap (holder_in (display_at rules state)) (ancestors_of_child state whole reached parent child there)

      inline_held : is_inline (role_for child) ≡ true → holder rules state child ≡ holder rules state parent
      inline_held is =
          holder_is ∙ ap (λ d. unless_inline d child (holder rules state parent)) (inline_in (what_at state child) (element_style rules state child) is)

      box_held : is_box (role_for child) ≡ true → holder rules state child ≡ child
      box_held is =
          holder_is ∙ not_inline (display_at rules state child) child (holder rules state parent) (apart_in (what_at state child) (element_style rules state child) is)

    around_is : (parent child : ℕ) → Contains (children_at state parent) child → (around : Style) → RunAlike around (element_style rules state (holder rules state parent)) → IsAround child (Some around)
    around_is parent zero there around alike = absurd (not_html parent 0 there refl)
    around_is parent (suc child) there around alike =
        subst (λ (o : Option ℕ). RunAlike around (element_style rules state (holder_in (display_at rules state) (ancestors_to greatest_depth state o)))) (sym (parent_of_child state whole parent (suc child) there)) alike

    -- ---- each box of a page is the box of an element

    abbrev Inside : (depth : ℕ) → Type 0
    Inside depth = (level upper : ℕ) → level + depth ≡ 63 → IsShown level upper → (own : Boxes) (around : Style) (place : Place) → IsOwnOf (content (inside_of rules state depth upper)) own
        → RunAlike around (element_style rules state (holder rules state upper)) → IsAmong (Some around) own place → IsFound place

    html_or : (level number : ℕ) → IsShown level number → IsBoxed number → holder rules state number ≡ number
    html_or zero number shown boxed = subst (λ (n : ℕ). holder rules state n ≡ n) (sym shown) html_held
    html_or (suc level) number (parent, shown, there, is) (inl html) = absurd (not_html parent number there html)
    html_or (suc level) number (parent, shown, there, is) (inr boxed) = box_held parent number there boxed

    in_box : (depth : ℕ) → Inside depth → (level number : ℕ) → level + depth ≡ 63 → IsShown level number → IsBoxed number → (around : Option Style) → IsAround number around
        → (place : Place) → IsAmong around (box_of rules state depth number) place → IsFound place
    in_box depth inner level number sum shown boxed around is place there =
        elim (made_split number (element_style rules state number) (content (inside_of rules state depth number)) around place there) [
          | inl (node, outer, tree) ↦ found_at place number level depth node sum shown boxed (inl (tree, subst (IsAround number) (sym outer) is))
          | inr (inl right) ↦ found_at place number level depth right.0.0 sum shown boxed (inr right)
          | inr (inr inside) ↦
              inner level number sum shown inside.own inside.around place inside.one
              (subst (λ (n : ℕ). RunAlike inside.around (element_style rules state n)) (sym (html_or level number shown boxed)) inside.alike) inside.there
        ]

    inside : (depth : ℕ) → Inside depth
    inside zero level upper sum shown own around place one alike there = absurd (subst (λ (l : List Part). IsOwnOf l own) (inside_none upper) one)
    inside (suc depth) level upper sum shown own around place one alike there =
        let (child, among, part) = own_among (parts_of depth) own (children_at state upper) (subst (λ (l : List Part). IsOwnOf l own) (inside_is depth level upper (shown_at level upper shown)) one) in
        let contains : Contains (children_at state upper) child = contained child (children_at state upper) among in
        let further : suc level + depth ≡ 63 = omega (arith, sum) in
        elim (own_of (role_for child) child (element_style rules state child) (content (inside_of rules state depth child)) own part) [
          | inl (inline, within) ↦
              inside depth (suc level) child further (upper, shown, contains, inl inline) own around place within
              (subst (λ (n : ℕ). RunAlike around (element_style rules state n)) (sym (inline_held upper child contains inline)) alike) there
          | inr (boxed, is) ↦
              in_box depth (inside depth) (suc level) child further (upper, shown, contains, inr boxed) (inr boxed) (Some around) (around_is upper child contains around alike) place
              (subst (λ (b : Boxes). IsAmong (Some around) b place) is there)
        ]

    abbrev pub page : Boxes
    page = root_boxes (styled_document rules state)

    pub page_found : (place : Place) → IsPlaceOf page place → IsFound place
    page_found place there = in_box 63 (inside 63) 0 0 refl refl (inl refl) None refl place (subst (λ (b : Boxes). IsAmong None b place) (pages_are_boxes rules state rooted) there)

    -- ---- and each element that is shown has its box in the page

    abbrev Reaches : (depth number : ℕ) → Type 0
    Reaches depth number = (own : Boxes) → IsOwnOf (content (inside_of rules state depth number)) own → Hosts (element_style rules state (holder rules state number)) own (IsPlaceOf page)

    html_reaches : Reaches 63 0
    html_reaches own one =
        let (around, alike, hosts) = made_hosts 0 (element_style rules state 0) (content (inside_of rules state 63 0)) own one in (
          around,
          subst (λ (n : ℕ). RunAlike around (element_style rules state n)) (sym html_held) alike,
          λ place there. subst (λ (b : Boxes). IsAmong None b place) (sym (pages_are_boxes rules state rooted)) (hosts None place there),
        )

    in_parent : (depth level parent child : ℕ) → IsShown level parent → Contains (children_at state parent) child → (own : Boxes) → IsOwnOf (parts_of depth child) own → IsOwnOf (content (inside_of rules state (suc depth) parent)) own
    in_parent depth level parent child shown there own one =
        subst (λ (l : List Part). IsOwnOf l own) (sym (inside_is depth level parent (shown_at level parent shown)))
        (among_own (parts_of depth) own (children_at state parent) child (found child (children_at state parent) there) one)

    reaches : (level depth number : ℕ) → level + depth ≡ 63 → IsShown level number → Reaches depth number
    reaches zero depth number sum shown own one =
        let all : 63 ≡ depth = omega (arith, sum) in
        let html : Reaches depth number = subst (λ (n : ℕ). Reaches depth n) (sym shown) (subst (λ (d : ℕ). Reaches d 0) all html_reaches) in
        html own one
    reaches (suc level) depth number sum (parent, shown, there, inl inline) own one =
        let part = own_inline (role_for number) number (element_style rules state number) (content (inside_of rules state depth number)) own inline one in
        let (around, alike, hosts) = reaches level (suc depth) parent (omega (arith, sum)) shown own (in_parent depth level parent number shown there own part) in
        (around, subst (λ (n : ℕ). RunAlike around (element_style rules state n)) (sym (inline_held parent number there inline)) alike, hosts)
    reaches (suc level) depth number sum (parent, shown, there, inr boxed) own one =
        let style : Style = element_style rules state number in
        let its = box_of rules state depth number in
        let part = own_made (role_for number) number style (content (inside_of rules state depth number)) boxed in
        let (outer, runs, outside) = reaches level (suc depth) parent (omega (arith, sum)) shown its (in_parent depth level parent number shown there its part) in
        let (around, alike, hosts) = made_hosts number style (content (inside_of rules state depth number)) own one in
        (around, subst (λ (n : ℕ). RunAlike around (element_style rules state n)) (sym (box_held parent number there boxed)) alike, λ place among. outside place (hosts (Some outer) place among))

    -- its box with all inside it stands in the page
    abbrev pub Stands : (depth number : ℕ) → Type 0
    Stands depth number = (around : Option Style) × IsAround number around × ((place : Place) → IsAmong around (box_of rules state depth number) place → IsPlaceOf page place)

    html_stands : Stands 63 0
    html_stands = (None, refl, λ place there. subst (λ (b : Boxes). IsAmong None b place) (sym (pages_are_boxes rules state rooted)) there)

    pub stands : (level depth number : ℕ) → level + depth ≡ 63 → IsShown level number → IsBoxed number → Stands depth number
    stands zero depth number sum shown boxed =
        let all : 63 ≡ depth = omega (arith, sum) in
        subst (λ (n : ℕ). Stands depth n) (sym shown) (subst (λ (d : ℕ). Stands d 0) all html_stands)
    stands (suc level) depth number sum (parent, shown, there, is) (inl html) = absurd (not_html parent number there html)
    stands (suc level) depth number sum (parent, shown, there, is) (inr boxed) =
        let its = box_of rules state depth number in
        let part = own_made (role_for number) number (element_style rules state number) (content (inside_of rules state depth number)) boxed in
        let (outer, alike, hosts) = reaches level (suc depth) parent (omega (arith, sum)) shown its (in_parent depth level parent number shown there its part) in
        (Some outer, around_is parent number there outer alike, hosts)

    -- ---- an element with a box is one, and isn't inline

    pub boxed_element : (number : ℕ) → IsBoxed number → is_of is_element state number ≡ true
    boxed_element number (inl html) = subst (λ (n : ℕ). is_of is_element state n ≡ true) (sym html) (ap (λ (o : Option Entry). unwrap_or (option_map (λ entry. is_element entry.what) o) false) rooted.html.1 ∙ elements_are rooted.html.0.what rooted.html.2)
    boxed_element number (inr boxed) =
        let (what, is, element) = box_is_element (what_at state number) (element_style rules state number) boxed in
        element_by (state.node_at number) what is element

    pub boxed_apart : (number : ℕ) → IsBoxed number → display_at rules state number ≡ Inline → ⊥
    boxed_apart number (inl html) inline = absurd (let both : FlowRoot ≡ Inline = sym (ap (display_at rules state) html) ∙ inline in cc)
    boxed_apart number (inr boxed) inline = apart_in (what_at state number) (element_style rules state number) boxed inline

-- ---- the box that a page has for an element

pub pages_have_boxes : PagesHaveBoxes
pages_have_boxes rules state place rooted whole reached there own =
    let is_found = page_found rules state rooted whole reached place there in
    let number = place.name.node in
    elim is_found.here [
      | inl (itself, around) ↦
          itself
          ∙ ap (λ (n : Nodes). made number (element_style rules state number) (content n))
          (inside_deep rules state is_found.depth number (tree_below state whole reached is_found.level is_found.depth number is_found.sum (shown_at rules state is_found.level number is_found.shown)))
      | inr (anonymous, among) ↦ absurd (no_own (inner_of (box_of rules state is_found.depth number)) (shell_of place) own anonymous.1)
    ]
