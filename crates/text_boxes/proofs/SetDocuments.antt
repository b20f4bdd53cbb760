-- The styled tree of a document in which a text has other letters is that of the document, with these letters.
use Rattle.std.proofs.Common.{◌≡◌, ◌∙◌, ℕ, zero, suc, Bool, true, false, List, [], ◌∷◌, refl, ap, sym, subst, Option, Some, None, option_map, if◌then◌else◌, inl, inr}
use Rattle.std.specs.Prelude.{◌≢◌, nat_eq, unwrap_or}
use Rattle.std.specs.List.{Contains}
use Rattle.std.proofs.lemmas.Bool.{eq-eqb, ne_eqb}
use Rattle.std.proofs.lemmas.Bool.Decides.{eqb_tells}
use Rattle.std.proofs.lemmas.Option.{same_Some}
use Rattle.css_types.specs.Rule.{Ruling}
use Rattle.style_types.specs.declared.style.Style.{Style}
use Rattle.style_types.specs.Initial.{initial}
use Rattle.style_types.specs.Tree as styled
use Rattle.style_types.specs.Tree.{Nodes, NodeKind}
use Rattle.dom_store.specs.State as dom
use Rattle.dom_store.specs.State.{What, Entry, State, IsElement, line, line_to, tree_of, tree_to, tree_with}
use Rattle.dom_store.specs.Standing.{children_at}
use Rattle.dom_store.specs.Edits.{with_what}
use Rattle.dom_store.specs.Refusals.{is_element}
use Rattle.tree_laws.specs.Reached.{IsAtLevel, IsReached}
use Rattle.tree_laws.specs.Wholeness.{IsWhole}
use Rattle.tree_laws.proofs.Keeping.{children_of, what_children, what_whole}
use Rattle.tree_laws.proofs.Staying.{level_kept, what_reached}
use Rattle.cascade.specs.Winners.{winners}
use Rattle.computed.specs.Step.{style_of}
use Rattle.style_tree.specs.Styling.{body_style, from_html, html_style, kind_of, root_style, style_at, styled_document, styled_in, unturned}
use Rattle.box_gen.specs.Boxes.{is_blank}
use Rattle.box_limits.proofs.Among.{IsIn, contained}
use Rattle.box_limits.proofs.Levels.{child_line, child_lives, line_is, no_line}
use Rattle.edit_scope.proofs.BelowLaws.{same_style}
use Rattle.text_boxes.specs.Documents.{HasLetters, document_with, kind_with, nodes_with}
use Rattle.text_boxes.proofs.WhiteSpace.{AreBlankAs, IsBlankAs}

-- ---- the two outermost nodes

module _ (rules : List Ruling) (state : State) (html body : Entry) (html_here : state.node_at 0 ≡ Some html) (only : html.children ≡ 1 ∷ []) (body_here : state.node_at 1 ≡ Some body) where
  -- in the tree of a document
  two_first : tree_of state ≡ dom.node 0 html.what (dom.node 1 body.what (tree_to 62 state body.children) dom.none) dom.none
  unfolding tree_to
  two_first =
      ap (λ (o : Option Entry). tree_with o 0 (tree_to 63 state) dom.none) html_here
      ∙ ap (λ (l : List ℕ). dom.node 0 html.what (tree_to 63 state l) dom.none) only
      ∙ ap (λ (o : Option Entry). dom.node 0 html.what (tree_with o 1 (tree_to 62 state) dom.none) dom.none) body_here

  abbrev page : Nodes
  page =
      styled.node 0 (kind_of html.what) (root_style (html_style rules state) (body_style rules state))
      (styled.node 1 (kind_of body.what) (body_style rules state) (styled_in rules state (body_style rules state) (tree_to 62 state body.children)) styled.none) styled.none

  -- and in its styled tree
  page_is : styled_document rules state ≡ page
  page_is = ap (from_html rules state) two_first

-- ---- kinds

-- what is of another node has its letters
apart_kind : (number : ℕ) (letters : List ℕ) (node : ℕ) (kind : NodeKind) → nat_eq node number ≡ false → kind_with number letters node kind ≡ kind
apart_kind number letters node styled.element apart = refl
apart_kind number letters node styled.line_break apart = refl
apart_kind number letters node (styled.text was) apart = ap (λ (b : Bool). styled.text (if b then letters else was)) apart

-- and nothing is asked of its letters
apart_blank : (number : ℕ) (letters : List ℕ) (node : ℕ) (kind : NodeKind) → node ≢ number → IsBlankAs number letters node kind
apart_blank number letters node styled.element apart = tt
apart_blank number letters node styled.line_break apart = tt
apart_blank number letters node (styled.text was) apart = λ same. absurd (apart same)

-- ---- a document

no_tree : (depth : ℕ) (state : State) → tree_to depth state [] ≡ dom.none
unfolding tree_to
no_tree zero state = refl
no_tree (suc depth) state = refl

module _ (state : State) (number : ℕ) (was letters : List ℕ) (has : HasLetters state number was) where
  abbrev now : State
  now = document_with number letters state

  -- ---- the document with these letters

  -- it is whole, and its nodes are reached at the levels of old
  whole : IsWhole now
  whole = what_whole state number (λ what. dom.text letters) has.whole

  reached : IsReached now
  reached = what_reached state number (λ what. dom.text letters) has.reached

  children_stay : (other : ℕ) → children_at now other ≡ children_at state other
  children_stay other = what_children (λ what. dom.text letters) (nat_eq other number) (state.node_at other)

  levels_stay : (level other : ℕ) → IsAtLevel state level other → IsAtLevel now level other
  levels_stay = level_kept state now (λ parent child there. subst (λ (children : List ℕ). Contains children child) (sym (children_stay parent)) there)

  -- the text has these letters, and every other node stays
  entry_here : now.node_at number ≡ Some (with_what (λ what. dom.text letters) has.entry)
  entry_here =
      ap (λ (b : Bool). if b then option_map (with_what (λ what. dom.text letters)) (state.node_at number) else state.node_at number) (eq-eqb number number refl)
      ∙ ap (option_map (with_what (λ what. dom.text letters))) has.here

  entry_there : (other : ℕ) → nat_eq other number ≡ false → now.node_at other ≡ state.node_at other
  entry_there other apart = ap (λ (b : Bool). if b then option_map (with_what (λ what. dom.text letters)) (state.node_at other) else state.node_at other) apart

  -- the text has no children
  no_children : has.entry.children ≡ []
  no_children =
      sym (ap (λ (o : Option Entry). children_of o) has.here)
      ∙ has.leaves number (ap (λ (o : Option Entry). unwrap_or (option_map (λ entry. is_element entry.what) o) false) has.here ∙ ap is_element has.text)

  -- an element is another node
  element_apart : (other : ℕ) (entry : Entry) → state.node_at other ≡ Some entry → IsElement entry.what → nat_eq other number ≡ false
  element_apart other entry here is =
      ne_eqb other number
      (λ same. let one : entry ≡ has.entry = same_Some entry has.entry (sym here ∙ ap state.node_at same ∙ has.here) in subst IsElement (ap (λ (e : Entry). e.what) one ∙ has.text) is)

  -- ---- lines

  -- a node has its old line
  abbrev SameLine : (other : ℕ) → Type 0
  SameLine other = line now other ≡ line state other

  -- `html` has
  html_line : SameLine 0
  html_line =
      let html = has.rooted.html in
      let there = entry_there 0 (element_apart 0 html.0 html.1 html.2) in
      line_is now whole 63 0 html.0 (there ∙ html.1)
      ∙ ap (λ (l : List What). html.0.what ∷ l) (ap (line_to 63 now) html.3 ∙ no_line now whole 63 ∙ sym (ap (line_to 63 state) html.3 ∙ no_line state has.whole 63))
      ∙ sym (line_is state has.whole 63 0 html.0 html.1)

  -- and every child of a node that has, but for the text
  child_line_stays : (level parent child : ℕ) → IsAtLevel state level parent → SameLine parent → IsIn child (children_at state parent) → nat_eq child number ≡ false → SameLine child
  child_line_stays level parent child at same there apart =
      let (entry, here, stands, lines) = child_line now whole reached level parent child (levels_stay level parent at) (subst (IsIn child) (sym (children_stay parent)) there) in
      let (old, stood, above, others) = child_line state has.whole has.reached level parent child at there in
      let one : entry ≡ old = same_Some entry old (sym here ∙ entry_there child apart ∙ stood) in
      lines ∙ ap (λ (l : List What). entry.what ∷ l) same ∙ ap (λ (e : Entry). e.what ∷ line state parent) one ∙ sym others

  -- ---- styled trees

  module _ (rules : List Ruling) where
    abbrev set : Nodes → Nodes
    set = nodes_with number letters

    -- nodes of these numbers are styled as they were, but for the letters of the text
    abbrev IsSet : (depth : ℕ) → Style → List ℕ → Type 0
    IsSet depth style numbers = styled_in rules now style (tree_to depth now numbers) ≡ set (styled_in rules state style (tree_to depth state numbers))

    -- they stand in this node
    abbrev AreInside : (upper : ℕ) → List ℕ → Type 0
    AreInside upper numbers = (child : ℕ) → IsIn child numbers → IsIn child (children_at state upper)

    module _ (depth : ℕ) (style : Style) (child : ℕ) (numbers : List ℕ) (later : IsSet (suc depth) style numbers) where
      abbrev behind : Nodes
      behind = styled_in rules now style (tree_to (suc depth) now numbers)

      abbrev stood_behind : Nodes
      stood_behind = styled_in rules state style (tree_to (suc depth) state numbers)

      -- the text, before others
      text_row : child ≡ number → nat_eq child number ≡ true → IsSet (suc depth) style (child ∷ numbers)
      unfolding tree_to styled_in
      text_row is same =
          ap (λ (o : Option Entry). styled_in rules now style (tree_with o child (tree_to depth now) (tree_to (suc depth) now numbers))) (ap now.node_at is ∙ entry_here)
          ∙ ap (λ (l : List ℕ). styled.node child (styled.text letters) style (styled_in rules now style (tree_to depth now l)) behind) no_children
          ∙ ap (λ (t : dom.Tree). styled.node child (styled.text letters) style (styled_in rules now style t) behind) (no_tree depth now)
          ∙ ap (λ (n : Nodes). styled.node child (styled.text letters) style styled.none n) later
          ∙ ap (λ (b : Bool). styled.node child (styled.text (if b then letters else was)) style styled.none (set stood_behind)) (sym same)
          ∙ sym (ap (λ (t : dom.Tree). set (styled.node child (styled.text was) style (styled_in rules state style t) stood_behind)) (no_tree depth state))
          ∙ sym (ap (λ (l : List ℕ). set (styled.node child (styled.text was) style (styled_in rules state style (tree_to depth state l)) stood_behind)) no_children)
          ∙ sym (ap (λ (w : What). set (styled.node child (kind_of w) (style_at rules state child w style) (styled_in rules state (style_at rules state child w style) (tree_to depth state has.entry.children)) stood_behind)) has.text)
          ∙ sym (ap (λ (o : Option Entry). set (styled_in rules state style (tree_with o child (tree_to depth state) (tree_to (suc depth) state numbers)))) (ap state.node_at is ∙ has.here))

      -- another node, before others
      other_row : (entry : Entry) → state.node_at child ≡ Some entry → nat_eq child number ≡ false → SameLine child → IsSet depth (style_at rules state child entry.what style) entry.children → IsSet (suc depth) style (child ∷ numbers)
      unfolding tree_to styled_in
      other_row entry here apart lines inner =
          let kind : NodeKind = kind_of entry.what in
          let own : Style = style_at rules state child entry.what style in
          ap (λ (o : Option Entry). styled_in rules now style (tree_with o child (tree_to depth now) (tree_to (suc depth) now numbers))) (entry_there child apart ∙ here)
          ∙ ap (λ (s : Style). styled.node child kind s (styled_in rules now s (tree_to depth now entry.children)) behind) (same_style rules state now child entry.what style lines)
          ∙ ap (λ (n : Nodes). styled.node child kind own n behind) inner
          ∙ ap (λ (n : Nodes). styled.node child kind own (set (styled_in rules state own (tree_to depth state entry.children))) n) later
          ∙ ap (λ (k : NodeKind). styled.node child k own (set (styled_in rules state own (tree_to depth state entry.children))) (set stood_behind)) (sym (apart_kind number letters child kind apart))
          ∙ sym (ap (λ (o : Option Entry). set (styled_in rules state style (tree_with o child (tree_to depth state) (tree_to (suc depth) state numbers)))) here)

    module _ (depth : ℕ) (inner : (level upper : ℕ) → IsAtLevel state level upper → SameLine upper → (style : Style) (numbers : List ℕ) → AreInside upper numbers → IsSet depth style numbers)
        (level upper : ℕ) (at : IsAtLevel state level upper) (same : SameLine upper) (style : Style) where
      -- nodes that stand one after the other
      row : (numbers : List ℕ) → AreInside upper numbers → IsSet (suc depth) style numbers
      unfolding tree_to styled_in
      row [] within = refl
      row (child ∷ numbers) within =
          let there = within child (inl refl) in
          let later : IsSet (suc depth) style numbers = row numbers (λ other among. within other (inr among)) in
          elim (eqb_tells child number) [
            | inl (here, is) ↦ text_row depth style child numbers later is here
            | inr (apart, differs) ↦
                let (entry, here, stands) = child_lives state has.whole upper child there in
                let lines = child_line_stays level upper child at same there apart in
                let children : entry.children ≡ children_at state child = sym (ap (λ (o : Option Entry). children_of o) here) in
                let further : IsAtLevel state (suc level) child = (upper, at, contained child (children_at state upper) there) in
                other_row depth style child numbers later entry here apart lines
                (inner (suc level) child further lines (style_at rules state child entry.what style) entry.children (λ other among. subst (IsIn other) children among))
          ]

    -- at every depth
    rows : (depth level upper : ℕ) → IsAtLevel state level upper → SameLine upper → (style : Style) (numbers : List ℕ) → AreInside upper numbers → IsSet depth style numbers
    unfolding tree_to styled_in
    rows zero level upper at same style numbers within = refl
    rows (suc depth) level upper at same style numbers within = row depth (rows depth) level upper at same style numbers within

    -- ---- `html` and `body`

    abbrev html : Entry
    html = has.rooted.html.0

    abbrev body : Entry
    body = has.rooted.body.0

    html_apart : nat_eq 0 number ≡ false
    html_apart = element_apart 0 html has.rooted.html.1 has.rooted.html.2

    body_apart : nat_eq 1 number ≡ false
    body_apart = element_apart 1 body has.rooted.body.1 has.rooted.body.2

    body_inside : IsIn 1 (children_at state 0)
    body_inside = subst (IsIn 1) (sym (ap (λ (o : Option Entry). children_of o) has.rooted.html.1 ∙ has.rooted.html.4)) (inl refl)

    body_line : SameLine 1
    body_line = child_line_stays 0 0 1 refl html_line body_inside body_apart

    -- ---- styles of `html` and `body`

    html_style_stays : html_style rules now ≡ html_style rules state
    html_style_stays = ap (λ (l : List What). style_of initial (winners rules l initial)) html_line

    body_style_stays : body_style rules now ≡ body_style rules state
    body_style_stays =
        ap (λ (s : Style). unturned s (winners rules (line now 1) s)) html_style_stays
        ∙ ap (λ (l : List What). unturned (html_style rules state) (winners rules l (html_style rules state))) body_line

    -- ---- all of it

    abbrev html_kind : NodeKind
    html_kind = kind_of html.what

    abbrev body_kind : NodeKind
    body_kind = kind_of body.what

    abbrev own : Style
    own = body_style rules state

    abbrev outer : Style
    outer = root_style (html_style rules state) own

    abbrev inside : Nodes
    inside = styled_in rules state own (tree_to 62 state body.children)

    -- what stands in `body`
    in_body : IsSet 62 own body.children
    in_body =
        rows 62 1 1 (0, refl, contained 1 (children_at state 0) body_inside) body_line own body.children
        (λ child there. subst (IsIn child) (sym (ap (λ (o : Option Entry). children_of o) has.rooted.body.1)) there)

    pub document_set : styled_document rules now ≡ nodes_with number letters (styled_document rules state)
    document_set =
        page_is rules now html body (entry_there 0 html_apart ∙ has.rooted.html.1) has.rooted.html.4 (entry_there 1 body_apart ∙ has.rooted.body.1)
        ∙ ap (λ (s : Style). styled.node 0 html_kind (root_style s (body_style rules now)) (styled.node 1 body_kind (body_style rules now) (styled_in rules now (body_style rules now) (tree_to 62 now body.children)) styled.none) styled.none) html_style_stays
        ∙ ap (λ (s : Style). styled.node 0 html_kind (root_style (html_style rules state) s) (styled.node 1 body_kind s (styled_in rules now s (tree_to 62 now body.children)) styled.none) styled.none) body_style_stays
        ∙ ap (λ (n : Nodes). styled.node 0 html_kind outer (styled.node 1 body_kind own n styled.none) styled.none) in_body
        ∙ ap (λ (k : NodeKind). styled.node 0 k outer (styled.node 1 body_kind own (set inside) styled.none) styled.none) (sym (apart_kind number letters 0 html_kind html_apart))
        ∙ ap (λ (k : NodeKind). styled.node 0 (kind_with number letters 0 html_kind) outer (styled.node 1 k own (set inside) styled.none) styled.none) (sym (apart_kind number letters 1 body_kind body_apart))
        ∙ sym (ap (nodes_with number letters) (page_is rules state html body has.rooted.html.1 has.rooted.html.4 has.rooted.body.1))

    -- ---- white space

    module _ (same : is_blank letters ≡ is_blank was) where
      -- the letters in a styled tree are those of the document
      kind_blank : (child : ℕ) (entry : Entry) → state.node_at child ≡ Some entry → IsBlankAs number letters child (kind_of entry.what)
      kind_blank child entry stood = elim (eqb_tells child number) [
        | inl (here, is) ↦
            let one : entry ≡ has.entry = same_Some entry has.entry (sym stood ∙ ap state.node_at is ∙ has.here) in
            subst (λ (w : What). IsBlankAs number letters child (kind_of w)) (sym (ap (λ (e : Entry). e.what) one ∙ has.text)) (λ it. same)
        | inr (there, apart) ↦ apart_blank number letters child (kind_of entry.what) apart
      ]

      one_blank : (depth : ℕ) → ((style : Style) (numbers : List ℕ) → AreBlankAs number letters (styled_in rules state style (tree_to depth state numbers))) → (style : Style) (child : ℕ) (next : dom.Tree) (o : Option Entry)
          → state.node_at child ≡ o → AreBlankAs number letters (styled_in rules state style next) → AreBlankAs number letters (styled_in rules state style (tree_with o child (tree_to depth state) next))
      unfolding styled_in
      one_blank depth inner style child next None here later = later
      one_blank depth inner style child next (Some entry) here later = (kind_blank child entry here, inner (style_at rules state child entry.what style) entry.children, later)

      row_blank : (depth : ℕ) → ((style : Style) (numbers : List ℕ) → AreBlankAs number letters (styled_in rules state style (tree_to depth state numbers))) → (style : Style) (numbers : List ℕ)
          → AreBlankAs number letters (styled_in rules state style (tree_to (suc depth) state numbers))
      unfolding tree_to styled_in
      row_blank depth inner style [] = tt
      row_blank depth inner style (child ∷ numbers) = one_blank depth inner style child (tree_to (suc depth) state numbers) (state.node_at child) refl (row_blank depth inner style numbers)

      all_blank : (depth : ℕ) (style : Style) (numbers : List ℕ) → AreBlankAs number letters (styled_in rules state style (tree_to depth state numbers))
      unfolding tree_to styled_in
      all_blank zero style numbers = tt
      all_blank (suc depth) style numbers = row_blank depth (all_blank depth) style numbers

      pub document_blank : AreBlankAs number letters (styled_document rules state)
      document_blank =
          subst (AreBlankAs number letters) (sym (page_is rules state html body has.rooted.html.1 has.rooted.html.4 has.rooted.body.1))
          (kind_blank 0 html has.rooted.html.1, (kind_blank 1 body has.rooted.body.1, all_blank 62 own body.children, tt), tt)
