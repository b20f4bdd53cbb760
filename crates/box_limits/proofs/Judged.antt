-- The boxes of a document break the limit exactly where the line of a node says so.
use Rattle.std.proofs.Common.{◌≡◌, ◌∙◌, ℕ, zero, suc, ◌<◌, ◌≤◌, Bool, true, false, List, [], ◌∷◌, ◌++◌, append-nil, refl, ap, sym, subst, arith, Option, inl}
use Rattle.std.specs.Prelude.{flat_map, filter, option_map, unwrap_or}
use Rattle.wm_modes.specs.declared.mode.WritingMode.{WritingMode}
use Rattle.wm_modes.specs.declared.mode.WritingMode.TheVariants.{HorizontalTb, VerticalRl, VerticalLr, SidewaysRl, SidewaysLr}
use Rattle.style_types.specs.declared.style.Style.{Style}
use Rattle.style_types.specs.Initial.{initial}
use Rattle.css_types.specs.Rule.{Ruling}
use Rattle.style_types.specs.Tree as styled
use Rattle.style_types.specs.Tree.{Nodes}
use Rattle.dom_store.specs.State as dom
use Rattle.dom_store.specs.State.{What, Entry, State, IsRooted, line, tree_of, tree_to, tree_with}
use Rattle.dom_store.specs.Standing.{below_levels, children_at, lives}
use Rattle.tree_laws.specs.Reached.{IsAtLevel, IsReached}
use Rattle.tree_laws.specs.Wholeness.{IsWhole}
use Rattle.cascade.specs.Winners.{winners}
use Rattle.computed.specs.Step.{style_of}
use Rattle.style_tree.specs.Styling.{body_style, from_html, html_style, kind_of, root_style, styled_document, styled_in, unturned, winners_at}
use Rattle.box_gen.specs.declared.role.Role.{Role}
use Rattle.box_gen.specs.declared.role.Role.TheVariants.{Nothing, Words, LineBreak, InlineBox, Atom, BlockLevel}
use Rattle.box_gen.specs.Found.{past_from}
use Rattle.box_gen.specs.Orthogonal.{put_if, root_past, turns_in}
use Rattle.box_gen.specs.Site as sites
use Rattle.box_gen.specs.Site.{in_root}
use Rattle.box_gen.proofs.Sites.{past_ends, past_steps}
use Rattle.box_limits.specs.declared.place.Place.{Place}
use Rattle.box_limits.specs.Limits.{AreThoseThatBreak, DocumentsAreJudgedByLines, breaks}
use Rattle.box_limits.specs.Lines.{body_style_on, html_style_on, is_past, place_in_body, place_on, role_at}
use Rattle.box_limits.proofs.Among.{IsIn, contained, found, in_all, kept, of_one, only, passes}
use Rattle.box_limits.proofs.Levels.{child_below, first_below, line_is, no_line, up_to}
use Rattle.box_limits.proofs.Walks.{HasTwo, breaking_lives, walks}

-- ---- `body`

no_turns : (mode : WritingMode) → turns_in mode mode 0 ≡ 0
no_turns HorizontalTb = refl
no_turns VerticalRl = refl
no_turns VerticalLr = refl
no_turns SidewaysRl = refl
no_turns SidewaysLr = refl

pub body_past : (role : Role) (mode : WritingMode) → sites.is_past role mode (in_root mode) ≡ false
body_past Nothing mode = refl
body_past Words mode = refl
body_past LineBreak mode = refl
body_past InlineBox mode = refl
body_past Atom mode = rw (no_turns mode) refl
body_past BlockLevel mode = rw (no_turns mode) refl

-- a line says nothing of `html` and `body`
html_within : (rules : List Ruling) (html : What) → is_past rules (html ∷ []) ≡ false
unfolding place_on
html_within rules html = refl

body_within : (rules : List Ruling) (body html : What) → is_past rules (body ∷ html ∷ []) ≡ false
unfolding place_on
body_within rules body html = refl

-- ---- a document

module _ (rules : List Ruling) (state : State) (rooted : IsRooted state) where
  unfoldable pub html : Entry
  html = rooted.html.0

  unfoldable pub body : Entry
  body = rooted.body.0

  body_children : children_at state 1 ≡ body.children
  unfolding body
  body_children = ap (λ (o : Option Entry). unwrap_or (option_map (λ entry. entry.children) o) []) rooted.body.1

  pub html_children : children_at state 0 ≡ 1 ∷ []
  html_children = ap (λ (o : Option Entry). unwrap_or (option_map (λ entry. entry.children) o) []) rooted.html.1 ∙ rooted.html.4

  -- the tree begins with the two
  two : tree_of state ≡ dom.node 0 html.what (dom.node 1 body.what (tree_to 62 state body.children) dom.none) dom.none
  unfolding tree_to html body
  two =
      ap (λ (o : Option Entry). tree_with o 0 (tree_to 63 state) dom.none) rooted.html.1
      ∙ ap (λ (l : List ℕ). dom.node 0 html.what (tree_to 63 state l) dom.none) rooted.html.4
      ∙ ap (λ (o : Option Entry). dom.node 0 html.what (tree_with o 1 (tree_to 62 state) dom.none) dom.none) rooted.body.1

  module _ (whole : IsWhole state) (reached : IsReached state) where
    html_line : line state 0 ≡ html.what ∷ []
    unfolding html
    html_line = line_is state whole 63 0 html rooted.html.1 ∙ ap (λ (l : List What). html.what ∷ l) (ap (dom.line_to 63 state) rooted.html.3 ∙ no_line state whole 63)

    body_line : line state 1 ≡ body.what ∷ html.what ∷ []
    unfolding html body
    body_line =
        line_is state whole 63 1 body rooted.body.1
        ∙ ap (λ (l : List What). body.what ∷ l) (ap (dom.line_to 63 state) rooted.body.3 ∙ line_is state whole 62 0 html rooted.html.1 ∙ ap (λ (l : List What). html.what ∷ l) (ap (dom.line_to 62 state) rooted.html.3 ∙ no_line state whole 62))

    html_style_is : html_style rules state ≡ html_style_on rules html.what
    html_style_is = ap (λ (l : List What). style_of initial (winners rules l initial)) html_line

    body_style_is : body_style rules state ≡ body_style_on rules body.what html.what
    body_style_is =
        ap (λ (s : Style). unturned s (winners_at rules state 1 s)) html_style_is
        ∙ ap (λ (l : List What). unturned (html_style_on rules html.what) (winners rules l (html_style_on rules html.what))) body_line

    abbrev pub own : Style
    own = body_style rules state

    abbrev pub body_place : Place
    body_place = place_in_body body.what own

    pub body_place_is : body_place ≡ place_on rules (line state 1)
    unfolding place_on
    body_place_is = ap (place_in_body body.what) body_style_is ∙ ap (place_on rules) (sym body_line)

    body_at : IsAtLevel state 1 1
    body_at = (0, refl, contained 1 (children_at state 0) (subst (IsIn 1) (sym html_children) (inl refl)))

    body_has_two : HasTwo (line state 1)
    body_has_two = subst HasTwo (sym body_line) tt

    abbrev pub inner : Nodes
    inner = styled_in rules state own (tree_to 62 state body.children)

    -- what is walked from `body` on
    walked : past_from (in_root own.mode) (styled.node 1 (kind_of body.what) own inner styled.none) ≡ filter (breaks rules state) (flat_map (below_levels 0 62 state) (children_at state 1))
    walked =
        past_steps (in_root own.mode) 1 (kind_of body.what) own inner styled.none
        ∙ ap (λ (l : List ℕ). put_if (sites.is_past (role_at body.what own) own.mode (in_root own.mode)) 1 (past_from body_place.site inner) ++ l) (past_ends (in_root own.mode))
        ∙ append-nil _
        ∙ ap (λ (b : Bool). put_if b 1 (past_from body_place.site inner)) (body_past (role_at body.what own) own.mode)
        ∙ ap (λ (l : List ℕ). past_from body_place.site (styled_in rules state own (tree_to 62 state l))) (sym body_children)
        ∙ walks rules state whole reached 62 1 1 body_place (children_at state 1) body_at body_has_two body_place_is (λ number among. among)

    first_level : (parent number : ℕ) → parent ≡ 0 → IsIn number (children_at state parent) → number ≡ 1
    first_level parent number is there = only 1 number (subst (IsIn number) html_children (subst (λ (n : ℕ). IsIn number (children_at state n)) is there))

    under : (level number : ℕ) → IsAtLevel state (suc (suc level)) number → IsIn number (flat_map (below_levels 0 (suc level) state) (children_at state 1))
    under zero number (parent, (root, is, there), here) =
        let second : parent ≡ 1 = first_level root parent is (found parent (children_at state root) there) in
        in_all (below_levels 0 1 state) number number (children_at state 1) (subst (λ (n : ℕ). IsIn number (children_at state n)) second (found number (children_at state parent) here)) (first_below state 0 number)
    under (suc level) number (parent, above, here) =
        let (first, among, at) = of_one (below_levels 0 (suc level) state) parent (children_at state 1) (under level parent above) in
        in_all (below_levels 0 (suc (suc level)) state) number first (children_at state 1) among (child_below state (suc level) first parent number at (found number (children_at state parent) here))

    further : (most level number : ℕ) → level ≤ most → IsIn number (flat_map (below_levels 0 level state) (children_at state 1)) → IsIn number (flat_map (below_levels 0 most state) (children_at state 1))
    further most level number within there =
        let (first, among, at) = of_one (below_levels 0 level state) number (children_at state 1) there in
        in_all (below_levels 0 most state) number first (children_at state 1) among (up_to state most level first number within at)

    -- it stands in `body`
    placed : (level number : ℕ) → level < 64 → IsAtLevel state level number → breaks rules state number ≡ true → IsIn number (flat_map (below_levels 0 62 state) (children_at state 1))
    placed zero number within at good =
        absurd (let both : false ≡ true = sym (html_within rules html.what) ∙ ap (is_past rules) (sym html_line) ∙ ap (breaks rules state) (sym at) ∙ good in cc)
    placed (suc zero) number within (root, is, there) good =
        let second : number ≡ 1 = first_level root number is (found number (children_at state root) there) in
        absurd (let both : false ≡ true = sym (body_within rules body.what html.what) ∙ ap (is_past rules) (sym body_line) ∙ ap (breaks rules state) (sym second) ∙ good in cc)
    placed (suc (suc level)) number within at good = further 62 (suc level) number (omega (arith, within)) (under level number at)

    pub placed_at : (number : ℕ) → lives state number ≡ true → breaks rules state number ≡ true → IsIn number (flat_map (below_levels 0 62 state) (children_at state 1))
    placed_at number living good = let (level, within, at) = reached.reached number living in placed level number within at good

    -- and in `body` with all levels
    pub placed_below : (number : ℕ) → lives state number ≡ true → breaks rules state number ≡ true → IsIn number (flat_map (below_levels 0 64 state) (children_at state 1))
    placed_below number living good = further 64 62 number (omega arith) (placed_at number living good)

    those : (numbers : List ℕ) → numbers ≡ past_from (in_root own.mode) (styled.node 1 (kind_of body.what) own inner styled.none) → AreThoseThatBreak rules state numbers
    those numbers are number =
        let as_listed : numbers ≡ filter (breaks rules state) (flat_map (below_levels 0 62 state) (children_at state 1)) = are ∙ walked in (
          λ there.
              let good : breaks rules state number ≡ true = passes (breaks rules state) number (flat_map (below_levels 0 62 state) (children_at state 1)) (subst (IsIn number) as_listed (found number numbers there)) in
              (breaking_lives rules state number good, good),
          λ (living, good).
              contained number numbers (subst (IsIn number) (sym as_listed) (kept (breaks rules state) number (flat_map (below_levels 0 62 state) (children_at state 1)) (placed_at number living good) good)),
        )

    styled_as : styled_document rules state
        ≡ styled.node 0 (kind_of html.what) (root_style (html_style rules state) own) (styled.node 1 (kind_of body.what) own (styled_in rules state own (tree_to 62 state body.children)) styled.none) styled.none
    styled_as = ap (from_html rules state) two

    pub past_are : AreThoseThatBreak rules state (root_past (styled_document rules state))
    past_are = those (root_past (styled_document rules state)) (ap root_past styled_as)

pub documents_are_judged_by_lines : DocumentsAreJudgedByLines
documents_are_judged_by_lines = past_are
