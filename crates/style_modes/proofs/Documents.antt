-- The styled tree of a document whose declarations tie it to no mode, in each way.
use Rattle.std.proofs.Common.{◌≡◌, ◌∙◌, ℕ, false, List, refl, sym, ap}
use Rattle.std.proofs.lemmas.Bool.{true≢false}
use Rattle.wm_modes.specs.declared.mode.Direction.{Direction}
use Rattle.wm_modes.specs.declared.mode.Direction.TheVariants.{Ltr, Rtl}
use Rattle.wm_modes.specs.declared.mode.WritingMode.{WritingMode}
use Rattle.css_types.specs.Rule.{Ruling}
use Rattle.style_types.specs.declared.style.Display.TheVariants.{FlowRoot}
use Rattle.style_types.specs.declared.style.Style.{Style}
use Rattle.style_types.specs.declared.style.TextOrientation.{TextOrientation}
use Rattle.style_types.specs.declared.style.TextOrientation.TheVariants.{Mixed, Sideways, Upright}
use Rattle.style_types.specs.Initial.{initial}
use Rattle.style_types.specs.Style.{is_upright}
use Rattle.style_types.specs.Tree as styled
use Rattle.style_types.specs.Tree.{Nodes}
use Rattle.dom_store.specs.State as dom
use Rattle.dom_store.specs.State.{State, Tree, What, line, tree_of}
use Rattle.cascade.specs.Claims.{claims}
use Rattle.computed.specs.Step.{style_of}
use Rattle.computed.specs.Winners.{Winning}
use Rattle.style_tree.specs.Styling.{body_style, html_style, kind_of, orientation_in, root_style, style_at, styled_in, unturned, winners_at}
use Rattle.mode_ways.specs.Ways.{Way, across, down, left, right, mode_of, nodes_in, orientation_of, plain, style_in}
use Rattle.style_modes.specs.Turnable.{IsTurnable}
use Rattle.style_modes.specs.Turned.{TurnableDocumentsArePlain, TurnableDocumentsTurn, above, body_under, from_html_under, html_under}
use Rattle.style_modes.proofs.FreeClaims.{node_claims_free}
use Rattle.style_modes.proofs.Styles.{style_alike, used_alike}

module _ (way : Way) (rules : List Ruling) (state : State) (turnable : IsTurnable rules state) where
  at_alike : (number : ℕ) (what : What) (parent : Style) → style_at rules state number what (style_in way parent) ≡ style_in way (style_at rules state number what (style_in plain parent))
  at_alike number (dom.element tag id classes dir own) parent = style_alike way (claims rules (line state number)) parent (node_claims_free rules state turnable number)
  at_alike number (dom.text letters) parent = refl

at_plain : (rules : List Ruling) (state : State) (turnable : IsTurnable rules state) (number : ℕ) (what : What) (parent : Style)
    → style_in plain (style_at rules state number what (style_in plain parent)) ≡ style_at rules state number what (style_in plain parent)
at_plain rules state turnable number what parent = sym (at_alike plain rules state turnable number what parent)

node_ext : (number : ℕ) (kind : styled.NodeKind) {one other : Style} {inner below next behind : Nodes} → one ≡ other → inner ≡ below → next ≡ behind
    → styled.node number kind one inner next ≡ styled.node number kind other below behind
node_ext number kind {one = one} {other = other} {inner = inner} {below = below} {next = next} {behind = behind} style_ inner_ next_ =
    ap (λ (s : Style). styled.node number kind s inner next) style_
    ∙ ap (λ (n : Nodes). styled.node number kind other n next) inner_
    ∙ ap (styled.node number kind other below) next_

module _ (way : Way) (rules : List Ruling) (state : State) (turnable : IsTurnable rules state) where
  -- nodes one after the other, in an element of a style in the way
  styled_alike : (parent : Style) (tree : Tree) → styled_in rules state (style_in way parent) tree ≡ nodes_in way (styled_in rules state (style_in plain parent) tree)
  unfolding styled_in nodes_in
  styled_alike parent dom.none = refl
  styled_alike parent (dom.node number what inner next) =
      let own = style_at rules state number what (style_in plain parent) in
      node_ext number (kind_of what) (at_alike way rules state turnable number what parent)
      (ap (λ (s : Style). styled_in rules state s inner) (at_alike way rules state turnable number what parent)
      ∙ styled_alike own inner
      ∙ ap (λ (s : Style). nodes_in way (styled_in rules state s inner)) (at_plain rules state turnable number what parent))
      (styled_alike parent next)

-- ---- `html` and `body`

above_is : (way : Way) → above way ≡ style_in way initial
unfolding initial
above_is (across orientation combine) = refl
above_is down = refl
above_is (right orientation combine) = refl
above_is (left orientation combine) = refl

initial_is_plain : style_in plain initial ≡ initial
unfolding initial
initial_is_plain = refl

-- an element of this number whose parent's style is in the way
one_alike : (way : Way) (rules : List Ruling) (state : State) (turnable : IsTurnable rules state) (number : ℕ) (parent : Style)
    → style_of (style_in way parent) (winners_at rules state number (style_in way parent)) ≡ style_in way (style_of (style_in plain parent) (winners_at rules state number (style_in plain parent)))
one_alike way rules state turnable number parent = style_alike way (claims rules (line state number)) parent (node_claims_free rules state turnable number)

-- it doesn't turn against its parent
unturned_alike : (way : Way) (parent own : Style) (winners : Winning) → style_of (style_in way parent) winners ≡ style_in way own → unturned (style_in way parent) winners ≡ style_in way own
unturned_alike way parent own winners is =
    ap (λ (mode : WritingMode). style_of (record (style_in way parent) { mode = mode }) winners) (ap (λ (s : Style). s.mode) is) ∙ is

module _ (way : Way) (rules : List Ruling) (state : State) (turnable : IsTurnable rules state) where
  html_alike : html_under (above way) rules state ≡ style_in way (html_style rules state)
  html_alike =
      ap (λ (root : Style). style_of root (winners_at rules state 0 root)) (above_is way)
      ∙ one_alike way rules state turnable 0 initial
      ∙ ap (λ (root : Style). style_in way (style_of root (winners_at rules state 0 root))) initial_is_plain

html_plain : (rules : List Ruling) (state : State) (turnable : IsTurnable rules state) → style_in plain (html_style rules state) ≡ html_style rules state
html_plain rules state turnable =
    let is = ap (λ (root : Style). style_of root (winners_at rules state 0 root)) initial_is_plain in
    ap (style_in plain) (sym is) ∙ sym (one_alike plain rules state turnable 0 initial) ∙ is

module _ (way : Way) (rules : List Ruling) (state : State) (turnable : IsTurnable rules state) where
  -- `body` in an `html` whose style is in the way
  body_in_alike : unturned (style_in way (html_style rules state)) (winners_at rules state 1 (style_in way (html_style rules state))) ≡ style_in way (body_style rules state)
  body_in_alike =
      let html = html_style rules state in
      let plain_body : style_of (style_in plain html) (winners_at rules state 1 (style_in plain html)) ≡ style_in plain (style_of (style_in plain html) (winners_at rules state 1 (style_in plain html))) = one_alike plain rules state turnable 1 html in
      unturned_alike way html (style_of (style_in plain html) (winners_at rules state 1 (style_in plain html))) (winners_at rules state 1 (style_in way html)) (one_alike way rules state turnable 1 html)
      ∙ ap (style_in way) (plain_body
      ∙ sym (unturned_alike plain html (style_of (style_in plain html) (winners_at rules state 1 (style_in plain html))) (winners_at rules state 1 (style_in plain html)) plain_body)
      ∙ ap (λ (h : Style). unturned h (winners_at rules state 1 h)) (html_plain rules state turnable))

  body_alike : body_under (above way) rules state ≡ style_in way (body_style rules state)
  body_alike = ap (λ (h : Style). unturned h (winners_at rules state 1 h)) (html_alike way rules state turnable) ∙ body_in_alike

body_plain : (rules : List Ruling) (state : State) (turnable : IsTurnable rules state) → style_in plain (body_style rules state) ≡ body_style rules state
body_plain rules state turnable =
    sym (body_in_alike plain rules state turnable) ∙ ap (λ (h : Style). unturned h (winners_at rules state 1 h)) (html_plain rules state turnable)

orientation_stays : (dir : Direction) (orientation : TextOrientation) → is_upright orientation ≡ false → orientation_in dir orientation ≡ orientation
orientation_stays Ltr Mixed is = refl
orientation_stays Ltr Upright is = refl
orientation_stays Ltr Sideways is = refl
orientation_stays Rtl Mixed is = refl
orientation_stays Rtl Upright is = absurd (true≢false is)
orientation_stays Rtl Sideways is = refl

abbrev rooted : Way → (html : Style) → Direction → TextOrientation → Style
rooted way html dir orientation = record (style_in way html) { display = FlowRoot; mode = mode_of way; direction = dir; orientation = orientation }

root_alike : (way : Way) (html body : Style) → is_upright (orientation_of way) ≡ false → root_style (style_in way html) (style_in way body) ≡ style_in way (root_style (style_in plain html) (style_in plain body))
root_alike way html body upright =
    ap (λ (dir : Direction). rooted way html dir (orientation_in dir (orientation_of way))) (used_alike way body.direction)
    ∙ ap (rooted way html body.direction) (orientation_stays body.direction (orientation_of way) upright)

-- ---- a document

module _ (way : Way) (rules : List Ruling) (state : State) (upright : is_upright (orientation_of way) ≡ false) (turnable : IsTurnable rules state) where
  from_html_alike : (tree : Tree) → from_html_under (above way) rules state tree ≡ nodes_in way (from_html_under initial rules state tree)
  unfolding nodes_in
  from_html_alike dom.none = refl
  from_html_alike (dom.node number html dom.none next) = refl
  from_html_alike (dom.node number html (dom.node body_number body inner others) next) =
      let h = html_style rules state in
      let b = body_style rules state in
      node_ext number (kind_of html)
      (ap (λ (s : Style). root_style s (body_under (above way) rules state)) (html_alike way rules state turnable)
      ∙ ap (root_style (style_in way h)) (body_alike way rules state turnable)
      ∙ root_alike way h b upright
      ∙ ap (λ (s : Style). style_in way (root_style s (style_in plain b))) (html_plain rules state turnable)
      ∙ ap (λ (s : Style). style_in way (root_style h s)) (body_plain rules state turnable))
      (node_ext body_number (kind_of body) (body_alike way rules state turnable)
      (ap (λ (s : Style). styled_in rules state s inner) (body_alike way rules state turnable)
      ∙ styled_alike way rules state turnable b inner
      ∙ ap (λ (s : Style). nodes_in way (styled_in rules state s inner)) (body_plain rules state turnable))
      refl) refl

pub turnable_documents_turn : TurnableDocumentsTurn
turnable_documents_turn way rules state upright turnable = from_html_alike way rules state upright turnable (tree_of state)

pub turnable_documents_are_plain : TurnableDocumentsArePlain
unfolding initial
turnable_documents_are_plain rules state turnable = sym (turnable_documents_turn plain rules state refl turnable)
