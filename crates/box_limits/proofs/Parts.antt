-- Only boxes on which an edit hangs can break the limit after it.
use Rattle.std.proofs.Common.{◌≡◌, ◌∙◌, ◌⊎◌, ℕ, zero, suc, ◌+◌, ◌<◌, Bool, true, false, List, [], ◌∷◌, refl, ap, sym, subst, arith, Option, Some, None, inl, inr}
use Rattle.std.specs.Prelude.{◌&&◌, nat_lt, is_some, option_map, unwrap_or, ⊤}
use Rattle.std.specs.List.{Contains}
use Rattle.wm_modes.specs.declared.mode.WritingMode.{WritingMode}
use Rattle.css_types.specs.Rule.{Ruling}
use Rattle.dom_store.specs.State.{What, text, Entry, State, IsElement, IsRooted, line, line_to, line_with}
use Rattle.dom_store.specs.Standing.{below_levels, children_at, lives}
use Rattle.dom_store.specs.Edits.{EditOf, after}
use Rattle.dom_store.specs.Laws.{KeepRoots}
use Rattle.tree_laws.specs.Laws.{EditsKeepWhole}
use Rattle.tree_laws.specs.Reached.{EditsKeepReached, IsAtLevel, IsReached}
use Rattle.tree_laws.specs.Wholeness.{IsWhole}
use Rattle.tree_laws.proofs.Parents.{children_have_parents}
use Rattle.tree_laws.proofs.Refusing.{lives_below}
use Rattle.style_tree.specs.Styling.{styled_document}
use Rattle.box_gen.specs.declared.role.Role.{Role}
use Rattle.box_gen.specs.declared.role.Role.TheVariants.{Nothing, Words, LineBreak, InlineBox, Atom, BlockLevel}
use Rattle.box_gen.specs.declared.site.Site.{Site}
use Rattle.box_gen.specs.Orthogonal.{most_orthogonal, root_past, turns_in}
use Rattle.box_gen.specs.Site as sites
use Rattle.box_gen.specs.Site.{in_node, is_container}
use Rattle.box_limits.specs.declared.place.Place.{Place}
use Rattle.box_limits.specs.Limits.{AreCovered, AreThoseThatBreak, EditsAreJudgedByTheirParts, part, touched}
use Rattle.box_limits.specs.Lines.{is_past, place_on, role_at, style_on}
use Rattle.box_limits.proofs.Among.{IsIn, contained, found, in_all, only}
use Rattle.box_limits.proofs.Judged.{documents_are_judged_by_lines, html_children}
use Rattle.box_limits.proofs.Levels.{child_below, child_line, first_below, line_is, no_line, up_to}
use Rattle.box_limits.proofs.Origins.{IsText, Origin, origin}
use Rattle.box_limits.proofs.Walks.{HasTwo, place_below}

-- ---- where no boxes are made

hides : (role : Role) (mode : WritingMode) (site : Site) → site.shown ≡ false → (in_node role mode site).shown ≡ false
hides Nothing mode site is = refl
hides Words mode site is = refl
hides LineBreak mode site is = refl
hides InlineBox mode site is = is
hides Atom mode site is = is
hides BlockLevel mode site is = is

not_past : (role : Role) (mode : WritingMode) (site : Site) → site.shown ≡ false → sites.is_past role mode site ≡ false
not_past role mode site is = ap (λ (b : Bool). b && (is_container role && nat_lt most_orthogonal (turns_in site.mode mode site.turns))) is

-- a line that says nothing, nor does one with others before it
record IsHidden (rules : List Ruling) (line : List What) : Type 0 where
  two : HasTwo line
  shown : (place_on rules line).site.shown ≡ false
  within : is_past rules line ≡ false

more_two : (what : What) (above : List What) → HasTwo above → HasTwo (what ∷ above)
more_two what [] two = absurd two
more_two what (other ∷ above) two = tt

hidden_below : (rules : List Ruling) (what : What) (above : List What) → IsHidden rules above → IsHidden rules (what ∷ above)
hidden_below rules what above hidden =
    let place = place_on rules above in
    let style = style_on rules (what ∷ above) what place.style in
    record {
      two = more_two what above hidden.two;
      shown = ap (λ (p : Place). p.site.shown) (place_below rules what above hidden.two) ∙ hides (role_at what style) style.mode place.site hidden.shown;
      within = not_past (role_at what style) style.mode place.site hidden.shown;
    }

and_false : (b : Bool) → (b && false) ≡ false
and_false true = refl
and_false false = refl

text_hidden : (rules : List Ruling) (letters : List ℕ) (above : List What) → HasTwo above → IsHidden rules (text letters ∷ above)
text_hidden rules letters above two = record {
  two = more_two (text letters) above two;
  shown = ap (λ (p : Place). p.site.shown) (place_below rules (text letters) above two);
  within = and_false (place_on rules above).site.shown;
}

-- ---- the nodes after an edit

not_element : (what : What) → IsText what → IsElement what → ⊥
not_element what (letters, is) here = subst IsElement is here

same_entry : (entry other : Entry) → Some entry ≡ Some other → entry ≡ other
same_entry entry other is = ap (λ (o : Option Entry). unwrap_or o entry) is

abbrev HasOne : List What → Type 0
HasOne [] = ⊥
HasOne (what ∷ above) = ⊤

two_from : (what : What) (above : List What) → HasOne above → HasTwo (what ∷ above)
two_from what [] one = absurd one
two_from what (other ∷ above) one = tt

module _ (next : State) (rooted : IsRooted next) (whole : IsWhole next) (reached : IsReached next) where
  holder : (o : Option Entry) (child : ℕ) → IsIn child (unwrap_or (option_map (λ entry. entry.children) o) []) → (entry : Entry) × (o ≡ Some entry)
  holder None child there = absurd there
  holder (Some entry) child there = (entry, refl)

  one_in : (number child : ℕ) → IsIn child (children_at next number) → HasOne (line next number)
  one_in number child there = let (entry, here) = holder (next.node_at number) child there in subst HasOne (sym (line_is next whole 63 number entry here)) tt

  -- below `html` a line has two
  pub two_at : (level number : ℕ) → IsAtLevel next (suc level) number → HasTwo (line next number)
  two_at level number (parent, above, there) =
      let among = found number (children_at next parent) there in
      let (entry, here, stands, lines) = child_line next whole reached level parent number above among in
      subst HasTwo (sym lines) (two_from entry.what (line next parent) (one_in parent number among))

  -- a text stands below `body`
  text_below : (level parent number : ℕ) (entry : Entry) → IsAtLevel next level parent → IsIn number (children_at next parent) → next.node_at number ≡ Some entry → IsText entry.what → HasTwo (line next parent)
  text_below zero parent number entry at there here told =
      let second : number ≡ 1 = only 1 number (subst (IsIn number) (html_children [] next rooted) (subst (λ (n : ℕ). IsIn number (children_at next n)) at there)) in
      let same : rooted.body.0 ≡ entry = same_entry rooted.body.0 entry (sym rooted.body.1 ∙ ap next.node_at (sym second) ∙ here) in
      absurd (not_element entry.what told (subst (λ (e : Entry). IsElement e.what) same rooted.body.2))
  text_below (suc level) parent number entry at there here told = two_at level parent at

module _ (rules : List Ruling) (state : State) (edit : EditOf) (rooted_before : IsRooted state) (whole_before : IsWhole state) (rooted : IsRooted (after state edit)) (whole : IsWhole (after state edit)) (reached : IsReached (after state edit)) where
  abbrev next : State
  next = after state edit

  -- in the part of the edit
  abbrev IsInside : (level number : ℕ) → Type 0
  IsInside level number = (first : ℕ) × IsIn first (touched state edit) × IsIn number (below_levels 0 (suc level) next first)

  -- it lived, with the same line
  abbrev IsSame : (number : ℕ) → Type 0
  IsSame number = (lives state number ≡ true) × ((most : ℕ) → line_to most next (Some number) ≡ line_to most state (Some number))

  abbrev Comes_to : (level number : ℕ) → Type 0
  Comes_to level number = IsInside level number ⊎ (IsHidden rules (line next number) ⊎ IsSame number)

  touched_inside : (level number : ℕ) → IsIn number (touched state edit) → IsInside level number
  touched_inside level number there = (number, there, first_below next level number)

  alive : (number : ℕ) (entry : Entry) → state.node_at number ≡ Some entry → lives state number ≡ true
  alive number entry is = ap (λ (o : Option Entry). is_some o) is

  -- where the parents have the same lines
  lines_same : (number : ℕ) (entry old : Entry) → next.node_at number ≡ Some entry → state.node_at number ≡ Some old → old.what ≡ entry.what
      → ((most : ℕ) → line_to most next entry.parent ≡ line_to most state old.parent) → (most : ℕ) → line_to most next (Some number) ≡ line_to most state (Some number)
  unfolding line_to
  lines_same number entry old here was whats above zero = refl
  lines_same number entry old here was whats above (suc most) =
      ap (line_with (line_to most next)) here
      ∙ ap (λ (l : List What). entry.what ∷ l) (above most)
      ∙ ap (λ (w : What). w ∷ line_to most state old.parent) (sym whats)
      ∙ sym (ap (line_with (line_to most state)) was)

  html_stays : (entry : Entry) → next.node_at 0 ≡ Some entry → entry.parent ≡ None → IsElement entry.what → Origin state edit 0 entry → Comes_to 0 0
  html_stays entry here top is (inl there) = inl (touched_inside 0 0 there)
  html_stays entry here top is (inr (inl (place, above))) = absurd (none_some place (sym top ∙ above))
    where
      none_some : (place : ℕ) → None ≡ Some (state.next + place) → ⊥
      none_some place both = cc
  html_stays entry here top is (inr (inr (inl (old, was, parents, told)))) = absurd (not_element entry.what told is)
  html_stays entry here top is (inr (inr (inr (old, was, parents, whats)))) =
      inr (inr (
        alive 0 old was,
        lines_same 0 entry old here was whats
            (λ most. ap (line_to most next) top ∙ no_line next whole most ∙ sym (ap (line_to most state) (parents ∙ top) ∙ no_line state whole_before most)),
      ))

  child_stays : (level parent number : ℕ) (entry : Entry) → IsAtLevel next level parent → IsIn number (children_at next parent) → next.node_at number ≡ Some entry → entry.parent ≡ Some parent
      → line next number ≡ entry.what ∷ line next parent → IsSame parent → Origin state edit number entry → Comes_to (suc level) number
  child_stays level parent number entry above there here stands lines same (inl first) = inl (touched_inside (suc level) number first)
  child_stays level parent number entry above there here stands lines (living, parents) (inr (inl (place, under))) =
      let is : parent ≡ state.next + place = ap (λ (o : Option ℕ). unwrap_or o parent) (sym stands ∙ under) in
      absurd (omega (arith, is, lives_below state whole_before parent living))
  child_stays level parent number entry above there here stands lines same (inr (inr (inl (old, was, parents, (letters, told))))) =
      let two = text_below next rooted whole reached level parent number entry above there here (letters, told) in
      inr (inl (subst (IsHidden rules) (sym (lines ∙ ap (λ (w : What). w ∷ line next parent) told)) (text_hidden rules letters (line next parent) two)))
  child_stays level parent number entry above there here stands lines (living, parents) (inr (inr (inr (old, was, over, whats)))) =
      inr (inr (
        alive number old was,
        lines_same number entry old here was whats
            (λ most. ap (line_to most next) stands ∙ parents most ∙ sym (ap (line_to most state) (over ∙ stands))),
      ))

  stays : (level number : ℕ) → IsAtLevel next level number → Comes_to level number
  stays zero number at =
      let html = rooted.html in
      subst (Comes_to 0) (sym at) (html_stays html.0 html.1 html.3 html.2 (origin state edit 0 html.0 html.1))
  stays (suc level) number (parent, above, contains) =
      let there = found number (children_at next parent) contains in
      let (entry, here, stands, lines) = child_line next whole reached level parent number above there in
      elim (stays level parent above) [
        | inl (first, among, at) ↦ inl (first, among, child_below next (suc level) first parent number at there)
        | inr (inl hidden) ↦ inr (inl (subst (IsHidden rules) (sym lines) (hidden_below rules entry.what (line next parent) hidden)))
        | inr (inr same) ↦ child_stays level parent number entry above there here stands lines same (origin state edit number entry here)
      ]

  inside_part : (level number : ℕ) → level < 64 → IsInside level number → Contains (part state edit) number
  inside_part level number within (first, among, at) =
      contained number (part state edit) (in_all (below_levels 0 64 next) number first (touched state edit) among (up_to next 64 (suc level) first number (omega (arith, within)) at))

  -- where no node broke the limit before
  judged : (numbers : List ℕ) → AreThoseThatBreak rules state numbers → numbers ≡ [] → AreCovered rules next (part state edit)
  judged numbers those empty number living good =
      let (level, within, at) = reached.reached number living in
      elim (stays level number at) [
        | inl inside ↦ inside_part level number within inside
        | inr (inl hidden) ↦ absurd (let both : false ≡ true = sym hidden.within ∙ good in cc)
        | inr (inr (lived, lines)) ↦
            let there : IsIn number numbers = found number numbers ((those number).1 (lived, ap (is_past rules) (sym (lines 64)) ∙ good)) in
            absurd (subst (IsIn number) empty there)
      ]

pub edits_are_judged : KeepRoots → EditsKeepWhole → EditsKeepReached → EditsAreJudgedByTheirParts
edits_are_judged keep_roots keep_whole keep_reached rules state edit fitting rooted whole reached accepted within =
    judged rules state edit rooted whole (keep_roots state edit rooted (children_have_parents state whole) accepted) (keep_whole state edit whole accepted) (keep_reached state edit fitting rooted whole reached accepted)
    (root_past (styled_document rules state)) (documents_are_judged_by_lines rules state rooted whole reached) within.turns
