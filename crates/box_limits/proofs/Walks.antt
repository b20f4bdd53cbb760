-- The walk over styled nodes lists those whose lines break the limit.
use Rattle.std.proofs.Common.{◌≡◌, ◌∙◌, ℕ, zero, suc, Bool, true, false, List, [], ◌∷◌, ◌++◌, refl, ap, sym, subst, Option, Some, None, inl, inr}
use Rattle.std.specs.Prelude.{flat_map, filter, ⊤, option_map, unwrap_or, is_some}
use Rattle.style_types.specs.declared.style.Style.{Style}
use Rattle.css_types.specs.Rule.{Ruling}
use Rattle.dom_store.specs.State as dom
use Rattle.dom_store.specs.State.{What, Entry, State, line, line_to, line_with, tree_to, tree_with}
use Rattle.dom_store.specs.Standing.{below_levels, children_at, lives}
use Rattle.tree_laws.specs.Reached.{IsAtLevel, IsReached}
use Rattle.tree_laws.specs.Wholeness.{IsWhole}
use Rattle.style_tree.specs.Styling.{kind_of, style_at, styled_in}
use Rattle.box_gen.specs.Found.{past_from}
use Rattle.box_gen.specs.Orthogonal.{put_if}
use Rattle.box_gen.specs.Site as sites
use Rattle.box_gen.proofs.Sites.{past_ends, past_steps}
use Rattle.box_limits.specs.declared.place.Place.{Place}
use Rattle.box_limits.specs.Limits.{breaks}
use Rattle.box_limits.specs.Lines.{is_past, place_in, place_on, role_at, style_on}
use Rattle.box_limits.proofs.Among.{IsIn, contained, filter_both, filter_put}
use Rattle.box_limits.proofs.Levels.{below_is, child_line}

-- ---- the place in a node

abbrev pub HasTwo : List What → Type 0
HasTwo [] = ⊥
HasTwo (what ∷ []) = ⊥
HasTwo (what ∷ parent ∷ others) = ⊤

pub place_below : (rules : List Ruling) (what : What) (above : List What) → HasTwo above
    → place_on rules (what ∷ above) ≡ place_in what (style_on rules (what ∷ above) what (place_on rules above).style) (place_on rules above)
unfolding place_on
place_below rules what [] two = absurd two
place_below rules what (one ∷ []) two = absurd two
place_below rules what (one ∷ other ∷ others) two = refl

pub style_at_is : (rules : List Ruling) (state : State) (number : ℕ) (what : What) (parent : Style) → style_at rules state number what parent ≡ style_on rules (line state number) what parent
style_at_is rules state number (dom.element tag id classes dir own) parent = refl
style_at_is rules state number (dom.text letters) parent = refl

-- a node that breaks the limit lives
pub breaking_lives : (rules : List Ruling) (state : State) (number : ℕ) → breaks rules state number ≡ true → lives state number ≡ true
unfolding line_to
breaking_lives rules state number good = by_entry (state.node_at number) refl
  where
    by_entry : (o : Option Entry) → state.node_at number ≡ o → is_some o ≡ true
    by_entry None is = absurd (let none : line state number ≡ [] = ap (line_with (line_to 63 state)) is in let both : false ≡ true = ap (is_past rules) (sym none) ∙ good in cc)
    by_entry (Some entry) is = refl

-- ---- a whole walk

no_level : (state : State) (numbers : List ℕ) → flat_map (below_levels 0 0 state) numbers ≡ []
unfolding below_levels
no_level state [] = refl
no_level state (number ∷ numbers) = no_level state numbers

module _ (rules : List Ruling) (state : State) (whole : IsWhole state) (reached : IsReached state) where
  -- what is walked in a node
  abbrev Walks : (depth level parent : ℕ) (place : Place) (numbers : List ℕ) → Type 0
  Walks depth level parent place numbers = IsAtLevel state level parent → HasTwo (line state parent) → place ≡ place_on rules (line state parent)
      → ((number : ℕ) → IsIn number numbers → IsIn number (children_at state parent))
      → past_from place.site (styled_in rules state place.style (tree_to depth state numbers)) ≡ filter (breaks rules state) (flat_map (below_levels 0 depth state) numbers)

  module _ (depth level parent : ℕ) (place : Place) (at : IsAtLevel state level parent) (two : HasTwo (line state parent)) (is : place ≡ place_on rules (line state parent))
      (inner : (level parent : ℕ) (place : Place) (numbers : List ℕ) → Walks depth level parent place numbers) where
    module _ (number : ℕ) (there : IsIn number (children_at state parent)) (entry : Entry) (here : state.node_at number ≡ Some entry) (lines : line state number ≡ entry.what ∷ line state parent) where
      abbrev own : Style
      own = style_at rules state number entry.what place.style

      abbrev as_line : Style
      as_line = style_on rules (entry.what ∷ line state parent) entry.what (place_on rules (line state parent)).style

      own_is : own ≡ as_line
      own_is =
          style_at_is rules state number entry.what place.style
          ∙ ap (λ (l : List What). style_on rules l entry.what place.style) lines
          ∙ ap (λ (p : Place). style_on rules (entry.what ∷ line state parent) entry.what p.style) is

      abbrev own_place : Place
      own_place = place_in entry.what own place

      own_place_is : own_place ≡ place_on rules (line state number)
      own_place_is =
          ap (λ (s : Style). place_in entry.what s place) own_is
          ∙ ap (place_in entry.what as_line) is
          ∙ sym (place_below rules entry.what (line state parent) two)
          ∙ ap (place_on rules) (sym lines)

      says_own : breaks rules state number ≡ sites.is_past (role_at entry.what own) own.mode place.site
      says_own =
          ap (is_past rules) lines
          ∙ ap (λ (p : Place). sites.is_past (role_at entry.what as_line) as_line.mode p.site) (sym is)
          ∙ ap (λ (s : Style). sites.is_past (role_at entry.what s) s.mode place.site) (sym own_is)

      has_two : (above : List What) → HasTwo above → HasTwo (entry.what ∷ above)
      has_two [] both = absurd both
      has_two (what ∷ above) both = tt

      below_own : past_from own_place.site (styled_in rules state own (tree_to depth state entry.children)) ≡ filter (breaks rules state) (flat_map (below_levels 0 depth state) (children_at state number))
      below_own =
          let same : entry.children ≡ children_at state number = sym (ap (λ (o : Option Entry). unwrap_or (option_map (λ entry. entry.children) o) []) here) in
          ap (λ (l : List ℕ). past_from own_place.site (styled_in rules state own (tree_to depth state l))) same
          ∙ inner (suc level) number own_place (children_at state number) (parent, at, contained number (children_at state parent) there)
          (subst HasTwo (sym lines) (has_two (line state parent) two)) own_place_is (λ child among. among)

      pub one_walks : (others : List ℕ) → past_from place.site (styled_in rules state place.style (tree_to (suc depth) state others)) ≡ filter (breaks rules state) (flat_map (below_levels 0 (suc depth) state) others)
          → past_from place.site (styled_in rules state place.style (tree_to (suc depth) state (number ∷ others))) ≡ filter (breaks rules state) (flat_map (below_levels 0 (suc depth) state) (number ∷ others))
      unfolding tree_to styled_in
      one_walks others later =
          let passes = sites.is_past (role_at entry.what own) own.mode place.site in
          let next = styled_in rules state place.style (tree_to (suc depth) state others) in
          let lower = flat_map (below_levels 0 depth state) (children_at state number) in
          let rest = flat_map (below_levels 0 (suc depth) state) others in
          ap (λ (o : Option Entry). past_from place.site (styled_in rules state place.style (tree_with o number (tree_to depth state) (tree_to (suc depth) state others)))) here
          ∙ past_steps place.site number (kind_of entry.what) own (styled_in rules state own (tree_to depth state entry.children)) next
          ∙ ap (λ (l : List ℕ). put_if passes number l ++ past_from place.site next) below_own
          ∙ ap (λ (b : Bool). put_if b number (filter (breaks rules state) lower) ++ past_from place.site next) (sym says_own)
          ∙ ap (λ (l : List ℕ). put_if (breaks rules state number) number (filter (breaks rules state) lower) ++ l) later
          ∙ ap (λ (l : List ℕ). l ++ filter (breaks rules state) rest) (sym (filter_put (breaks rules state) number lower))
          ∙ sym (filter_both (breaks rules state) (number ∷ lower) rest)
          ∙ ap (λ (l : List ℕ). filter (breaks rules state) (l ++ rest)) (sym (below_is state depth number))

    pub all_walk : (numbers : List ℕ) → ((number : ℕ) → IsIn number numbers → IsIn number (children_at state parent))
        → past_from place.site (styled_in rules state place.style (tree_to (suc depth) state numbers)) ≡ filter (breaks rules state) (flat_map (below_levels 0 (suc depth) state) numbers)
    unfolding tree_to styled_in
    all_walk [] within = past_ends place.site
    all_walk (number ∷ numbers) within =
        let there = within number (inl refl) in
        let (entry, here, stands, lines) = child_line state whole reached level parent number at there in
        one_walks number there entry here lines numbers (all_walk numbers (λ other among. within other (inr among)))

  pub walks : (depth level parent : ℕ) (place : Place) (numbers : List ℕ) → Walks depth level parent place numbers
  unfolding tree_to styled_in
  walks zero level parent place numbers at two is within = past_ends place.site ∙ sym (ap (filter (breaks rules state)) (no_level state numbers))
  walks (suc depth) level parent place numbers at two is within = all_walk depth level parent place at two is (walks depth) numbers within
