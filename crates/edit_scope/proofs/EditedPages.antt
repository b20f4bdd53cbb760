-- What an edit leaves of the boxes of a page, told by where they stand.
use Rattle.std.proofs.Common.{◌≡◌, ◌∙◌, ◌⊎◌, ℕ, zero, suc, true, List, refl, ap, sym, subst, Option, Some, None, inl, inr}
use Rattle.std.specs.Prelude.{flat_map}
use Rattle.std.specs.List.{Contains}
use Rattle.style_types.specs.declared.style.Display.TheVariants.{Inline}
use Rattle.style_types.specs.declared.style.Style.{Style}
use Rattle.css_types.specs.Rule.{Ruling}
use Rattle.dom_store.specs.State as dom
use Rattle.dom_store.specs.State.{IsRooted, line}
use Rattle.dom_store.specs.Standing.{inclusive_ancestors, parent_at}
use Rattle.dom_store.specs.Edits as tree
use Rattle.dom_store.specs.Refusals.{is_element, is_of}
use Rattle.tree_laws.specs.Reached.{IsReached}
use Rattle.tree_laws.specs.Wholeness.{IsWhole}
use Rattle.tree_laws.proofs.Levels.{IsBelow, below_child, parent_of_child}
use Rattle.style_tree.specs.Styling.{styled_document}
use Rattle.box_gen.specs.Boxes.{Role, content, root_boxes}
use Rattle.box_gen.specs.Places.{AreAlike, IsAmong, IsPlaceOf, Place, RunAlike}
use Rattle.box_gen.specs.Tree.{Boxes}
use Rattle.box_limits.proofs.Among.{IsIn, contained, found}
use Rattle.edits.specs.Change.{of_tree, metric, retire, rule, unrule}
use Rattle.edits.specs.Edited.{after}
use Rattle.edit_scope.specs.Boxes.{Shell, box_of, inside_of, own_boxes}
use Rattle.edit_scope.specs.Pages.{BoxesAreOfElements, UnscopedPlaces, UntouchedPlaces, WasBox, WasTree}
use Rattle.edit_scope.specs.Scope.{display_at, element_style, every_element, holder_above, tree_scope}
use Rattle.edit_scope.proofs.BoxLaws.{around_stays, root_stays, style_above}
use Rattle.edit_scope.proofs.ContentLaws.{body, content_stays}
use Rattle.edit_scope.proofs.EditLaws.{takes_tree}
use Rattle.edit_scope.proofs.HolderLaws.{child_of_parent, is_reached}
use Rattle.edit_scope.proofs.InsideLaws.{IsShell, inner_of, inner_there, is_box, is_inline, right_shell, shell_of, shell_there}
use Rattle.edit_scope.proofs.LineLaws.{every_in, same_above}
use Rattle.edit_scope.proofs.PlaceLaws.{IsAround, IsBoxed, IsFound, IsShown, Stands, boxed_apart, boxed_element, page_found, role_for, role_in, stands}
use Rattle.edit_scope.proofs.Taking.{IsTaken, what_at}
use Rattle.edit_scope.proofs.Untouched.{box_stays}

-- ---- boxes that stand in boxes whose lines run alike

alike_all : (around : Option Style) → AreAlike around around
alike_all None = tt
alike_all (Some style) = record { mode = refl; direction = refl; orientation = refl }

same_lines : (one other both : Style) → RunAlike one both → RunAlike other both → RunAlike one other
same_lines one other both first second = record {
  mode = first.mode ∙ sym second.mode;
  direction = first.direction ∙ sym second.direction;
  orientation = first.orientation ∙ sym second.orientation;
}

alike_by : (rules : List Ruling) (state now : dom.State) (number : ℕ) (one other : Option Style) → IsAround rules state number one → IsAround rules now number other
    → element_style rules now (holder_above rules now number) ≡ element_style rules state (holder_above rules state number) → AreAlike one other
alike_by rules state now zero one other here there same = subst (λ (o : Option Style). AreAlike o other) (sym here) (subst (AreAlike None) (sym there) tt)
alike_by rules state now (suc number) None other here there same = absurd here
alike_by rules state now (suc number) (Some one) None here there same = absurd there
alike_by rules state now (suc number) (Some one) (Some other) here there same =
    same_lines one other (element_style rules state (holder_above rules state (suc number))) here (subst (RunAlike other) same there)

-- ---- an edit of the tree

module _ (rules : List Ruling) (state now : dom.State) (scoped : List ℕ) (t : IsTaken rules state now scoped) (place : Place)
    (stood : IsPlaceOf (root_boxes (styled_document rules now)) place) (outside : IsIn place.name.node scoped → ⊥) where
  abbrev number : ℕ
  number = place.name.node

  unfoldable is_found : IsFound rules now place
  is_found = page_found rules now t.later.rooted t.later.whole t.later.reached place stood

  element : is_of is_element now number ≡ true
  element = boxed_element rules now t.later.rooted t.later.whole t.later.reached number is_found.boxed

  apart : display_at rules now number ≡ Inline → ⊥
  apart = boxed_apart rules now t.later.rooted t.later.whole t.later.reached number is_found.boxed

  lines : number ≡ 0 → line now 1 ≡ line state 1
  lines = body rules state now scoped t number element apart outside

  -- ---- it was shown

  role_before : (levels upper : ℕ) → IsBelow now upper levels number → role_for rules now upper ≡ role_for rules state upper
  role_before levels upper below =
      ap (λ (o : Option dom.What). role_in o (element_style rules now upper)) (same_above rules state now scoped t number element outside levels upper below).whats
      ∙ ap (role_in (what_at state upper)) (style_above rules state now scoped t number element outside lines upper levels below)

  shown_before : (level upper levels : ℕ) → IsBelow now upper levels number → IsShown rules now level upper → IsShown rules state level upper
  shown_before zero upper levels below shown = shown
  shown_before (suc level) upper levels below (parent, shown, there, is) =
      let parent_was : parent_at state upper ≡ Some parent = sym (same_above rules state now scoped t number element outside levels upper below).parent ∙ parent_of_child now t.later.whole parent upper there in (
        parent,
        shown_before level parent (suc levels) (below_child now levels parent upper number there below) shown,
        (child_of_parent state t.before.whole t.before.reached upper parent parent_was).0,
        subst (λ (r : Role). (is_inline r ≡ true) ⊎ (is_box r ≡ true)) (role_before levels upper below) is,
      )

  boxed_before : IsBoxed rules now number → IsBoxed rules state number
  boxed_before (inl html) = inl html
  boxed_before (inr boxed) = inr (subst (λ (r : Role). is_box r ≡ true) (role_before 0 number refl) boxed)

  stood_before : Stands rules state t.before.rooted t.before.whole t.before.reached is_found.depth number
  stood_before =
      stands rules state t.before.rooted t.before.whole t.before.reached is_found.level is_found.depth number is_found.sum (shown_before is_found.level number 0 refl is_found.shown) (boxed_before is_found.boxed)

  -- ---- it was there

  own_shell : IsShell (shell_of place) (own_boxes (box_of rules now is_found.depth number))
  own_shell = elim is_found.here [
    | inl (itself, around) ↦ subst (λ (b : Boxes). IsShell (shell_of place) (own_boxes b)) itself (inl refl)
    | inr (anonymous, among) ↦ right_shell (box_of rules now is_found.depth number) (shell_of place) anonymous.1
  ]

  box_was : WasBox (root_boxes (styled_document rules state)) place
  box_was =
      let same = content_stays rules state now scoped t number element apart outside is_found.depth in
      let (around, is, hosts) = stood_before in
      let (was, among, shell) = shell_there around (box_of rules state is_found.depth number) (shell_of place) (subst (IsShell (shell_of place)) same own_shell) in
      record {
        was = was;
        stood = hosts was among;
        name = ap (λ (s : Shell). s.name) shell;
        style = ap (λ (s : Shell). s.style) shell;
        content = ap (λ (s : Shell). s.content) shell;
      }

  mode_stays : (element_style rules now 0).mode ≡ (element_style rules state 0).mode
  mode_stays = ap (λ (s : Style). s.mode) (root_stays rules state now scoped t number element outside lines)

  -- ---- with all inside it

  module _ (away : IsIn number (flat_map (inclusive_ancestors now) scoped) → ⊥) where
    tree_was : WasTree (root_boxes (styled_document rules state)) place
    tree_was =
        let same = box_stays rules state now scoped t number element apart away is_found.depth in
        let style = style_above rules state now scoped t number element outside lines number 0 refl in
        let (around, is, hosts) = stood_before in
        elim is_found.here [
          | inl (itself, here) ↦
              let was : Place = record { around = around; name = place.name; style = place.style; content = place.content; inner = place.inner } in
              record {
                was = was;
                stood = hosts was (subst (λ (b : Boxes). IsAmong around b was) (itself ∙ same) (inl refl));
                tree = refl;
                around = alike_by rules state now number around place.around is here (around_stays rules state now scoped t number element outside lines);
              }
          | inr (anonymous, among) ↦
              record {
                was = place;
                stood =
                    hosts place
                    (inner_there number (element_style rules state number) (content (inside_of rules state is_found.depth number)) around place
                    (subst (λ (s : Style). IsAmong (Some s) (inner_of (box_of rules state is_found.depth number)) place) style
                    (subst (λ (b : Boxes). IsAmong (Some (element_style rules now number)) (inner_of b) place) same among)));
                tree = refl;
                around = alike_all place.around;
              }
        ]

-- ---- each box is of an element

pub boxes_of_elements : BoxesAreOfElements
boxes_of_elements rules state place rooted whole reached stood =
    let number = place.name.node in
    let is_found = page_found rules state rooted whole reached place stood in
    contained number (every_element state) (every_in state reached number (boxed_element rules state rooted whole reached number is_found.boxed))

-- ---- in the words of the laws

module _ (rules : List Ruling) (state now : dom.State) (scoped : List ℕ) (t : IsTaken rules state now scoped) (place : Place) (stood : IsPlaceOf (root_boxes (styled_document rules now)) place) where
  abbrev Keeps : Type 0
  Keeps = (element_style rules now 0).mode ≡ (element_style rules state 0).mode

  pub was_box : (Contains scoped place.name.node → ⊥) → WasBox (root_boxes (styled_document rules state)) place × Keeps
  was_box outside =
      let out : IsIn place.name.node scoped → ⊥ = λ there. outside (contained place.name.node scoped there) in
      (box_was rules state now scoped t place stood out, mode_stays rules state now scoped t place stood out)

  pub was_tree : (Contains (flat_map (inclusive_ancestors now) scoped) place.name.node → ⊥) → WasTree (root_boxes (styled_document rules state)) place × Keeps
  was_tree outside =
      let away : IsIn place.name.node (flat_map (inclusive_ancestors now) scoped) → ⊥ = λ there. outside (contained place.name.node (flat_map (inclusive_ancestors now) scoped) there) in
      let out : IsIn place.name.node scoped → ⊥ = λ there. away (is_reached now scoped place.name.node there) in
      (tree_was rules state now scoped t place stood out away, mode_stays rules state now scoped t place stood out)

-- an edit that has every element in its scope leaves no box out
module _ {A : Type 0} (rules : List Ruling) (state : dom.State) (place : Place) (rooted : IsRooted state) (whole : IsWhole state) (reached : IsReached state)
    (stood : IsPlaceOf (root_boxes (styled_document rules state)) place) where
  pub all_scoped : (Contains (every_element state) place.name.node → ⊥) → A
  all_scoped outside = absurd (outside (boxes_of_elements rules state place rooted whole reached stood))

  pub all_touched : (Contains (flat_map (inclusive_ancestors state) (every_element state)) place.name.node → ⊥) → A
  all_touched outside =
      all_scoped (λ there. outside (contained place.name.node (flat_map (inclusive_ancestors state) (every_element state)) (is_reached state (every_element state) place.name.node (found place.name.node (every_element state) there))))

-- ---- each edit

pub unscoped_places : UnscopedPlaces
unscoped_places state (of_tree edit) place takes stood outside = was_box state.rules state.tree (tree.after state.tree edit) (tree_scope state.rules state.tree edit) (takes_tree state edit takes) place stood outside
unscoped_places state (metric face c upright value) place takes stood outside = all_scoped state.rules state.tree place takes.rooted takes.whole takes.reached stood outside
unscoped_places state (retire face) place takes stood outside = all_scoped state.rules state.tree place takes.rooted takes.whole takes.reached stood outside
unscoped_places state (rule rules) place takes stood outside = all_scoped (after state (rule rules)).rules state.tree place takes.rooted takes.whole takes.reached stood outside
unscoped_places state (unrule index) place takes stood outside = all_scoped (after state (unrule index)).rules state.tree place takes.rooted takes.whole takes.reached stood outside

pub untouched_places : UntouchedPlaces
untouched_places state (of_tree edit) place takes stood outside = was_tree state.rules state.tree (tree.after state.tree edit) (tree_scope state.rules state.tree edit) (takes_tree state edit takes) place stood outside
untouched_places state (metric face c upright value) place takes stood outside = all_touched state.rules state.tree place takes.rooted takes.whole takes.reached stood outside
untouched_places state (retire face) place takes stood outside = all_touched state.rules state.tree place takes.rooted takes.whole takes.reached stood outside
untouched_places state (rule rules) place takes stood outside = all_touched (after state (rule rules)).rules state.tree place takes.rooted takes.whole takes.reached stood outside
untouched_places state (unrule index) place takes stood outside = all_touched (after state (unrule index)).rules state.tree place takes.rooted takes.whole takes.reached stood outside
