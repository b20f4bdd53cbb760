-- What an edit leaves of what a session has for its next page.
use Rattle.std.proofs.Common.{◌≡◌, ◌∙◌, inl, refl, sym, ap, subst, ℕ, List, [], Option, Some, None}
use Rattle.std.specs.Prelude.{Contains, flat_map}
use Rattle.face_api.specs.Table.{Table}
use Rattle.fragment_types.specs.declared.constraint.Constraint.{Constraint}
use Rattle.fragment_types.specs.declared.item.BoxName.{BoxName}
use Rattle.style_types.specs.declared.style.Style.{Style}
use Rattle.dom_store.specs.State as dom
use Rattle.dom_store.specs.State.{IsRooted, state_of}
use Rattle.dom_store.specs.Standing.{ancestors_to, inclusive_ancestors}
use Rattle.tree_laws.specs.Reached.{IsReached}
use Rattle.tree_laws.specs.Wholeness.{IsWhole}
use Rattle.box_gen.specs.Boxes.{Blocks, Run, container, content, no_more, runs, then}
use Rattle.box_gen.specs.Places.{AreAlike, IsPlaceOf, NamesAreOfPlaces, Place, names, paragraphs}
use Rattle.box_gen.specs.Tree.{Boxes}
use Rattle.box_limits.proofs.Among.{contained, found, in_all}
use Rattle.box_arena.specs.At.{Node, Slots}
use Rattle.edits.specs.Change.{Change}
use Rattle.edits.specs.Edited.{after}
use Rattle.edits.specs.Exact.{ExactChange, exactly}
use Rattle.edits.specs.State.{State}
use Rattle.edit_scope.specs.Boxes.{PagesAreBoxesOfHtml, inside_of}
use Rattle.edit_scope.specs.Exactly.{ExactUnscopedPlaces, ExactUntouchedPlaces, TakesExactly, exact_reached, exact_scope}
use Rattle.edit_scope.specs.Laws.{Takes}
use Rattle.edit_scope.specs.Pages.{BoxesAreOfElements, KeepsMode, UnscopedPlaces, UntouchedPlaces, WasBox, WasTree, page_boxes}
use Rattle.edit_scope.specs.Scope.{element_style, every_element, reached, scope}
use Rattle.para_prepare.specs.Preparation.{Preparation}
use Rattle.relayout.specs.Asks.{Pair}
use Rattle.relayout.specs.Named.{FindsResult, FindsText, HasMode, HasResultOf, HasTextOf}
use Rattle.session.specs.declared.keeping.KeptBoxes.{KeptBoxes}
use Rattle.session.specs.declared.keeping.KeptBoxes.TheVariants.{Current, Former}
use Rattle.session.specs.declared.session.Session.{Session}
use Rattle.session.specs.Found.{HasResultIn, HasTextIn, KeepsAll, Loses, LosesExactly, LosesTouched, page_boxes_in}
use Rattle.session.specs.State.{IsSound, rules_in, state_in}

-- ---- what is found for a box that was there

alike_on : (one two three : Option Style) → AreAlike one two → AreAlike two three → AreAlike one three
alike_on None None three first second = second
alike_on None (Some two) three first second = absurd first
alike_on (Some one) None three first second = absurd first
alike_on (Some one) (Some two) None first second = absurd second
alike_on (Some one) (Some two) (Some three) first second = record { mode = first.mode ∙ second.mode; direction = first.direction ∙ second.direction; orientation = first.orientation ∙ second.orientation }

abbrev node_of_place : Place → Node
node_of_place place = record { name = place.name; style = place.style; content = place.content }

same_node : (was place : Place) → was.name ≡ place.name → was.style ≡ place.style → was.content ≡ place.content → node_of_place was ≡ node_of_place place
same_node was place name style held = cc

module _ (slots : Slots Preparation) where
  text_of_was : (was place : Place) → was.name ≡ place.name → was.style ≡ place.style → was.content ≡ place.content → HasTextOf slots was → HasTextOf slots place
  text_of_was was place name style held has = record { key = has.key; node = has.node ∙ ap (λ (node : Node). Some node) (same_node was place name style held); text = has.text }

  result_of_was : (was place : Place) (c : Constraint) → place ≡ record was { around = place.around } → AreAlike was.around place.around → HasResultOf slots was c → HasResultOf slots place c
  result_of_was was place c same alike has =
      let around : Option Style = place.around in
      let moved : HasResultOf slots (record was { around = around }) c = record { key = has.key; tree = has.tree; around = alike_on _ was.around around has.around alike; kept = has.kept } in
      subst (λ (p : Place). HasResultOf slots p c) (sym same) moved

  module _ (root : ℕ) (was is : Boxes) (mode : HasMode slots root was → HasMode slots root is) where
    text_found : (name : BoxName) → ((place : Place) → IsPlaceOf is place → place.name ≡ name → WasBox was place) → FindsText slots root was name → FindsText slots root is name
    text_found name stood has = record {
      mode = mode has.mode;
      text = λ place here same. let old = stood place here same in text_of_was old.was place old.name old.style old.content (has.text old.was old.stood (old.name ∙ same));
    }

    result_found : (pair : Pair) → ((place : Place) → IsPlaceOf is place → place.name ≡ pair.name → WasTree was place) → FindsResult slots root was pair → FindsResult slots root is pair
    result_found pair stood has = record {
      mode = mode has.mode;
      result = λ place here same.
          let old = stood place here same in
          let named : old.was.name ≡ pair.name = sym (ap (λ (p : Place). p.name) old.tree) ∙ same in
          result_of_was old.was place pair.constraint old.tree old.around (has.result old.was old.stood named);
    }

text_kept : (kept : Option KeptBoxes) (was is : Boxes) (name : BoxName) → ((slots : Slots Preparation) (root : ℕ) → FindsText slots root was name → FindsText slots root is name)
    → HasTextIn kept was name → HasTextIn kept is name
text_kept None was is name goes has = has
text_kept (Some (Current made)) was is name goes has = goes made.arena.slots made.root has
text_kept (Some (Former made)) was is name goes has = goes made.arena.slots made.root has

result_kept : (kept : Option KeptBoxes) (was is : Boxes) (pair : Pair) → ((slots : Slots Preparation) (root : ℕ) → FindsResult slots root was pair → FindsResult slots root is pair)
    → HasResultIn kept was pair → HasResultIn kept is pair
result_kept None was is pair goes has = has
result_kept (Some (Current made)) was is pair goes has = goes made.arena.slots made.root has
result_kept (Some (Former made)) was is pair goes has = goes made.arena.slots made.root has

-- ---- the mode of a page

container_mode : (slots : Slots Preparation) (root : ℕ) (was is : Style) (one other : Run) (behind others : Blocks) → is.mode ≡ was.mode → HasMode slots root (container 0 was one behind) → HasMode slots root (container 0 is other others)
container_mode slots root was is one other no_more no_more same mode = (mode.0, mode.1, mode.2 ∙ sym same)
container_mode slots root was is one other no_more (then block run others) same mode = (mode.0, mode.1, mode.2 ∙ sym same)
container_mode slots root was is one other (then block run behind) no_more same mode = (mode.0, mode.1, mode.2 ∙ sym same)
container_mode slots root was is one other (then block run behind) (then next more others) same mode = (mode.0, mode.1, mode.2 ∙ sym same)

module _ (html : PagesAreBoxesOfHtml) (old new : State) (before : IsRooted old.tree) (behind : IsRooted new.tree) (keeps : KeepsMode old new) (slots : Slots Preparation) (root : ℕ) where
  mode_stays : HasMode slots root (page_boxes old) → HasMode slots root (page_boxes new)
  mode_stays mode =
      let P : Boxes → Type 0 = λ page. HasMode slots root page in
      let was = runs [] (content (inside_of old.rules old.tree 63 0)) in
      let is = runs [] (content (inside_of new.rules new.tree 63 0)) in
      subst P (sym (html new.rules new.tree behind))
      (container_mode slots root (element_style old.rules old.tree 0) (element_style new.rules new.tree 0) was.first is.first was.others is.others keeps (subst P (html old.rules old.tree before) mode))

-- ---- an edit that leaves boxes

-- from one state to the next, which leave alone what isn't of these elements
module _ (html : PagesAreBoxesOfHtml) (held : NamesAreOfPlaces) (state next : State) (before : IsRooted state.tree) (behind : IsRooted next.tree) (scoped touched : List ℕ)
    (unscoped : (place : Place) → IsPlaceOf (page_boxes next) place → (Contains scoped place.name.node → ⊥) → WasBox (page_boxes state) place × KeepsMode state next)
    (untouched : (place : Place) → IsPlaceOf (page_boxes next) place → (Contains touched place.name.node → ⊥) → WasTree (page_boxes state) place × KeepsMode state next)
    (kept : Option KeptBoxes) where
  text_stays : (name : BoxName) → Contains (paragraphs (page_boxes next)) name → (Contains scoped name.node → ⊥)
      → Contains (paragraphs (page_boxes state)) name × (HasTextIn kept (page_boxes state) name → HasTextIn kept (page_boxes next) name)
  text_stays name here apart =
      let there = λ (place : Place) (at : IsPlaceOf (page_boxes next) place) (same : place.name ≡ name).
      unscoped place at (λ within. apart (subst (λ (n : BoxName). Contains scoped n.node) same within)) in
      let (place, items, at, same, holds) = held.holds (page_boxes next) name here in
      let own = there place at same in (
        subst (λ (n : BoxName). Contains (paragraphs (page_boxes state)) n) (own.0.name ∙ same) (held.paragraph (page_boxes state) own.0.was items own.0.stood (own.0.content ∙ holds)),
        text_kept kept (page_boxes state) (page_boxes next) name (λ slots root.
            text_found slots root (page_boxes state) (page_boxes next) (mode_stays html state next before behind own.1 slots root) name (λ place at same. (there place at same).0)),
      )

  result_stays : (pair : Pair) → Contains (names (page_boxes next)) pair.name → (Contains touched pair.name.node → ⊥)
      → Contains (names (page_boxes state)) pair.name × (HasResultIn kept (page_boxes state) pair → HasResultIn kept (page_boxes next) pair)
  result_stays pair here apart =
      let there = λ (place : Place) (at : IsPlaceOf (page_boxes next) place) (same : place.name ≡ pair.name).
      untouched place at (λ within. apart (subst (λ (n : BoxName). Contains touched n.node) same within)) in
      let (place, at, same) = held.place (page_boxes next) pair.name here in
      let own = there place at same in
      let named : own.0.was.name ≡ pair.name = sym (ap (λ (p : Place). p.name) own.0.tree) ∙ same in (
        subst (λ (n : BoxName). Contains (names (page_boxes state)) n) named (held.name (page_boxes state) own.0.was own.0.stood),
        result_kept kept (page_boxes state) (page_boxes next) pair (λ slots root.
            result_found slots root (page_boxes state) (page_boxes next) (mode_stays html state next before behind own.1 slots root) pair (λ place at same. (there place at same).0)),
      )

  loses_by : {I : Type 0} {D : I → Type 0} (old new : Session I D) → page_boxes_in old ≡ page_boxes state → page_boxes_in new ≡ page_boxes next → old.boxes ≡ kept
      → KeepsAll kept new.boxes (page_boxes next) → Loses old new scoped touched
  loses_by old new was page same keeps = record {
    texts = λ name here apart.
        let stays = text_stays name (subst (λ (p : Boxes). Contains (paragraphs p) name) page here) apart in
        let P : Option KeptBoxes → Boxes → Type 0 = λ (boxes : Option KeptBoxes) (p : Boxes). HasTextIn boxes p name in
        record {
          was = subst (λ (p : Boxes). Contains (paragraphs p) name) (sym was) stays.0;
          has = λ has. subst (P new.boxes) (sym page) (keeps.texts name (stays.1 (subst (λ (boxes : Option KeptBoxes). P boxes (page_boxes state)) same (subst (P old.boxes) was has))));
        };
    results = λ pair here apart.
        let stays = result_stays pair (subst (λ (p : Boxes). Contains (names p) pair.name) page here) apart in
        let P : Option KeptBoxes → Boxes → Type 0 = λ (boxes : Option KeptBoxes) (p : Boxes). HasResultIn boxes p pair in
        record {
          was = subst (λ (p : Boxes). Contains (names p) pair.name) (sym was) stays.0;
          has = λ has. subst (P new.boxes) (sym page) (keeps.results pair (stays.1 (subst (λ (boxes : Option KeptBoxes). P boxes (page_boxes state)) same (subst (P old.boxes) was has))));
        };
  }

module _ {I : Type 0} {D : I → Type 0} (before : List (Option Table)) (old new : Session I D) where
  pub loses_touched : (change : Change) → PagesAreBoxesOfHtml → NamesAreOfPlaces → UnscopedPlaces → UntouchedPlaces → Takes (state_in before old) change → IsRooted (state_of new.document)
      → state_in before new ≡ after (state_in before old) change → KeepsAll old.boxes new.boxes (page_boxes (after (state_in before old) change)) → LosesTouched before old new change
  loses_touched change html held unscoped untouched takes rooted same keeps =
      let state : State = state_in before old in
      let next : State = after state change in
      loses_by html held state next takes.rooted (subst (λ (s : State). IsRooted s.tree) same rooted) (scope state change) (reached state change)
      (λ place. unscoped state change place takes) (λ place. untouched state change place takes) old.boxes old new refl (ap page_boxes same) refl keeps

  pub loses_exactly : (edit : ExactChange) → PagesAreBoxesOfHtml → NamesAreOfPlaces → ExactUnscopedPlaces → ExactUntouchedPlaces → TakesExactly (state_in before old) edit
      → state_in before new ≡ exactly (state_in before old) edit → KeepsAll old.boxes new.boxes (page_boxes (exactly (state_in before old) edit)) → LosesExactly before old new edit
  loses_exactly edit html held unscoped untouched takes same keeps =
      let state : State = state_in before old in
      loses_by html held state (exactly state edit) takes.before.rooted takes.later.rooted (exact_scope state edit) (exact_reached state edit)
      (λ place. unscoped state edit place takes) (λ place. untouched state edit place takes) old.boxes old new refl (ap page_boxes same) refl keeps

-- ---- an edit that has every element in its scope

in_reached : (tree : dom.State) (numbers : List ℕ) (number : ℕ) → Contains numbers number → Contains (flat_map (inclusive_ancestors tree) numbers) number
unfolding ancestors_to
in_reached tree numbers number there = contained number (flat_map (inclusive_ancestors tree) numbers) (in_all (inclusive_ancestors tree) number number numbers (found number numbers there) (inl refl))

module _ {I : Type 0} {D : I → Type 0} (held : NamesAreOfPlaces) (of_elements : BoxesAreOfElements) (before : List (Option Table)) (old new : Session I D)
    (same : state_of new.document ≡ state_of old.document) (sound : IsSound before old) where
  module _ (scoped : List ℕ) (all : scoped ≡ every_element (state_of old.document)) (tree : dom.State) where
    in_scope : (name : BoxName) (place : Place) → IsPlaceOf (page_boxes_in new) place → place.name ≡ name → Contains scoped name.node
    in_scope name place here named =
        let own = sound.document in
        let there : Contains (every_element (state_of new.document)) place.name.node =
        of_elements (rules_in new) (state_of new.document) place (subst IsRooted (sym same) own.rooted) (subst IsWhole (sym same) own.whole) (subst IsReached (sym same) own.reached) here in
        subst (λ (numbers : List ℕ). Contains numbers name.node) (sym all)
        (subst (λ (tree : dom.State). Contains (every_element tree) name.node) same (subst (λ (n : BoxName). Contains (every_element (state_of new.document)) n.node) named there))

    loses_each : Loses old new scoped (flat_map (inclusive_ancestors tree) scoped)
    loses_each = record {
      texts = λ name here apart. let (place, items, at, named, holds) = held.holds (page_boxes_in new) name here in absurd (apart (in_scope name place at named));
      results = λ pair here apart.
          let (place, at, named) = held.place (page_boxes_in new) pair.name here in
          absurd (apart (in_reached tree scoped pair.name.node (in_scope pair.name place at named)));
    }

  pub loses_all : (change : Change) → scope (state_in before old) change ≡ every_element (state_of old.document) → LosesTouched before old new change
  loses_all change all = loses_each (scope (state_in before old) change) all (after (state_in before old) change).tree

  pub loses_all_exactly : (edit : ExactChange) → exact_scope (state_in before old) edit ≡ every_element (state_of old.document) → LosesExactly before old new edit
  loses_all_exactly edit all = loses_each (exact_scope (state_in before old) edit) all (exactly (state_in before old) edit).tree
