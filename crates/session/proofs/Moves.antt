-- Undo and redo: an exact edit leads to the next document of the history.
use Rattle.std.proofs.Common.{◌≡◌, ◌∙◌, ℕ, Bool, List, [], ◌∷◌, ◌++◌, drop, refl, ap, sym, subst, Option, Some, IfSome, option_map, IsTrue}
use Rattle.std.specs.Prelude.{⊤}
use Rattle.face_api.specs.Table.{Table}
use Rattle.wm_units.specs.View.{IsView}
use Rattle.wm_units.specs.declared.view.View.{View}
use Rattle.css_types.specs.Rule.{Ruling}
use Rattle.dom_store.specs.State as dom
use Rattle.dom_store.specs.State.{state_of}
use Rattle.cascade.specs.Index.{index_rules}
use Rattle.cascade.specs.declared.index.RuleIndex.{RuleIndex}
use Rattle.style_tree.specs.Styling.{styled_document}
use Rattle.box_gen.specs.Places.{NamesAreOfPlaces}
use Rattle.edits.specs.Exact.{CanBeDone, ExactChange, exact_tree, put_rules, take_rules, StepOf, exactly}
use Rattle.edits.specs.State.{State}
use Rattle.edit_scope.specs.Boxes.{PagesAreBoxesOfHtml}
use Rattle.edit_scope.specs.Exactly.{ExactUnscopedPlaces, ExactUntouchedPlaces, IsDocument}
use Rattle.edit_scope.specs.Pages.{BoxesAreOfElements}
use Rattle.undo_log.specs.History.{Standing, standing_of, state_with}
use Rattle.undo_log.specs.Laws.{StandForStates}
use Rattle.undo_log.specs.Log.{Log, gone_down, gone_up, next_ahead, next_back}
use Rattle.session.specs.declared.keeping.KeptBoxes.{KeptBoxes}
use Rattle.session.specs.declared.session.Session.{Session}
use Rattle.session.specs.Document.{CanBeOpen, most_bytes}
use Rattle.session.specs.Found.{LosesExactly}
use Rattle.session.specs.History.{IsHistory, Opened, ahead_to, back_to, but_last, redone, undone}
use Rattle.session.specs.Setting.{CanSetExactly, StepSetsAlike}
use Rattle.session.specs.State.{AreKept, HasHistory, Holds, IsSound, rules_in, state_in, styled_in}
use Rattle.session.specs.Undoing.{BoxesGoOn, IndexStays, IsDoneBy, LeadsTo, bare}
use Rattle.session.proofs.Histories.{Goes, goes_ahead, goes_back}
use Rattle.session.proofs.Losing.{loses_all_exactly, loses_exactly}
use Rattle.session.proofs.SetTexts.{can_set_exactly}

-- ---- faces don't matter to an exact edit

pub can_bare : (state : State) (edit : ExactChange) → CanBeDone state edit → CanBeDone (bare state.tree state.rules) edit
can_bare state (exact_tree edit) can = can
can_bare state (put_rules index rules) can = can
can_bare state (take_rules index count) can = can

pub done_whole : (faces : List (Option Table)) (tree next : dom.State) (rules others : List Ruling) (edit : ExactChange) → bare next others ≡ exactly (bare tree rules) edit
    → record { tree = next; rules = others; faces = faces } ≡ exactly (record { tree = tree; rules = rules; faces = faces }) edit
done_whole faces tree next rules others (exact_tree edit) is = ap (λ (s : State). record { tree = s.tree; rules = s.rules; faces = faces }) is
done_whole faces tree next rules others (put_rules index more) is = ap (λ (s : State). record { tree = s.tree; rules = s.rules; faces = faces }) is
done_whole faces tree next rules others (take_rules index count) is = ap (λ (s : State). record { tree = s.tree; rules = s.rules; faces = faces }) is

-- ---- what is kept

index_fits : (state : State) (edit : ExactChange) (index left : Option RuleIndex) → IndexStays index edit left → IfSome index (λ index. index_rules index ≡ state.rules)
    → IfSome left (λ index. index_rules index ≡ (exactly state edit).rules)
index_fits state (exact_tree edit) index left stays fits = subst (λ (o : Option RuleIndex). IfSome o (λ index. index_rules index ≡ state.rules)) (sym stays) fits
index_fits state (put_rules at more) index left stays fits = subst (λ (o : Option RuleIndex). IfSome o (λ index. index_rules index ≡ (exactly state (put_rules at more)).rules)) (sym stays) tt
index_fits state (take_rules at count) index left stays fits = subst (λ (o : Option RuleIndex). IfSome o (λ index. index_rules index ≡ (exactly state (take_rules at count)).rules)) (sym stays) tt

-- where it is alike, letters can be set
abbrev pub CanSetWhere : (alike : Bool) → dom.State → ExactChange → Type 0
CanSetWhere alike state (exact_tree edit) = IsTrue alike → CanSetExactly state edit
CanSetWhere alike state (put_rules at more) = ⊤
CanSetWhere alike state (take_rules at count) = ⊤

boxes_go_on : (faces : List (Option Table)) (view : View) (state : State) (edit : ExactChange) (alike : Bool) (boxes left : Option KeptBoxes) → BoxesGoOn alike boxes edit left → CanSetWhere alike state.tree edit
    → IfSome boxes (AreKept faces view (styled_document state.rules state.tree)) → IfSome left (AreKept faces view (styled_document (exactly state edit).rules (exactly state edit).tree))
boxes_go_on faces view state (exact_tree edit) alike boxes left goes can kept = goes.kept faces view state.rules state.tree can kept
boxes_go_on faces view state (put_rules at more) alike boxes left goes can kept =
    subst (λ (o : Option KeptBoxes). IfSome o (AreKept faces view (styled_document (exactly state (put_rules at more)).rules state.tree))) (sym goes) tt
boxes_go_on faces view state (take_rules at count) alike boxes left goes can kept =
    subst (λ (o : Option KeptBoxes). IfSome o (AreKept faces view (styled_document (exactly state (take_rules at count)).rules state.tree))) (sym goes) tt

can_where : (state opened : State) (edit : ExactChange) (alike : Bool) → CanBeOpen most_bytes state → CanBeOpen most_bytes opened → opened ≡ exactly state edit
    → (IsTrue alike → StepSetsAlike state.tree edit) → CanSetWhere alike state.tree edit
can_where state opened (exact_tree edit) alike before behind is sets = λ true. can_set_exactly state opened edit before behind (ap (λ (s : State). s.tree) is) (sets true)
can_where state opened (put_rules at more) alike before behind is sets = tt
can_where state opened (take_rules at count) alike before behind is sets = tt

-- ---- a move of a session

-- it leads to this document, whatever history it has
pub record MovesTo (goes : Opened → Option Opened) (state : State) (log left : Log StepOf) (edit : ExactChange) (most : ℕ) (history : Log Standing) : Type 0 where
  pub later : Standing
  pub others : Log Standing
  pub is : goes (record { state = state; history = history }) ≡ Some (record { state = state_with state.tree.next later; history = others })
  pub goes_there : Goes state.tree.next most (standing_of state) edit left later others

module _ (laws : StandForStates) (state : State) (log : Log StepOf) (step : StepOf) (most : ℕ) (history : Log Standing) (is : IsHistory state.tree.next most log history (standing_of state)) where
  pub moves_back : next_back log ≡ Some step → MovesTo undone state log (gone_down log) step.back most history
  moves_back next =
      let (earlier, last, went) = goes_back laws state.tree.next most log (standing_of state) history is step next in
      record {
        later = earlier;
        others = record { past = but_last history.past; future = standing_of state ∷ history.future };
        is = ap (option_map (back_to (record { state = state; history = history }))) last;
        goes_there = went;
      }

  pub moves_ahead : next_ahead log ≡ Some step → MovesTo redone state log (gone_up log) step.again most history
  moves_ahead next =
      let (later, first, went) = goes_ahead laws state.tree.next most log (standing_of state) history is step next in
      record {
        later = later;
        others = record { past = history.past ++ standing_of state ∷ []; future = drop 1 history.future };
        is = ap (option_map (ahead_to (record { state = state; history = history }))) first;
        goes_there = went;
      }

module _ {I : Type 0} {D : I → Type 0} (faces : List (Option Table)) (old new : Session I D) (edit : ExactChange) (left : Log StepOf) (goes : Opened → Option Opened)
    (moves : (most : ℕ) (history : Log Standing) → HasHistory faces most old history → MovesTo goes (state_in faces old) old.log left edit most history)
    (done : IsDoneBy faces faces old new edit left) where
  there : (most : ℕ) (history : Log Standing) (has : HasHistory faces most old history)
      → (next : Opened) × (goes (record { state = state_in faces old; history = history }) ≡ Some next) × Holds faces most new next
  there most history has =
      let to = moves most history has in
      let drawn = (state_of old.document).next in
      let is : state_in faces new ≡ state_with drawn to.later = done.state ∙ to.goes_there.leads in
      let P : State → Log StepOf → Type 0 = λ (s : State) (l : Log StepOf). IsHistory s.tree.next most l to.others (standing_of s) in (
        record { state = state_with drawn to.later; history = to.others },
        to.is,
        record { state = is; history = subst (P (state_in faces new)) (sym done.log) (subst (λ (s : State). P s left) (sym is) to.goes_there.is) },
      )

  pub leads_to : LeadsTo goes faces faces old new
  leads_to = λ most opened holds.
      subst (λ (s : State). (next : Opened) × (goes (record { state = s; history = opened.history }) ≡ Some next) × Holds faces most new next) holds.state
      (there most opened.history holds.history)

  module _ (sound : IsSound faces old) (same_view : new.view ≡ old.view) (index : IndexStays old.index edit new.index)
      (alike : Bool) (sets : IsTrue alike → StepSetsAlike (state_of old.document) edit) (boxes : BoxesGoOn alike old.boxes edit new.boxes) where
    -- it holds a document that can be open
    open_there : CanBeOpen most_bytes (state_in faces new)
    open_there =
        let to = moves most_bytes sound.history.0 sound.history.1 in
        subst (CanBeOpen most_bytes) (sym (done.state ∙ to.goes_there.leads)) to.goes_there.is.here

    pub sound_there : IsSound faces new
    sound_there =
        let state = state_in faces old in
        let there_ = there most_bytes sound.history.0 sound.history.1 in
        record {
          document = open_there;
          index = subst (λ (rules : List Ruling). IfSome new.index (λ index. index_rules index ≡ rules)) (sym (ap (λ (s : State). s.rules) done.state)) (index_fits state edit old.index new.index index sound.index);
          view = subst (λ (view : View). IsView view) (sym same_view) sound.view;
          ready =
              subst (λ (s : State). IfSome new.boxes (AreKept faces new.view (styled_document s.rules s.tree))) (sym done.state)
              (boxes_go_on faces new.view state edit alike old.boxes new.boxes boxes (can_where state (state_in faces new) edit alike sound.document open_there done.state sets)
              (subst (λ (view : View). IfSome old.boxes (AreKept faces view (styled_in old))) (sym same_view) sound.ready));
          history = (there_.0.history, there_.2.history);
        }

    module _ (html : PagesAreBoxesOfHtml) (held : NamesAreOfPlaces) (elements : BoxesAreOfElements) (unscoped : ExactUnscopedPlaces) (untouched : ExactUntouchedPlaces) where
      document_of : (state : State) → CanBeOpen most_bytes state → IsDocument state.tree
      document_of state can = record { rooted = can.rooted; whole = can.whole; reached = can.reached; leaves = can.leaves }

      by_kind : (kind : ExactChange) → kind ≡ edit → LosesExactly faces old new kind
      by_kind (exact_tree own) is =
          let to = moves most_bytes sound.history.0 sound.history.1 in
          let state = state_in faces old in
          let led : state_in faces new ≡ exactly state (exact_tree own) = done.state ∙ ap (exactly state) (sym is) in
          loses_exactly faces old new (exact_tree own) html held unscoped untouched (record {
            can = subst (CanBeDone state) (sym is) to.goes_there.can;
            before = document_of state sound.document;
            later = document_of (exactly state (exact_tree own)) (subst (CanBeOpen most_bytes) led open_there);
          }) led
          ((subst (λ (e : ExactChange). BoxesGoOn alike old.boxes e new.boxes) (sym is) boxes).keeps faces old.view (rules_in old) (state_of old.document)
          (subst (CanSetWhere alike (state_of old.document)) (sym is) (can_where state (state_in faces new) edit alike sound.document open_there done.state sets)) sound.ready)
      by_kind (put_rules at more) is =
          let state = state_in faces old in
          loses_all_exactly held elements faces old new (ap (λ (s : State). s.tree) (done.state ∙ ap (exactly state) (sym is))) sound (put_rules at more) refl
      by_kind (take_rules at count) is =
          let state = state_in faces old in
          loses_all_exactly held elements faces old new (ap (λ (s : State). s.tree) (done.state ∙ ap (exactly state) (sym is))) sound (take_rules at count) refl

      pub loses_there : LosesExactly faces old new edit
      loses_there = by_kind edit refl
