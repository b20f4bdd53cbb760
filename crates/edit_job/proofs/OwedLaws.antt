-- What the steps of a script owe to pages, and what a session has for them.
use Rattle.std.proofs.Common.{◌≡◌, ◌⊎◌, ◌∙◌, refl, sym, ap, subst, arith, inl, inr, ℕ, ◌≤◌, Bool, true, false, not, List, [], ◌∷◌, ◌++◌, Contains, Option, None, Some, filter, option_map, Err}
use Rattle.std.proofs.lemmas.Bool.{eqb-true, not-false, not-true}
use Rattle.std.proofs.lemmas.Cmp.{nat_eq_equiv}
use Rattle.std.proofs.lemmas.List.Elements.{All-contains, All-contains_itself, All-filter, Contains-append_left, Contains-append_right, filter_passes}
use Rattle.std.proofs.lemmas.Map.Views.{Contains-from_any, list_any-from_Contains}
use Rattle.face_api.specs.Table.{Table}
use Rattle.wm_units.specs.declared.view.View.{View}
use Rattle.fragment_types.specs.declared.item.BoxName.{BoxName}
use Rattle.box_gen.specs.Places.{NamesAreOfPlaces, names, paragraphs}
use Rattle.box_gen.specs.Tree.{Boxes}
use Rattle.edits.specs.Change.{Change}
use Rattle.edits.specs.Edited.{after}
use Rattle.edits.specs.Exact.{ExactChange, StepOf, exactly}
use Rattle.undo_log.specs.Log.{Log, gone_down, gone_up, next_ahead, next_back}
use Rattle.edit_scope.specs.Exactly.{exact_reached, exact_scope}
use Rattle.edit_scope.specs.Pages.{BoxesAreOfElements, page_boxes}
use Rattle.edit_scope.specs.Scope.{reached, scope}
use Rattle.edit_script.specs.Meaning.{Step, show, edit, undo, redo}
use Rattle.edit_script.specs.Script.{StepAt}
use Rattle.relayout.specs.Asks.{Pair, asks, is_among}
use Rattle.relayout.proofs.MetPairs.{among_contained, asked_named, contains_none}
use Rattle.session.specs.declared.error.ApplyError.{ApplyError}
use Rattle.session.specs.declared.error.UndoError.{UndoError}
use Rattle.session.specs.declared.error.UndoError.TheVariants.{NoRedo, NoUndo}
use Rattle.session.specs.declared.error.UndoError.TheVariants as undoing
use Rattle.session.specs.declared.keeping.KeptBoxes.{KeptBoxes}
use Rattle.session.specs.declared.session.Session.{Session}
use Rattle.session.specs.Editing.{CanApply, HasOneOutcome, IsRefusedEdit, log_after}
use Rattle.session.specs.Found.{ArrangesFor, HasAll, HasResult, HasResultIn, HasText, HasTextIn, Loses, LosesExactly, LosesTouched, PreparesFor, page_boxes_in}
use Rattle.session.specs.State.{IsSound, state_in}
use Rattle.session.specs.Undoing.{DoesAgain, IsDoneBy, IsUnchanged, TakesBack}
use Rattle.edit_job.specs.Owed.{AllAreOwedAtFirst, AreOwedOnce, IsPaid, Logged, OweStepsFrom, OwesMove, OwesStep, OwesStepIn, Owing, RiseTo, after_edit, after_exact, after_page, after_page_in, after_touch, at_first, is_of_one, logged_in}
use Rattle.edit_job.specs.Told.{Pays}

-- ---- elements

-- the test of elements tells whether one is among them
among_elements : (elements : List ℕ) (node : ℕ) → is_of_one elements node ≡ true → Contains elements node
among_elements elements node is = Contains-from_any eqb-true node elements is

not_among_elements : (elements : List ℕ) (node : ℕ) → is_of_one elements node ≡ false → Contains elements node → ⊥
not_among_elements elements node is there = absurd (by (list_any-from_Contains nat_eq_equiv node elements there) is) where
  by : is_of_one elements node ≡ true → is_of_one elements node ≡ false → ⊥
  by among other = let both : true ≡ false = sym among ∙ other in absurd (cc)

-- ---- steps

-- what is owed after a move is one, and there is one; nothing is owed to pages that were
move_some : (logged : Logged) (owing : Owing) (move : Option ExactChange) (log : Log StepOf) → (next : Logged) × (more : Owing) × OwesMove logged owing move log next more
move_some logged owing None log = (logged, owing, (refl, refl))
move_some logged owing (Some exact) log = (record { state = exactly logged.state exact; log = log }, after_exact logged.state exact owing, (refl, refl))

move_once : (logged : Logged) (owing : Owing) (move : Option ExactChange) (log : Log StepOf) (next other : Logged) (more also : Owing) → OwesMove logged owing move log next more → OwesMove logged owing move log other also
    → (other ≡ next) × (also ≡ more)
move_once logged owing None log next other more also (is, m) (is', m') = (is' ∙ sym is, m' ∙ sym m)
move_once logged owing (Some exact) log next other more also (is, m) (is', m') = (is' ∙ sym is, m' ∙ sym m)

move_rises : (logged : Logged) (owing : Owing) (move : Option ExactChange) (log : Log StepOf) (next : Logged) (more : Owing) → OwesMove logged owing move log next more
    → (owing.prepared ≤ more.prepared) × (owing.arranged ≤ more.arranged)
move_rises logged owing None log next more (is, m) =
    let p = ap (λ (o : Owing). o.prepared) m in
    let a = ap (λ (o : Owing). o.arranged) m in
    (omega (arith, p), omega (arith, a))
move_rises logged owing (Some exact) log next more (is, m) =
    let p = ap (λ (o : Owing). o.prepared) m in
    let a = ap (λ (o : Owing). o.arranged) m in
    (omega (arith, p), omega (arith, a))

module _ (view : View) where
  step_some : HasOneOutcome → (logged : Logged) (owing : Owing) (what : Step) → (next : Logged) × (more : Owing) × OwesStep view logged owing what next more
  step_some one logged owing show = (logged, after_page view logged.state owing, (refl, refl))
  step_some one logged owing (edit change) = by (one.some logged.state change) where
    by : CanApply logged.state change ⊎ ((error : ApplyError) × IsRefusedEdit logged.state change error) → (next : Logged) × (more : Owing) × OwesStep view logged owing (edit change) next more
    by (inl can) = (record { state = after logged.state change; log = log_after logged.state change logged.log }, after_edit logged.state change owing, inl (can, refl, refl))
    by (inr (error, refused)) = (logged, owing, inr (error, refused, refl, refl))
  step_some one logged owing undo = move_some logged owing (option_map (λ step. step.back) (next_back logged.log)) (gone_down logged.log)
  step_some one logged owing redo = move_some logged owing (option_map (λ step. step.again) (next_ahead logged.log)) (gone_up logged.log)

  -- what is owed after a step is one
  step_once : HasOneOutcome → (logged : Logged) (owing : Owing) (what : Step) (next other : Logged) (more also : Owing) → OwesStep view logged owing what next more → OwesStep view logged owing what other also
      → (other ≡ next) × (also ≡ more)
  step_once one logged owing show next other more also (is, m) (is', m') = (is' ∙ sym is, m' ∙ sym m)
  step_once one logged owing (edit change) next other more also (inl (can, is, m)) (inl (can', is', m')) = (is' ∙ sym is, m' ∙ sym m)
  step_once one logged owing (edit change) next other more also (inl (can, is, m)) (inr (error, refused, is', m')) = absurd ((one.only logged.state change error refused).0 can)
  step_once one logged owing (edit change) next other more also (inr (error, refused, is, m)) (inl (can', is', m')) = absurd ((one.only logged.state change error refused).0 can')
  step_once one logged owing (edit change) next other more also (inr (error, refused, is, m)) (inr (error', refused', is', m')) = (is' ∙ sym is, m' ∙ sym m)
  step_once one logged owing undo next other more also first second = move_once logged owing (option_map (λ step. step.back) (next_back logged.log)) (gone_down logged.log) next other more also first second
  step_once one logged owing redo next other more also first second = move_once logged owing (option_map (λ step. step.again) (next_ahead logged.log)) (gone_up logged.log) next other more also first second

  steps_some : HasOneOutcome → (logged : Logged) (owing : Owing) (steps : List StepAt) → (last : Owing) × OweStepsFrom view logged owing steps last
  steps_some one logged owing [] = (owing, refl)
  steps_some one logged owing (s ∷ steps) =
      let here = step_some one logged owing s.what in
      let behind = steps_some one here.0 here.1 steps in
      (behind.0, (here.0, here.1, here.2, behind.1))

  steps_once : HasOneOutcome → (logged : Logged) (owing : Owing) (steps : List StepAt) (last other : Owing) → OweStepsFrom view logged owing steps last → OweStepsFrom view logged owing steps other → other ≡ last
  steps_once one logged owing [] last other is is' = is' ∙ sym is
  steps_once one logged owing (s ∷ steps) last other (next, more, here, behind) (next', more', here', behind') =
      let same = step_once one logged owing s.what next next' more more' here here' in
      let P : Logged → Owing → Type 0 = λ (n : Logged) (m : Owing). OweStepsFrom view n m steps other in
      steps_once one next more steps last other behind (subst (λ (m : Owing). P next m) same.1 (subst (λ (n : Logged). P n more') same.0 behind'))

  -- the totals only rise
  pub step_rises : (logged : Logged) (owing : Owing) (what : Step) (next : Logged) (more : Owing) → OwesStep view logged owing what next more → (owing.prepared ≤ more.prepared) × (owing.arranged ≤ more.arranged)
  step_rises logged owing show next more (is, m) =
      let p = ap (λ (o : Owing). o.prepared) m in
      let a = ap (λ (o : Owing). o.arranged) m in
      (omega (arith, p), omega (arith, a))
  step_rises logged owing (edit change) next more (inl (can, is, m)) =
      let p = ap (λ (o : Owing). o.prepared) m in
      let a = ap (λ (o : Owing). o.arranged) m in
      (omega (arith, p), omega (arith, a))
  step_rises logged owing (edit change) next more (inr (error, refused, is, m)) =
      let p = ap (λ (o : Owing). o.prepared) m in
      let a = ap (λ (o : Owing). o.arranged) m in
      (omega (arith, p), omega (arith, a))
  step_rises logged owing undo next more owes = move_rises logged owing (option_map (λ step. step.back) (next_back logged.log)) (gone_down logged.log) next more owes
  step_rises logged owing redo next more owes = move_rises logged owing (option_map (λ step. step.again) (next_ahead logged.log)) (gone_up logged.log) next more owes

  pub steps_rise : (logged : Logged) (owing : Owing) (steps : List StepAt) (last : Owing) → OweStepsFrom view logged owing steps last → (owing.prepared ≤ last.prepared) × (owing.arranged ≤ last.arranged)
  steps_rise logged owing [] last is =
      let p = ap (λ (o : Owing). o.prepared) is in
      let a = ap (λ (o : Owing). o.arranged) is in
      (omega (arith, p), omega (arith, a))
  steps_rise logged owing (s ∷ steps) last (next, more, here, behind) =
      let first = step_rises logged owing s.what next more here in
      let rest = steps_rise next more steps last behind in
      let (p, a) = first in
      let (q, b) = rest in
      (omega (arith, p, q), omega (arith, a, b))

pub owed_once : HasOneOutcome → AreOwedOnce
owed_once one = record {
  some = λ view logged owing steps. steps_some view one logged owing steps;
  only = λ view logged owing steps last other is also. steps_once view one logged owing steps last other is also;
}

-- ---- at first

pub all_owed : NamesAreOfPlaces → BoxesAreOfElements → AllAreOwedAtFirst
all_owed places elements state name rooted whole reached paragraph =
    let at = places.holds (page_boxes state) name paragraph in
    let P : BoxName → Type 0 = λ n. Contains (at_first state).elements n.node in
    subst P at.3 (elements state.rules state.tree at.0 rooted whole reached at.2)

-- ---- a session

module _ {I : Type 0} {D : I → Type 0} (faces : List (Option Table)) where
  -- nothing is expected of a session for its first page
  pub paid_at_first : AllAreOwedAtFirst → (session : Session I D) → IsSound faces session → IsPaid session (at_first (state_in faces session))
  paid_at_first all session sound = record {
    texts = λ name paragraph other. absurd (other (all (state_in faces session) name sound.document.rooted sound.document.whole sound.document.reached paragraph));
    results = λ pair there among. absurd (contains_none pair among);
  }

  -- a page costs what is owed to it
  pub page_costs : (session : Session I D) (owing : Owing) (p q a b : ℕ) → IsPaid session owing → PreparesFor session p q → ArrangesFor faces session a b
      → RiseTo owing (after_page session.view (state_in faces session) owing) p q a b
  page_costs session owing p q a b paid prepares arranges =
      let texts = prepares (λ name. is_of_one owing.elements name.node) (λ name paragraph other. paid.texts name paragraph (not_among_elements owing.elements name.node other)) in
      let contents = arranges (λ pair. not (is_among pair owing.pairs))
      (λ pair asked other. paid.results pair (asked_named faces session.view (page_boxes_in session) pair asked) (among_contained pair owing.pairs (not-false (is_among pair owing.pairs) other))) in
      record { prepared = omega (arith, texts); arranged = omega (arith, contents) }

  -- after it nothing is owed; the tables of its faces are these others then, which are the same
  pub page_paid : (others : List (Option Table)) (old new : Session I D) (owing : Owing) → others ≡ faces → page_boxes_in new ≡ page_boxes_in old → new.view ≡ old.view → HasAll others new
      → IsPaid new (after_page old.view (state_in faces old) owing)
  page_paid others old new owing tables same sees all = record {
    texts = λ name paragraph other. all.texts name paragraph;
    results = λ pair there among.
        let P : List (Option Table) → View → Boxes → Type 0 = λ (f : List (Option Table)) (v : View) (page : Boxes). Contains (asks f v page) pair in
        all.results pair (subst (λ (f : List (Option Table)). P f new.view (page_boxes_in new)) (sym tables)
        (subst (λ (v : View). P faces v (page_boxes_in new)) (sym sees) (subst (λ (page : Boxes). P faces old.view page) (sym same) among)));
  }

-- what was lost of the elements that are touched is owed
module _ {I : Type 0} {D : I → Type 0} (old new : Session I D) (scoped touched : List ℕ) where
  pub touch_paid : (owing : Owing) → Loses old new scoped touched → IsPaid old owing → IsPaid new (after_touch scoped touched owing)
  touch_paid owing loses paid = record { texts = texts; results = results } where
    texts : (name : BoxName) → Contains (paragraphs (page_boxes_in new)) name → (Contains (owing.elements ++ scoped) name.node → ⊥) → HasText new name
    texts name paragraph other =
        let kept = loses.texts name paragraph (λ there. other (Contains-append_right owing.elements scoped name.node there)) in
        kept.has (paid.texts name kept.was (λ there. other (Contains-append_left owing.elements scoped name.node there)))

    untouched : Pair → Bool
    untouched pair = not (is_of_one touched pair.name.node)

    results : (pair : Pair) → Contains (names (page_boxes_in new)) pair.name → Contains (filter untouched owing.pairs) pair → HasResult new pair
    results pair there among =
        let was : Contains owing.pairs pair =
        All-contains (Contains owing.pairs) (filter untouched owing.pairs) pair (All-filter untouched (Contains owing.pairs) owing.pairs (All-contains_itself owing.pairs)) among in
        let passes : untouched pair ≡ true = All-contains (λ p. untouched p ≡ true) (filter untouched owing.pairs) pair (filter_passes untouched owing.pairs) among in
        let kept = loses.results pair there (not_among_elements touched pair.name.node (not-true (is_of_one touched pair.name.node) passes)) in
        kept.has (paid.results pair kept.was was)

-- a session that keeps its page and what it has of it has paid as much
module _ {I : Type 0} {D : I → Type 0} where
  pub still_paid : (old new : Session I D) (owing : Owing) → page_boxes_in new ≡ page_boxes_in old → new.boxes ≡ old.boxes → IsPaid old owing → IsPaid new owing
  still_paid old new owing same kept paid = record {
    texts = λ name paragraph other.
        let there = subst (λ (page : Boxes). Contains (paragraphs page) name) same paragraph in
        let P : Option KeptBoxes → Boxes → Type 0 = λ boxes page. HasTextIn boxes page name in
        subst (λ (page : Boxes). P new.boxes page) (sym same) (subst (λ (boxes : Option KeptBoxes). P boxes (page_boxes_in old)) (sym kept) (paid.texts name there other));
    results = λ pair named among.
        let there = subst (λ (page : Boxes). Contains (names page) pair.name) same named in
        let P : Option KeptBoxes → Boxes → Type 0 = λ boxes page. HasResultIn boxes page pair in
        subst (λ (page : Boxes). P new.boxes page) (sym same) (subst (λ (boxes : Option KeptBoxes). P boxes (page_boxes_in old)) (sym kept) (paid.results pair there among));
  }

module _ {I : Type 0} {D : I → Type 0} (before behind : List (Option Table)) (old new : Session I D) where
  -- ---- a page

  pub page_pays : state_in behind new ≡ state_in before old → new.log ≡ old.log → ((owing : Owing) → IsPaid new (after_page_in before old owing)) → Pays before behind old new show
  page_pays same log pays = record {
    leads = λ owing more next step. step.0 ∙ λ i. record { state = sym same i; log = sym log i };
    paid = λ owing more next has step. subst (λ (o : Owing). IsPaid new o) (sym step.1) (pays owing);
  }

  -- ---- an edit

  module _ (one : HasOneOutcome) (change : Change) where
    -- one that is done pays what is owed after it
    pub done_pays : CanApply (state_in before old) change → state_in behind new ≡ after (state_in before old) change → new.log ≡ log_after (state_in before old) change old.log → LosesTouched before old new change
        → Pays before behind old new (edit change)
    done_pays can led logged loses = record { leads = leads; paid = paid } where
      leads : (owing more : Owing) (next : Logged) → OwesStepIn before old owing (edit change) next more → next ≡ logged_in behind new
      leads owing more next (inl (can', is, m)) = is ∙ λ i. record { state = sym led i; log = sym logged i }
      leads owing more next (inr (error, refused, is, m)) = absurd ((one.only (state_in before old) change error refused).0 can)

      paid : (owing more : Owing) (next : Logged) → IsPaid old owing → OwesStepIn before old owing (edit change) next more → IsPaid new more
      paid owing more next has (inl (can', is, m)) =
          subst (λ (o : Owing). IsPaid new o) (sym m) (touch_paid old new (scope (state_in before old) change) (reached (state_in before old) change) owing loses has)
      paid owing more next has (inr (error, refused, is, m)) = absurd ((one.only (state_in before old) change error refused).0 can)

    -- one that is refused leaves what was paid
    pub refused_pays : (error : ApplyError) → IsRefusedEdit (state_in before old) change error → IsUnchanged before behind old new → Pays before behind old new (edit change)
    refused_pays error refused same = record { leads = leads; paid = paid } where
      leads : (owing more : Owing) (next : Logged) → OwesStepIn before old owing (edit change) next more → next ≡ logged_in behind new
      leads owing more next (inl (can, is, m)) = absurd ((one.only (state_in before old) change error refused).0 can)
      leads owing more next (inr (other, also, is, m)) = is ∙ λ i. record { state = sym same.state i; log = sym same.log i }

      paid : (owing more : Owing) (next : Logged) → IsPaid old owing → OwesStepIn before old owing (edit change) next more → IsPaid new more
      paid owing more next has (inl (can, is, m)) = absurd ((one.only (state_in before old) change error refused).0 can)
      paid owing more next has (inr (other, also, is, m)) = subst (λ (o : Owing). IsPaid new o) (sym m) (still_paid old new owing (ap page_boxes same.state) same.boxes has)

  -- ---- back and ahead

  module _ (what : Step) (move : Option ExactChange) (log : Log StepOf)
      (moves : (owing more : Owing) (next : Logged) → OwesStepIn before old owing what next more → OwesMove (logged_in before old) owing move log next more) where
    pub move_pays : (exact : ExactChange) → move ≡ Some exact → IsDoneBy before behind old new exact log → LosesExactly before old new exact → Pays before behind old new what
    move_pays exact is done loses = record { leads = leads; paid = paid } where
      owes : (owing more : Owing) (next : Logged) → OwesStepIn before old owing what next more → OwesMove (logged_in before old) owing (Some exact) log next more
      owes owing more next step = subst (λ (m : Option ExactChange). OwesMove (logged_in before old) owing m log next more) is (moves owing more next step)

      leads : (owing more : Owing) (next : Logged) → OwesStepIn before old owing what next more → next ≡ logged_in behind new
      leads owing more next step = (owes owing more next step).0 ∙ λ i. record { state = sym done.state i; log = sym done.log i }

      paid : (owing more : Owing) (next : Logged) → IsPaid old owing → OwesStepIn before old owing what next more → IsPaid new more
      paid owing more next has step =
          subst (λ (o : Owing). IsPaid new o) (sym (owes owing more next step).1)
          (touch_paid old new (exact_scope (state_in before old) exact) (exact_reached (state_in before old) exact) owing loses has)

    pub none_pays : move ≡ None → IsUnchanged before behind old new → Pays before behind old new what
    none_pays is same = record { leads = leads; paid = paid } where
      owes : (owing more : Owing) (next : Logged) → OwesStepIn before old owing what next more → OwesMove (logged_in before old) owing None log next more
      owes owing more next step = subst (λ (m : Option ExactChange). OwesMove (logged_in before old) owing m log next more) is (moves owing more next step)

      leads : (owing more : Owing) (next : Logged) → OwesStepIn before old owing what next more → next ≡ logged_in behind new
      leads owing more next step = (owes owing more next step).0 ∙ λ i. record { state = sym same.state i; log = sym same.log i }

      paid : (owing more : Owing) (next : Logged) → IsPaid old owing → OwesStepIn before old owing what next more → IsPaid new more
      paid owing more next has step =
          subst (λ (o : Owing). IsPaid new o) (sym (owes owing more next step).1) (still_paid old new owing (ap page_boxes same.state) same.boxes has)

module _ {I : Type 0} {D : I → Type 0} (before behind : List (Option Table)) (old new : Session I D) where
  pub undo_none_pays : (error : UndoError) → TakesBack before behind old new (Err error) → (error ≡ NoUndo → next_back old.log ≡ None) → (error ≡ undoing.Memory → ⊥) → Pays before behind old new undo
  undo_none_pays NoUndo takes nothing not_memory =
      none_pays before behind old new undo (option_map (λ step. step.back) (next_back old.log)) (gone_down old.log) (λ owing more next owes. owes) (ap (option_map (λ step. step.back)) (nothing refl)) takes.1
  undo_none_pays NoRedo takes nothing not_memory = absurd takes
  undo_none_pays undoing.Memory takes nothing not_memory = absurd (not_memory refl)

  pub redo_none_pays : (error : UndoError) → DoesAgain before behind old new (Err error) → (error ≡ NoRedo → next_ahead old.log ≡ None) → (error ≡ undoing.Memory → ⊥) → Pays before behind old new redo
  redo_none_pays NoUndo does nothing not_memory = absurd does
  redo_none_pays NoRedo does nothing not_memory =
      none_pays before behind old new redo (option_map (λ step. step.again) (next_ahead old.log)) (gone_up old.log) (λ owing more next owes. owes) (ap (option_map (λ step. step.again)) (nothing refl)) does.1
  redo_none_pays undoing.Memory does nothing not_memory = absurd (not_memory refl)

-- ---- steps one after the other

-- What is left of what is owed from one time to another: these steps, of which a session now has paid what it had to. The counters rose by what
-- was owed on the way.
pub record IsLeft {I : Type 0} {D : I → Type 0} (view : View) (now : Session I D) (here : Logged) (behind : List StepAt) (owing last : Owing) (p q a b : ℕ) : Type 0 where
  pub mid : Owing
  pub paid : IsPaid now mid
  pub steps : OweStepsFrom view here mid behind last
  pub rise : RiseTo owing mid p q a b

module _ {I : Type 0} {D : I → Type 0} (view : View) (owing last : Owing) (p a : ℕ) where
  pub all_left : (now : Session I D) (here : Logged) (behind : List StepAt) → IsPaid now owing → OweStepsFrom view here owing behind last → IsLeft view now here behind owing last p p a a
  all_left now here behind paid steps = record { mid = owing; paid = paid; steps = steps; rise = record { prepared = omega arith; arranged = omega arith } }

  -- a step more
  pub left_on : (now new : Session I D) (here next : Logged) (s : StepAt) (behind : List StepAt) (q q' b b' : ℕ)
      → ((mid more : Owing) (other : Logged) → IsPaid now mid → OwesStep view here mid s.what other more → RiseTo mid more q q' b b')
      → ((mid more : Owing) (other : Logged) → IsPaid now mid → OwesStep view here mid s.what other more → IsPaid new more)
      → ((mid more : Owing) (other : Logged) → OwesStep view here mid s.what other more → other ≡ next)
      → IsLeft view now here (s ∷ behind) owing last p q a b → IsLeft view new next behind owing last p q' a b'
  left_on now new here next s behind q q' b b' costs pays leads left =
      let (other, more, step, others) = left.steps in
      let rise = costs left.mid more other left.paid step in
      let one = left.rise.prepared in
      let two = left.rise.arranged in
      let three = rise.prepared in
      let four = rise.arranged in
      record {
        mid = more;
        paid = pays left.mid more other left.paid step;
        steps = subst (λ (from : Logged). OweStepsFrom view from more behind last) (leads left.mid more other step) others;
        rise = record { prepared = omega (arith, one, three); arranged = omega (arith, two, four) };
      }

  -- it broke off
  pub left_off : (now : Session I D) (here : Logged) (s : StepAt) (behind : List StepAt) (q q' b b' : ℕ)
      → ((mid more : Owing) (other : Logged) → IsPaid now mid → OwesStep view here mid s.what other more → RiseTo mid more q q' b b')
      → IsLeft view now here (s ∷ behind) owing last p q a b → RiseTo owing last p q' a b'
  left_off now here s behind q q' b b' costs left =
      let (other, more, step, others) = left.steps in
      let rise = costs left.mid more other left.paid step in
      let rest = steps_rise view other more behind last others in
      let one = left.rise.prepared in
      let two = left.rise.arranged in
      let three = rise.prepared in
      let four = rise.arranged in
      let (five, six) = rest in
      record { prepared = omega (arith, one, three, five); arranged = omega (arith, two, four, six) }

  -- nothing is left
  pub none_left : (now : Session I D) (here : Logged) (q b : ℕ) → IsLeft view now here [] owing last p q a b → RiseTo owing last p q a b
  none_left now here q b left =
      let one = left.rise.prepared in
      let two = left.rise.arranged in
      let same = left.steps in
      let five = ap (λ (o : Owing). o.prepared) same in
      let six = ap (λ (o : Owing). o.arranged) same in
      record { prepared = omega (arith, one, five); arranged = omega (arith, two, six) }
