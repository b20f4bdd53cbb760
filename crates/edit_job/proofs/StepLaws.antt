-- Steps one after the other, and what is written of them.
use Rattle.std.proofs.Common.{◌≡◌, ◌⊎◌, ◌∙◌, refl, sym, ap, subst, arith, inl, inr, ℕ, suc, ◌+◌, ◌<◌, ◌≤◌, List, [], ◌∷◌, ◌++◌, append_assoc, append-nil, length, drop, get_or, Option, Some, None}
use Rattle.std.specs.Io.KnownBytes.{Appends}
use Rattle.std.proofs.KnownBytes.{Appends-nil, Appends-trans}
use Rattle.std.proofs.Math.Seq.{drop-cons}
use Rattle.face_api.specs.Table.{Table}
use Rattle.wm_units.specs.declared.view.View.{View}
use Rattle.io_edge.specs.Edge.{AppendsFront}
use Rattle.io_edge.proofs.Growth.{next_front, nothing_yet}
use Rattle.edit_script.specs.declared.step.ScriptLine.{ScriptLine}
use Rattle.edit_script.specs.Fitting.{AllFit, Fits, bytes_in, bytes_of}
use Rattle.edit_script.specs.Meaning.{Step, show, edit, undo, redo}
use Rattle.edit_script.specs.Script.{StepAt}
use Rattle.edit_script.specs.Views.{step_at, step_of, steps_of}
use Rattle.std.specs.Prelude.{OnOk, Result, ⊤, Ok, Err}
use Rattle.std.proofs.lemmas.List.{drop_all, get_or-map, length-map}
use Rattle.session.specs.declared.session.Session.{Session}
use Rattle.session.specs.declared.error.ApplyError.{ApplyError}
use Rattle.session.specs.declared.error.ApplyError.TheVariants as applying
use Rattle.session.specs.declared.error.UndoError.{UndoError}
use Rattle.session.specs.declared.error.UndoError.TheVariants.{NoRedo, NoUndo}
use Rattle.session.specs.declared.error.UndoError.TheVariants as undoing
use Rattle.session.specs.Document.{styled_of}
use Rattle.session.specs.Editing.{CanApply, HasOneOutcome, IsRefusedEdit, KeepsHistory}
use Rattle.session.specs.Error.{apply_word, undo_word}
use Rattle.dom_store.specs.State.{state_of}
use Rattle.tree_laws.specs.Weight.{bytes, total}
use Rattle.edits.specs.Exact.{StepOf}
use Rattle.undo_log.specs.History.{Standing, standing_of}
use Rattle.undo_log.specs.Log.{Log}
use Rattle.session.specs.History.{IsHistory, Opened, history_after, opened_after, redone, undone}
use Rattle.session.specs.State.{HasHistory, Holds, page_in, state_in}
use Rattle.session.specs.Undoing.{DoesAgain, IsUnchanged, LeadsNowhere, LeadsTo, TakesBack}
use Rattle.edit_job.specs.Refusal.{IsRefusal, refusal}
use Rattle.edit_job.specs.Steps.{AreStepsFrom, HaveAnEnd, HaveOneEnd, IsStep, Moves}
use Rattle.edit_job.specs.Told.{Begins, Goes, HasRoom}
use Rattle.listing.specs.Listing.{listing}
use Rattle.page_modes.specs.Pages.{page_of}
use Rattle.edits.specs.Change.{Change, bytes_brought}
use Rattle.edits.specs.Edited.{after}
use Rattle.edits.specs.State.{State}

-- ---- back and ahead

moves_end : (opened : Opened) (to : Option Opened) (error : UndoError) (line : ℕ) (next other : Opened) (due more : List ℕ) → Moves opened to error line next due → Moves opened to error line other more
    → (other ≡ next) × (more ≡ due)
moves_end opened None error line next other due more (is, d) (is', d') = (is' ∙ sym is, d' ∙ sym d)
moves_end opened (Some to) error line next other due more (is, d) (is', d') = (is' ∙ sym is, d' ∙ sym d)

moves_lead : (opened : Opened) (to : Option Opened) (error : UndoError) (line : ℕ) → (next : Opened) × (due : List ℕ) × Moves opened to error line next due
moves_lead opened None error line = (opened, refusal (undo_word error) line, (refl, refl))
moves_lead opened (Some to) error line = (to, [], (refl, refl))

-- ---- steps

module _ (view : View) where
  -- with a step more at the end
  pub steps_on : (opened : Opened) (steps : List StepAt) (mid : Opened) (due : List ℕ) (s : StepAt) (next : Opened) (first : List ℕ) → AreStepsFrom view opened steps mid due → IsStep view mid s.what s.line next first
      → AreStepsFrom view opened (steps ++ s ∷ []) next (due ++ first)
  steps_on opened [] mid due s next first (is, none) step =
      (next, first, [], subst (λ (from : Opened). IsStep view from s.what s.line next first) is step, (refl, refl), ap (λ (d : List ℕ). d ++ first) none ∙ sym (append-nil first))
  steps_on opened (t ∷ steps) mid due s next first (m, f, rest, here, more, cut) step =
      (m, f, rest ++ first, here, steps_on m steps mid rest s next first more step, ap (λ (d : List ℕ). d ++ first) cut ∙ append_assoc f rest first)

  -- steps in two parts
  pub steps_cut : (opened : Opened) (one two : List StepAt) (last : Opened) (due : List ℕ) → AreStepsFrom view opened (one ++ two) last due
      → (mid : Opened) × (front back : List ℕ) × AreStepsFrom view opened one mid front × AreStepsFrom view mid two last back × (due ≡ front ++ back)
  steps_cut opened [] two last due all = (opened, [], due, (refl, refl), all, refl)
  steps_cut opened (s ∷ one) two last due (next, first, rest, here, more, cut) =
      let parts = steps_cut next one two last rest more in
      (parts.0, first ++ parts.1, parts.2, (next, first, parts.1, here, parts.3, refl), parts.4, cut ∙ ap (λ (d : List ℕ). first ++ d) parts.5 ∙ sym (append_assoc first parts.1 parts.2))

  -- ---- one end

  module _ (one : HasOneOutcome) where
    pub step_end : (opened : Opened) (what : Step) (line : ℕ) (next other : Opened) (due more : List ℕ) → IsStep view opened what line next due → IsStep view opened what line other more → (other ≡ next) × (more ≡ due)
    step_end opened show line next other due more (is, d) (is', d') = (is' ∙ sym is, d' ∙ sym d)
    step_end opened (edit change) line next other due more (inl (can, is, d)) (inl (can', is', d')) = (is' ∙ sym is, d' ∙ sym d)
    step_end opened (edit change) line next other due more (inl (can, is, d)) (inr (error, refused, is', d')) = absurd ((one.only opened.state change error refused).0 can)
    step_end opened (edit change) line next other due more (inr (error, refused, is, d)) (inl (can', is', d')) = absurd ((one.only opened.state change error refused).0 can')
    step_end opened (edit change) line next other due more (inr (error, refused, is, d)) (inr (error', refused', is', d')) =
        (is' ∙ sym is, d' ∙ ap (λ (e : ApplyError). refusal (apply_word e) line) ((one.only opened.state change error refused).1 error' refused') ∙ sym d)
    step_end opened undo line next other due more moves also = moves_end opened (undone opened) NoUndo line next other due more moves also
    step_end opened redo line next other due more moves also = moves_end opened (redone opened) NoRedo line next other due more moves also

    pub steps_end : (opened : Opened) (steps : List StepAt) (last other : Opened) (due more : List ℕ) → AreStepsFrom view opened steps last due → AreStepsFrom view opened steps other more → (other ≡ last) × (more ≡ due)
    steps_end opened [] last other due more (is, d) (is', d') = (is' ∙ sym is, d' ∙ sym d)
    steps_end opened (s ∷ steps) last other due more (next, first, rest, here, after_, cut) (next', first', rest', here', after', cut') =
        let here_ends = step_end opened s.what s.line next next' first first' here here' in
        let behind = subst (λ (from : Opened). AreStepsFrom view from steps other rest') here_ends.0 after' in
        let more_ends = steps_end next steps last other rest rest' after_ behind in
        (more_ends.0, cut' ∙ ap (λ (d : List ℕ). d ++ rest') here_ends.1 ∙ ap (λ (d : List ℕ). first ++ d) more_ends.1 ∙ sym cut)

    -- ---- there is an end

    edit_leads : (opened : Opened) (change : Change) (line : ℕ) → CanApply opened.state change ⊎ ((error : ApplyError) × IsRefusedEdit opened.state change error)
        → (next : Opened) × (due : List ℕ) × IsStep view opened (edit change) line next due
    edit_leads opened change line (inl can) = (opened_after opened change, [], inl (can, refl, refl))
    edit_leads opened change line (inr (error, refused)) = (opened, refusal (apply_word error) line, inr (error, refused, refl, refl))

    step_leads : (opened : Opened) (what : Step) (line : ℕ) → (next : Opened) × (due : List ℕ) × IsStep view opened what line next due
    step_leads opened show line = (opened, listing (page_of opened.state.faces view (styled_of opened.state)), (refl, refl))
    step_leads opened (edit change) line = edit_leads opened change line (one.some opened.state change)
    step_leads opened undo line = moves_lead opened (undone opened) NoUndo line
    step_leads opened redo line = moves_lead opened (redone opened) NoRedo line

    steps_lead : (opened : Opened) (steps : List StepAt) → (last : Opened) × (due : List ℕ) × AreStepsFrom view opened steps last due
    steps_lead opened [] = (opened, [], (refl, refl))
    steps_lead opened (s ∷ steps) =
        let here = step_leads opened s.what s.line in
        let more = steps_lead here.0 steps in
        (more.0, here.1 ++ more.1, (here.0, here.1, more.1, here.2, more.2, refl))

pub one_end : HasOneOutcome → HaveOneEnd
one_end one view opened steps last other due more is also = steps_end view one opened steps last other due more is also

pub some_end : HasOneOutcome → HaveAnEnd
some_end one view opened steps = steps_lead view one opened steps

-- ---- what is written of steps

-- the first of these steps were gone through, those behind are left
pub record HaveGone (view : View) (first now : Opened) (old new : Option (List ℕ)) (all behind : List StepAt) : Type 0 where
  pub front : List StepAt
  pub written : List ℕ
  pub steps : AreStepsFrom view first front now written
  pub cut : all ≡ front ++ behind
  pub appended : Appends old new written

module _ (view : View) where
  pub none_gone : (opened : Opened) (sink : Option (List ℕ)) (all : List StepAt) → HaveGone view opened opened sink sink all all
  none_gone opened sink all = record { front = []; written = []; steps = (refl, refl); cut = refl; appended = Appends-nil sink }

  -- a step more
  pub gone_on : (first now next : Opened) (old mid new : Option (List ℕ)) (all : List StepAt) (s : StepAt) (behind : List StepAt) (due : List ℕ) → HaveGone view first now old mid all (s ∷ behind)
      → IsStep view now s.what s.line next due → Appends mid new due → HaveGone view first next old new all behind
  gone_on first now next old mid new all s behind due gone step more = record {
    front = gone.front ++ s ∷ [];
    written = gone.written ++ due;
    steps = steps_on view first gone.front now gone.written s next due gone.steps step;
    cut = gone.cut ∙ sym (append_assoc gone.front (s ∷ []) behind);
    appended = Appends-trans old mid new _ _ gone.appended more;
  }

  -- all were gone through
  pub all_gone : (first now : Opened) (old new : Option (List ℕ)) (all : List StepAt) → HaveGone view first now old new all [] → (due : List ℕ) × AreStepsFrom view first all now due × Appends old new due
  all_gone first now old new all gone =
      (gone.written, subst (λ (steps : List StepAt). AreStepsFrom view first steps now gone.written) (sym (gone.cut ∙ append-nil gone.front)) gone.steps, gone.appended)

  module _ (ends : HaveOneEnd) where
    -- a step broke off
    pub broken : (first now : Opened) (old mid new : Option (List ℕ)) (all : List StepAt) (s : StepAt) (behind : List StepAt) → HaveGone view first now old mid all (s ∷ behind)
        → ((next : Opened) (due : List ℕ) → IsStep view now s.what s.line next due → AppendsFront mid new due)
        → (last : Opened) (due : List ℕ) → AreStepsFrom view first all last due → AppendsFront old new due
    broken first now old mid new all s behind gone front last due steps =
        let parts = steps_cut view first gone.front (s ∷ behind) last due (subst (λ (l : List StepAt). AreStepsFrom view first l last due) gone.cut steps) in
        let same = ends view first gone.front now parts.0 gone.written parts.1 gone.steps parts.3 in
        let after_ = subst (λ (from : Opened). AreStepsFrom view from (s ∷ behind) last parts.2) same.0 parts.4 in
        let whole : due ≡ gone.written ++ (after_.1 ++ after_.2) = parts.5 ∙ ap (λ (d : List ℕ). d ++ parts.2) same.1 ∙ ap (λ (d : List ℕ). gone.written ++ d) after_.5 in
        next_front old mid new due after_.1 after_.2 (record { front = gone.written; appended = gone.appended; whole = whole }) (front after_.0 after_.1 after_.3)

    -- nothing is left
    pub finished : (first now : Opened) (old new : Option (List ℕ)) (all : List StepAt) → HaveGone view first now old new all [] → (last : Opened) (due : List ℕ) → AreStepsFrom view first all last due → AppendsFront old new due
    finished first now old new all gone last due steps =
        let whole = all_gone first now old new all gone in
        let same = ends view first all now last whole.0 due whole.1 steps in
        ([], record { front = whole.0; appended = whole.2; whole = same.1 ∙ sym (append-nil whole.0) })

-- the steps from a line on
pub steps_from : (lines : List ScriptLine) (k : ℕ) (line : ScriptLine) → k < length lines → steps_of (drop k lines) ≡ step_at (get_or lines k line) ∷ steps_of (drop (k + 1) lines)
steps_from lines k line within =
    let next : suc k ≡ k + 1 = omega arith in
    ap steps_of (drop-cons lines k line within) ∙ ap (λ (n : ℕ). step_at (get_or lines k line) ∷ steps_of (drop n lines)) next

-- ---- one step over a session

-- an edit is refused for a reason that is no want of memory
pub reason : (state : State) (change : Change) (error : ApplyError) → (error ≡ applying.Memory) ⊎ IsRefusedEdit state change error → IsRefusal error → IsRefusedEdit state change error
reason state change error (inl is) told = absurd (subst IsRefusal is told)
reason state change error (inr refused) told = refused

module _ {I : Type 0} {D : I → Type 0} (before behind : List (Option Table)) (old new : Session I D) (line : ℕ) (was is : Option (List ℕ)) where
  -- a session that is as it was, but for its boxes, holds what it held
  still : state_in behind new ≡ state_in before old → new.log ≡ old.log → (most : ℕ) (opened : Opened) → Holds before most old opened → Holds behind most new opened
  still same log most opened holds =
      let P : State → Log StepOf → Type 0 = λ (s : State) (l : Log StepOf). IsHistory s.tree.next most l opened.history (standing_of s) in
      record { state = same ∙ holds.state; history = subst (P (state_in behind new)) (sym log) (subst (λ (s : State). P s old.log) (sym same) holds.history) }

  -- ---- a page

  pub page_goes : state_in behind new ≡ state_in before old → new.log ≡ old.log → Appends was is (listing (page_in before old)) → Goes before behind old new show line was is
  page_goes same log appended = λ most opened holds. record {
    next = opened;
    due = listing (page_of opened.state.faces old.view (styled_of opened.state));
    much = most;
    step = (refl, refl);
    room = omega arith;
    holds = still same log most opened holds;
    appended = subst (λ (state : State). Appends was is (listing (page_of state.faces old.view (styled_of state)))) holds.state appended;
  }

  pub page_begins : AppendsFront was is (listing (page_in before old)) → Begins before old show line was is
  page_begins front = λ most opened next due holds step.
      subst (λ (bytes : List ℕ). AppendsFront was is bytes) (sym step.1)
      (subst (λ (state : State). AppendsFront was is (listing (page_of state.faces old.view (styled_of state)))) holds.state front)

  -- ---- an edit

  module _ (change : Change) where
    -- it is done
    pub edit_goes : CanApply (state_in before old) change → state_in behind new ≡ after (state_in before old) change → KeepsHistory before behind old new change → is ≡ was
        → Goes before behind old new (edit change) line was is
    edit_goes can led keeps same = λ most opened holds.
        let history : Log Standing = history_after opened.state change opened.history in
        record {
          next = opened_after opened change;
          due = [];
          much = most + bytes_brought change;
          step = inl (subst (λ (state : State). CanApply state change) holds.state can, refl, refl);
          room = omega arith;
          holds = record {
            state = led ∙ ap (λ (state : State). after state change) holds.state;
            history = subst (λ (state : State). HasHistory behind (most + bytes_brought change) new (history_after state change opened.history)) holds.state (keeps most opened.history holds.history);
          };
          appended = subst (λ (sink : Option (List ℕ)). Appends was sink []) (sym same) (Appends-nil was);
        }

    pub edit_begins : is ≡ was → Begins before old (edit change) line was is
    edit_begins same = λ most opened next due holds step. subst (λ (sink : Option (List ℕ)). AppendsFront was sink due) (sym same) (nothing_yet was due)

    -- it is refused, and told so
    pub refused_goes : (error : ApplyError) → IsRefusedEdit (state_in before old) change error → state_in behind new ≡ state_in before old → new.log ≡ old.log → Appends was is (refusal (apply_word error) line)
        → Goes before behind old new (edit change) line was is
    refused_goes error refused same log appended = λ most opened holds. record {
      next = opened;
      due = refusal (apply_word error) line;
      much = most;
      step = inr (error, subst (λ (state : State). IsRefusedEdit state change error) holds.state refused, refl, refl);
      room = omega arith;
      holds = still same log most opened holds;
      appended = appended;
    }

    pub refused_begins : HasOneOutcome → (error : ApplyError) → (error ≡ applying.Memory) ⊎ IsRefusedEdit (state_in before old) change error → (error ≡ applying.Memory → is ≡ was)
        → AppendsFront was is (refusal (apply_word error) line) → Begins before old (edit change) line was is
    refused_begins one error (inl memory) none front = edit_begins (none memory)
    refused_begins one error (inr refused) none front = λ most opened next due holds step. by opened next due (subst (λ (state : State). IsRefusedEdit state change error) holds.state refused) step where
      by : (opened next : Opened) (due : List ℕ) → IsRefusedEdit opened.state change error → IsStep old.view opened (edit change) line next due → AppendsFront was is due
      by opened next due also (inl (can, led, d)) = absurd ((one.only opened.state change error also).0 can)
      by opened next due also (inr (other, told, led, d)) =
          let same : due ≡ refusal (apply_word error) line = d ∙ ap (λ (e : ApplyError). refusal (apply_word e) line) ((one.only opened.state change error also).1 other told) in
          subst (λ (bytes : List ℕ). AppendsFront was is bytes) (sym same) front

  -- ---- back and ahead

  module _ (what : Step) (goes : Opened → Option Opened) (error : UndoError)
      (moves : (opened next : Opened) (due : List ℕ) → Moves opened (goes opened) error line next due → IsStep old.view opened what line next due)
      (moved : (opened next : Opened) (due : List ℕ) → IsStep old.view opened what line next due → Moves opened (goes opened) error line next due) (none : bytes_in what ≡ 0) where
    pub move_goes : LeadsTo goes before behind old new → is ≡ was → Goes before behind old new what line was is
    move_goes leads same = λ most opened holds.
        let (next, to, held) = leads most opened holds in
        record {
          next = next;
          due = [];
          much = most;
          step = moves opened next [] (subst (λ (o : Option Opened). Moves opened o error line next []) (sym to) (refl, refl));
          room = omega arith;
          holds = held;
          appended = subst (λ (sink : Option (List ℕ)). Appends was sink []) (sym same) (Appends-nil was);
        }

    pub none_goes : LeadsNowhere goes before old → IsUnchanged before behind old new → Appends was is (refusal (undo_word error) line) → Goes before behind old new what line was is
    none_goes nowhere same appended = λ most opened holds. record {
      next = opened;
      due = refusal (undo_word error) line;
      much = most;
      step = moves opened opened (refusal (undo_word error) line) (subst (λ (o : Option Opened). Moves opened o error line opened (refusal (undo_word error) line)) (sym (nowhere most opened holds)) (refl, refl));
      room = omega arith;
      holds = still same.state same.log most opened holds;
      appended = appended;
    }

    pub none_begins : LeadsNowhere goes before old → AppendsFront was is (refusal (undo_word error) line) → Begins before old what line was is
    none_begins nowhere front = λ most opened next due holds step.
        let at : Moves opened None error line next due = subst (λ (o : Option Opened). Moves opened o error line next due) (nowhere most opened holds) (moved opened next due step) in
        subst (λ (bytes : List ℕ). AppendsFront was is bytes) (sym at.1) front

    pub move_begins : is ≡ was → Begins before old what line was is
    move_begins same = λ most opened next due holds step. subst (λ (sink : Option (List ℕ)). AppendsFront was sink due) (sym same) (nothing_yet was due)

-- ---- that there is none

module _ {I : Type 0} {D : I → Type 0} (before behind : List (Option Table)) (old new : Session I D) (line : ℕ) (was is : Option (List ℕ)) where
  pub undo_none_goes : (error : UndoError) → TakesBack before behind old new (Err error) → (error ≡ undoing.Memory → ⊥) → Appends was is (refusal (undo_word error) line) → Goes before behind old new undo line was is
  undo_none_goes NoUndo takes not_memory appended = none_goes before behind old new line was is undo undone NoUndo (λ opened next due moves. moves) (λ opened next due step. step) refl takes.0 takes.1 appended
  undo_none_goes NoRedo takes not_memory appended = absurd takes
  undo_none_goes undoing.Memory takes not_memory appended = absurd (not_memory refl)

  pub undo_none_begins : (error : UndoError) → TakesBack before behind old new (Err error) → (error ≡ undoing.Memory → is ≡ was) → AppendsFront was is (refusal (undo_word error) line)
      → Begins before old undo line was is
  undo_none_begins NoUndo takes none front = none_begins before behind old new line was is undo undone NoUndo (λ opened next due moves. moves) (λ opened next due step. step) refl takes.0 front
  undo_none_begins NoRedo takes none front = absurd takes
  undo_none_begins undoing.Memory takes none front = move_begins before behind old new line was is undo undone NoUndo (λ opened next due moves. moves) (λ opened next due step. step) refl (none refl)

  pub redo_none_goes : (error : UndoError) → DoesAgain before behind old new (Err error) → (error ≡ undoing.Memory → ⊥) → Appends was is (refusal (undo_word error) line) → Goes before behind old new redo line was is
  redo_none_goes NoUndo does not_memory appended = absurd does
  redo_none_goes NoRedo does not_memory appended = none_goes before behind old new line was is redo redone NoRedo (λ opened next due moves. moves) (λ opened next due step. step) refl does.0 does.1 appended
  redo_none_goes undoing.Memory does not_memory appended = absurd (not_memory refl)

  pub redo_none_begins : (error : UndoError) → DoesAgain before behind old new (Err error) → (error ≡ undoing.Memory → is ≡ was) → AppendsFront was is (refusal (undo_word error) line)
      → Begins before old redo line was is
  redo_none_begins NoUndo does none front = absurd does
  redo_none_begins NoRedo does none front = none_begins before behind old new line was is redo redone NoRedo (λ opened next due moves. moves) (λ opened next due step. step) refl does.0 front
  redo_none_begins undoing.Memory does none front = move_begins before behind old new line was is redo redone NoRedo (λ opened next due moves. moves) (λ opened next due step. step) refl (none refl)

-- ---- lines

pub on_ok : {A B : Type 0} {E : Type 0} (r : Result ⊤ E) → OnOk r A → (A → B) → OnOk r B
on_ok (Ok done) a f = f a
on_ok (Err error) a f = tt

-- the line at a place
pub line_fits : (lines : List ScriptLine) (k : ℕ) (line : ScriptLine) → k < length lines → line ≡ get_or lines k line → AllFit (steps_of lines) → Fits (step_of line.what)
line_fits lines k line within is fit =
    let there : get_or (steps_of lines) k (step_at line) ≡ step_at line = get_or-map step_at lines k line (step_at line) within ∙ ap step_at (sym is) in
    let long : length (steps_of lines) ≡ length lines = length-map lines step_at in
    subst (λ (s : StepAt). Fits s.what) there (fit k (step_at line) (omega (arith, within, long)))

pub line_on : (lines : List ScriptLine) (k : ℕ) (line : ScriptLine) → k < length lines → line ≡ get_or lines k line → steps_of (drop k lines) ≡ step_at line ∷ steps_of (drop (k + 1) lines)
line_on lines k line within is = steps_from lines k line within ∙ ap (λ (l : ScriptLine). step_at l ∷ steps_of (drop (k + 1) lines)) (sym is)

pub bytes_on : (lines : List ScriptLine) (k : ℕ) (line : ScriptLine) → k < length lines → line ≡ get_or lines k line → bytes_of (steps_of (drop k lines)) ≡ bytes_in (step_of line.what) + bytes_of (steps_of (drop (k + 1) lines))
bytes_on lines k line within is = ap bytes_of (line_on lines k line within is)

pub none_on : (lines : List ScriptLine) (k : ℕ) → length lines ≤ k → steps_of (drop k lines) ≡ []
none_on lines k all = ap steps_of (drop_all k lines all)

-- ---- a session as it goes on

module _ {I : Type 0} {D : I → Type 0} where
  -- a session holds the document to which the steps so far have led it
  pub record IsOnTheWay (faces : List (Option Table)) (now : Session I D) (view : View) (first : Opened) (old new : Option (List ℕ)) (all behind : List StepAt) : Type 0 where
    pub opened : Opened
    pub most : ℕ
    pub gone : HaveGone view first opened old new all behind
    pub holds : Holds faces most now opened

  module _ (before behind : List (Option Table)) (now new : Session I D) (s : StepAt) (rest : List StepAt) (mid is : Option (List ℕ)) where
    -- there is room for a step, and behind it for the others
    pub room_for : HasRoom before now (s ∷ rest) → total bytes (state_of now.document) + bytes_in s.what ≤ 1048576
    room_for (most, opened, holds, room) = let short = holds.history.here.short in omega (arith, short, room)

    pub room_on : HasRoom before now (s ∷ rest) → Goes before behind now new s.what s.line mid is → HasRoom behind new rest
    room_on (most, opened, holds, room) goes =
        let to = goes most opened holds in
        let fits = to.room in
        (to.much, to.next, to.holds, omega (arith, fits, room))

    module _ (view : View) (same : now.view ≡ view) (first : Opened) (was : Option (List ℕ)) (all : List StepAt) where
      -- a step more
      pub way_on : IsOnTheWay before now view first was mid all (s ∷ rest) → Goes before behind now new s.what s.line mid is → IsOnTheWay behind new view first was is all rest
      way_on way goes =
          let to = goes way.most way.opened way.holds in
          record {
            opened = to.next;
            most = to.much;
            gone = gone_on view first way.opened to.next was mid is all s rest to.due way.gone (subst (λ (v : View). IsStep v way.opened s.what s.line to.next to.due) same to.step) to.appended;
            holds = to.holds;
          }

      -- a step that breaks off
      pub way_off : HaveOneEnd → IsOnTheWay before now view first was mid all (s ∷ rest) → Begins before now s.what s.line mid is
          → (last : Opened) (due : List ℕ) → AreStepsFrom view first all last due → AppendsFront was is due
      way_off ends way begins =
          broken view ends first way.opened was mid is all s rest way.gone
          (λ next due step. begins way.most way.opened next due way.holds (subst (λ (v : View). IsStep v way.opened s.what s.line next due) (sym same) step))
