-- Logs that stand for whole states.
use Rattle.std.proofs.Common.{◌≡◌, ◌∙◌, ℕ, zero, suc, ◌-◌, ◌≤◌, List, [], ◌∷◌, ◌++◌, length, take, drop, refl, ap, sym, subst, arith}
use Rattle.std.specs.List.{slice_get}
use Rattle.circular_buffer.specs.Buffer.{keep_last, last_item}
use Rattle.edits.specs.Exact.{ExactChange, StepOf}
use Rattle.undo_log.specs.Log.{Log, gone_down, gone_up, greatest_count, recorded}
use Rattle.undo_log.specs.History.{LeadOnFrom, LeadUpTo, Leads, LeadsBothWays, Standing, StandsFor, first_or}
use Rattle.undo_log.specs.Laws.{IsAfter, IsBefore, StandForStates}
use Rattle.undo_log.proofs.LogLaws.{before_last, last_alone, last_pushed}

module _ (drawn : ℕ) where
  -- ---- as many steps as states

  as_many_up : (now : Standing) (steps : List StepOf) (states : List Standing) → LeadUpTo drawn now steps states → length steps ≡ length states
  as_many_up now [] [] up = refl
  as_many_up now [] (before ∷ states) up = absurd up
  as_many_up now (step ∷ steps) [] up = absurd up
  as_many_up now (step ∷ steps) (before ∷ states) up = ap suc (as_many_up now steps states up.1)

  as_many_on : (now : Standing) (steps : List StepOf) (states : List Standing) → LeadOnFrom drawn now steps states → length steps ≡ length states
  as_many_on now [] [] on = refl
  as_many_on now [] (later ∷ states) on = absurd on
  as_many_on now (step ∷ steps) [] on = absurd on
  as_many_on now (step ∷ steps) (later ∷ states) on = ap suc (as_many_on later steps states on.1)

  -- ---- a step more, and only the last ones

  first_pushed : (now later : Standing) (states : List Standing) → first_or later (states ++ now ∷ []) ≡ first_or now states
  first_pushed now later [] = refl
  first_pushed now later (before ∷ states) = refl

  up_more : (now later : Standing) (steps : List StepOf) (states : List Standing) (step : StepOf) → LeadUpTo drawn now steps states → LeadsBothWays drawn now step later
      → LeadUpTo drawn later (steps ++ step ∷ []) (states ++ now ∷ [])
  up_more now later [] [] step up leads = (leads, tt)
  up_more now later [] (before ∷ states) step up leads = absurd up
  up_more now later (first ∷ steps) [] step up leads = absurd up
  up_more now later (first ∷ steps) (before ∷ states) step up leads =
      (subst (LeadsBothWays drawn before first) (sym (first_pushed now later states)) up.0, up_more now later steps states step up.1 leads)

  up_without : (count : ℕ) (now : Standing) (steps : List StepOf) (states : List Standing) → LeadUpTo drawn now steps states → LeadUpTo drawn now (drop count steps) (drop count states)
  up_without zero now steps states up = up
  up_without (suc count) now [] [] up = tt
  up_without (suc count) now [] (before ∷ states) up = absurd up
  up_without (suc count) now (step ∷ steps) [] up = absurd up
  up_without (suc count) now (step ∷ steps) (before ∷ states) up = up_without count now steps states up.1

  edited : (log : Log StepOf) (states : Log Standing) (now later : Standing) (step : StepOf) → StandsFor drawn log states now → LeadsBothWays drawn now step later
      → StandsFor drawn (recorded step log) (recorded now states) later
  edited log states now later step stands leads =
      let up = up_more now later log.past states.past step stands.past leads in
      let P : ℕ → Type 0 = λ n. LeadUpTo drawn later (keep_last greatest_count (log.past ++ step ∷ [])) (drop (n - greatest_count) (states.past ++ now ∷ [])) in
      record {
        past = subst P (as_many_up later (log.past ++ step ∷ []) (states.past ++ now ∷ []) up)
            (up_without (length (log.past ++ step ∷ []) - greatest_count) later (log.past ++ step ∷ []) (states.past ++ now ∷ []) up);
        future = tt;
      }

  -- ---- back

  -- the last step and those before it
  record Ends (earlier now : Standing) (steps : List StepOf) (states : List Standing) : Type 0 where
    before : List StepOf
    step : StepOf
    is : steps ≡ before ++ step ∷ []
    up : LeadUpTo drawn earlier before states
    leads : LeadsBothWays drawn earlier step now

  ends : (earlier now : Standing) (steps : List StepOf) (states : List Standing) → LeadUpTo drawn now steps (states ++ earlier ∷ []) → Ends earlier now steps states
  ends earlier now [] [] up = absurd up
  ends earlier now [] (before ∷ states) up = absurd up
  ends earlier now (step ∷ []) [] up = record { before = []; step = step; is = refl; up = tt; leads = up.0 }
  ends earlier now (step ∷ next ∷ steps) [] up = absurd up.1
  ends earlier now (step ∷ steps) (before ∷ states) up =
      let on = ends earlier now steps states up.1 in
      record {
        before = step ∷ on.before;
        step = on.step;
        is = ap (λ (l : List StepOf). step ∷ l) on.is;
        up = (subst (LeadsBothWays drawn before step) (first_pushed earlier now states) up.0, on.up);
        leads = on.leads;
      }

  back : (log : Log StepOf) (past future : List Standing) (earlier now : Standing) → StandsFor drawn log (record { past = past ++ earlier ∷ []; future = future }) now
      → IsBefore drawn earlier log now × StandsFor drawn (gone_down log) (record { past = past; future = now ∷ future }) earlier
  back log past future earlier now stands =
      let last = ends earlier now log.past past stands.past in
      let left : take (length log.past - 1) log.past ≡ last.before = ap (λ (l : List StepOf). take (length l - 1) l) last.is ∙ before_last last.before last.step in
      let more : drop (length log.past - 1) log.past ++ log.future ≡ last.step ∷ log.future =
      ap (λ (l : List StepOf). drop (length l - 1) l ++ log.future) last.is ∙ ap (λ (l : List StepOf). l ++ log.future) (last_alone last.before last.step) in (
        record { step = last.step; is = ap last_item last.is ∙ last_pushed last.before last.step; leads = last.leads.back },
        record {
          past = subst (λ (l : List StepOf). LeadUpTo drawn earlier l past) (sym left) last.up;
          future = subst (λ (l : List StepOf). LeadOnFrom drawn earlier l (now ∷ future)) (sym more) (last.leads, stands.future);
        },
      )

  -- ---- ahead

  -- the first step and those after it
  record Begins (later now : Standing) (steps : List StepOf) (states : List Standing) : Type 0 where
    step : StepOf
    after : List StepOf
    is : steps ≡ step ∷ after
    leads : LeadsBothWays drawn now step later
    on : LeadOnFrom drawn later after states

  begins : (later now : Standing) (steps : List StepOf) (states : List Standing) → LeadOnFrom drawn now steps (later ∷ states) → Begins later now steps states
  begins later now [] states on = absurd on
  begins later now (step ∷ steps) states on = record { step = step; after = steps; is = refl; leads = on.0; on = on.1 }

  ahead : (log : Log StepOf) (past future : List Standing) (later now : Standing) → StandsFor drawn log (record { past = past; future = later ∷ future }) now
      → IsAfter drawn later log now × StandsFor drawn (gone_up log) (record { past = past ++ now ∷ []; future = future }) later
  ahead log past future later now stands =
      let first = begins later now log.future future stands.future in (
        record { step = first.step; is = ap (λ (l : List StepOf). slice_get l 0) first.is; leads = first.leads.again },
        record {
          past = subst (λ (l : List StepOf). LeadUpTo drawn later (log.past ++ take 1 l) (past ++ now ∷ [])) (sym first.is) (up_more now later log.past past first.step stands.past first.leads);
          future = subst (λ (l : List StepOf). LeadOnFrom drawn later (drop 1 l) future) (sym first.is) first.on;
        },
      )

  -- ---- more numbers were drawn since

  module _ (more : ℕ) (above : drawn ≤ more) where
    leads_more : (from to : Standing) (edit : ExactChange) → Leads drawn from edit to → Leads more from edit to
    leads_more from to edit leads = record {
      can = λ next drawn_more. leads.can next (omega (arith, above, drawn_more));
      leads = λ next drawn_more. leads.leads next (omega (arith, above, drawn_more));
    }

    both_more : (before later : Standing) (step : StepOf) → LeadsBothWays drawn before step later → LeadsBothWays more before step later
    both_more before later step leads = record { back = leads_more later before step.back leads.back; again = leads_more before later step.again leads.again }

    up_where_more : (now : Standing) (steps : List StepOf) (states : List Standing) → LeadUpTo drawn now steps states → LeadUpTo more now steps states
    up_where_more now [] [] up = tt
    up_where_more now [] (before ∷ states) up = absurd up
    up_where_more now (step ∷ steps) [] up = absurd up
    up_where_more now (step ∷ steps) (before ∷ states) up = (both_more before (first_or now states) step up.0, up_where_more now steps states up.1)

    on_where_more : (now : Standing) (steps : List StepOf) (states : List Standing) → LeadOnFrom drawn now steps states → LeadOnFrom more now steps states
    on_where_more now [] [] on = tt
    on_where_more now [] (later ∷ states) on = absurd on
    on_where_more now (step ∷ steps) [] on = absurd on
    on_where_more now (step ∷ steps) (later ∷ states) on = (both_more now later step on.0, on_where_more later steps states on.1)

pub stand_for_states : StandForStates
stand_for_states = record {
  begun = λ drawn now. record { past = tt; future = tt };
  edited = edited;
  back = back;
  ahead = ahead;
  more = λ drawn more log states now above stands. record {
    past = up_where_more drawn more above now log.past states.past stands.past;
    future = on_where_more drawn more above now log.future states.future stands.future;
  };
  counts = λ drawn log states now stands. (as_many_up drawn now log.past states.past stands.past, as_many_on drawn now log.future states.future stands.future);
}
