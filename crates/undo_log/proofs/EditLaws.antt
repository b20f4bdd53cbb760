-- The steps of edits of whole documents.
use Rattle.std.proofs.Common.{◌≡◌, ◌∙◌, ℕ, ◌+◌, ◌-◌, ◌<◌, Bool, true, false, List, [], ◌++◌, length, length-append, length-drop, take, drop, refl, ap, sym, subst, arith, Option, Some, None, option_map, if◌then◌else◌}
use Rattle.std.specs.Prelude.{nat_lt}
use Rattle.std.proofs.lemmas.Bool.{ltb-true}
use Rattle.std.proofs.lemmas.List.{append-nil, drop-drop, drop_all, drop_at, length-take-le, take-append-drop, take_all, take_at}
use Rattle.css_types.specs.Rule.{Ruling}
use Rattle.dom_store.specs.declared.error.EditError.{EditError}
use Rattle.dom_store.specs.State as dom
use Rattle.dom_store.specs.Building.{with_next}
use Rattle.dom_store.specs.Edits as tree
use Rattle.dom_store.specs.Refusals as tree_refusals
use Rattle.dom_store.specs.Steps as tree_steps
use Rattle.tree_laws.specs.Doable.{StepsCanBeDoneAgain, StepsCanBeTakenBack}
use Rattle.tree_laws.specs.Stepped as stepped
use Rattle.tree_laws.specs.Stepped.{StepsLeadBack, StepsLeadThere}
use Rattle.edits.specs.State.{State}
use Rattle.edits.specs.Change.{of_tree, metric, retire, rule, unrule}
use Rattle.edits.specs.Edited.{after, by_tree, no_rule, without}
use Rattle.edits.specs.Exact.{StepOf, of_tree_step, put_rules, take_rules}
use Rattle.undo_log.specs.History.{LeadsBothWays, Standing, standing_of, state_with}
use Rattle.undo_log.specs.Laws.{CanStep, StepsOfEditsLeadBothWays}
use Rattle.undo_log.proofs.NextLaws.{exactly_alike}

-- a step that is this one
the_step : (drawn : ℕ) (before later : Standing) (known step : StepOf) → LeadsBothWays drawn before known later → Some known ≡ Some step → LeadsBothWays drawn before step later
the_step drawn before later known step leads is =
    let same : known ≡ step = cc in
    subst (λ (s : StepOf). LeadsBothWays drawn before s later) same leads

-- ---- of the tree

module _ (back : StepsLeadBack) (there : StepsLeadThere) (can_back : StepsCanBeTakenBack) (can_again : StepsCanBeDoneAgain) where
  of_trees : (state : State) (edit : tree.EditOf) → CanStep state (of_tree edit)
      → LeadsBothWays (tree.after state.tree edit).next (standing_of state) (of_tree_step (tree_steps.step_of state.tree edit)) (standing_of (after state (of_tree edit)))
  of_trees state edit can =
      let now = tree.after state.tree edit in
      let step = tree_steps.step_of state.tree edit in
      let reason = tree_refusals.refusal state.tree edit in
      let unrefused : option_map by_tree reason ≡ None → reason ≡ None = elim reason as (λ (r : Option EditError). (option_map by_tree r ≡ None → r ≡ None)) [
        | None ↦ λ is. refl
        | Some error ↦ λ is. absurd cc
      ] in
      let may : stepped.CanStep state.tree edit = record {
        fitting = can.fitting;
        rooted = can.rooted;
        whole = can.whole;
        reached = can.reached;
        unrefused = unrefused can.unrefused;
      } in
      record {
        back = record {
          can = λ next drawn. can_back state.tree edit may can.held next drawn;
          leads = λ next drawn. ap (λ (tree : dom.State). record state { tree = tree }) (exactly_alike next now step.back ∙ ap (with_next next) (back state.tree edit may));
        };
        again = record {
          can = λ next drawn. can_again state.tree edit may next drawn;
          leads = λ next drawn. ap (λ (tree : dom.State). record state { tree = tree }) (exactly_alike next (with_next now.next state.tree) step.again ∙ ap (with_next next) (there state.tree edit may));
        };
      }

-- ---- of the rules

module _ (rules : List Ruling) where
  put_back : (more : List Ruling) → take (length rules) (rules ++ more) ++ drop (length rules + length more) (rules ++ more) ≡ rules
  put_back more =
      let none : drop (length rules + length more) (rules ++ more) ≡ [] = drop_all (length rules + length more) (rules ++ more) (omega (arith, length-append rules more)) in
      ap (λ (l : List Ruling). l ++ drop (length rules + length more) (rules ++ more)) (take_at rules more (length rules) refl) ∙ (ap (λ (l : List Ruling). rules ++ l) none ∙ append-nil rules)

  put_again : (more : List Ruling) → take (length rules) rules ++ (more ++ drop (length rules) rules) ≡ rules ++ more
  put_again more =
      let none : drop (length rules) rules ≡ [] = drop_all (length rules) rules (omega arith) in
      ap (λ (l : List Ruling). l ++ (more ++ drop (length rules) rules)) (take_all (length rules) rules (omega arith)) ∙ ap (λ (l : List Ruling). rules ++ l) (ap (λ (l : List Ruling). more ++ l) none ∙ append-nil more)

  module _ (index : ℕ) (within : index < length rules) where
    others_long : length (without index rules) ≡ index + (length rules - (index + 1))
    others_long = omega (arith, length-append (take index rules) (drop (index + 1) rules), length-take-le index rules (omega (arith, within)), length-drop (index + 1) rules)

    -- the rule is put again where it stood
    one_back : take index (without index rules) ++ (take 1 (drop index rules) ++ drop index (without index rules)) ≡ rules
    one_back =
        let long = length-take-le index rules (omega (arith, within)) in
        let rest : drop index (without index rules) ≡ drop 1 (drop index rules) = drop_at (take index rules) (drop (index + 1) rules) index long ∙ sym (drop-drop 1 index rules) in
        ap (λ (l : List Ruling). l ++ (take 1 (drop index rules) ++ drop index (without index rules))) (take_at (take index rules) (drop (index + 1) rules) index long)
        ∙ (ap (λ (l : List Ruling). take index rules ++ (take 1 (drop index rules) ++ l)) rest
        ∙ (ap (λ (l : List Ruling). take index rules ++ l) (take-append-drop 1 (drop index rules))
        ∙ take-append-drop index rules))

of_more_rules : (state : State) (more : List Ruling) → LeadsBothWays state.tree.next (standing_of state)
    (record { back = take_rules (length state.rules) (length more); again = put_rules (length state.rules) more }) (standing_of (after state (rule more)))
of_more_rules state more = record {
  back = record {
    can = λ next drawn. omega (arith, length-append state.rules more);
    leads = λ next drawn. ap (λ (rules : List Ruling). state_with next (record (standing_of state) { rules = rules })) (put_back state.rules more);
  };
  again = record {
    can = λ next drawn. omega arith;
    leads = λ next drawn. ap (λ (rules : List Ruling). state_with next (record (standing_of state) { rules = rules })) (put_again state.rules more);
  };
}

of_less_rules : (state : State) (index : ℕ) → index < length state.rules → LeadsBothWays state.tree.next (standing_of state)
    (record { back = put_rules index (take 1 (drop index state.rules)); again = take_rules index 1 }) (standing_of (after state (unrule index)))
of_less_rules state index within = record {
  back = record {
    can = λ next drawn. omega (arith, others_long state.rules index within);
    leads = λ next drawn. ap (λ (rules : List Ruling). state_with next (record (standing_of state) { rules = rules })) (one_back state.rules index within);
  };
  again = record {
    can = λ next drawn. omega (arith, within);
    leads = λ next drawn. refl;
  };
}

-- an index that isn't refused
inside : (index count : ℕ) (b : Bool) → nat_lt index count ≡ b → (if b then None else Some no_rule) ≡ None → index < count
inside index count true is none = ltb-true index count is
inside index count false is none = absurd cc

-- ---- of either

pub lead_both_ways : StepsLeadBack → StepsLeadThere → StepsCanBeTakenBack → StepsCanBeDoneAgain → StepsOfEditsLeadBothWays
lead_both_ways back there can_back can_again = by
  where
    by : StepsOfEditsLeadBothWays
    by state (of_tree edit) step can is = the_step _ _ _ _ step (of_trees back there can_back can_again state edit can) is
    by state (metric face c upright value) step can is = absurd cc
    by state (retire face) step can is = absurd cc
    by state (rule more) step can is = the_step _ _ _ _ step (of_more_rules state more) is
    by state (unrule index) step can is = the_step _ _ _ _ step (of_less_rules state index (inside index (length state.rules) (nat_lt index (length state.rules)) refl can.unrefused)) is
