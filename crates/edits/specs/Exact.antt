-- Exact edits: steps of a history down and up again, in which each node has the number and each rule the place that it had.
-- DOM, 4.2.3, and CSSOM, 6.4, narrowed.
use Rattle.std.specs.Prelude.{ℕ, ◌+◌, ◌≤◌, List, ◌++◌, length, take, drop, Option, None, Some}
use Rattle.css_types.specs.Rule.{Ruling, rulings_of}
use Rattle.dom_store.specs.Exact as tree
use Rattle.dom_store.specs.Exactly as tree_limits
use Rattle.dom_store.specs.Steps as tree_steps
use Rattle.edits.specs.declared.exact.ExactEdit as code
use Rattle.edits.specs.declared.exact.ExactEdit.TheVariants as exacts
use Rattle.edits.specs.declared.exact.Step as code_step
use Rattle.edits.specs.Change.{Change, of_tree, metric, retire, rule, unrule}
use Rattle.edits.specs.State.{State}

-- an exact edit, without where it lies in memory
pub data ExactChange : Type 0 where
  exact_tree : (edit : tree.ExactEditOf) → ExactChange
  put_rules : (index : ℕ) (rules : List Ruling) → ExactChange
  take_rules : (index count : ℕ) → ExactChange

pub record StepOf : Type 0 where
  pub back : ExactChange
  pub again : ExactChange

-- ---- the state after an exact edit, and where one can be done

-- these among others, the first of them at this index
abbrev pub put_at : (index : ℕ) → (rules others : List Ruling) → List Ruling
put_at index rules others = take index others ++ (rules ++ drop index others)

-- without so many, the first of them at this index
abbrev pub taken_at : (index count : ℕ) → List Ruling → List Ruling
taken_at index count rules = take index rules ++ drop (index + count) rules

abbrev pub exactly : State → ExactChange → State
exactly state (exact_tree edit) = record state { tree = tree.exactly state.tree edit }
exactly state (put_rules index rules) = record state { rules = put_at index rules state.rules }
exactly state (take_rules index count) = record state { rules = taken_at index count state.rules }

-- rules can be put among the others, and taken where they stand
abbrev pub CanBeDone : State → ExactChange → Type 0
CanBeDone state (exact_tree edit) = tree_limits.CanBeDone state.tree edit
CanBeDone state (put_rules index rules) = index ≤ length state.rules
CanBeDone state (take_rules index count) = index + count ≤ length state.rules

-- ---- the step of an edit that isn't refused: what leads back from it, and what leads there again

abbrev pub of_tree_step : tree_steps.StepOf → StepOf
of_tree_step step = record { back = exact_tree step.back; again = exact_tree step.again }

-- of rules that come behind others
abbrev pub rule_step : (others rules : List Ruling) → StepOf
rule_step others rules = record { back = take_rules (length others) (length rules); again = put_rules (length others) rules }

-- of one that goes
abbrev pub unrule_step : List Ruling → (index : ℕ) → StepOf
unrule_step rules index = record { back = put_rules index (take 1 (drop index rules)); again = take_rules index 1 }

-- edits of the tree and of the rules have one; those of faces don't, since a face that is given up doesn't come back
abbrev pub step_of : State → Change → Option StepOf
step_of state (of_tree edit) = Some (of_tree_step (tree_steps.step_of state.tree edit))
step_of state (metric face c upright value) = None
step_of state (retire face) = None
step_of state (rule rules) = Some (rule_step state.rules rules)
step_of state (unrule index) = Some (unrule_step state.rules index)

-- ---- without where it lies in memory

abbrev pub exact_of : code.ExactEdit → ExactChange
exact_of (exacts.Tree edit) = exact_tree (tree.exact_of edit)
exact_of (exacts.PutRules index rules) = put_rules index (rulings_of rules.items)
exact_of (exacts.TakeRules index count) = take_rules index count

abbrev pub step_as : code_step.Step → StepOf
step_as step = record { back = exact_of step.back; again = exact_of step.again }
