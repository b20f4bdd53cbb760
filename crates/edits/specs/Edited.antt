-- What an edit leads to: the state after it, or why it is refused (docs/PROFILE/edits.md).
use Rattle.std.specs.Prelude.{ℕ, ◌+◌, nat_lt, Bool, ◌||◌, not, if◌then◌else◌, List, ◌++◌, length, take, drop, Option, Some, None, option_map, is_some}
use Rattle.std.specs.List.{sum_by}
use Rattle.css_types.specs.Rule.{Ruling}
use Rattle.dom_store.specs.declared.error.EditError.{EditError}
use Rattle.dom_store.specs.Edits as tree
use Rattle.dom_store.specs.Refusals as tree_refusals
use Rattle.face_api.specs.Living.{living, retired, set_table}
use Rattle.face_api.specs.Table.{Table, row_for}
use Rattle.edits.specs.Change.{Change, of_tree, metric, retire, rule, unrule}
use Rattle.edits.specs.State.{State}

-- ---- why an edit is refused

pub data Reason : Type 0 where
  -- the tree refuses it
  by_tree : EditError → Reason
  -- there never was such a face, or it is retired
  no_face : Reason
  -- the face's table is fixed
  fixed : Reason
  -- the face has no room for one more row
  full : Reason
  -- there would be more rules than 4,096, or more than 65,536 declarations in them
  too_many_rules : Reason
  -- there is no such rule
  no_rule : Reason

-- a row of the character can be put or replaced
abbrev pub has_room : Table → (c : ℕ) → (upright : Bool) → Bool
has_room table c upright = nat_lt (length table.rows) 4096 || is_some (row_for table.rows c upright)

abbrev pub metric_reason : Option Table → (c : ℕ) → (upright : Bool) → Option Reason
metric_reason None c upright = Some no_face
metric_reason (Some table) c upright = if table.fixed then Some fixed else (if has_room table c upright then None else Some full)

abbrev pub retire_reason : Option Table → Option Reason
retire_reason None = Some no_face
retire_reason (Some table) = None

-- the declarations of a rule with several selectors count for each
abbrev pub declared : List Ruling → ℕ
declared rules = sum_by (λ rule. length rule.declarations) rules

abbrev pub are_too_many : List Ruling → Bool
are_too_many rules = nat_lt 4096 (length rules) || nat_lt 65536 (declared rules)

-- the first reason in the order of the cases
abbrev pub refusal : State → Change → Option Reason
refusal state (of_tree edit) = option_map by_tree (tree_refusals.refusal state.tree edit)
refusal state (metric face c upright value) = metric_reason (living state.faces face) c upright
refusal state (retire face) = retire_reason (living state.faces face)
refusal state (rule rules) = if are_too_many (state.rules ++ rules) then Some too_many_rules else None
refusal state (unrule index) = if nat_lt index (length state.rules) then None else Some no_rule

-- ---- the state after it

-- without the one at this index
abbrev pub without : (index : ℕ) → List Ruling → List Ruling
without index rules = take index rules ++ drop (index + 1) rules

abbrev pub after : State → Change → State
after state (of_tree edit) = record state { tree = tree.after state.tree edit }
after state (metric face c upright value) = record state { faces = set_table state.faces face c upright value }
after state (retire face) = record state { faces = retired state.faces face }
after state (rule rules) = record state { rules = state.rules ++ rules }
after state (unrule index) = record state { rules = without index state.rules }
