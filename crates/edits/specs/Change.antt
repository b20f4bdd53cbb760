-- Edits, without where they lie in memory.
use Rattle.std.specs.Prelude.{ℕ, ◌≤◌, Bool, true, false, List, ⊤}
use Rattle.std.specs.List.{All}
use Rattle.css_types.specs.Rule.{Ruling, rulings_of}
use Rattle.dom_store.specs.Edited as tree
use Rattle.dom_store.specs.Edits.{EditOf}
use Rattle.dom_store.specs.State.{AreSaid}
use Rattle.edits.specs.declared.edit.Edit as code
use Rattle.edits.specs.declared.edit.Edit.TheVariants as edits

pub data Change : Type 0 where
  of_tree : (edit : EditOf) → Change
  metric : (face c : ℕ) (upright : Bool) (value : ℕ) → Change
  retire : (face : ℕ) → Change
  rule : (rules : List Ruling) → Change
  unrule : (index : ℕ) → Change

abbrev pub change_of : code.Edit → Change
change_of (edits.Tree edit) = of_tree (tree.edit_of edit)
change_of (edits.Metric face c upright value) = metric face c upright value
change_of (edits.Retire face) = retire face
change_of (edits.Rule rules) = rule (rulings_of rules.items)
change_of (edits.Unrule index) = unrule index

abbrev pub is_tree : Change → Bool
is_tree (of_tree edit) = true
is_tree (metric face c upright value) = false
is_tree (retire face) = false
is_tree (rule rules) = false
is_tree (unrule index) = false

-- nodes that are inserted are those of a fragment; an advance is at most 10,000; face 0 isn't retired
abbrev pub IsFitting : Change → Type 0
IsFitting (of_tree edit) = tree.IsFitting edit
IsFitting (metric face c upright value) = value ≤ 10000
IsFitting (retire face) = 1 ≤ face
IsFitting (rule rules) = ⊤
IsFitting (unrule index) = ⊤

-- the numbers of declarations that an edit brings are such as a style sheet can say
abbrev pub IsSaid : Change → Type 0
IsSaid (of_tree edit) = tree.IsSaidEdit edit
IsSaid (metric face c upright value) = ⊤
IsSaid (retire face) = ⊤
IsSaid (rule rules) = All (λ rule. AreSaid rule.declarations) rules
IsSaid (unrule index) = ⊤

-- how many bytes of text an edit brings
abbrev pub bytes_brought : Change → ℕ
bytes_brought (of_tree edit) = tree.bytes_brought edit
bytes_brought (metric face c upright value) = 0
bytes_brought (retire face) = 0
bytes_brought (rule rules) = 0
bytes_brought (unrule index) = 0
