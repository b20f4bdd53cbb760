-- A text of an open document that gets other letters.
use Rattle.std.specs.Prelude.{◌≡◌, ℕ, ◌≤◌, List, Some}
use Rattle.dom_store.specs.State as dom
use Rattle.dom_store.specs.State.{Entry, IsRooted, State}
use Rattle.dom_store.specs.Edits.{EditOf, after, set_text, set_style, set_class, insert, remove, move_to}
use Rattle.dom_store.specs.Exact.{ExactEditOf, exact_text, exact_style, exact_class, exact_move, take_nodes, restore}
use Rattle.dom_store.specs.Opening.{greatest_count}
use Rattle.dom_store.specs.Standing.{live_count}
use Rattle.tree_laws.specs.Reached.{IsReached}
use Rattle.tree_laws.specs.Weight.{bytes, total}
use Rattle.tree_laws.specs.Wholeness.{IsWhole}
use Rattle.box_gen.specs.Boxes.{is_blank}
use Rattle.edit_scope.specs.Leaves.{TextsAreLeaves}
use Rattle.edits.specs.Exact.{ExactChange, exact_tree, put_rules, take_rules}
use Rattle.session.specs.Document.{most_bytes}

-- a text gets letters that are white space alone exactly where its old ones are
pub record GetsAlike (state : State) (number : ℕ) (letters : List ℕ) : Type 0 where
  pub entry : Entry
  pub was : List ℕ
  pub here : state.node_at number ≡ Some entry
  pub text : entry.what ≡ dom.text was
  pub blank : is_blank letters ≡ is_blank was

-- a document is whole, with no more nodes, and no more bytes in its texts, than it may have
pub record IsInLimits (state : State) : Type 0 where
  pub whole : IsWhole state
  pub few : live_count state ≤ greatest_count
  pub short : total bytes state ≤ most_bytes

-- a text of a document gets such letters, and the document with them can be laid out
pub record CanSet (state : State) (number : ℕ) (letters : List ℕ) : Type 0 where
  pub rooted : IsRooted state
  pub whole : IsWhole state
  pub reached : IsReached state
  pub leaves : TextsAreLeaves state
  pub alike : GetsAlike state number letters
  pub limits : IsInLimits (after state (set_text number letters))

-- ---- by an edit

abbrev pub SetsAlike : State → EditOf → Type 0
SetsAlike state (set_text number letters) = GetsAlike state number letters
SetsAlike state (set_style number own) = ⊥
SetsAlike state (set_class number words) = ⊥
SetsAlike state (insert parent index nodes own) = ⊥
SetsAlike state (remove number) = ⊥
SetsAlike state (move_to number parent index) = ⊥

abbrev pub CanSetBy : State → EditOf → Type 0
CanSetBy state (set_text number letters) = CanSet state number letters
CanSetBy state (set_style number own) = ⊥
CanSetBy state (set_class number words) = ⊥
CanSetBy state (insert parent index nodes own) = ⊥
CanSetBy state (remove number) = ⊥
CanSetBy state (move_to number parent index) = ⊥

-- ---- by an exact edit

abbrev pub SetsExactlyAlike : State → ExactEditOf → Type 0
SetsExactlyAlike state (exact_text number letters) = GetsAlike state number letters
SetsExactlyAlike state (exact_style number own) = ⊥
SetsExactlyAlike state (exact_class number words) = ⊥
SetsExactlyAlike state (exact_move number parent index) = ⊥
SetsExactlyAlike state (take_nodes parent numbers) = ⊥
SetsExactlyAlike state (restore parent index nodes) = ⊥

abbrev pub CanSetExactly : State → ExactEditOf → Type 0
CanSetExactly state (exact_text number letters) = CanSet state number letters
CanSetExactly state (exact_style number own) = ⊥
CanSetExactly state (exact_class number words) = ⊥
CanSetExactly state (exact_move number parent index) = ⊥
CanSetExactly state (take_nodes parent numbers) = ⊥
CanSetExactly state (restore parent index nodes) = ⊥

-- of a document and its rules
abbrev pub StepSetsAlike : State → ExactChange → Type 0
StepSetsAlike state (exact_tree edit) = SetsExactlyAlike state edit
StepSetsAlike state (put_rules index rules) = ⊥
StepSetsAlike state (take_rules index count) = ⊥
