-- What is found among the nodes of a document.
use Rattle.std.specs.Prelude.{ℕ, ◌+◌, List, [], ◌∷◌, Option, Some, None}
use Rattle.std.specs.List.{Contains}
use Rattle.style_types.specs.declared.style.Style.{Style}
use Rattle.css_types.specs.Rule.{Ruling}
use Rattle.html_read.specs.Values.{Node}
use Rattle.dom_store.specs.State.{What, State, IsRooted}
use Rattle.dom_store.specs.Standing.{children_at}
use Rattle.tree_laws.specs.Reached.{IsAtLevel, IsReached}
use Rattle.tree_laws.specs.Wholeness.{IsWhole}
use Rattle.style_tree.specs.Styling.{styled_document}
use Rattle.box_gen.specs.declared.found.Found.{Found}
use Rattle.box_gen.specs.declared.site.Site.{Site}
use Rattle.box_gen.specs.Found.{found_at}
use Rattle.box_gen.specs.Orthogonal.{IsLeastOf, root_past}
use Rattle.box_gen.specs.Site as sites
use Rattle.box_limits.specs.Limits.{IsLeastAmong, all_below}
use Rattle.box_limits.specs.Lines.{role_at}

-- ---- a node that stands there, without those inside it

abbrev pub found_there : (number : ℕ) → What → Style → Site → Found
found_there number what style site = found_at number (sites.is_past (role_at what style) style.mode site)

-- ---- a document

pub record IsTree (state : State) : Type 0 where
  pub rooted : IsRooted state
  pub whole : IsWhole state
  pub reached : IsReached state

-- these stand in the parent, which is `body` or stands below it
pub record AreInside (state : State) (parent : ℕ) (numbers : List ℕ) : Type 0 where
  pub below : (level : ℕ) × IsAtLevel state (level + 1) parent
  pub children : (number : ℕ) → Contains numbers number → Contains (children_at state parent) number

-- the least of these nodes and all below them that breaks the limit
abbrev pub FindsBelow : List Ruling → State → (numbers : List ℕ) → Found → Type 0
FindsBelow rules state numbers found = IsLeastAmong rules state (all_below state numbers) found.past

-- the least of all nodes that does
abbrev pub FindsAll : List Ruling → State → Found → Type 0
FindsAll rules state found = IsLeastOf (root_past (styled_document rules state)) found.past

abbrev pub one_unless : Option ℕ → ℕ
one_unless None = 1
one_unless (Some parent) = 0

-- how many nodes stand in no other
abbrev pub count_of_tops : List Node → ℕ
count_of_tops [] = 0
count_of_tops (node ∷ nodes) = one_unless node.parent + count_of_tops nodes
