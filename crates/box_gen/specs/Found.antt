-- What is found among styled nodes that stand at a site: the least number of a node that passes the limit.
use Rattle.std.specs.Prelude.{ℕ, Bool, true, false, List, [], Option, Some, None}
use Rattle.style_types.specs.Tree.{Nodes}
use Rattle.box_gen.specs.declared.found.Found.{Found}
use Rattle.box_gen.specs.declared.site.Site.{Site}
use Rattle.box_gen.specs.Building.{least, lesser}
use Rattle.box_gen.specs.Orthogonal.{past}

-- none where no boxes are made
abbrev pub if_shown : (shown : Bool) → List ℕ → List ℕ
if_shown true numbers = numbers
if_shown false numbers = []

-- the nodes that have, with themselves, too many above that are orthogonal
abbrev pub past_from : Site → Nodes → List ℕ
past_from site nodes = if_shown site.shown (past nodes site.mode site.turns)

-- ---- the least of them

abbrev pub nothing_found : Found
nothing_found = record { past = None }

abbrev pub number_if : Bool → ℕ → Option ℕ
number_if true number = Some number
number_if false number = None

abbrev pub found_at : (number : ℕ) → (past : Bool) → Found
found_at number past = record { past = number_if past number }

abbrev pub both : Found → Found → Found
both one other = record { past = lesser one.past other.past }

abbrev pub found_from : Site → Nodes → Found
found_from site nodes = record { past = least (past_from site nodes) }
