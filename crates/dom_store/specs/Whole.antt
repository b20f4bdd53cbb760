-- A document's tree is whole: its nodes in document order are those that were read.
use Rattle.std.specs.Prelude.{ℕ, ◌+◌, List, [], ◌∷◌, ◌++◌, get_or, Option, Some}
use Rattle.css_types.specs.declared.value.Declaration.{Declaration}
use Rattle.html_read.specs.Values.{Node}
use Rattle.dom_store.specs.State.{What, Tree, none, node}
use Rattle.dom_store.specs.Opening.{what_of}

-- The nodes of a tree in document order, each before what is inside it: its number, its parent and what it is. The
-- nodes side by side at the top have this parent.
unfoldable pub listed : (parent : Option ℕ) → Tree → List (ℕ × Option ℕ × What)
listed parent none = []
listed parent (node number what inner next) = (number, parent, what) ∷ listed (Some number) inner ++ listed parent next

-- nodes that were read, the first of them at this place
unfoldable pub listed_from : (place : ℕ) → List Node → List (List Declaration) → List (ℕ × Option ℕ × What)
listed_from place [] own = []
listed_from place (read ∷ nodes) own = (place, read.parent, what_of read.kind (get_or own place [])) ∷ listed_from (place + 1) nodes own

-- the nodes that were read, each with its place as its number, its parent, and what it is with its own declarations
abbrev pub numbered : List Node → List (List Declaration) → List (ℕ × Option ℕ × What)
numbered nodes own = listed_from 0 nodes own
