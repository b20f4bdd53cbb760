-- Runs of text: units that stand side by side on a line and follow each other in the text.
use Rattle.std.specs.Prelude.{ℕ, ◌+◌, ◌%◌, ⊤, Bool, true, false, ◌&&◌, ◌==◌, cond, List, [], ◌∷◌, Option, Some, None}
use Rattle.fragment_types.specs.declared.unit_kind.UnitKind.{UnitKind}
use Rattle.fragment_types.specs.declared.unit_kind.UnitKind.TheVariants.{Along, Turned, Upright, Combined}
use Rattle.line_place.specs.Line.{Content, unit, combined, atom, nothing, Item}
use Rattle.line_place.specs.Leaves.{Leaf}

abbrev pub is_form : UnitKind → UnitKind → Bool
is_form Along Along = true
is_form Turned Turned = true
is_form Upright Upright = true
is_form Combined Combined = true
is_form _ _ = false

abbrev pub is_place : Option ℕ → Option ℕ → Bool
is_place None None = true
is_place (Some p) (Some q) = p == q
is_place _ _ = false

-- units of one text node and one form
abbrev pub are_alike : Content → Content → Bool
are_alike (unit node first end_ form glyphs) (unit node' first' end' form' glyphs') = (node == node') && is_form form form'
are_alike _ _ = false

-- items that may stand in one run: units of one text node and one form, inside the same box
abbrev pub stand_alike : Item → Item → Bool
stand_alike item other = are_alike item.what other.what && is_place item.inside other.inside

-- whether the second item follows the first one, where text of this level goes from line-left, or the other way
abbrev pub follows : (level : ℕ) → (place : ℕ) → (next : ℕ) → Bool
follows level place next = cond (level % 2 == 0) (next == place + 1) (place == next + 1)

-- whether a run goes on from the one leaf to the next
abbrev pub goes_on : Leaf → Leaf → Bool
goes_on leaf next = are_alike leaf.what next.what && is_place leaf.inside next.inside && (leaf.level == next.level) && follows leaf.level leaf.place next.place

abbrev pub joined : Leaf → List (List Leaf) → List (List Leaf)
joined leaf [] = (leaf ∷ []) ∷ []
joined leaf ([] ∷ runs) = (leaf ∷ []) ∷ runs
joined leaf ((next ∷ run) ∷ runs) = cond (goes_on leaf next) ((leaf ∷ next ∷ run) ∷ runs) ((leaf ∷ []) ∷ (next ∷ run) ∷ runs)

-- the leaves of a line in its longest runs; what isn't a unit stands alone
abbrev pub runs : List Leaf → List (List Leaf)
runs [] = []
runs (leaf ∷ leaves) = joined leaf (runs leaves)

-- what is no atom
abbrev pub IsNoAtom : Content → Type 0
IsNoAtom (unit node first end_ form glyphs) = ⊤
IsNoAtom (combined node first end_ natural glyphs) = ⊤
IsNoAtom (atom fragment left_margin over_margin over under) = ⊥
IsNoAtom nothing = ⊤

abbrev pub HaveNoAtom : List Leaf → Type 0
HaveNoAtom [] = ⊤
HaveNoAtom (leaf ∷ leaves) = IsNoAtom leaf.what × HaveNoAtom leaves

-- no atom stands behind the first leaf of a run
abbrev pub HasAtomFirst : List Leaf → Type 0
HasAtomFirst [] = ⊤
HasAtomFirst (leaf ∷ leaves) = HaveNoAtom leaves
