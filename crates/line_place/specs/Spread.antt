-- How far fragments reach on the page, with all inside them.
use Rattle.std.specs.Prelude.{ℕ, ◌+◌, ◌*◌, max, unsigned_abs}
use Rattle.wm_modes.specs.declared.rects.FlowRect.{FlowRect}
use Rattle.fragment_types.specs.Fragment.{Kind, block, line, span, run, measure, Pieces, none, piece}

-- how far a rectangle takes what stands in it: its distance on the further axis, and its greater size twice, since it may be measured from
-- either edge, and what stands in it from either edge again
abbrev pub stretch : FlowRect → ℕ
stretch rect = max (unsigned_abs rect.i) (unsigned_abs rect.b) + 2 * max (unsigned_abs rect.inline) (unsigned_abs rect.block)

-- how far what stands inside a fragment reaches from the fragment, by how far that does from what it is measured from: the content area of
-- a box, a line
abbrev pub inside_in : Kind → (inner : ℕ) → ℕ
inside_in (block mode dir content definite start end_ through) inner = stretch content + inner
inside_in (line index base mode baseline) inner = inner
inside_in span inner = inner
inside_in (run form level natural units) inner = inner
inside_in (measure least most) inner = inner

-- a fragment with what stands inside it; pieces of inline boxes and what stands in them are measured from one line
abbrev pub spread_in : FlowRect → Kind → (inner : ℕ) → ℕ
spread_in rect (block mode dir content definite start end_ through) inner = stretch rect + (stretch content + inner)
spread_in rect (line index base mode baseline) inner = stretch rect + inner
spread_in rect span inner = max (stretch rect) inner
spread_in rect (run form level natural units) inner = max (stretch rect) inner
spread_in rect (measure least most) inner = max (stretch rect) inner

-- the furthest of these fragments
abbrev pub spread : Pieces → ℕ
spread none = 0
spread (piece name rect kind inner next) = max (spread_in rect kind (spread inner)) (spread next)

-- the furthest of what stands inside them
abbrev pub inside : Pieces → ℕ
inside none = 0
inside (piece name rect kind inner next) = max (inside_in kind (spread inner)) (inside next)
