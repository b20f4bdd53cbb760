use Rattle.std.proofs.Common.{◌≡◌, ◌+◌, ◌*◌, drop}
use Rattle.place_map.specs.Parts.{before, count, followed, none, parts_of}
use Rattle.page_window.specs.Windowing.{window_parts}
use Rattle.page_window.proofs.windowing.+window.Given as goal

-- what is kept, before what is still to come
abbrev pub invariant-window_parts-loop-part : goal.invariant-window_parts-loop-part
invariant-window_parts-loop-part l = followed l.made.items (window_parts l.rect (parts_of (drop l.part-index l.parts))) ≡ window_parts l.rect (parts_of l.parts)

-- a fragment has more inside it than those below it; fragments together have as many as each of them
abbrev pub decreases-window_part : goal.decreases-window_part
decreases-window_part l = 2 * count (before l.part.now none)

abbrev pub decreases-window_parts : goal.decreases-window_parts
decreases-window_parts l = 2 * count (parts_of l.parts.now) + 1
