-- The answers to the lines of a probe over a page.
use Rattle.std.specs.Prelude.{ℕ, List, [], ◌∷◌, ◌++◌}
use Rattle.place_map.specs.Placed.{Page}
use Rattle.hit_caret.specs.declared.probes.Probe.{Probe}
use Rattle.hit_caret.specs.declared.probes.Probe.TheVariants.{At, Caret}
use Rattle.hit_caret.specs.Carets.{caret}
use Rattle.hit_caret.specs.Hits.{hit}
use Rattle.probe_job.specs.Lines.{caret_line, hit_line}

-- a point has the line of its hit, a place of a text that of its caret
abbrev pub answer : Page → Probe → List ℕ
answer page (At x y) = hit_line (hit page (record { x = x; y = y }))
answer page (Caret node place) = caret_line (caret page node place)

-- the lines one after the other
abbrev pub answers : Page → List Probe → List ℕ
answers page [] = []
answers page (probe ∷ others) = answer page probe ++ answers page others
