use Rattle.std.proofs.Common.{◌≡◌, ◌++◌, drop, ℕ, ◌+◌, length, List, All, false, None}
use Rattle.para_prepare.specs.declared.bidi_text.Character.{Character}
use Rattle.para_prepare.specs.BidiParagraphs.{begins}
use Rattle.para_prepare.specs.Standing.{IsStanding, standings_by}
use Rattle.para_prepare.proofs.standing.stand_by.Given as goal

abbrev pub invariant-loop-k : goal.invariant-loop-k
invariant-loop-k l = record {
  stood : (more : List Character) (further : List ℕ) → l.standings.items ++ standings_by l.base l.before.begun l.before.apart (drop l.k l.text ++ more) (drop l.k l.levels ++ further) ≡ l.fn.standings.items ++ standings_by l.base false None (l.text ++ more) (l.levels ++ further);
  bounds : All IsStanding l.standings.items;
  count : length l.standings.items + begins (drop l.k l.text) ≡ length l.fn.standings.items + begins l.text;
}
