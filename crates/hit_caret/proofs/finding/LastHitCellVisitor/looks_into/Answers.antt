use Rattle.std.proofs.Common.{sym, ◌∙◌, arith, to_z, of_z, w64}
use Rattle.std.proofs.lemmas.Int.{ints}
use Rattle.hit_caret.proofs.Visits.{hits_passed}
use Rattle.hit_caret.proofs.finding.LastHitCellVisitor.looks_into.Goals as goal

pub returns : goal.returns
returns c away cell lies = hits_passed c.args.self.now c.args.bound.now cell (to_z w64 (of_z w64 c.args.self.now.point.x)) (to_z w64 (of_z w64 c.args.self.now.point.y)) (omega (arith, ints)) (omega (arith, ints)) (sym c.holds.ensures ∙ away) lies
