use Rattle.std.proofs.Common.{sym, ◌∙◌}
use Rattle.hit_caret.proofs.Visits.{firsts_passed}
use Rattle.hit_caret.proofs.carets.FirstCellsCellVisitor.looks_into.Goals as goal

pub returns : goal.returns
returns c away cell lies = firsts_passed c.args.self.now c.args.bound.now cell (sym c.spans.ensures ∙ away) lies
