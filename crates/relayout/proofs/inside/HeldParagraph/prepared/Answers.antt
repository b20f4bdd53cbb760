use Rattle.std.proofs.Common.{refl}
use Rattle.relayout.proofs.TextLaws.{ready_from}
use Rattle.relayout.proofs.inside.HeldParagraph.prepared.Goals as goal

pub returns-clause-ready : goal.returns-clause-ready
returns-clause-ready g c =
    ready_from c.args.self.now.items.now _ c.in_ok-text.text refl c.args.self.now.paragraph c.in_ok-text.ensures.count
    c.in_ok-text.ensures.sources c.in_ok-text.ensures.atoms c.in_ok-text.ensures.lengths
