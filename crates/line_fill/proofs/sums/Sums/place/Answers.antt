use Rattle.std.proofs.Common.{ap, sym, length}
use Rattle.std.proofs.lemmas.Option.{slice_get_read}
use Rattle.line_fill.specs.Sums.{IsNear}
use Rattle.line_fill.proofs.Summing.{place_told}
use Rattle.line_fill.proofs.sums.Sums.place.Goals as goal

pub returns-clause-value : goal.returns-clause-value
returns-clause-value c = λ items stand. place_told items c.args.self.now c.args.place c.index.result.now c.requires (rw c.self.view_is at c.index.ensures) stand

pub returns-clause-near : goal.returns-clause-near
returns-clause-near c =
    let n : IsNear c.args.place c.index.result.now = c.self.invariant c.args.place c.index.result.now (slice_get_read c.self.inside.places.items (length c.args.self.now) c.args.place c.index.result.now (sym (ap length c.self.view_is)) c.requires c.index.ensures) in
    n.lengths

pub returns-clause-solid : goal.returns-clause-solid
returns-clause-solid c =
    let n : IsNear c.args.place c.index.result.now = c.self.invariant c.args.place c.index.result.now (slice_get_read c.self.inside.places.items (length c.args.self.now) c.args.place c.index.result.now (sym (ap length c.self.view_is)) c.requires c.index.ensures) in
    n.solid
