use Rattle.std.proofs.Common.{◌∙◌, ap, sym, take}
use Rattle.std.proofs.lemmas.List.{take-map}
use Rattle.line_place.specs.Leaves.{leaf_in}
use Rattle.line_place.proofs.leaves.LeafSlice.front_of.Goals as goal

pub returns : goal.returns
returns g c = sym (take-map (leaf_in (g.S.LineSource.items c.self.inside.source.now)) c.args.count c.self.inside.list.now) ∙ ap (take c.args.count) c.self.view_is
