use Rattle.std.proofs.Common.{◌∙◌, ◌<◌, ap, sym, arith, length}
use Rattle.std.proofs.lemmas.List.{get_or-map, length-map}
use Rattle.para_lines.specs.Alone.{fill_alone}
use Rattle.para_lines.specs.Standing.{plain}
use Rattle.para_lines.proofs.alone.AloneFillSource.item.Goals as goal

pub returns : goal.returns
returns c d =
    let standings = c.args.self.now.standings.now in
    let lt : c.args.place < length standings = omega (arith, length-map standings fill_alone, c.requires) in
    c.fill_alone.ensures ∙ ap fill_alone (c.at.ensures (plain c.at.result)) ∙ sym (get_or-map fill_alone standings c.args.place (plain c.at.result) d lt)
