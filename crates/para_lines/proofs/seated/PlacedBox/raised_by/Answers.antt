use Rattle.std.proofs.Common.{rules, ◌∙◌, ◌+ℤ◌, ap, sym, List, w64, to_z, of_z, FitsSigned}
use Rattle.std.proofs.lemmas.Int.{to_z-of_z}
use Rattle.wm_units.specs.Numbers.{cap}
use Rattle.fragment_types.specs.Item.{Entry}
use Rattle.para_lines.specs.declared.boxes.Round.{Round}
use Rattle.para_lines.specs.Edges.{shifts}
use Rattle.para_lines.proofs.Chaining.{outer_is}
use Rattle.para_lines.proofs.seated.PlacedBox.raised_by.Goals as goal

pub returns-clause-value : goal.returns-clause-value
returns-clause-value c =
    let entries : List Entry = c.args.self.now.seated.now.boxes.now in
    let fits : FitsSigned w64 c.args.style.now.shift = search rules in
    let fits-2 : FitsSigned w64 c.round-round.result.shifts = search rules in
    let fits-3 : FitsSigned w64 c.raised.result = search rules in
    to_z-of_z w64 c.raised.result fits-3 ∙ c.raised.ensures.value
    ∙ ap (λ z. cap (z +ℤ to_z w64 (of_z w64 c.round-round.result.shifts))) (to_z-of_z w64 c.args.style.now.shift fits)
    ∙ ap (λ z. cap (c.args.style.now.shift +ℤ z)) (to_z-of_z w64 c.round-round.result.shifts fits-2 ∙ ap (λ (r : Round). r.shifts) c.round-round.ensures.is ∙ ap (shifts entries) (sym (outer_is entries c.args.self.now.place)))
