use Rattle.std.proofs.Common.{◌≡◌, ◌∙◌, ap, sym, arith, rules, ℤ, to_z, of_z, w64}
use Rattle.std.specs.Int.{int_max}
use Rattle.std.specs.List.{fold}
use Rattle.std.proofs.lemmas.Int.{ints, to_z-of_z}
use Rattle.line_place.specs.Leaves.{seen}
use Rattle.line_place.specs.Placing.{atom_under}
use Rattle.line_place.proofs.AtomLaws.{under_first}
use Rattle.line_place.proofs.measure.with_atoms_under.Goals as goal

pub returns : goal.returns
returns g c =
    let own : to_z w64 (of_z w64 c.with_atom_under.result) ≡ c.with_atom_under.result = to_z-of_z w64 c.with_atom_under.result (search rules) in
    let given : to_z w64 (of_z w64 c.args.under) ≡ c.args.under = omega (arith, ints) in
    own
    ∙ c.with_atom_under.ensures
    ∙ ap (λ (z : ℤ). fold int_max z (atom_under (seen c.first_what.result))) given
    ∙ ap (fold int_max c.args.under) (ap atom_under c.first_what.ensures ∙ sym (under_first c.args.run.now c.requires))
