use Rattle.para_prepare.specs.Flat.{flat_of}
use Rattle.para_prepare.proofs.FlatLaws.{controls_pass}
use Rattle.para_prepare.proofs.lists.FlatLists.pass.Goals as goal

pub returns-clause-grown : goal.returns-clause-grown
returns-clause-grown c =
    λ upright. controls_pass (flat_of c.args.self.now) upright c.args.controls.now _ (c.are_none-none.ensures upright)
