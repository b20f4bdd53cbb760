use Rattle.std.proofs.Common.{sym}
use Rattle.para_prepare.specs.Parts.{used_direction}
use Rattle.para_prepare.proofs.lists.FlatLists.add_item.Goals as goal

pub returns-in-Open-clause-grown : goal.returns-in-Open-clause-grown
returns-in-Open-clause-grown g c = rw (c.in-Open.is, sym c.deref-in-Open.ensures) (c.open.ensures.grown (used_direction c.deref-in-Open.result.now))
