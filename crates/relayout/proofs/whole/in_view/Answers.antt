use Rattle.std.proofs.Common.{sym}
use Rattle.relayout.proofs.whole.in_view.Goals as goal

pub set_in_view-requires-clause-near : goal.set_in_view-requires-clause-near
set_in_view-requires-clause-near c = rw c.deref.ensures c.requires.near

pub returns : goal.returns
returns c = rw (sym c.deref.ensures) c.in_ok-made.ensures
