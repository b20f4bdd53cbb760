-- One box after the other is told.
use Rattle.std.proofs.Common.{ℕ, Option, sym, subst}
use Rattle.check_calls.proofs.Rows.{IsRow, row_begins}
use Rattle.check_calls.proofs.texts.told.Goals as goal

pub next-next-requires : goal.next-next-requires
next-next-requires c = (row_begins c.args.page.now.arena c.loop.next c.in-Some.key c.loop.invariant c.in-Some.is).0

pub node-requires : goal.node-requires
node-requires c = (row_begins c.args.page.now.arena c.loop.next c.in-Some.key c.loop.invariant c.in-Some.is).0

pub loop-preserved : goal.loop-preserved
loop-preserved c =
    let P : Option ℕ → Type 0 = λ o. IsRow c.args.page.now.arena.slots o in
    subst P (sym c.next-next.ensures) (row_begins c.args.page.now.arena c.loop.next c.in-Some.key c.loop.invariant c.in-Some.is).1
