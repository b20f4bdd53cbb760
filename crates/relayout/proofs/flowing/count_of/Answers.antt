use Rattle.std.proofs.Common.{ℕ, Option, sym, subst, arith}
use Rattle.box_arena.specs.Boxes.{StandFrom}
use Rattle.box_gen.specs.Tree.{Boxes}
use Rattle.relayout.proofs.RowLaws.{row_on}
use Rattle.relayout.proofs.flowing.count_of.Goals as goal

pub loop-init : goal.loop-init
loop-init c = record { stand = (c.requires.tree, c.requires.stand); count = omega arith }

pub next-next-requires : goal.next-next-requires
next-next-requires c = (row_on c.args.arena.now c.loop.next c.in-Some.key c.loop.invariant.stand c.in-Some.is).0

pub loop-preserved : goal.loop-preserved
loop-preserved c =
    let P : Option ℕ → Type 0 = λ next. (rest : Boxes) × StandFrom c.args.arena.now.slots next rest in
    record {
      stand = subst P (sym c.next-next.ensures) (row_on c.args.arena.now c.loop.next c.in-Some.key c.loop.invariant.stand c.in-Some.is).1;
      count = omega (arith, c.loop.invariant.count);
    }
