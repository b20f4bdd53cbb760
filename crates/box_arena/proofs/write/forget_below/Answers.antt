use Rattle.std.proofs.Common.{◌+◌, sym, subst}
use Rattle.slab.specs.Slab.{Slab}
use Rattle.box_arena.specs.declared.entry.Entry.{Entry}
use Rattle.box_arena.specs.Write.{ForgetsBelow}
use Rattle.box_arena.proofs.CallLemmas.{forgets_more, forgets_none, held_there}
use Rattle.box_arena.proofs.write.forget_below.Goals.{then-contains, else-contains}
use Rattle.box_arena.proofs.write.forget_below.Goals as goal

pub loop-key-preserved : goal.loop-key-preserved
loop-key-preserved g c =
    let P : Slab (Entry g.row.T.Denot) → Type 0 = λ boxes. ForgetsBelow c.args.boxes.now boxes (c.loop-key.key + 1) in
    elim c.if-contains.branch [
      | then-contains w ↦
          let (held, is) = held_there c.loop-key.boxes c.loop-key.key (c.contains.ensures.0 w.if-contains.true) in
          subst P (sym w.boxes-is) (forgets_more c.args.boxes.now c.loop-key.boxes w.forget_at.new.boxes c.loop-key.key held c.loop-key.invariant is (w.forget_at.ensures held is))
      | else-contains w ↦
          subst P (sym w.boxes-is) (forgets_none c.args.boxes.now c.loop-key.boxes c.loop-key.key c.loop-key.invariant (λ live. let here = c.contains.ensures.1 live in absurd (cc)))
    ]
