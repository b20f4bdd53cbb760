use Rattle.std.proofs.Common.{List, Option, sym, subst}
use Rattle.box_arena.specs.declared.entry.Entry.{Entry}
use Rattle.box_arena.specs.At.{IsSound}
use Rattle.box_arena.proofs.CallLemmas.{sound_empty}
use Rattle.box_arena.proofs.arena.BoxArena.new.Goals as goal

pub invariant_of-result : goal.invariant_of-result
invariant_of-result g c =
    let P : List (Option (Entry g.row.T.Denot)) → Type 0 = λ slots. IsSound slots in
    subst P (sym c.new.ensures.empty) sound_empty
