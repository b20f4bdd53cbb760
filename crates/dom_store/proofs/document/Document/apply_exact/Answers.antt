use Rattle.std.proofs.Common.{◌≡◌, ap, refl, subst, sym, None}
use Rattle.dom_store.specs.Edits.{move_to}
use Rattle.dom_store.specs.Exact.{ExactEditOf, exact_move, exact_of}
use Rattle.dom_store.specs.Exactly.{AppliesExactly, CanBeDone}
use Rattle.dom_store.specs.Refusals.{refusal}
use Rattle.dom_store.specs.State.{state_of}
use Rattle.dom_store.proofs.ExactlyLaws.{done_exactly}
use Rattle.dom_store.proofs.document.Document.apply_exact.Goals as goal

pub returns-in-Move : goal.returns-in-Move
returns-in-Move c =
    let old = state_of c.args.self.now in
    let new = state_of c.move_to.new.self in
    let edit = move_to c.in-Move.node c.in-Move.parent c.in-Move.index in
    let exact = exact_move c.in-Move.node c.in-Move.parent c.in-Move.index in
    let same : exact_of c.args.edit.now ≡ exact = ap exact_of c.in-Move.is in
    let can : refusal old edit ≡ None = subst (CanBeDone old) same c.requires.can in
    record {
      applies = subst (λ (e : ExactEditOf). AppliesExactly old new e c.unrefused-in-Move.result) (sym same)
          (done_exactly old new edit exact c.move_to.result c.unrefused-in-Move.result refl refl can c.move_to.ensures.applies c.unrefused-in-Move.ensures);
    }
