use Rattle.std.proofs.Common.{ℕ, List, ap, sym}
use Rattle.dom_store.specs.Edits.{with_children}
use Rattle.dom_store.specs.State.{Entry, entry_of}
use Rattle.dom_store.specs.Taking.{turned}
use Rattle.dom_store.proofs.WriteLaws.{put_under}
use Rattle.dom_store.proofs.document.Document.turn_children.Goals as goal

pub returns-in-Some : goal.returns-in-Some
returns-in-Some c =
    let was = c.index_mut.result.now in
    let put : List ℕ → Entry = λ children. with_children (λ before. children) (entry_of was) in
    put_under c.args.self.now.nodes c.args.self.now.keys c.args.self.now.next c.args.n c.in-Some.key.now was _ (with_children (turned c.args.from c.args.to)) c.args.self.now.sound (sym c.in-Some.ensures.value) c.index_mut.ensures.value (ap put c.turn.ensures)
