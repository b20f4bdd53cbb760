use Rattle.std.proofs.Common.{ℕ, List, ap, sym}
use Rattle.dom_store.specs.Edits.{with_children}
use Rattle.dom_store.specs.Exact.{without_each}
use Rattle.dom_store.specs.State.{Entry, entry_of}
use Rattle.dom_store.proofs.WriteLaws.{put_under}
use Rattle.dom_store.proofs.document.Document.drop_named.Goals as goal

pub returns-in-Some-clause-dropped : goal.returns-in-Some-clause-dropped
returns-in-Some-clause-dropped c =
    let was = c.index_mut.result.now in
    let put : List ℕ → Entry = λ children. with_children (λ before. children) (entry_of was) in
    put_under c.args.self.now.nodes c.args.self.now.keys c.args.self.now.next c.args.n c.in-Some.key.now was _ (with_children (without_each c.args.numbers.now)) c.args.self.now.sound (sym c.in-Some.ensures.value) c.index_mut.ensures.value (ap put c.drop_each.ensures)
