use Rattle.std.proofs.Common.{ap, sym}
use Rattle.dom_store.specs.declared.node.NodeKind.{NodeKind}
use Rattle.dom_store.specs.Edits.{with_what}
use Rattle.dom_store.specs.State.{Entry, what_of}
use Rattle.dom_store.proofs.BackLaws.{put_back}
use Rattle.dom_store.proofs.WriteLaws.{put_under}
use Rattle.dom_store.proofs.document.Document.put_kind.Goals as goal

pub returns-in-Some : goal.returns-in-Some
returns-in-Some c =
    let was = c.index_mut.result.now in
    let made : NodeKind → Entry = λ kind. record { parent = was.parent; children = was.children.items; what = what_of kind } in
    record {
      put = put_under c.args.self.now.nodes c.args.self.now.keys c.args.self.now.next c.args.n c.in-Some.key.now was _ (with_what (λ what. what_of c.args.kind)) c.args.self.now.sound (sym c.in-Some.ensures.value) c.index_mut.ensures.value (ap made c.replace.ensures.after);
      back = put_back c.args.self.now.nodes c.args.self.now.keys c.args.self.now.next c.args.n c.in-Some.key.now was _ (with_what (λ what. what_of c.args.kind)) (with_what (λ what. what_of c.replace.result)) c.args.self.now.sound (sym c.in-Some.ensures.value) c.index_mut.ensures.value (ap made c.replace.ensures.after) (ap made c.replace.ensures.value);
    }
