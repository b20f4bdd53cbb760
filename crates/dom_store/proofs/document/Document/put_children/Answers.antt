use Rattle.std.proofs.Common.{ℕ, ap, sym}
use Rattle.std.specs.Global.{Vec}
use Rattle.dom_store.specs.Edits.{with_children}
use Rattle.dom_store.specs.State.{Entry, what_of}
use Rattle.dom_store.proofs.BackLaws.{put_back}
use Rattle.dom_store.proofs.WriteLaws.{put_under}
use Rattle.dom_store.proofs.document.Document.put_children.Goals as goal

pub returns-in-Some : goal.returns-in-Some
returns-in-Some c =
    let was = c.index_mut.result.now in
    let made : Vec ℕ → Entry = λ children. record { parent = was.parent; children = children.items; what = what_of was.kind } in
    record {
      put = put_under c.args.self.now.nodes c.args.self.now.keys c.args.self.now.next c.args.n c.in-Some.key.now was _ (with_children (λ before. c.args.children.items)) c.args.self.now.sound (sym c.in-Some.ensures.value) c.index_mut.ensures.value (ap made c.replace.ensures.after);
      back = put_back c.args.self.now.nodes c.args.self.now.keys c.args.self.now.next c.args.n c.in-Some.key.now was _ (with_children (λ before. c.args.children.items)) (with_children (λ now. c.replace.result.items)) c.args.self.now.sound (sym c.in-Some.ensures.value) c.index_mut.ensures.value (ap made c.replace.ensures.after) (ap made c.replace.ensures.value);
    }
