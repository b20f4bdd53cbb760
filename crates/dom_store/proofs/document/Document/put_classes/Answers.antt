use Rattle.std.proofs.Common.{map, sym, refl}
use Rattle.std.specs.String.{string_bytes}
use Rattle.dom_store.specs.Edits.{with_classes, with_what}
use Rattle.dom_store.proofs.BackLaws.{put_back}
use Rattle.dom_store.proofs.WriteLaws.{put_under}
use Rattle.dom_store.proofs.document.Document.put_classes.Goals as goal

pub returns-in-Element : goal.returns-in-Element
returns-in-Element c =
    let was = c.index_mut.result.now in
    record {
      put = put_under c.args.self.now.nodes c.args.self.now.keys c.args.self.now.next c.args.n c.in-Some.key.now was _ (with_what (with_classes (map (λ word. string_bytes word) c.args.words.items))) c.args.self.now.sound (sym c.in-Some.ensures.value) c.index_mut.ensures.value (rw (c.in-Element.is, c.replace.ensures.after) refl);
      back = put_back c.args.self.now.nodes c.args.self.now.keys c.args.self.now.next c.args.n c.in-Some.key.now was _ (with_what (with_classes (map (λ word. string_bytes word) c.args.words.items))) (with_what (with_classes (map (λ word. string_bytes word) c.replace.result.items))) c.args.self.now.sound (sym c.in-Some.ensures.value) c.index_mut.ensures.value (rw (c.in-Element.is, c.replace.ensures.after) refl) (rw (c.in-Element.is, c.replace.ensures.value) refl);
    }
