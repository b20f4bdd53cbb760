use Rattle.std.proofs.Common.{sym, refl}
use Rattle.dom_store.specs.Standing.{parent_at}
use Rattle.dom_store.specs.State.{state_of}
use Rattle.dom_store.specs.Taking.{standing_in}
use Rattle.dom_store.proofs.BackLaws.{parent_under, put_back}
use Rattle.dom_store.proofs.WriteLaws.{put_under}
use Rattle.dom_store.proofs.document.Document.put_parent.Goals as goal

pub returns-in-Some : goal.returns-in-Some
returns-in-Some c =
    let was = c.index_mut.result.now in
    let old = c.args.self.now in
    record {
      put = put_under old.nodes old.keys old.next c.args.n c.in-Some.key.now was _ (standing_in c.args.parent) old.sound (sym c.in-Some.ensures.value) c.index_mut.ensures.value refl;
      back = put_back old.nodes old.keys old.next c.args.n c.in-Some.key.now was _ (standing_in c.args.parent) (standing_in (parent_at (state_of old) c.args.n)) old.sound (sym c.in-Some.ensures.value) c.index_mut.ensures.value refl
          (parent_under old.nodes old.keys old.next c.args.n c.in-Some.key.now was (sym c.in-Some.ensures.value) c.index_mut.ensures.value);
    }
