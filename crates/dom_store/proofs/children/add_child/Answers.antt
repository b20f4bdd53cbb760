use Rattle.std.proofs.Common.{◌<◌, length}
use Rattle.dom_store.proofs.ChildLaws.{put_at}
use Rattle.dom_store.proofs.children.add_child.Goals as goal

pub returns-in_ok-push-clause-put : goal.returns-in_ok-push-clause-put
returns-in_ok-push-clause-put c =
    let within : c.in-Some.place < length c.args.lists.now.items = rw c.in-Some.is at c.requires in
    rw c.in-Some.is (put_at c.args.lists.now.items c.in-Some.place c.args.child c.index_mut.result.now c.push.new.self within c.index_mut.ensures.value c.in_ok-push.ensures.items)
