use Rattle.std.specs.Ordering.{nat_cmp}
use Rattle.std.specs.BTreeMap as keyed
use Rattle.std.proofs.lemmas.Result.{on_err_weaker}
use Rattle.slab.specs.Slab as slots
use Rattle.dom_store.specs.State.{state_of}
use Rattle.dom_store.proofs.CountLaws.{none_past}
use Rattle.dom_store.proofs.InsertLaws.{taken_back}
use Rattle.dom_store.proofs.document.Document.add_all.Goals as goal

pub returns-then-is_err-clause-same : goal.returns-then-is_err-clause-same
returns-then-is_err-clause-same c =
    let old = c.args.self.now in
    on_err_weaker c.add_each-added.result (λ grows. taken_back (state_of old) (state_of c.add_each-added.new.self) (state_of c.give_back.new.self)
    (none_past (keyed.get nat_cmp old.keys) (slots.get old.nodes) old.next old.sound) grows c.give_back.ensures.filled c.give_back.ensures.next) c.add_each-added.ensures.grown
