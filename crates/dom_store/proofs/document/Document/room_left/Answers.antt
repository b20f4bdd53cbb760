use Rattle.std.proofs.Common.{◌≡◌, ◌∙◌, arith, sym}
use Rattle.std.specs.Ordering.{nat_cmp}
use Rattle.std.specs.BTreeMap as keyed
use Rattle.slab.specs.Slab as slots
use Rattle.dom_store.specs.Standing.{live_count}
use Rattle.dom_store.specs.State.{state_of}
use Rattle.dom_store.proofs.CountLaws.{live_keys}
use Rattle.dom_store.proofs.document.Document.room_left.Goals as goal

pub overflow_sub-self : goal.overflow_sub-self
overflow_sub-self c = omega (arith, c.args.self.now.fits)

pub returns-clause-value : goal.returns-clause-value
returns-clause-value c =
    let old = c.args.self.now in
    let live : c.len.result ≡ live_count (state_of old) = c.len.ensures.len ∙ (old.counted ∙ sym (live_keys (keyed.get nat_cmp old.keys) (slots.get old.nodes) old.next old.sound)) in
    omega (arith, live, c.min.ensures, c.saturating_sub-nodes.ensures)

pub returns-clause-numbers : goal.returns-clause-numbers
returns-clause-numbers c = omega (arith, c.args.self.now.fits, c.min.ensures)
