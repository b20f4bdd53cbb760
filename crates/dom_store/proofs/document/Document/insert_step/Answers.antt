use Rattle.std.proofs.Common.{◌≡◌, ◌∙◌, List, [], None, map, ap, subst, sym}
use Rattle.std.specs.Ordering.{nat_cmp}
use Rattle.std.specs.BTreeMap as keyed
use Rattle.std.specs.Global.{Vec}
use Rattle.slab.specs.Slab as slots
use Rattle.css_types.specs.declared.value.Declaration.{Declaration}
use Rattle.html_read.specs.declared.node.ReadNode.{ReadNode}
use Rattle.html_read.specs.Values.{nodes_of}
use Rattle.dom_store.specs.Building.{tops_from}
use Rattle.dom_store.specs.Edits.{insert, under}
use Rattle.dom_store.specs.Exact.{restore, take_nodes}
use Rattle.dom_store.specs.Refusals.{refusal}
use Rattle.dom_store.specs.State.{state_of}
use Rattle.dom_store.specs.Steps.{numbered_from}
use Rattle.dom_store.proofs.CountLaws.{lives_below}
use Rattle.dom_store.proofs.InsertLaws.{may_enter, tops_under}
use Rattle.dom_store.proofs.document.Document.insert_step.Goals as goal

pub returns : goal.returns
returns c =
    let old = c.args.self.now in
    let state = state_of old in
    let parent = c.args.parent in
    let index = c.args.index in
    let reads = c.args.nodes.now.read.items in
    let owns = λ (own : Vec Declaration). own.items in
    let entered = may_enter state parent index c.deref.result.now reads c.deref.ensures.value c.in_ok-check_insert.ensures in
    let low = lives_below (keyed.get nat_cmp old.keys) (slots.get old.nodes) old.next old.sound parent entered.lives in
    let none = subst (λ (known : List ReadNode). refusal state (insert parent index (nodes_of known) []) ≡ None) c.deref.ensures.value c.in_ok-check_insert.ensures in
    let tops = c.in_ok-tops.ensures ∙ (ap (λ (known : List ReadNode). tops_from old.next (nodes_of known)) c.deref-2.ensures.value ∙ sym (tops_under parent old.next low old.next (nodes_of reads))) in
    let nodes = c.in_ok-numbered.ensures
    ∙ (ap (λ (known : List ReadNode). numbered_from old.next (under parent old.next (nodes_of known)) (map owns c.deref-4.result.now)) c.deref-3.ensures.value
    ∙ ap (λ (known : List (Vec Declaration)). numbered_from old.next (under parent old.next (nodes_of reads)) (map owns known)) c.deref-4.ensures.value) in
    (none, λ k. record { back = take_nodes parent (tops k); again = restore parent index (nodes k) })
