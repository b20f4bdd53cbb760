use Rattle.std.proofs.Common.{◌∙◌, rules, ◌≡◌, ℕ, List, [], None, length, map, ap, sym, subst, arith}
use Rattle.std.specs.Ordering.{nat_cmp}
use Rattle.std.specs.BTreeMap as keyed
use Rattle.std.specs.Global.{Vec}
use Rattle.slab.specs.Slab as slots
use Rattle.std.proofs.lemmas.List.{length-map}
use Rattle.html_read.specs.declared.node.ReadNode.{ReadNode}
use Rattle.html_read.specs.Values.{node_of, nodes_of}
use Rattle.css_types.specs.declared.value.Declaration.{Declaration}
use Rattle.dom_store.specs.Building.{FollowParents, added_under, tops_from}
use Rattle.dom_store.specs.Edits.{changed, insert, with_children, with_put}
use Rattle.dom_store.specs.Refusals.{refusal}
use Rattle.dom_store.specs.State.{State, state_of}
use Rattle.dom_store.specs.Standing.{children_at}
use Rattle.dom_store.proofs.ApplyLaws.{accepts, runs_out_same}
use Rattle.dom_store.proofs.BackLaws.{added_back, taken_out_at}
use Rattle.dom_store.proofs.CountLaws.{lives_below, none_past}
use Rattle.dom_store.proofs.InsertLaws.{children_added, fragment_follows, inserted_under, may_enter}
use Rattle.dom_store.proofs.JudgeLaws.{fits}
use Rattle.dom_store.specs.Taking.{up_to, without_run}
use Rattle.dom_store.proofs.document.Document.insert.Goals as goal

pub check_insert-requires : goal.check_insert-requires
check_insert-requires c =
    let P : List ReadNode → Type 0 = λ reads. FollowParents (nodes_of reads) in
    record { follow = subst P (sym c.deref.ensures.value) (fragment_follows (nodes_of c.args.nodes.now.read.items) c.requires.fitting.0) }

pub tops_of-requires : goal.tops_of-requires
tops_of-requires c =
    let old = c.args.self.now in
    let reads = c.args.nodes.now.read.items in
    let entered = may_enter (state_of old) c.args.parent c.args.index c.deref.result.now reads c.deref.ensures.value c.in_ok-check_insert.ensures in
    omega (arith, (fits (state_of old) (length reads) entered.room old.fits).1, ap length c.deref-2.ensures.value)

pub add_all-requires : goal.add_all-requires
add_all-requires c =
    let old = c.args.self.now in
    let reads = c.args.nodes.now.read.items in
    let styles = c.args.nodes.now.styles.items in
    let owns = λ (own : Vec Declaration). own.items in
    let P : List ReadNode → Type 0 = λ reads. FollowParents (nodes_of reads) in
    let entered = may_enter (state_of old) c.args.parent c.args.index c.deref.result.now reads c.deref.ensures.value c.in_ok-check_insert.ensures in
    let (few, room) = fits (state_of old) (length reads) entered.room old.fits in
    let same : length c.deref-3.result.now ≡ length reads = ap length c.deref-3.ensures.value in
    record {
      few = omega (arith, few, same);
      room = omega (arith, room, same);
      follow = subst P (sym c.deref-3.ensures.value) (fragment_follows (nodes_of reads) c.requires.fitting.0);
      styles = omega (arith, same, ap length c.deref-4.ensures.value, c.requires.fitting.1, length-map styles owns, length-map reads node_of);
      parent = lives_below (keyed.get nat_cmp old.keys) (slots.get old.nodes) old.next old.sound c.args.parent entered.lives;
    }

pub place_added-requires : goal.place_added-requires
place_added-requires c =
    let old = c.args.self.now in
    let state = state_of old in
    let parent = c.args.parent in
    let entered = may_enter state parent c.args.index c.deref.result.now c.args.nodes.now.read.items c.deref.ensures.value c.in_ok-check_insert.ensures in
    let low = lives_below (keyed.get nat_cmp old.keys) (slots.get old.nodes) old.next old.sound parent entered.lives in
    let same = ap (λ (s : State). children_at s parent) c.in_ok-add_all.ensures.added ∙ children_added state parent (nodes_of c.deref-3.result.now) _ low in
    omega (arith, entered.within, ap length same)

pub returns-in_err-place_added-clause-applies : goal.returns-in_err-place_added-clause-applies
returns-in_err-place_added-clause-applies c =
    let old = c.args.self.now in
    let owns = λ (own : Vec Declaration). own.items in
    runs_out_same (state_of old) _ (insert c.args.parent c.args.index (nodes_of c.args.nodes.now.read.items) (map owns c.args.nodes.now.styles.items)) _ (search rules)
    (c.in_err-place_added.ensures.gone ∙ ap (up_to old.next) c.in_ok-add_all.ensures.added
    ∙ added_back (state_of old) c.args.parent (nodes_of c.deref-3.result.now) _ (none_past (keyed.get nat_cmp old.keys) (slots.get old.nodes) old.next old.sound))

pub returns-clause-applies : goal.returns-clause-applies
returns-clause-applies c =
    let old = c.args.self.now in
    let state = state_of old in
    let parent = c.args.parent in
    let index = c.args.index in
    let reads = c.args.nodes.now.read.items in
    let styles = c.args.nodes.now.styles.items in
    let owns = λ (own : Vec Declaration). own.items in
    let tops = c.in_ok-tops.tops.items in
    let entered = may_enter state parent index c.deref.result.now reads c.deref.ensures.value c.in_ok-check_insert.ensures in
    let low = lives_below (keyed.get nat_cmp old.keys) (slots.get old.nodes) old.next old.sound parent entered.lives in
    let none = subst (λ (known : List ReadNode). refusal state (insert parent index (nodes_of known) []) ≡ None) c.deref.ensures.value c.in_ok-check_insert.ensures in
    let are_tops = c.in_ok-tops.ensures ∙ ap (λ (known : List ReadNode). tops_from old.next (nodes_of known)) c.deref-2.ensures.value in
    let put = λ (s : State). changed s parent (with_children (with_put index tops)) in
    accepts state (state_of c.place_added.new.self) (insert parent index (nodes_of reads) (map owns styles)) c.in_ok-elements.elements.items (sym none) c.in_ok-elements.ensures
    (c.in_ok-place_added.ensures.put
    ∙ (ap put (c.in_ok-add_all.ensures.added
    ∙ (ap (λ (known : List ReadNode). added_under state parent (nodes_of known) (map owns c.deref-4.result.now)) c.deref-3.ensures.value
    ∙ ap (λ (known : List (Vec Declaration)). added_under state parent (nodes_of reads) (map owns known)) c.deref-4.ensures.value))
    ∙ inserted_under state parent (nodes_of reads) (map owns styles) low index tops are_tops))

pub returns-clause-back : goal.returns-clause-back
returns-clause-back c =
    let old = c.args.self.now in
    let state = state_of old in
    let parent = c.args.parent in
    let index = c.args.index in
    let tops = c.in_ok-tops.tops.items in
    let grown = state_of c.add_all.new.self in
    let entered = may_enter state parent index c.deref.result.now c.args.nodes.now.read.items c.deref.ensures.value c.in_ok-check_insert.ensures in
    let low = lives_below (keyed.get nat_cmp old.keys) (slots.get old.nodes) old.next old.sound parent entered.lives in
    let same = ap (λ (s : State). children_at s parent) c.in_ok-add_all.ensures.added ∙ children_added state parent (nodes_of c.deref-3.result.now) _ low in
    let many : c.len-count.result ≡ length tops = search rules in
    ap (λ (n : ℕ). up_to old.next (changed (state_of c.place_added.new.self) parent (with_children (without_run index n)))) many
    ∙ ap (up_to old.next)
    (ap (λ (s : State). changed s parent (with_children (without_run index (length tops)))) c.in_ok-place_added.ensures.put
    ∙ (taken_out_at grown parent index tops (omega (arith, entered.within, ap length same)) ∙ c.in_ok-add_all.ensures.added))
    ∙ added_back state parent (nodes_of c.deref-3.result.now) _ (none_past (keyed.get nat_cmp old.keys) (slots.get old.nodes) old.next old.sound)
