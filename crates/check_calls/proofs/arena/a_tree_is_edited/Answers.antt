use Rattle.std.proofs.Common.{◌≡◌, ◌∙◌, ◌≢◌, ℕ, Option, None, option_map, IsSome, sym, ap, subst}
use Rattle.slab.specs.Slab.{Slab, ContainsKey}
use Rattle.box_arena.specs.declared.entry.Entry.{Entry}
use Rattle.box_arena.specs.At.{IsAbove, Node, links_at, parent_at}
use Rattle.box_arena.specs.Arena.{Inserts}
use Rattle.box_arena.specs.Links.{parent_of}
use Rattle.box_arena.proofs.Climbs.{top_alone}
use Rattle.check_calls.proofs.arena.a_tree_is_edited.Goals as goal

-- two boxes, one put in after the other, stand apart
apart : (old mid new : Slab (Entry ℕ)) (one other : ℕ) {a b : Node} → Inserts old mid one a → Inserts mid new other b → IsAbove new.slots other one → ⊥
apart old mid new one other first second above = differ (sym (top_alone (links_at new.slots) other one free above))
  where
    differ : one ≢ other
    differ same =
        let P : ℕ → Type 0 = λ k. ContainsKey mid k in
        let Q : Option (Entry ℕ) → Type 0 = λ o. IsSome o in
        let none : IsSome {T = Entry ℕ} None = subst Q second.free (subst P same first.alive) in
        absurd (cc)

    free : parent_at new.slots one ≡ None
    free = ap (λ (o : Option (Entry ℕ)). parent_of (option_map (λ entry. entry.links) o)) (second.others one differ) ∙ first.here.parent

pub insert_reserved-child-requires : goal.insert_reserved-child-requires
insert_reserved-child-requires g c = c.insert_reserved-parent.ensures.inserts.room 1 c.in_ok-reserve.ensures.room

pub attach-requires-clause-apart : goal.attach-requires-clause-apart
attach-requires-clause-apart g c = apart _ _ _ c.insert_reserved-parent.result c.insert_reserved-child.result c.insert_reserved-parent.ensures.inserts c.insert_reserved-child.ensures.inserts

pub first-requires-2 : goal.first-requires-2
first-requires-2 g c =
    (c.detach.ensures c.insert_reserved-parent.result c.attach.ensures.attaches.inside).live _ (c.attach.ensures.attaches.live _ (c.insert_reserved-child.ensures.inserts.live _ c.insert_reserved-parent.ensures.inserts.alive))

pub stale-requires : goal.stale-requires
stale-requires g c =
    (c.detach.ensures c.insert_reserved-parent.result c.attach.ensures.attaches.inside).live _ (c.attach.ensures.attaches.live _ (c.insert_reserved-child.ensures.inserts.live _ c.insert_reserved-parent.ensures.inserts.alive))

pub release-requires-clause-live : goal.release-requires-clause-live
release-requires-clause-live g c =
    c.forget.ensures.live _
    (c.stale.ensures.put.live _
    ((c.detach.ensures c.insert_reserved-parent.result c.attach.ensures.attaches.inside).live _ (c.attach.ensures.attaches.live _ c.insert_reserved-child.ensures.inserts.alive)))

pub release-requires-clause-free : goal.release-requires-clause-free
release-requires-clause-free g c =
    let detaches = c.detach.ensures c.insert_reserved-parent.result c.attach.ensures.attaches.inside in
    ap parent_of (c.forget.ensures.links _ ∙ c.stale.ensures.put.links _) ∙ detaches.free
