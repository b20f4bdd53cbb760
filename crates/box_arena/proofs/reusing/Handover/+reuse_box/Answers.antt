use Rattle.std.proofs.Common.{◌≡◌, ◌∙◌, ◌+◌, ◌-◌, ◌≤◌, arith, ap, inl, inr, refl, sym, subst, None, Option, ℕ}
use Rattle.std.specs.Prelude.{◌⊎◌, ◌^◌, IfSome}
use Rattle.std.specs.BTreeMap.{BTreeMap}
use Rattle.box_gen.specs.Tree.{Boxes}
use Rattle.box_arena.specs.At.{first_at, links_at, node_at}
use Rattle.box_arena.specs.Boxes.{StandFrom}
use Rattle.box_arena.specs.Links.{IsIn}
use Rattle.box_arena.specs.declared.reusing.Stood.{Stood}
use Rattle.box_arena.specs.declared.reusing.Stood.TheVariants.{At}
use Rattle.box_arena.specs.Reusing.{FindsEach, TellsInside, stood_behind}
use Rattle.box_arena.proofs.AllHanded.{IsOnWay, all_left, finds_moved, hands_none, hands_then, inside_all, inside_on, others_left, row_same, same_box, way_begins, way_on}
use Rattle.box_arena.proofs.Handovers.{Handing, child_tree, handing_ends, handing_next, inside_still, reuses_none, reuses_then, still_tree, tree_stood}
use Rattle.box_arena.proofs.Planted.{lives}
use Rattle.box_arena.proofs.reusing.Handover.+reuse_box.Goals.{else-loop-test, then-loop-test+in_default}
use Rattle.box_arena.proofs.reusing.Handover.+reuse_box.Goals as goal

pub next-next-requires : goal.next-next-requires
next-next-requires g t c =
    let tree = child_tree _ _ _ _ c.stood_at-from.result c.args.key c.in-Some.child c.loop.stood c.loop.next c.loop.invariant.handing c.in-Some.is in
    lives c.loop.self.taker.now c.in-Some.child tree.node tree.is

pub reuse_box-found-requires : goal.reuse_box-found-requires
reuse_box-found-requires g t c κs within =
    let tree = child_tree _ _ _ _ c.stood_at-from.result c.args.key c.in-Some.child c.loop.stood c.loop.next c.loop.invariant.handing c.in-Some.is in
    (omega (arith, c.decreases, c.if-depth-eq0.false), (within, tree))

pub loop-preserved : goal.loop-preserved
loop-preserved g t c =
    let gone = c.reuse_box-found.new.self.giver.now in
    let got = c.reuse_box-found.new.self.taker.now in
    let before = c.loop.invariant.handing.reuses in
    let I : Option ℕ → Type 0 = λ o. IsIn (links_at c.args.self.now.taker.now.slots) c.args.key o in
    let now : Stood = stood_behind gone.slots c.loop.stood c.reuse_box-found.result in
    let P : Stood → Type 0 = λ s. Handing c.args.self.now.giver.now gone c.args.self.now.taker.now got c.stood_at-from.result c.args.key s c.next-next.result in
    let Q : Option ℕ → Type 0 = λ o. Handing c.args.self.now.giver.now gone c.args.self.now.taker.now got c.stood_at-from.result c.args.key now o in
    record {
      giver = c.reuse_box-found.ensures.lent.0 ∙ c.loop.invariant.giver;
      taker = c.reuse_box-found.ensures.lent.1 ∙ c.loop.invariant.taker;
      keys = c.reuse_box-found.ensures.keys ∙ c.loop.invariant.keys;
      inside = subst I (sym c.next-next.ensures) (inside_on c.args.self.now.taker.now.slots c.loop.self.taker.now.slots c.args.key c.in-Some.child c.loop.next c.stood_at-from.ensures.linked before.links c.loop.invariant.inside c.in-Some.is);
      hands = hands_then _ _ _ _ _ _ c.args.key c.in-Some.child c.loop.invariant.hands before c.reuse_box-found.ensures.hands (inside_all c.args.self.now.taker.now.slots c.args.key c.in-Some.child c.loop.next c.loop.invariant.inside c.in-Some.is);
      way = λ finds inner in_it.
          let K : BTreeMap (ℕ × ℕ) ℕ → Type 0 = λ keys. FindsEach keys c.loop.self.giver.now.slots in
          let finds_now = subst K (sym (ap (λ k. k.now) c.loop.invariant.keys)) (finds_moved c.args.self.now.keys.now c.args.self.now.giver.now.slots c.loop.self.giver.now.slots before.gives.nodes finds) in
          let W : Stood → Type 0 = λ s. IsOnWay c.args.self.now.giver.now.slots gone.slots c.args.self.now.taker.now.slots got.slots c.stood_at-from.result c.args.key inner s c.next-next.result (c.loop.counter + 1) in
          let X : Option ℕ → Type 0 = λ o. IsOnWay c.args.self.now.giver.now.slots gone.slots c.args.self.now.taker.now.slots got.slots c.stood_at-from.result c.args.key inner now o (c.loop.counter + 1) in
          subst W (sym c.behind-behind.ensures) (subst X (sym c.next-next.ensures)
          (way_on _ _ gone _ _ got c.stood_at-from.result c.args.key c.in-Some.child (c.args.depth - 1) c.loop.counter c.loop.stood c.loop.next c.reuse_box-found.result inner c.in-Some.is
          (omega (arith, in_it.low, c.if-depth-eq0.false)) in_it.few before c.reuse_box-found.ensures.reuses (c.reuse_box-found.ensures.found finds_now) (c.reuse_box-found.ensures.leaves finds_now)
          (c.loop.invariant.way finds inner in_it)));
      handing = subst P (sym c.behind-behind.ensures) (subst Q (sym c.next-next.ensures)
          (handing_next _ _ _ _ _ _ c.stood_at-from.result c.args.key c.loop.stood c.loop.next c.reuse_box-found.result c.in-Some.child c.loop.invariant.handing c.in-Some.is c.reuse_box-found.ensures.reuses c.reuse_box-found.ensures.stood));
    }

pub take_box-requires-clause-key : goal.take_box-requires-clause-key
take_box-requires-clause-key g t c = still_tree _ _ c.loop.invariant.handing.reuses.nodes c.loop.invariant.handing.reuses.links c.args.key c.requires.tree

pub take_box-requires-clause-inside : goal.take_box-requires-clause-inside
take_box-requires-clause-inside g t c = λ same.
    let ends = c.ends_alike-is_same.ensures.ends same in
    inside_still _ _ _ _ c.in-Some-from.from c.args.key c.loop.invariant.handing.reuses (handing_ends _ _ _ _ c.stood_at-from.result c.args.key c.in-Some-from.from c.loop.stood c.loop.next c.loop.invariant.handing c.in-Some-from.is ends.0 ends.1)

pub returns-then-is_same-clause-reuses : goal.returns-then-is_same-clause-reuses
returns-then-is_same-clause-reuses g t c = reuses_then _ _ _ _ _ _ c.loop.invariant.handing.reuses c.take_box.ensures.reuses

pub returns-then-is_same-clause-stood : goal.returns-then-is_same-clause-stood
returns-then-is_same-clause-stood g t c =
    let ends = c.ends_alike-is_same.ensures.ends c.if-is_same.true in
    let P : Option ℕ → Type 0 = λ o. IfSome o (λ from. node_at c.args.self.now.giver.now.slots from ≡ node_at c.args.self.now.taker.now.slots c.args.key) in
    tree_stood _ _ c.in-Some-from.from c.args.key (subst P c.in-Some-from.is c.stood_at-from.ensures.same) (handing_ends _ _ _ _ c.stood_at-from.result c.args.key c.in-Some-from.from c.loop.stood c.loop.next c.loop.invariant.handing c.in-Some-from.is ends.0 ends.1)

pub returns-else-is_same-clause-reuses : goal.returns-else-is_same-clause-reuses
returns-else-is_same-clause-reuses g t c = reuses_then _ _ _ _ _ _ c.loop.invariant.handing.reuses c.take_box.ensures.reuses

pub loop-init : goal.loop-init
loop-init g t c =
    let P : Option ℕ → Type 0 = λ o. (boxes : Boxes) × StandFrom c.args.self.now.taker.now.slots o boxes in
    let Q : Option ℕ → Type 0 = λ o. TellsInside c.args.self.now.giver.now.slots c.args.self.now.taker.now.slots c.stood_at-from.result c.args.key c.inside-stood.result o in
    let I : Option ℕ → Type 0 = λ o. IsIn (links_at c.args.self.now.taker.now.slots) c.args.key o in
    let linked = c.stood_at-from.ensures.linked in
    record {
      giver = refl;
      taker = refl;
      keys = refl;
      handing = record {
        reuses = reuses_none c.args.self.now.giver.now c.args.self.now.taker.now;
        rest = subst P (sym c.first-next.ensures) (c.requires.tree.inner, c.requires.tree.inside);
        tells = subst Q (sym c.first-next.ensures) (c.inside-stood.ensures.tells c.args.key);
      };
      inside = subst I (sym c.first-next.ensures) (linked.on c.args.key None tt);
      hands = hands_none c.args.self.now.giver.now.slots c.args.self.now.taker.now.slots c.args.key;
      way = λ finds inner in_it.
          let W : Option ℕ → Type 0 = λ o. IsOnWay c.args.self.now.giver.now.slots c.args.self.now.giver.now.slots c.args.self.now.taker.now.slots c.args.self.now.taker.now.slots c.stood_at-from.result c.args.key inner c.inside-stood.result o 0 in
          subst W (sym c.first-next.ensures)
          (way_begins c.args.self.now.giver.now.slots c.args.self.now.taker.now.slots c.stood_at-from.result c.args.key inner c.inside-stood.result linked in_it.stands (λ f is.
          let A : Option ℕ → Type 0 = λ o. IfSome o (λ from. c.inside-stood.result ≡ At (first_at c.args.self.now.giver.now.slots from)) in
          subst A is c.inside-stood.ensures.at));
    }

pub returns-then-is_same-clause-hands : goal.returns-then-is_same-clause-hands
returns-then-is_same-clause-hands g t c = hands_then _ _ _ _ _ _ c.args.key c.args.key c.loop.invariant.hands c.loop.invariant.handing.reuses c.take_box.ensures.hands (λ k above. above)

pub returns-else-is_same-clause-hands : goal.returns-else-is_same-clause-hands
returns-else-is_same-clause-hands g t c = hands_then _ _ _ _ _ _ c.args.key c.args.key c.loop.invariant.hands c.loop.invariant.handing.reuses c.take_box.ensures.hands (λ k above. above)

pub returns-then-is_same-clause-found : goal.returns-then-is_same-clause-found
returns-then-is_same-clause-found g t c = λ finds tree through there stood_there.
    let (node, is, was) = same_box _ _ c.args.key there tree through.stands stood_there in
    sym c.in-Some-from.is ∙ c.stood_at-from.ensures.found finds node is there was

pub returns-then-is_same-clause-leaves : goal.returns-then-is_same-clause-leaves
returns-then-is_same-clause-leaves g t c = λ finds.
    let over : (c.loop.next ≡ None) ⊎ (2 ^ 18 ≤ c.loop.counter) = elim c.loop-test.branch [ else-loop-test w ↦ inr (omega (arith, w.loop-test.false)) | then-loop-test+in_default w ↦ inl (search (w.in_default)) ] in
    all_left _ _ _ _ _ _ c.args.key c.args.depth c.loop.counter c.stood_at-from.result c.loop.next c.loop.stood c.in-Some-from.from c.in-Some-from.is c.loop.invariant.handing.reuses c.take_box.ensures.reuses
    (c.stood_at-from.ensures.found finds) over (c.loop.invariant.way finds) c.take_box.ensures.text (λ place next. c.take_box.ensures.results (c.ends_alike-is_same.ensures.alike place next))

pub returns-else-is_same-clause-found : goal.returns-else-is_same-clause-found
returns-else-is_same-clause-found g t c = λ finds tree through there stood_there.
    let over : (c.loop.next ≡ None) ⊎ (2 ^ 18 ≤ c.loop.counter) = elim c.loop-test.branch [ else-loop-test w ↦ inr (omega (arith, w.loop-test.false)) | then-loop-test+in_default w ↦ inl (search (w.in_default)) ] in
    let (place, next) =
    row_same _ _ _ _ _ _ c.args.key c.args.depth c.loop.counter c.stood_at-from.result c.loop.next c.loop.stood c.in-Some-from.from c.in-Some-from.is c.loop.invariant.handing.reuses c.take_box.ensures.reuses
    (c.stood_at-from.ensures.found finds) over (c.loop.invariant.way finds) tree through there stood_there in
    let same = c.ends_alike-is_same.ensures.alike place next in
    let differs = c.if-is_same.false in
    absurd (cc)

pub returns-else-is_same-clause-leaves : goal.returns-else-is_same-clause-leaves
returns-else-is_same-clause-leaves g t c = λ finds.
    let over : (c.loop.next ≡ None) ⊎ (2 ^ 18 ≤ c.loop.counter) = elim c.loop-test.branch [ else-loop-test w ↦ inr (omega (arith, w.loop-test.false)) | then-loop-test+in_default w ↦ inl (search (w.in_default)) ] in
    all_left _ _ _ _ _ _ c.args.key c.args.depth c.loop.counter c.stood_at-from.result c.loop.next c.loop.stood c.in-Some-from.from c.in-Some-from.is c.loop.invariant.handing.reuses c.take_box.ensures.reuses
    (c.stood_at-from.ensures.found finds) over (c.loop.invariant.way finds) c.take_box.ensures.text (λ place next. c.take_box.ensures.results (c.ends_alike-is_same.ensures.alike place next))

pub returns-in-None-clause-found : goal.returns-in-None-clause-found
returns-in-None-clause-found g t c = λ finds tree through there stood_there.
    let (node, is, was) = same_box _ _ c.args.key there tree through.stands stood_there in
    sym c.in-None.is ∙ c.stood_at-from.ensures.found finds node is there was

pub returns-in-None-clause-leaves : goal.returns-in-None-clause-leaves
returns-in-None-clause-leaves g t c = λ finds.
    let over : (c.loop.next ≡ None) ⊎ (2 ^ 18 ≤ c.loop.counter) = elim c.loop-test.branch [ else-loop-test w ↦ inr (omega (arith, w.loop-test.false)) | then-loop-test+in_default w ↦ inl (search (w.in_default)) ] in
    others_left _ _ _ _ c.args.key c.args.depth c.loop.counter c.stood_at-from.result c.loop.next c.loop.stood c.in-None.is c.loop.invariant.handing.reuses (c.stood_at-from.ensures.found finds) over (c.loop.invariant.way finds)
