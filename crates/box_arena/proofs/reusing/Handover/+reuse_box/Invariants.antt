use Rattle.std.specs.Prelude.{◌≡◌}
use Rattle.box_gen.specs.Tree.{Boxes}
use Rattle.box_arena.specs.At.{links_at}
use Rattle.box_arena.specs.Links.{IsIn}
use Rattle.box_arena.specs.Reusing.{FindsEach, HandsUnder}
use Rattle.box_arena.proofs.AllHanded.{IsOnWay, IsWithin}
use Rattle.box_arena.proofs.Handovers.{Handing}
use Rattle.box_arena.proofs.reusing.Handover.+reuse_box.Given as goal

abbrev pub decreases-reuse_box : goal.decreases-reuse_box
decreases-reuse_box g l = l.depth

abbrev pub invariant-loop : goal.invariant-loop
invariant-loop g l = record {
  giver : l.self.giver.ghost_name ≡ l.fn.self.giver.ghost_name;
  taker : l.self.taker.ghost_name ≡ l.fn.self.taker.ghost_name;
  keys : l.self.keys ≡ l.fn.self.keys;
  handing : Handing l.fn.self.giver.now l.self.giver.now l.fn.self.taker.now l.self.taker.now l.from l.key l.stood l.next;
  inside : IsIn (links_at l.fn.self.taker.now.slots) l.key l.next;
  hands : HandsUnder l.fn.self.giver.now.slots l.self.giver.now.slots l.fn.self.taker.now.slots l.self.taker.now.slots l.key;
  way : FindsEach l.fn.self.keys.now l.fn.self.giver.now.slots → (inner : Boxes) → IsWithin l.fn.self.taker.now.slots l.key l.depth inner
      → IsOnWay l.fn.self.giver.now.slots l.self.giver.now.slots l.fn.self.taker.now.slots l.self.taker.now.slots l.from l.key inner l.stood l.next l.counter;
}
