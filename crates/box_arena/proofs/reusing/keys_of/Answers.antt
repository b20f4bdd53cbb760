use Rattle.std.proofs.Common.{◌+◌, arith, ℕ, sym, subst}
use Rattle.std.specs.BTreeMap.{BTreeMap}
use Rattle.box_arena.specs.At.{node_of}
use Rattle.box_arena.specs.Reusing.{FindsBelow}
use Rattle.box_arena.proofs.AllHanded.{finds_all, finds_begun, finds_more, finds_none}
use Rattle.box_arena.proofs.reusing.keys_of.Goals.{in-Some+in_ok-insert-in-Some, in-None}
use Rattle.box_arena.proofs.reusing.keys_of.Goals as goal

pub loop-key-init : goal.loop-key-init
loop-key-init g c = finds_begun c.new-keys.result c.args.arena.now.slots

pub loop-key-preserved : goal.loop-key-preserved
loop-key-preserved g c =
    let P : BTreeMap (ℕ × ℕ) ℕ → Type 0 = λ keys. FindsBelow keys c.args.arena.now.slots (c.loop-key.key + 1) in
    elim c.match-box_at.branch [
      | in-Some+in_ok-insert-in-Some w ↦
          subst P (sym w.keys-is) (finds_more c.loop-key.keys w.insert.new.self c.args.arena.now.slots c.loop-key.key (node_of w.in-Some.found.now) c.loop-key.invariant (sym w.in-Some.ensures.node) w.in_ok-insert-in-Some.ensures.updates)
      | in-None w ↦
          subst P (sym w.keys-is) (finds_none c.loop-key.keys c.args.arena.now.slots c.loop-key.key c.loop-key.invariant (sym w.in-None.ensures.node))
    ]

pub returns : goal.returns
returns g c = λ named.
    finds_all c.loop-key.keys c.args.arena.now.slots c.loop-key.key (rw (← c.arena.view_is) (omega (arith, c.capacity-key-end.ensures.slots, c.loop-key-test.false))) c.loop-key.invariant named
