use Rattle.std.proofs.Common.{◌≡◌, rules, subst}
use Rattle.slab.specs.Slab.{Slab}
use Rattle.box_arena.specs.declared.entry.Entry.{Entry}
use Rattle.box_arena.specs.Reusing.{LosesNothing}
use Rattle.box_arena.proofs.AllHanded.{nothing_lost}
use Rattle.box_arena.proofs.reusing.reuse.Goals as goal

pub returns-clause-all : goal.returns-clause-all
returns-clause-all g c = λ named once tree stands low few.
    let same : c.reuse_box.new.self.taker.now ≡ c.taker-1.given.0 = first_of (search rules, cc) in
    let P : Slab (Entry g.row.T.Denot) → Type 0 = λ s. LosesNothing c.args.giver.now.slots c.args.taker.now.slots s.slots c.args.root in
    subst P same
    (nothing_lost _ _ _ _ c.args.root named once c.reuse_box.ensures.reuses c.reuse_box.ensures.hands
    (c.reuse_box.ensures.leaves (c.in_ok-keys.ensures named) tree (record { stands = stands; height = low; count = few })))
