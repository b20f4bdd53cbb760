use Rattle.std.proofs.Common.{rules, arith, ◌≡◌, ◌<◌, ◌++◌, ◌∷◌, [], length}
use Rattle.bidi_explicit.proofs.Following.{Goes, begins_reading, reads_within, reads_on, ends_reading}
use Rattle.bidi_explicit.proofs.sequences.take_places.Goals as goal

pub loop-last-init : goal.loop-last-init
loop-last-init c =
    let links = c.args.links.now in
    let front = c.args.taken.now.items in
    let r = begins_reading links front c.args.first c.requires in
    let items : c.push.new.self.items ≡ front ++ c.args.first ∷ [] = search rules in
    record { reading = rw items r; within = reads_within links front c.args.first c.args.first (front ++ c.args.first ∷ []) r }

pub loop-last-smaller : goal.loop-last-smaller
loop-last-smaller c =
    let links = c.args.links.now in
    let front = c.args.taken.now.items in
    let g : Goes links front c.args.first c.loop-last.last c.in-Some.next c.loop-last.taken.items = reads_on links front c.args.first c.loop-last.last c.in-Some.next c.loop-last.taken.items c.loop-last.invariant.reading c.in-Some.is in
    let rise : c.loop-last.last < c.in-Some.next = g.rises in
    let w : c.loop-last.last < length links = c.loop-last.invariant.within in
    omega arith

pub loop-last-preserved : goal.loop-last-preserved
loop-last-preserved c =
    let links = c.args.links.now in
    let front = c.args.taken.now.items in
    let g : Goes links front c.args.first c.loop-last.last c.in-Some.next c.loop-last.taken.items = reads_on links front c.args.first c.loop-last.last c.in-Some.next c.loop-last.taken.items c.loop-last.invariant.reading c.in-Some.is in
    let items : c.push-in-Some.new.self.items ≡ c.loop-last.taken.items ++ c.in-Some.next ∷ [] = search rules in
    record { reading = rw items g.reading; within = reads_within links front c.args.first c.in-Some.next (c.loop-last.taken.items ++ c.in-Some.next ∷ []) g.reading }

pub returns-clause-places : goal.returns-clause-places
returns-clause-places c = λ places f. (ends_reading c.args.links.now c.args.taken.now.items c.args.first c.loop-last.last c.loop-last.taken.items c.loop-last.invariant.reading c.in_default.is places f).places

pub returns-clause-last : goal.returns-clause-last
returns-clause-last c = λ places f. (ends_reading c.args.links.now c.args.taken.now.items c.args.first c.loop-last.last c.loop-last.taken.items c.loop-last.invariant.reading c.in_default.is places f).last
