use Rattle.std.proofs.Common.{rules, ◌∙◌, sym, length, ◌<◌, true, false, arith}
use Rattle.bidi_resolve.proofs.BracketLaws.{follow_more, follow_stops, mark_at, length_gathered}
use Rattle.bidi_resolve.specs.Places.{gathered}
use Rattle.wm_chars.specs.declared.classes.BidiClass.TheVariants.{L}
use Rattle.bidi_resolve.proofs.brackets.become_class.Goals as goal

pub loop-k-preserved : goal.loop-k-preserved
loop-k-preserved c =
    let within : c.loop-k.k < length c.args.sequence.now.places.now = search rules in
    let many = length_gathered c.args.sequence.now.originals.now c.args.sequence.now.places.now in
    let mark = mark_at c.args.sequence.now.originals.now c.args.sequence.now.places.now c.loop-k.k true within (search rules) in
    follow_more c.args.class (gathered L c.args.sequence.now.originals.now c.args.sequence.now.places.now) c.loop-k.classes c.loop-k.k L (search rules) (omega arith) mark ∙ c.loop-k.invariant

pub returns-then-not-is_mark : goal.returns-then-not-is_mark
returns-then-not-is_mark c =
    let within : c.loop-k.k < length c.args.sequence.now.places.now = search rules in
    let many = length_gathered c.args.sequence.now.originals.now c.args.sequence.now.places.now in
    let other = mark_at c.args.sequence.now.originals.now c.args.sequence.now.places.now c.loop-k.k false within (search rules) in
    sym (follow_stops c.args.class (gathered L c.args.sequence.now.originals.now c.args.sequence.now.places.now) c.loop-k.classes c.loop-k.k L (search rules) (omega arith) other) ∙ c.loop-k.invariant
