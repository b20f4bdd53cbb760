use Rattle.std.proofs.Common.{rules, ◌∙◌, ap, ◌+◌, drop}
use Rattle.bidi_resolve.specs.Pairing.{read}
use Rattle.bidi_resolve.specs.Pairing.{reading_of}
use Rattle.bidi_resolve.specs.Isolating.{chars_in}
use Rattle.bidi_resolve.proofs.PairingLaws.{read_more, read_within}
use Rattle.wm_chars.specs.declared.classes.BidiClass.TheVariants.{L}
use Rattle.bidi_resolve.proofs.pairing.read_pairs.Goals as goal

pub loop-k-preserved : goal.loop-k-preserved
loop-k-preserved c =
    let is = c.in_ok-read_at.ensures in
    let k = c.loop-k.k in
    record {
      reads = ap (read (k + 1) (drop (k + 1) (chars_in c.args.sequence.now)) (drop (k + 1) c.args.classes.now)) is
          ∙ read_more c.args.sequence.now.chars.now c.args.sequence.now.places.now c.args.classes.now (reading_of c.loop-k.pairing) k L (search rules) (search rules) ∙ c.loop-k.invariant.reads;
      within = rw is (read_within _ _ _ _ c.loop-k.invariant.within);
    }
