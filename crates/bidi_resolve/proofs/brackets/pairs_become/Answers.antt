use Rattle.std.proofs.Common.{◌∙◌, ap}
use Rattle.bidi_resolve.specs.Pairing.{Reading, resolve_read}
use Rattle.bidi_resolve.specs.Isolating.{chars_in, originals_in}
use Rattle.bidi_resolve.proofs.SortedPairs.{resolved_read}
use Rattle.bidi_resolve.proofs.brackets.pairs_become.Goals as goal

pub returns : goal.returns
returns c =
    let chars = chars_in c.args.sequence.now in
    let originals = originals_in c.args.sequence.now in
    c.resolve_pairs.ensures
    ∙ ap (λ (r : Reading). resolve_read c.args.sequence.now.frame.level c.args.sequence.now.frame.sos r.openings r.closings originals c.args.classes.now) c.in_ok-read_pairs.ensures.pairs
    ∙ resolved_read c.args.sequence.now.frame.level c.args.sequence.now.frame.sos chars originals c.args.classes.now
