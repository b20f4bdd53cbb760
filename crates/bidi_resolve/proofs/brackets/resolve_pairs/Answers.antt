use Rattle.std.proofs.Common.{rules, ◌≡◌, ◌∙◌, sym, ap, arith, ◌+◌, ◌<◌, length, take, drop}
use Rattle.std.proofs.lemmas.List.{get_or_default}
use Rattle.bidi_resolve.specs.Brackets.{context}
use Rattle.bidi_resolve.specs.Pairing.{resolve_at, resolve_read}
use Rattle.bidi_resolve.specs.Pairing.{reading_of}
use Rattle.bidi_resolve.specs.Isolating.{originals_in}
use Rattle.bidi_resolve.proofs.BracketLaws.{resolve_at_before, pairs_more}
use Rattle.bidi_resolve.proofs.PairingLaws.{pair_behind, if_behind}
use Rattle.bidi_resolve.proofs.brackets.resolve_pairs.Goals as goal

pub resolve_at-requires-clause-behind : goal.resolve_at-requires-clause-behind
resolve_at-requires-clause-behind c =
    let same : length c.loop-k.classes ≡ length c.args.classes.now = search rules in
    let lt : c.loop-k.k < length c.args.pairs.now.openings.items = search rules in
    rw same (if_behind (length c.args.classes.now) c.index.result.now c.index-in-loop-k.result.now
    (pair_behind (length c.args.classes.now) (reading_of c.args.pairs.now) c.loop-k.k c.index.result.now c.index-in-loop-k.result.now c.requires.within lt c.index.ensures c.index-in-loop-k.ensures))

pub loop-k-preserved : goal.loop-k-preserved
loop-k-preserved c =
    let originals = originals_in c.args.sequence.now in
    let pairs = c.args.pairs.now in
    let opening = c.index.result.now in
    let closing = c.index-in-loop-k.result.now in
    let seen = c.resolve_at.new.context.seen in
    let same : length c.loop-k.classes ≡ length c.args.classes.now = search rules in
    let lt : c.loop-k.k < length pairs.openings.items = search rules in
    let many = c.requires.within.many in
    let lt' : c.loop-k.k < length pairs.closings.items = omega arith in
    let behind = pair_behind (length c.args.classes.now) (reading_of pairs) c.loop-k.k opening closing c.requires.within lt c.index.ensures c.index-in-loop-k.ensures in
    let is : c.resolve_at.new.classes ≡ resolve_at c.args.sequence.now.frame.level c.args.sequence.now.frame.sos opening closing originals c.loop-k.classes = c.resolve_at.ensures.classes c.args.sequence.now.frame.sos c.loop-k.invariant.last in
    let before : take seen c.resolve_at.new.classes ≡ take seen c.loop-k.classes =
    ap (take seen) is ∙ resolve_at_before c.args.sequence.now.frame.level c.args.sequence.now.frame.sos seen opening closing originals c.loop-k.classes c.resolve_at.ensures.seen (λ b e. let h = behind b e in (h.0, rw same h.1)) in
    record {
      last = c.resolve_at.ensures.context c.args.sequence.now.frame.sos c.loop-k.invariant.last ∙ ap (context c.args.sequence.now.frame.sos) (sym before);
      seen = λ j low high.
          let first = get_or_default pairs.openings.items c.loop-k.k 0 opening lt in
          let e = c.index.ensures in
          let rise = c.requires.within.rises c.loop-k.k j (omega arith) high in
          let h = c.resolve_at.ensures.seen in
          omega arith;
      rest = ap (resolve_read c.args.sequence.now.frame.level c.args.sequence.now.frame.sos (drop (c.loop-k.k + 1) pairs.openings.items) (drop (c.loop-k.k + 1) pairs.closings.items) originals) is
          ∙ pairs_more c.args.sequence.now.frame.level c.args.sequence.now.frame.sos pairs.openings.items pairs.closings.items originals c.loop-k.classes c.loop-k.k opening closing lt lt' c.index.ensures c.index-in-loop-k.ensures
          ∙ c.loop-k.invariant.rest;
    }
