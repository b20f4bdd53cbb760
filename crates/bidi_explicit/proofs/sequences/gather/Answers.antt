use Rattle.std.proofs.Common.{◌≡◌, ◌∙◌, [], arith, map, sym, refl, true, false}
use Rattle.std.proofs.lemmas.List.Elements.{All-nil}
use Rattle.bidi_explicit.specs.Links.{before_at, begins_at}
use Rattle.bidi_explicit.specs.Spans.{IsSpan, sequence_at}
use Rattle.bidi_explicit.proofs.Gathering.{before_more, begins_gathering, has_chain, gathers_on, ends_gathering}
use Rattle.bidi_explicit.proofs.sequences.gather.Goals.{then-links-i+in_ok-take, else-links-i}
use Rattle.bidi_explicit.proofs.sequences.gather.Goals as goal

pub take-requires-clause-chain : goal.take-requires-clause-chain
take-requires-clause-chain c =
    has_chain c.args.levels.now c.args.links.now c.loop-i.i (before_at c.args.levels.now c.loop-i.i) (map (sequence_at c.loop-i.flat.places.items) c.loop-i.flat.spans.items) c.requires.linked c.requires.aligned (omega arith) c.loop-i.invariant.gathering c.if-links-i.true

pub loop-i-preserved : goal.loop-i-preserved
loop-i-preserved c =
    let levels = c.args.levels.now in
    let links = c.args.links.now in
    let old = c.loop-i.flat in
    rw (before_more levels c.loop-i.i)
    (elim c.if-links-i.branch [
      | then-links-i+in_ok-take w ↦
          let begins : begins_at links c.loop-i.i ≡ true = w.if-links-i.true in
          rw w.flat-is
          (record {
            gathering = gathers_on levels links c.loop-i.i (before_at c.args.levels.now c.loop-i.i) (map (sequence_at old.places.items) old.spans.items) c.requires.linked c.requires.aligned (omega arith) c.loop-i.invariant.gathering
                _ (λ e. w.in_ok-take.ensures.taken) (λ e. let bad : true ≡ false = sym begins ∙ e in absurd (cc));
            spans = w.in_ok-take.ensures.spans;
          })
      | else-links-i w ↦
          let stays : begins_at links c.loop-i.i ≡ false = w.if-links-i.false in
          rw w.flat-is
          (record {
            gathering = gathers_on levels links c.loop-i.i (before_at c.args.levels.now c.loop-i.i) (map (sequence_at old.places.items) old.spans.items) c.requires.linked c.requires.aligned (omega arith) c.loop-i.invariant.gathering
                _ (λ e. let bad : true ≡ false = sym e ∙ stays in absurd (cc)) (λ e. refl);
            spans = c.loop-i.invariant.spans;
          })
    ])

pub returns-clause-runs : goal.returns-clause-runs
returns-clause-runs c = ends_gathering c.args.levels.now c.args.links.now c.loop-i.i (before_at c.args.levels.now c.loop-i.i) (map (sequence_at c.loop-i.flat.places.items) c.loop-i.flat.spans.items) c.requires.linked (omega arith) c.loop-i.invariant.gathering

pub loop-i-init : goal.loop-i-init
loop-i-init c =
    let none : c.new.result.items ≡ [] = c.new.ensures.items in
    rw none (record { gathering = begins_gathering c.args.levels.now c.args.links.now c.requires.linked; spans = All-nil (IsSpan _) })
