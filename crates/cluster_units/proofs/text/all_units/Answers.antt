use Rattle.std.proofs.Common.{◌≡◌, ◌∙◌, ◌≤◌, ◌+◌, [], map, length, None, sym, ap, subst, arith, rules}
use Rattle.std.specs.Str.{chars}
use Rattle.std.proofs.lemmas.List.{length-map}
use Rattle.unicode_segmentation.specs.Iter.{graphemes_left}
use Rattle.cluster_units.specs.Cluster.{clusters, cluster_of, placed}
use Rattle.cluster_units.specs.Unit.{units_of}
use Rattle.cluster_units.specs.Gathering.{made_of, with_cluster}
use Rattle.cluster_units.proofs.Pieces.{pieces_are, fewer_chars, total, total_is}
use Rattle.cluster_units.proofs.Walk.{IsUnderway, begins, finished, goes_on, ends, made_whole, place_within}
use Rattle.cluster_units.proofs.text.all_units.Goals as goal

pub loop-piece-init : goal.loop-piece-init
loop-piece-init g c =
    let text = c.args.text.now in
    let table = (goal.Face-dyn g c.args.face.now).table c.args.face.now.1 in
    let same : graphemes_left c.into_iter-piece-iterator.result ≡ graphemes_left c.graphemes-piece-items.result = search rules in
    let left : map chars (graphemes_left c.into_iter-piece-iterator.result) ≡ clusters (chars text) =
    ap (map chars) (same ∙ c.graphemes-piece-items.ensures.left) ∙ pieces_are text c.utf8.text in
    let few = c.graphemes-piece-items.ensures.len in
    let bytes = c.requires.bytes in
    let long : length (map chars (graphemes_left c.into_iter-piece-iterator.result)) ≤ 1048576 = omega (arith, length-map (graphemes_left c.into_iter-piece-iterator.result) chars, ap length same) in
    (tt, tt, begins c.args.style.now table (chars text) _ (made_of c.new-gathering.result) _ (c.new-gathering.ensures ∙ ap (λ units. record { units = units; run = None }) c.new.ensures.items) (ap (λ pieces. finished c.args.style.now table (record { units = []; run = None }) (placed 0 pieces)) left ∙ made_whole c.args.style.now table (chars text)) (ap total left ∙ total_is (chars text)) long)

pub cluster_at-cluster-requires : goal.cluster_at-cluster-requires
cluster_at-cluster-requires g c =
    let table = (goal.Face-dyn g c.args.face.now).table c.args.face.now.1 in
    let at = subst (λ left. IsUnderway c.args.style.now table (chars c.args.text.now) (units_of c.args.style.now table (chars c.args.text.now)) (made_of c.loop-piece.gathering) c.loop-piece.place left) (ap (map chars) c.in-Some-piece.ensures.steps) c.loop-piece.invariant.2 in
    let bytes = c.requires.bytes in
    let few = fewer_chars c.args.text.now c.utf8.text in
    let short : length (chars c.args.text.now) ≤ 1048576 = omega arith in
    place_within c.args.style.now table (chars c.args.text.now) _ (made_of c.loop-piece.gathering) c.loop-piece.place (chars c.in-Some-piece.piece.now) (map chars (graphemes_left c.next.new.self)) short at

pub loop-piece-preserved : goal.loop-piece-preserved
loop-piece-preserved g c =
    let table = (goal.Face-dyn g c.args.face.now).table c.args.face.now.1 in
    let text = chars c.args.text.now in
    let left = map chars (graphemes_left c.next.new.self) in
    let at = subst (λ left. IsUnderway c.args.style.now table text (units_of c.args.style.now table text) (made_of c.loop-piece.gathering) c.loop-piece.place left) (ap (map chars) c.in-Some-piece.ensures.steps) c.loop-piece.invariant.2 in
    let made : made_of c.add.new.self ≡ with_cluster c.args.style.now table (made_of c.loop-piece.gathering) (cluster_of c.loop-piece.place (chars c.in-Some-piece.piece.now)) =
    c.in_ok-add.ensures.made ∙ ap (with_cluster c.args.style.now table (made_of c.loop-piece.gathering)) c.cluster_at-cluster.ensures in
    let place : c.loop-piece.place + length (chars c.in-Some-piece.piece.now) ≡ c.cluster_at-cluster.result.end = sym (ap (λ cluster. cluster.end) c.cluster_at-cluster.ensures) in (
      tt,
      tt,
      subst (λ place. IsUnderway c.args.style.now table text (units_of c.args.style.now table text) (made_of c.add.new.self) place left) place
          (goes_on c.args.style.now table text _ (made_of c.loop-piece.gathering) (made_of c.add.new.self) c.loop-piece.place (chars c.in-Some-piece.piece.now) left made c.add.ensures.near at),
    )

pub returns : goal.returns
returns g c =
    let table = (goal.Face-dyn g c.args.face.now).table c.args.face.now.1 in
    c.in_ok-made.ensures
    ∙ ends c.args.style.now table (chars c.args.text.now) _ (made_of c.loop-piece.gathering) c.loop-piece.place (map chars (graphemes_left c.loop-piece.piece-iterator)) (ap (map chars) c.in-None.ensures.steps.0) c.loop-piece.invariant.2
