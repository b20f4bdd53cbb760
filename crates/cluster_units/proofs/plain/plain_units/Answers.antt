use Rattle.std.proofs.Common.{◌≡◌, ◌∙◌, ◌≤◌, ◌&&◌, [], ◌∷◌, length, None, true, sym, ap, subst, refl, arith}
use Rattle.std.specs.List.{list_all}
use Rattle.std.specs.Str.{chars, IsUtf8}
use Rattle.std.specs.Str.Iter.{chars_rest}
use Rattle.std.proofs.lemmas.List.{length-map}
use Rattle.std.proofs.lemmas.Str.{IsUtf8-past_char, chars_past_char}
use Rattle.std.proofs.StrCases.{chars_of_empty}
use Rattle.cluster_units.specs.Cluster.{placed, uncontrolled}
use Rattle.cluster_units.specs.Plain.{is_plain}
use Rattle.cluster_units.specs.Gathering.{made_of}
use Rattle.cluster_units.proofs.Pieces.{fewer_chars}
use Rattle.cluster_units.proofs.PlainLaws.{pieces, plain_pieces, total_pieces}
use Rattle.cluster_units.proofs.Walk.{IsUnderway, begins, finished_is, goes_on, ends, place_within, units_by, whole}
use Rattle.cluster_units.proofs.plain.plain_units.Goals as goal

pub loop-c-init : goal.loop-c-init
loop-c-init g c =
    let table = (goal.Face-dyn g c.args.face.now).table c.args.face.now.1 in
    let style = c.args.style.now in
    let text = c.args.text.now in
    let all = units_by style table (uncontrolled (placed 0 (pieces (chars text)))) in
    let rest : chars_rest c.into_iter-c-iterator.result ≡ text = ap chars_rest c.into_iter-c-iterator.ensures.into_iter_gives ∙ c.chars-c-items.ensures.rest in
    let bytes = c.requires.bytes in
    let few = fewer_chars text c.utf8.text in
    let long : length (pieces (chars text)) ≤ 1048576 = omega (arith, length-map (chars text) (λ c. c ∷ [])) in
    let made = begins style table (chars text) all (made_of c.new-gathering.result) (pieces (chars text)) (c.new-gathering.ensures ∙ ap (λ units. record { units = units; run = None }) c.in_ok-with_capacity.ensures.items)
    (finished_is style table [] [] (placed 0 (pieces (chars text))) refl) (total_pieces (chars text)) long in (
      subst IsUtf8 (sym rest) c.utf8.text,
      subst (λ left. IsUnderway style table (chars text) all (made_of c.new-gathering.result) 0 (pieces (chars left))) (sym rest) made,
      ap (λ left. list_all is_plain (chars left)) rest,
    )

pub overflow_add-cluster : goal.overflow_add-cluster
overflow_add-cluster g c =
    let table = (goal.Face-dyn g c.args.face.now).table c.args.face.now.1 in
    let style = c.args.style.now in
    let text = chars c.args.text.now in
    let all = units_by style table (uncontrolled (placed 0 (pieces text))) in
    let held = c.loop-c.invariant in
    let left = chars (chars_rest c.next.new.self) in
    let step = chars_past_char _ _ c.in-Some.c held.0 c.in-Some.ensures.steps.0 in
    let at = subst (λ left. IsUnderway style table text all (made_of c.loop-c.gathering) c.loop-c.place (pieces left)) step held.1 in
    let bytes = c.requires.bytes in
    let few = fewer_chars c.args.text.now c.utf8.text in
    let within = place_within style table text all (made_of c.loop-c.gathering) c.loop-c.place (c.in-Some.c ∷ []) (pieces left) (omega arith) at in
    omega arith

pub loop-c-preserved : goal.loop-c-preserved
loop-c-preserved g c =
    let table = (goal.Face-dyn g c.args.face.now).table c.args.face.now.1 in
    let style = c.args.style.now in
    let text = chars c.args.text.now in
    let all = units_by style table (uncontrolled (placed 0 (pieces text))) in
    let held = c.loop-c.invariant in
    let parts = c.in-Some.ensures.steps.0 in
    let left = chars (chars_rest c.next.new.self) in
    let step = chars_past_char _ _ c.in-Some.c held.0 parts in
    let at = subst (λ left. IsUnderway style table text all (made_of c.loop-c.gathering) c.loop-c.place (pieces left)) step held.1 in
    let plain : is_plain c.in-Some.c ≡ true = sym c.is_plain_character.ensures ∙ c.if-not-is_plain_character.false in (
      IsUtf8-past_char _ _ c.in-Some.c held.0 parts,
      goes_on style table text all (made_of c.loop-c.gathering) (made_of c.add.new.self) c.loop-c.place (c.in-Some.c ∷ []) (pieces left) c.in_ok-add.ensures.made c.add.ensures.near at,
      sym (ap (list_all is_plain) step ∙ ap (λ first. first && list_all is_plain left) plain) ∙ held.2,
    )

pub returns : goal.returns
returns g c =
    let table = (goal.Face-dyn g c.args.face.now).table c.args.face.now.1 in
    let style = c.args.style.now in
    let text = chars c.args.text.now in
    let held = c.loop-c.invariant in
    let none = chars_of_empty _ c.in-None.ensures.steps.0.0 in
    let plain : list_all is_plain text ≡ true = sym held.2 ∙ ap (list_all is_plain) none in
    c.in_ok-units.ensures
    ∙ ends style table text (units_by style table (uncontrolled (placed 0 (pieces text)))) (made_of c.loop-c.gathering) c.loop-c.place (pieces (chars (chars_rest c.loop-c.c-iterator))) (ap pieces none) held.1
    ∙ ap (λ pieces. units_by style table (uncontrolled (placed 0 pieces))) (plain_pieces text plain) ∙ sym (whole style table text)
