use Rattle.std.proofs.Common.{length, slice_index_or, arith}
use Rattle.std.specs.List.{slice_range}
use Rattle.para_prepare.specs.declared.letter.Letter.{Letter}
use Rattle.para_prepare.proofs.AloneLaws.{few_alone}
use Rattle.para_prepare.proofs.AloneParts.{letter_count, letters_more, sound_more}
use Rattle.para_prepare.proofs.PartsLaws.{stretch_length}
use Rattle.para_prepare.proofs.text.add_letters.Goals as goal

pub loop-i-preserved : goal.loop-i-preserved
loop-i-preserved g c =
    let table = (goal.Face-dyn g c.args.face.now).table c.args.face.now.1 in
    let source = c.args.text.place.source in
    let node = c.args.text.node in
    let style = c.args.text.style.now in
    let from = c.args.text.place.span.from in
    let to = c.args.text.place.span.to in
    let letters = c.args.text.place.letters.now in
    let long = stretch_length letters from to c.args.text.place.within in
    let lt = c.loop-i-test.true in
    let more = c.in_ok-add_letter.ensures.part in
    let l : Letter = slice_index_or (slice_range letters from to) c.loop-i.i (record { place = 0; char = 0 }) in
    let own = letter_count table source node style from c.loop-i.i l _ c.add_letter.new.parts.items more in
    let before = c.loop-i.invariant.2 in
    let within = c.args.text.place.within in
    let order = c.args.text.place.order in (
      letters_more c.plain_units_are_of_characters.ensures.apart table source node style letters from to c.loop-i.i _ _ _ _ c.loop-i.invariant.0 (omega arith) within more,
      sound_more (length letters) table source node style from c.loop-i.i l _ c.add_letter.new.parts.items c.loop-i.invariant.1 c.in_ok-add_letter.ensures.unit (omega arith) more,
      omega arith,
    )

pub add_letter-requires-clause-few : goal.add_letter-requires-clause-few
add_letter-requires-clause-few g c =
    let few = few_alone (slice_range c.args.text.place.letters.now c.args.text.place.span.from c.args.text.place.span.to) c.args.text.place.bytes in
    let here = c.loop-i-test.true in
    omega arith
