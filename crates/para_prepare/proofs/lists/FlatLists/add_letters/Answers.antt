use Rattle.std.proofs.Common.{◌≡◌, ◌+◌, ◌-◌, length, subst, arith}
use Rattle.para_prepare.specs.Flat.{HasRoom, flat_of}
use Rattle.para_prepare.specs.Views.{letters_at}
use Rattle.para_prepare.proofs.AloneLaws.{few_alone, letter_count, letters_more}
use Rattle.para_prepare.proofs.lists.FlatLists.add_letters.Goals as goal

pub loop-i-preserved : goal.loop-i-preserved
loop-i-preserved g c =
    let table = (goal.Face-dyn g c.args.face.now).table c.args.face.now.1 in
    let source = c.args.text.place.source in
    let node = c.args.text.node in
    let style = c.args.text.style.now in
    let letters = letters_at c.args.text.place.letters.now c.args.text.place.span in
    let own = letter_count (flat_of c.loop-i.self) (flat_of c.add_letter.new.self) table source node style c.loop-i.i _ c.add_letter.ensures.grown in
    let before = c.loop-i.invariant.1 in
    let here = c.loop-i-test.true in
    let left = length letters - (c.loop-i.i + 1) in
    let one : length letters - c.loop-i.i ≡ left + 1 = omega arith in (
      letters_more (flat_of c.loop-i.self) (flat_of c.add_letter.new.self) _ table source node style letters c.loop-i.i _ c.loop-i.invariant.0 here c.add_letter.ensures.grown,
      omega arith,
      c.add_letter.ensures.room left (subst (λ count. HasRoom count c.loop-i.self) one c.loop-i.invariant.2),
    )

pub add_letter-requires-clause-place : goal.add_letter-requires-clause-place
add_letter-requires-clause-place g c =
    let few = few_alone (letters_at c.args.text.place.letters.now c.args.text.place.span) c.args.text.place.bytes in
    let here = c.loop-i-test.true in
    omega arith
