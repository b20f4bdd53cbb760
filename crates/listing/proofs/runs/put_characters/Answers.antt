use Rattle.std.proofs.Common.{◌++◌, refl, arith}
use Rattle.listing.specs.Runs.{character, characters, plus}
use Rattle.listing.proofs.Puts.{told_broken, told_put}
use Rattle.listing.proofs.runs.put_characters.Goals as goal

pub returns-in_err-put_character-clause-front : goal.returns-in_err-put_character-clause-front
returns-in_err-put_character-clause-front g c =
    told_broken character c.loop-c.sign plus c.args.characters.now c.loop-c.c-index (g.K.Sink.held c.args.sink.now) (g.K.Sink.held c.loop-c.sink) (g.K.Sink.held c.put_character.new.sink)
    (c.args.waiting.now ++ characters c.args.first c.args.characters.now) c.loop-c.waiting c.c-item.result c.c-item.result (character c.loop-c.sign c.c-item.result)
    c.loop-c-test.true c.c-item.is refl c.loop-c.invariant.put c.in_err-put_character.ensures.front

pub loop-c-preserved : goal.loop-c-preserved
loop-c-preserved g c = record {
  put =
      told_put character c.loop-c.sign plus c.args.characters.now c.loop-c.c-index (g.K.Sink.held c.args.sink.now) (g.K.Sink.held c.loop-c.sink) (g.K.Sink.held c.put_character.new.sink)
      (c.args.waiting.now ++ characters c.args.first c.args.characters.now) c.loop-c.waiting c.c-item.result c.c-item.result (character c.loop-c.sign c.c-item.result)
      c.loop-c-test.true c.c-item.is refl c.loop-c.invariant.put c.put_character.new.waiting c.in_ok-put_character.ensures.waits;
  later = omega (arith, c.loop-c.invariant.later, c.put_character.ensures.later);
}
