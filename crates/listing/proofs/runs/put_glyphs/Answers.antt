use Rattle.std.proofs.Common.{◌++◌, refl, [], arith}
use Rattle.listing.specs.Runs.{characters, comma, glyphs}
use Rattle.listing.proofs.Puts.{told_broken, told_put}
use Rattle.listing.proofs.runs.put_glyphs.Goals as goal

pub returns-in_err-put_characters-clause-front : goal.returns-in_err-put_characters-clause-front
returns-in_err-put_characters-clause-front g c =
    told_broken characters c.loop-place.sign comma c.args.unit.now.glyphs c.loop-place.place (g.K.Sink.held c.args.sink.now) (g.K.Sink.held c.loop-place.sink) (g.K.Sink.held c.put_characters.new.sink)
    (c.args.waiting.now ++ glyphs c.args.first c.args.unit.now.glyphs) c.loop-place.waiting [] c.glyph.result.now (characters c.loop-place.sign c.glyph.result.now)
    (omega (arith, c.loop-place-test.true, c.glyph_count-place-end.ensures)) c.glyph.ensures refl c.loop-place.invariant.put c.in_err-put_characters.ensures.front

pub loop-place-preserved : goal.loop-place-preserved
loop-place-preserved g c = record {
  put =
      told_put characters c.loop-place.sign comma c.args.unit.now.glyphs c.loop-place.place (g.K.Sink.held c.args.sink.now) (g.K.Sink.held c.loop-place.sink) (g.K.Sink.held c.put_characters.new.sink)
      (c.args.waiting.now ++ glyphs c.args.first c.args.unit.now.glyphs) c.loop-place.waiting [] c.glyph.result.now (characters c.loop-place.sign c.glyph.result.now)
      (omega (arith, c.loop-place-test.true, c.glyph_count-place-end.ensures)) c.glyph.ensures refl c.loop-place.invariant.put c.put_characters.new.waiting c.in_ok-put_characters.ensures.waits;
  later = omega (arith, c.loop-place.invariant.later, c.put_characters.ensures.later);
}
