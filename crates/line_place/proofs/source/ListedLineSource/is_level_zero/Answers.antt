use Rattle.std.proofs.Common.{◌≡◌, arith}
use Rattle.std.proofs.lemmas.List.Elements.{All-map}
use Rattle.line_place.specs.Line.{Item, item_of}
use Rattle.line_place.proofs.source.ListedLineSource.is_level_zero.Goals as goal

pub returns : goal.returns
returns c is =
    let past = c.loop-item-test.false in
    All-map (λ (item : Item). item.level ≡ 0) item_of c.args.self.now.items.now (λ k d lt. c.loop-item.invariant k d (omega (arith, past, lt)))
