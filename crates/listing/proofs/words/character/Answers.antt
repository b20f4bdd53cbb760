use Rattle.std.proofs.Common.{arith}
use Rattle.listing.proofs.Hexadecimal.{all_pushed}
use Rattle.listing.proofs.words.character.Goals as goal

pub returns : goal.returns
returns c =
    all_pushed c.args.sign c.args.c c.from-c.result c.new-text.result.items c.push.new.self.items c.push_high.new.text.items c.push_high-2.new.text.items c.push_four.new.text.items
    (omega (arith, c.ranges.c)) c.from-c.ensures c.new-text.ensures c.push.ensures.items c.push_high.ensures.items c.push_high-2.ensures.items c.push_four.ensures
