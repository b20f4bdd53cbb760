use Rattle.std.proofs.Common.{rules}
use Rattle.listing.specs.Words.{pair, rect_words}
use Rattle.listing.proofs.Pushed.{two_pushed}
use Rattle.listing.proofs.words.push_rect.Goals as goal

pub returns-clause-bytes : goal.returns-clause-bytes
unfolding rect_words
returns-clause-bytes c = let r = c.args.rect.now in two_pushed _ c.push_pair.new.line.bytes _ (pair r.x r.y) (pair r.w r.h) (search rules) (search rules)
