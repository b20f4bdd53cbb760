use Rattle.std.proofs.Common.{arith, ◌%◌}
use Rattle.listing.proofs.Hexadecimal.{sign_is}
use Rattle.listing.proofs.words.digit.Goals as goal

pub returns : goal.returns
returns c = sign_is (c.args.number % 16) _ (omega arith)
