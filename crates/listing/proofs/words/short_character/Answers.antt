use Rattle.listing.proofs.Hexadecimal.{short_spelled}
use Rattle.listing.proofs.words.short_character.Goals as goal

pub returns : goal.returns
returns c = rw (c.digit.ensures, c.digit-2.ensures, c.digit-3.ensures, c.digit-4.ensures) (short_spelled c.args.sign c.args.c c.requires)
