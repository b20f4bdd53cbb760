use Rattle.std.proofs.Common.{◌∙◌, sym}
use Rattle.para_prepare.proofs.LatinLaws.{all_read}
use Rattle.para_prepare.proofs.flat.read_left_to_right.Goals as goal

pub returns-then-are_latin : goal.returns-then-are_latin
returns-then-are_latin c = c.if-are_latin.true ∙ sym (all_read c.args.letters.now (sym c.are_latin.ensures ∙ c.if-are_latin.true))
