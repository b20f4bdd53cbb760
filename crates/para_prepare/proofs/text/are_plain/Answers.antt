use Rattle.std.proofs.Common.{◌∙◌, sym}
use Rattle.para_prepare.proofs.LatinLaws.{all_plain}
use Rattle.para_prepare.proofs.text.are_plain.Goals as goal

pub returns-then-are_latin : goal.returns-then-are_latin
returns-then-are_latin c = c.if-are_latin.true ∙ sym (all_plain c.args.letters.now (sym c.are_latin.ensures ∙ c.if-are_latin.true))
