use Rattle.std.proofs.Common.{◌≡◌, ◌++◌, reverse}
use Rattle.para_prepare.specs.BidiText.{closing_all}
use Rattle.para_prepare.proofs.bidi_text.put_all_after.Given as goal

abbrev pub invariant-loop-around : goal.invariant-loop-around
invariant-loop-around l = l.text.items ++ closing_all (reverse l.around-iterator.iter.rest.now) ≡ l.fn.text.items ++ closing_all (reverse l.opened)
