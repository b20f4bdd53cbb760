use Rattle.std.proofs.Common.{◌≡◌, ◌++◌, take, reverse}
use Rattle.para_prepare.specs.BidiText.{opening_all}
use Rattle.para_prepare.proofs.bidi_text.put_all_before.Given as goal

abbrev pub invariant-loop-around : goal.invariant-loop-around
invariant-loop-around l = l.text.items ≡ l.fn.text.items ++ opening_all (reverse (take l.around-index l.opened))
