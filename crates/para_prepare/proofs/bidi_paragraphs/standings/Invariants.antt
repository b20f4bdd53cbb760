use Rattle.std.proofs.Common.{◌≡◌, ◌+◌, drop, length}
use Rattle.para_prepare.specs.BidiText.{bidi_texts}
use Rattle.para_prepare.specs.BidiParagraphs.{met, wanted}
use Rattle.para_prepare.specs.Boxes.{marked}
use Rattle.para_prepare.specs.Parts.{raws}
use Rattle.para_prepare.specs.Standing.{standings}
use Rattle.para_prepare.specs.Views.{parts_of}
use Rattle.para_prepare.proofs.bidi_paragraphs.standings.Given as goal

abbrev pub invariant-loop-k : goal.invariant-loop-k
invariant-loop-k l = record {
  wanted : wanted l.reading.given l.reading.container l.walk.text.items l.walk.opened.items l.walk.standings.items (marked (drop l.k l.marks) (parts_of l.letters (drop l.k l.parts))) ≡ standings l.reading.given (bidi_texts l.reading.container (marked l.marks (parts_of l.letters l.parts)));
  count : met l.walk.text.items l.walk.standings.items + length (raws (marked (drop l.k l.marks) (parts_of l.letters (drop l.k l.parts)))) ≡ length (raws (marked l.marks (parts_of l.letters l.parts)));
}
