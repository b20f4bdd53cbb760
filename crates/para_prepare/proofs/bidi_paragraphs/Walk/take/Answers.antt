use Rattle.para_prepare.proofs.bidi_paragraphs.Walk.take.Goals as goal

-- src/bidi_paragraphs.rt:73:5
pub returns-in-Break : goal.returns-in-Break
returns-in-Break c =
    rw c.in-Break.is (record {
      wanted = λ rest. c.break_line.ensures.wanted c.in-Break.source c.in-Break.node rest;
      count = c.break_line.ensures.count;
    })
