use Rattle.std.proofs.Common.{arith, ◌≡◌, ◌∙◌, length}
use Rattle.std.proofs.lemmas.List.{take_at}
use Rattle.std.proofs.lemmas.List.Elements.{All-same}
use Rattle.bidi_resolve.specs.Neutral.{i1_i2}
use Rattle.bidi_resolve.specs.Paragraph.{IsResolvedLevel}
use Rattle.bidi_resolve.proofs.ParagraphLaws.{all_raised}
use Rattle.bidi_resolve.proofs.single.raised_levels.Goals as goal

pub returns-clause-between : goal.returns-clause-between
returns-clause-between c =
    let long : length c.raise.new.levels ≡ c.in_ok-levels.levels.len = c.raise.auto.levels ∙ c.deref_mut.ensures.len in
    rw (take_at c.raise.new.levels _ c.in_ok-levels.levels.len long)
    (All-same (IsResolvedLevel c.args.frame.level) c.raise.new.levels (i1_i2 c.args.frame.level c.args.classes.now) c.raise.ensures (all_raised c.args.frame.level c.args.frame.level c.args.classes.now (record { low = omega arith; high = c.args.frame.most })))
