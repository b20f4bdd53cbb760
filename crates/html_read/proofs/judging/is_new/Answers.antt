use Rattle.std.proofs.Common.{ap, ◌∙◌}
use Rattle.reading.specs.Names.{lowered}
use Rattle.html_read.proofs.Judges.{new_told}
use Rattle.html_read.proofs.judging.is_new.Goals as goal

pub returns : goal.returns
returns c =
    new_told (lowered c.args.name.now) c.args.seen.now c.insert.new.self c.make_ascii_lowercase.new.self c.in_ok-insert.field-0
    (c.make_ascii_lowercase.ensures.bytes ∙ ap lowered c.in_ok-letters.ensures.ok) c.in_ok-insert.ensures.added c.in_ok-insert.ensures.updates
