use Rattle.std.proofs.Common.{arith}
use Rattle.std.specs.Prelude.{pos, false}
use Rattle.fragment_types.specs.declared.breaking.Breaking.TheVariants.{No}
use Rattle.line_fill.proofs.Reaching.{break_last}
use Rattle.line_fill.proofs.ahead.break_behind.Goals as goal

pub returns-then-place-items : goal.returns-then-place-items
returns-then-place-items c =
    let last = c.if-place-items.true in
    break_last c.args.items.now c.args.place (record { advance = pos 0; before = pos 0; after = pos 0; space = false; end = No }) c.requires (omega arith)
