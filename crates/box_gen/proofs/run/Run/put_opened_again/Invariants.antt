use Rattle.std.proofs.Common.{◌≡◌, reverse, drop, true}
use Rattle.box_gen.specs.Tree.{none}
use Rattle.box_gen.specs.Boxes.{opened_again}
use Rattle.box_gen.specs.Building.{run_of, and_then, run_with}
use Rattle.box_gen.proofs.run.Run.put_opened_again.Given as goal

-- with the beginnings of those that are left it is as with all
abbrev pub invariant-loop-inline_box : goal.invariant-loop-inline_box
invariant-loop-inline_box l =
    and_then (run_of l.self) (run_with (opened_again (reverse (drop l.inline_box-index l.opened))) none true)
    ≡ and_then (run_of l.fn.self) (run_with (opened_again (reverse l.opened)) none true)
