use Rattle.std.proofs.Common.{◌≡◌, reverse, true}
use Rattle.box_gen.specs.Tree.{none}
use Rattle.box_gen.specs.Boxes.{closed}
use Rattle.box_gen.specs.Building.{run_of, and_then, run_with}
use Rattle.box_gen.proofs.run.Run.put_closed.Given as goal

-- with the ends of those that are left it is as with all
abbrev pub invariant-loop-inline_box : goal.invariant-loop-inline_box
invariant-loop-inline_box l =
    and_then (run_of l.self) (run_with (closed (reverse l.inline_box-iterator.iter.rest.now)) none true)
    ≡ and_then (run_of l.fn.self) (run_with (closed (reverse l.opened)) none true)
