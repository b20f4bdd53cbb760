use Rattle.report_styles.specs.Views.{all_of}
use Rattle.report_styles.proofs.Walking.{AreWalked}
use Rattle.report_styles.proofs.reporting.tell_nodes.Given as goal

abbrev pub invariant-loop-node : goal.invariant-loop-node
invariant-loop-node l = AreWalked (all_of l.fn.told.items) l.nodes l.node-index (all_of l.told.items)
