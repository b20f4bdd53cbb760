use Rattle.std.proofs.Common.{rules, arith}
use Rattle.dom_store.specs.State.{state_of}
use Rattle.cascade.proofs.Lines.{line_of_none, climb_begins, climb_goes_on, climb_ends, climb_fills}
use Rattle.cascade.proofs.line.line_of.Goals.{else-loop-length-test, then-loop-length-test+in_default}
use Rattle.cascade.proofs.line.line_of.Goals as goal

pub returns-in_err-last-clause-none : goal.returns-in_err-last-clause-none
returns-in_err-last-clause-none c = rw c.from_residual.ensures (line_of_none (state_of c.args.document.now) c.args.node c.in_err-last.ensures)

pub loop-length-init : goal.loop-length-init
loop-length-init c = (omega arith, climb_begins (state_of c.args.document.now) c.args.node c.in_ok-last.last.now c.in_ok-last.ensures)

pub loop-length-preserved : goal.loop-length-preserved
loop-length-preserved c = (
  omega arith,
  climb_goes_on (state_of c.args.document.now) c.args.node c.loop-length.nodes c.put.new.nodes c.loop-length.length c.loop-length.last.now c.in-Some.parent (search rules) (omega arith) c.in-Some.ensures c.put.ensures c.loop-length.invariant.1,
)

pub returns-clause-some : goal.returns-clause-some
returns-clause-some c = elim c.loop-length-test.branch [
  | else-loop-length-test w ↦ climb_fills (state_of c.args.document.now) c.args.node c.loop-length.nodes c.loop-length.length c.loop-length.last.now (omega arith) c.loop-length.invariant.1
  | then-loop-length-test+in_default w ↦ climb_ends (state_of c.args.document.now) c.args.node c.loop-length.nodes c.loop-length.length c.loop-length.last.now w.in_default.ensures c.loop-length.invariant.1
]
