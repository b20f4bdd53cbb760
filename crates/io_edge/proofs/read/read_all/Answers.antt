use Rattle.std.proofs.Common.{◌<◌, ◌≤◌, ◌++◌, length, take, refl, arith, length-append}
use Rattle.std.proofs.lemmas.Result.{err_from_is_err_and}
use Rattle.std.proofs.KnownBytes.{Consumes-trans}
use Rattle.io_edge.proofs.read.read_all.Goals as goal

pub returns-then-count-limit-clause-taken : goal.returns-then-count-limit-clause-taken
returns-then-count-limit-clause-taken g c =
    let read = c.in_ok-count.ensures in
    let taken = take c.in_ok-count.count c.read.new.buf in
    let all = c.loop-bytes.bytes.items ++ taken in
    let long : c.args.limit < length all = omega (arith, length-append c.loop-bytes.bytes.items taken, read.count.1) in
    (all, Consumes-trans _ _ _ _ _ c.loop-bytes.invariant.so_far read.bytes.0, tt, (λ _. long, λ _. refl))

pub returns-in_err-extend_from_slice-clause-taken : goal.returns-in_err-extend_from_slice-clause-taken
returns-in_err-extend_from_slice-clause-taken g c =
    let read = c.in_ok-count.ensures in
    let taken = take c.in_ok-count.count c.read.new.buf in
    let all = c.loop-bytes.bytes.items ++ taken in
    let fits : length all ≤ c.args.limit = omega (arith, length-append c.loop-bytes.bytes.items taken, read.count.1) in
    let memory = err_from_is_err_and c.from_residual-in_err-extend_from_slice.result c.from_residual-in_err-extend_from_slice.ensures.1 in
    rw (memory.1, memory.2) (all, Consumes-trans _ _ _ _ _ c.loop-bytes.invariant.so_far read.bytes.0, tt, (λ h. absurd (cc h), λ long. absurd (omega (arith, fits, long))))
