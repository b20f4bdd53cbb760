use Rattle.std.proofs.Common.{◌≡◌, ◌≤◌, ◌++◌, drop, take}
use Rattle.bidi_explicit.specs.Ahead.{rights}
use Rattle.bidi_explicit.specs.Explicit.{entries, begin, levels_by, classes_by}
use Rattle.bidi_explicit.specs.Machine.{state_of, total}
use Rattle.bidi_explicit.specs.Stack.{stacked}
use Rattle.bidi_explicit.proofs.explicit.write_all.Given as goal

abbrev pub invariant-loop-i : goal.invariant-loop-i
invariant-loop-i l =
    let rest = drop l.i l.classes in
    record {
      answers : stacked l.answers ≡ rights rest;
      level : take l.i l.level ++ levels_by l.base l.last rest (entries (state_of l.machine) rest) ≡ levels_by l.base l.base l.classes (entries (begin l.base) l.classes);
      class : take l.i l.class ++ classes_by rest (entries (state_of l.machine) rest) ≡ classes_by l.classes (entries (begin l.base) l.classes);
      total : total l.machine ≤ l.i;
    }
