use Rattle.std.proofs.Common.{◌≡◌, ◌<◌, ◌≤◌, drop, get_or, length, false}
use Rattle.std.specs.Prelude.{ℕ}
use Rattle.wm_chars.specs.Classes.{is_isolate_formatting}
use Rattle.wm_chars.specs.declared.classes.BidiClass.TheVariants.{L}
use Rattle.bidi_explicit.specs.Ahead.{ahead, ahead_of, rights}
use Rattle.bidi_explicit.specs.Stack.{stacked}
use Rattle.bidi_explicit.proofs.ahead.read_rights.Given as goal

abbrev pub invariant-loop-i : goal.invariant-loop-i
invariant-loop-i l = record {
  scan : ahead_of l.scan ≡ ahead (drop l.read_from l.classes);
  answers : stacked l.answers ≡ rights (drop l.i l.classes);
  plain : (k : ℕ) → l.i ≤ k → k < l.read_from → is_isolate_formatting (get_or l.classes k L) ≡ false;
  order : l.i ≤ l.read_from;
  within : l.read_from ≤ length l.classes;
}

abbrev pub decreases-loop-i : goal.decreases-loop-i
decreases-loop-i l = l.i
