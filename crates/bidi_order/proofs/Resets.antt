-- Levels that are reset from the end on.
use Rattle.std.proofs.Common.{◌≡◌, ℕ, ◌≤◌, Bool, List, length, take, drop}
use Rattle.wm_chars.specs.declared.classes.BidiClass.{BidiClass}
use Rattle.bidi_order.specs.Blanks.{leads_out, reset}

pub record Resets (base : ℕ) (old now : List ℕ) (classes : List BidiClass) (behind : Bool) (i : ℕ) : Type 0 where
  pub front : take i now ≡ take i old
  pub back : drop i now ≡ reset base (drop i old) (drop i classes)
  pub leads : behind ≡ leads_out (drop i classes)
  pub within : i ≤ length old
  pub same : length now ≡ length old
