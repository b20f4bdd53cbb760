use Rattle.std.proofs.Common.{◌≡◌, ◌+◌, ℕ, length}
use Rattle.std.specs.Prelude.{All}
use Rattle.face_api.specs.Faces.{faces_of}
use Rattle.para_lines.specs.Reach.{HoldsWithin, IsLineWithin}
use Rattle.para_lines.specs.Setting.{entries_in, lines_reach, standings_in}
use Rattle.para_lines.proofs.StackLaws.{Stacking}
use Rattle.para_lines.proofs.lines.stacked.Given as goal

abbrev pub invariant-loop-end : goal.invariant-loop-end
invariant-loop-end g l = record {
  stacking : Stacking (faces_of {I = g.dyn-1.0.I} {D = λ x. (g.dyn-1.0.entry x).0.Denot} (λ vtable. (g.dyn-1.0.entry vtable).1) l.faces) l.setting.container.now (entries_in l.setting) (standings_in l.setting) l.ends l.stack l.end-index;
  spread : (most : ℕ) → All (HoldsWithin most) (standings_in l.setting)
      → All (IsLineWithin (lines_reach (length l.setting.boxes.now) (standings_in l.setting) + most)) l.stack.made.items;
  seats : length l.stack.seats.items ≡ length l.setting.boxes.now;
}
