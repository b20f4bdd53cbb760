use Rattle.css_sheet.proofs.Styling.{IsMoving}
use Rattle.css_sheet.proofs.styled.moved_to.Given as goal

abbrev pub invariant-loop-declaration : goal.invariant-loop-declaration
invariant-loop-declaration l = IsMoving l.place l.own l.declaration-index l.moved.items
