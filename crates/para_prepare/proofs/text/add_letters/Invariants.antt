use Rattle.std.specs.Prelude.{◌≡◌, ◌≤◌, ◌+◌, ◌++◌, All, drop, length}
use Rattle.para_prepare.specs.Text.{letter_parts}
use Rattle.para_prepare.specs.Views.{IsSound, letters_at, parts_of}
use Rattle.para_prepare.proofs.text.add_letters.Given as goal

abbrev pub invariant-loop-i : goal.invariant-loop-i
invariant-loop-i g l =
    let table = (goal.Face-dyn g l.face.now).table l.face.now.1 in
    (parts_of l.text.place.letters.now l.parts.items ++ letter_parts table l.text.place.source l.text.node l.text.style.now l.i (drop l.i (letters_at l.text.place.letters.now l.text.place.span))
    ≡ parts_of l.text.place.letters.now l.fn.parts.items ++ letter_parts table l.text.place.source l.text.node l.text.style.now 0 (letters_at l.text.place.letters.now l.text.place.span))
    × All (IsSound (length l.text.place.letters.now)) l.parts.items
    × (length l.parts.items ≤ length l.fn.parts.items + l.i)
