use Rattle.std.specs.Prelude.{◌≡◌, ◌≤◌, ◌+◌, ◌-◌, drop, length}
use Rattle.para_prepare.specs.Flat.{HasRoom, flat_of, grown}
use Rattle.para_prepare.specs.Text.{letter_parts}
use Rattle.para_prepare.specs.Views.{letters_at}
use Rattle.para_prepare.proofs.lists.FlatLists.add_letters.Given as goal

abbrev pub invariant-loop-i : goal.invariant-loop-i
invariant-loop-i g l =
    let table = (goal.Face-dyn g l.face.now).table l.face.now.1 in
    (grown (flat_of l.self) (letter_parts table l.text.place.source l.text.node l.text.style.now l.i (drop l.i (letters_at l.text.place.letters.now l.text.place.span)))
    ≡ grown (flat_of l.fn.self) (letter_parts table l.text.place.source l.text.node l.text.style.now 0 (letters_at l.text.place.letters.now l.text.place.span)))
    × (length l.self.items.items ≤ length l.fn.self.items.items + l.i)
    × HasRoom (length (letters_at l.text.place.letters.now l.text.place.span) - l.i) l.self
