use Rattle.std.proofs.Common.{rules, ◌≡◌, ◌≤◌, arith, length, to_z, of_z, w64}
use Rattle.std.proofs.lemmas.Int.{to_z-of_z}
use Rattle.para_lines.specs.Prepared.{preparation_of}
use Rattle.para_lines.proofs.RoomLaws.{fills_are}
use Rattle.para_lines.proofs.filled.ParagraphInput.fill_items.Goals as goal

pub returns : goal.returns
returns c =
    let past : length c.args.self.now.atoms.now ≤ c.loop-atom.atom-index = omega arith in
    let size : to_z w64 (of_z w64 c.args.self.now.container.now.size) ≡ c.args.self.now.container.now.size = to_z-of_z w64 c.args.self.now.container.now.size (search rules) in
    fills_are c.args.self.now.container.now.size _ c.args.self.now.boxes.now (preparation_of c.args.self.now.lists) c.args.self.now.atoms.now _ c.loop-atom.extents.items c.loop-atom.atom-index _
    c.in_ok-made.ensures size c.deref.ensures.value c.loop-atom.invariant.items past
