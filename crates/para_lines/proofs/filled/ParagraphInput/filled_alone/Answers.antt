use Rattle.std.proofs.Common.{rules, ◌≡◌, ◌≤◌, ◌^◌, sym, arith, subst, map, List, to_z, of_z, w64}
use Rattle.std.proofs.lemmas.Int.{to_z-of_z}
use Rattle.line_fill.specs.declared.item.FillItem.{FillItem}
use Rattle.line_fill.specs.Item.{spread}
use Rattle.para_lines.specs.Alone.{fill_alone}
use Rattle.para_lines.specs.Lines.{atom_extents}
use Rattle.para_lines.specs.Paragraph.{atom_of}
use Rattle.para_lines.specs.Prepared.{preparation_of}
use Rattle.para_lines.proofs.RoomLaws.{extents_reach, filled_with}
use Rattle.para_lines.proofs.Spreading.{fill_spread}
use Rattle.para_lines.proofs.filled.ParagraphInput.filled_alone.Goals as goal

pub fill_from-requires : goal.fill_from-requires
fill_from-requires g c =
    let own = c.args.self.now.is_input in
    let most = own.reach in
    let extents = extents_reach (map atom_of c.args.self.now.atoms.now) in
    let P : List FillItem → Type 0 = λ is. spread is ≤ 2 ^ 60 in
    subst P (sym (c.requires.read c.requires.one))
    (fill_spread _ c.args.self.now.boxes.now (preparation_of c.args.self.now.lists) (atom_extents (map atom_of c.args.self.now.atoms.now)) own.bounded.bounds own.bounded.few own.sources own.near (omega arith))

pub returns-clause-filled : goal.returns-clause-filled
returns-clause-filled g c =
    let size : to_z w64 (of_z w64 c.args.self.now.container.now.size) ≡ c.args.self.now.container.now.size = to_z-of_z w64 c.args.self.now.container.now.size (search rules) in
    filled_with c.args.self.now (map fill_alone c.args.standings.now) _ c.in_ok-lines.lines (c.requires.read c.requires.one) c.in_ok-lines.ensures.lines size c.in_ok-lines.ensures.divide
