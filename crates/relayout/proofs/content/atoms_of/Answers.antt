use Rattle.std.proofs.Common.{◌≤◌, ◌*◌, ◌^◌, ◌∙◌, ap, sym, subst, arith, List, map, w64, to_z, of_z}
use Rattle.std.specs.Prelude.{All}
use Rattle.std.proofs.lemmas.Int.{to_z-of_z}
use Rattle.std.proofs.lemmas.List.{take_all}
use Rattle.std.proofs.lemmas.List.Elements.{All-push}
use Rattle.para_lines.specs.declared.paragraph.Atom as code
use Rattle.para_lines.specs.Paragraph.{atom_of}
use Rattle.para_lines.specs.Reach.{atom_reach}
use Rattle.relayout.specs.Atoms.{atom_in}
use Rattle.relayout.specs.Flowed.{as_laid}
use Rattle.relayout.proofs.ContentLaws.{one_more_atom}
use Rattle.relayout.proofs.content.atoms_of.Goals as goal

pub loop-child-preserved : goal.loop-child-preserved
loop-child-preserved c =
    let near : code.Atom → Type 0 = λ a. atom_reach (atom_of a) ≤ 5 * 2 ^ 36 in
    let P : List code.Atom → Type 0 = λ atoms. All near atoms in
    record {
      are = ap (map atom_of) c.in_ok-push.ensures.items
          ∙ one_more_atom (λ own. atom_in c.args.style.now (to_z w64 (of_z w64 c.args.size)) (as_laid own)) c.loop-child.made.items c.in_ok-atom_in.field-0 c.args.laid.boxes.now c.loop-child.child-index c.child-item.result
          c.loop-child-test.true c.child-item.is c.loop-child.invariant.are c.in_ok-atom_in.ensures.value;
      near = subst P (sym c.in_ok-push.ensures.items) (All-push near c.loop-child.made.items c.in_ok-atom_in.field-0 c.loop-child.invariant.near c.in_ok-atom_in.ensures.near);
    }

pub returns-clause-are : goal.returns-clause-are
returns-clause-are c =
    c.loop-child.invariant.are
    ∙ ap (map (λ own. atom_in c.args.style.now (to_z w64 (of_z w64 c.args.size)) (as_laid own))) (take_all c.loop-child.child-index c.args.laid.boxes.now (omega arith))
    ∙ ap (λ z. map (λ own. atom_in c.args.style.now z (as_laid own)) c.args.laid.boxes.now) (to_z-of_z w64 c.args.size c.ranges.size)
