use Rattle.std.proofs.Common.{rules, ◌≡◌, ◌≤◌, ◌^◌, ◌∙◌, ap, sym, subst, arith, List, length, map, w64, FitsSigned}
use Rattle.std.proofs.lemmas.Int.{to_z-of_z}
use Rattle.fragment_types.specs.Fragment.{pieces_of}
use Rattle.std.proofs.lemmas.List.{length-map}
use Rattle.fragment_types.specs.Item.{entries_of, entry_of}
use Rattle.line_place.specs.Reach.{total}
use Rattle.para_lines.specs.declared.paragraph.Atom as code
use Rattle.para_lines.specs.Paragraph.{atom_of}
use Rattle.para_lines.specs.Reach.{atom_reach}
use Rattle.relayout.specs.Atoms.{atom_in}
use Rattle.relayout.specs.Content.{block_extent}
use Rattle.relayout.specs.Flowed.{as_laid}
use Rattle.relayout.proofs.ContentLaws.{atoms_near, lines_there, many_atoms, paragraph_is, paragraph_reach}
use Rattle.relayout.proofs.content.paragraph.Goals as goal

pub paragraph_lines-requires-clause-atoms : goal.paragraph_lines-requires-clause-atoms
paragraph_lines-requires-clause-atoms g c =
    let many = many_atoms _ c.in_ok-atoms.atoms.items c.args.content.inside.boxes.now c.in_ok-atoms.ensures.are in
    let same : length c.deref.result.now ≡ length c.in_ok-atoms.atoms.items = ap length c.deref.ensures.value in
    let few = c.args.content.atoms in
    let ready = c.args.content.own.ready.atoms in
    omega arith

pub paragraph_lines-requires-clause-reach : goal.paragraph_lines-requires-clause-reach
paragraph_lines-requires-clause-reach g c =
    let many = many_atoms _ c.in_ok-atoms.atoms.items c.args.content.inside.boxes.now c.in_ok-atoms.ensures.are in
    let P : List code.Atom → Type 0 = λ atoms. total atom_reach (map atom_of atoms) ≤ 2 ^ 57 in
    let near = atoms_near c.in_ok-atoms.atoms.items c.in_ok-atoms.ensures.near in
    let few = c.args.content.inside.few in
    subst P (sym c.deref.ensures.value) (omega arith)

pub block_extent-requires-clause-stacked : goal.block_extent-requires-clause-stacked
block_extent-requires-clause-stacked g c =
    let same : pieces_of c.deref-2.result.now ≡ pieces_of c.in_ok-parts.parts.items = ap pieces_of c.deref-2.ensures.value in
    lines_there c.deref-2.result.now _ _ _ _ _ (same ∙ c.in_ok-parts.ensures.lines)

pub returns-clause-filled : goal.returns-clause-filled
returns-clause-filled g c = λ list are.
    let fits : FitsSigned w64 c.args.container.now.size = search rules in
    let same : pieces_of c.deref-2.result.now ≡ pieces_of c.in_ok-parts.parts.items = ap pieces_of c.deref-2.ensures.value in
    paragraph_is _ c.args.container.now (entries_of c.args.content.own.items.now) c.args.content.own.text.now c.args.content.inside.boxes.now list (map atom_of c.deref.result.now) c.in_ok-parts.parts _ _ _ _
    are (ap (map atom_of) c.deref.ensures.value ∙ c.in_ok-atoms.ensures.are ∙ ap (λ z. map (λ own. atom_in c.args.container.now.style z (as_laid own)) c.args.content.inside.boxes.now) (to_z-of_z w64 c.args.container.now.size fits)) c.in_ok-parts.ensures.lines
    (to_z-of_z w64 c.block_extent.result (search rules) ∙ c.block_extent.ensures ∙ ap block_extent same)
    c.none.ensures c.none-2.ensures (search rules)

pub returns-clause-reach : goal.returns-clause-reach
returns-clause-reach g c = λ list reach are deep.
    paragraph_reach c.args.container.now.style _ c.args.content.inside.boxes.now list c.in_ok-atoms.atoms.items c.deref.result.now (entries_of c.args.content.own.items.now) c.args.content.own.text.now (length c.args.content.own.items.now) _ reach
    (sym (length-map c.args.content.own.items.now entry_of)) c.args.content.own.ready c.deref.ensures.value c.in_ok-atoms.ensures.are c.in_ok-atoms.ensures.near c.in_ok-parts.ensures.spread are c.args.content.inside.near deep
