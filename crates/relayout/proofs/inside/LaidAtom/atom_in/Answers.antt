use Rattle.std.proofs.Common.{rules, w64, to_z, of_z, FitsSigned}
use Rattle.std.proofs.lemmas.Int.{to_z-of_z}
use Rattle.fragment_types.specs.Fragment.{piece_of}
use Rattle.relayout.specs.Flowed.{part_of}
use Rattle.relayout.proofs.AtomLaws.{atom_near, same_near}
use Rattle.relayout.proofs.inside.LaidAtom.atom_in.Goals as goal

pub returns-clause-near : goal.returns-clause-near
returns-clause-near c =
    let fits : FitsSigned w64 c.deref.result.now.shift = search rules in
    atom_near
    (record {
      fragment = piece_of c.in_ok-fragment.fragment;
      extent = to_z w64 (of_z w64 c.extent_along.result);
      left_margin = to_z w64 (of_z w64 c.margin_or_zero.result);
      over_margin = to_z w64 (of_z w64 c.margin_or_zero-2.result);
      over = to_z w64 (of_z w64 c.over_of-over.result);
      under = to_z w64 (of_z w64 c.under_of.result);
      shift = to_z w64 (of_z w64 c.deref.result.now.shift);
    })
    (part_of c.args.self.now.laid.now.fragment) c.in_ok-fragment.ensures c.args.self.now.near.part.inline c.args.self.now.near.part.block
    (same_near c.extent_along.result _ _ (to_z-of_z w64 c.extent_along.result (search rules)) c.extent_along.ensures.near)
    (same_near c.margin_or_zero.result _ _ (to_z-of_z w64 c.margin_or_zero.result (search rules)) c.margin_or_zero.ensures.near)
    (same_near c.margin_or_zero-2.result _ _ (to_z-of_z w64 c.margin_or_zero-2.result (search rules)) c.margin_or_zero-2.ensures.near)
    (same_near c.over_of-over.result _ _ (to_z-of_z w64 c.over_of-over.result (search rules)) c.over_of-over.ensures.near)
    (same_near c.under_of.result _ _ (to_z-of_z w64 c.under_of.result (search rules)) c.under_of.ensures.near)
    (same_near c.deref.result.now.shift _ _ (to_z-of_z w64 c.deref.result.now.shift fits) (rw c.deref.ensures c.args.self.now.near.style.shift))
