use Rattle.std.proofs.Common.{◌≡◌, ◌∙◌, sym, subst, arith, ◌<◌, ◌-◌, pos, ◌+ℤ◌, List, Some, length, w64, to_z, of_z}
use Rattle.std.specs.Prelude.{slice_get}
use Rattle.std.proofs.lemmas.Int.{ints}
use Rattle.std.proofs.lemmas.Option.{get_or_from_slice_get, slice_get_within}
use Rattle.fragment_types.specs.declared.fragment.Fragment.{Fragment}
use Rattle.fragment_types.specs.Fragment.{pieces_of}
use Rattle.para_lines.specs.Reach.{IsNearLine}
use Rattle.relayout.specs.Content.{block_extent}
use Rattle.relayout.specs.Flowed.{part_of}
use Rattle.relayout.proofs.ContentLaws.{last_end, no_more}
use Rattle.relayout.proofs.content.block_extent.Goals as goal

pub returns-in-Some : goal.returns-in-Some
returns-in-Some c =
    let fs : List Fragment = c.args.lines.now in
    let f : Fragment = c.in-Some.line.now in
    let there : slice_get fs (length fs - 1) ≡ Some f = sym c.in-Some.ensures.value in
    let lt : length fs - 1 < length fs = slice_get_within fs (length fs - 1) f there in
    let near : IsNearLine f = subst IsNearLine (get_or_from_slice_get fs (length fs - 1) f f there) (c.requires.near (length fs - 1) f lt) in
    let sum : to_z w64 (of_z w64 (to_z w64 (of_z w64 (part_of f).rect.b) +ℤ to_z w64 (of_z w64 (part_of f).rect.block))) ≡ (part_of f).rect.b +ℤ (part_of f).rect.block = omega (arith, ints) in
    sum ∙ last_end fs (pos 0) f c.requires.stacked there ∙ no_more (block_extent (pieces_of fs))
