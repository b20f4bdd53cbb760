use Rattle.std.proofs.Common.{ap}
use Rattle.style_types.specs.declared.style.Style.{Style}
use Rattle.style_types.specs.Tree.{nodes_of}
use Rattle.box_gen.proofs.Founds.{found_in_root}
use Rattle.box_gen.proofs.checked.check_boxes.Goals as goal

pub returns : goal.returns
returns c =
    c.judged.ensures (nodes_of c.args.root.now)
    (found_in_root c.args.root.now _ _ _ c.found_in.result (ap (λ (s : Style). s.mode) c.deref-2.ensures) c.deref.ensures.value c.in_root.ensures c.found_in.ensures)
