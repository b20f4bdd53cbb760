use Rattle.std.proofs.Common.{◌≡◌, ℕ, drop}
use Rattle.std.specs.BTreeMap.{get}
use Rattle.std.specs.Option.{option_or}
use Rattle.std.specs.Ordering.{nat_cmp}
use Rattle.place_map.specs.Parts.{count, parts_of}
use Rattle.rel_shift.specs.Boxes.{box_in}
use Rattle.rel_shift.proofs.boxes.+add_boxes.Given as goal

-- the boxes so far, and those to come
abbrev pub invariant-loop-part : goal.invariant-loop-part
invariant-loop-part l = (node : ℕ)
    → option_or (box_in l.mode node (parts_of (drop l.part-index l.parts))) (get nat_cmp l.boxes node)
    ≡ option_or (box_in l.mode node (parts_of l.parts)) (get nat_cmp l.initial.boxes node)

-- those inside a fragment are fewer
abbrev pub decreases-add_boxes : goal.decreases-add_boxes
decreases-add_boxes l = count (parts_of l.parts.now)
