-- The items before this one are copied.
use Rattle.std.proofs.Common.{◌≡◌, map, take}
use Rattle.std.specs.String.{string_bytes}
use Rattle.fragment_types.specs.Item.{entries_of}
use Rattle.text_boxes.specs.Boxes.{entry_with}
use Rattle.text_boxes.proofs.items.items_with.Given as goal

abbrev pub invariant-loop-item : goal.invariant-loop-item
invariant-loop-item l = entries_of l.copy.items ≡ map (entry_with l.node (string_bytes l.text)) (entries_of (take l.item-index l.items))
