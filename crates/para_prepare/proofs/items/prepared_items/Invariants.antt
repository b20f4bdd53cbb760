use Rattle.std.proofs.Common.{drop}
use Rattle.para_prepare.specs.Items.{items_by}
use Rattle.para_prepare.specs.Parts.{raws}
use Rattle.para_prepare.specs.Views.{parts_of}
use Rattle.para_prepare.proofs.MoreItems.{Items}
use Rattle.para_prepare.proofs.items.prepared_items.Given as goal

abbrev pub invariant-loop-part : goal.invariant-loop-part
invariant-loop-part l = Items l.items.items (parts_of l.letters (drop l.part-index l.parts)) l.standings (items_by (raws (parts_of l.letters l.parts)) l.standings)
