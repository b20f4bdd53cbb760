use Rattle.std.specs.Prelude.{◌≡◌, drop}
use Rattle.fragment_types.specs.Item.{entries_of}
use Rattle.para_prepare.specs.White.{leads, signs}
use Rattle.para_prepare.proofs.white.leads_in.Given as goal

abbrev pub invariant-loop-item : goal.invariant-loop-item
invariant-loop-item l = leads (signs (entries_of (drop l.item-index l.items))) ≡ leads (signs (entries_of l.items))
