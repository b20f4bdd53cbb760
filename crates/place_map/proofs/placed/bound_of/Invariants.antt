use Rattle.std.proofs.Common.{drop}
use Rattle.place_map.specs.Bound.{IsNoWider}
use Rattle.place_map.proofs.Bounds.{AreInWith}
use Rattle.place_map.proofs.placed.bound_of.Given as goal

-- the bound is that of the fragments so far
abbrev pub invariant-loop-part : goal.invariant-loop-part
invariant-loop-part l = record { own : IsNoWider l.fn.own l.bound; parts : AreInWith l.bound (drop l.part-index l.parts) l.parts }
