use Rattle.std.proofs.Common.{◌≡◌, drop}
use Rattle.style_modes.specs.Tying.{first_of, lesser, places_of}
use Rattle.style_modes.proofs.tying.first_in.Given as goal

-- with those that are left it is the first of all
abbrev pub invariant-loop-declaration : goal.invariant-loop-declaration
invariant-loop-declaration l = lesser l.first (first_of (places_of (drop l.declaration-index l.declarations))) ≡ first_of (places_of l.declarations)
