use Rattle.std.proofs.Common.{◌≡◌, ◌++◌, drop}
use Rattle.cascade.specs.Claims.{stated}
use Rattle.cascade.specs.Sheet.{origin_in}
use Rattle.cascade.proofs.claims.put_stated.Given as goal

abbrev pub invariant-loop-declaration : goal.invariant-loop-declaration
invariant-loop-declaration l =
    (l.place ≡ l.declaration-index)
    × (l.all.items ++ stated (origin_in l.standing.sheet) l.standing.own l.standing.specificity l.standing.rule l.place (drop l.declaration-index l.declarations)
    ≡ l.initial.all.items ++ stated (origin_in l.standing.sheet) l.standing.own l.standing.specificity l.standing.rule 0 l.declarations)
