-- Each child of a node of a whole document has it as its parent.
use Rattle.std.proofs.Common.{arith}
use Rattle.dom_store.specs.Standing.{children_at, parent_at}
use Rattle.tree_laws.specs.Laws.{ChildrenHaveParents}
use Rattle.tree_laws.proofs.Times.{the_one, times_there}

pub children_have_parents : ChildrenHaveParents
children_have_parents state whole number child there =
    let inside = whole.inside number child in
    let once = times_there child (children_at state number) there in
    the_one number (parent_at state child) (omega (arith, inside, once))
