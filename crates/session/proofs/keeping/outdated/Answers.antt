use Rattle.std.proofs.Common.{subst, Option, IfSome}
use Rattle.session.specs.State.{AreKept}
use Rattle.session.specs.declared.keeping.KeptBoxes.{KeptBoxes}
use Rattle.session.proofs.Former.{former_of}
use Rattle.session.proofs.keeping.outdated.Goals as goal

pub returns-in-Some-Current-clause-kept : goal.returns-in-Some-Current-clause-kept
returns-in-Some-Current-clause-kept c = λ faces view nodes edited kept.
    let P : Option KeptBoxes → Type 0 = λ o. IfSome o (AreKept faces view nodes) in
    let Q : KeptBoxes → Type 0 = λ boxes. AreKept faces view nodes boxes in
    former_of faces view nodes c.in-Some-Current.made (subst Q c.in-Some-Current.field-0-is (subst P c.in-Some-Current.is kept))
