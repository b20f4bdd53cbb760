use Rattle.std.proofs.Common.{Result, Ok, Err, sym, subst, length}
use Rattle.std.specs.Prelude.{IfOk}
use Rattle.std.specs.Str.{chars}
use Rattle.cluster_units.specs.Laws.{AreInOrder}
use Rattle.cluster_units.proofs.Order.{in_order}
use Rattle.cluster_units.proofs.text.units_by.Goals as goal

if_ok : {A E : Type 0} (P Q : A → Type 0) (r : Result A E) → ((x : A) → P x → Q x) → IfOk r P → IfOk r Q
if_ok P Q (Ok x) also is = also x is
if_ok P Q (Err e) also is = tt

pub returns-clause-order : goal.returns-clause-order
returns-clause-order g c =
    let table = (goal.Face-dyn g c.args.face.now).table c.args.face.now.1 in
    let text = chars c.args.text.now in
    let due = in_order c.args.style.now table text c.metrics-metrics.ensures.1 c.requires.low c.requires.high in
    if_ok _ (λ units. AreInOrder 0 (length text) units.items) c.all_units.result (λ units is. subst (AreInOrder 0 (length text)) (sym is) due) c.all_units.ensures
