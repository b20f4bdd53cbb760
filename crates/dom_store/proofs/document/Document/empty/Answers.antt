use Rattle.std.proofs.Common.{◌∙◌, ap, sym}
use Rattle.std.specs.Ordering.{nat_cmp}
use Rattle.std.specs.BTreeMap as keyed
use Rattle.std.specs.BTreeMap.{is_at}
use Rattle.std.specs.Map.{lookup}
use Rattle.dom_store.proofs.CountLaws.{count_empty, keyed_empty}
use Rattle.dom_store.proofs.document.Document.empty.Goals as goal

pub invariant_of-result-clause-sound : goal.invariant_of-result-clause-sound
invariant_of-result-clause-sound c = keyed_empty _ _ (λ n. ap (lookup (is_at (nat_cmp n))) c.new-2.ensures.empty)

pub invariant_of-result-clause-counted : goal.invariant_of-result-clause-counted
invariant_of-result-clause-counted c = c.new-2.ensures.len ∙ sym (count_empty (keyed.get nat_cmp c.new-2.result))
