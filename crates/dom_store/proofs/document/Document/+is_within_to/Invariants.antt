use Rattle.dom_store.proofs.document.Document.+is_within_to.Given as goal

abbrev pub decreases-is_within_to : goal.decreases-is_within_to
decreases-is_within_to l = l.most
