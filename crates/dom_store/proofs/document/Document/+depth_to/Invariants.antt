use Rattle.dom_store.proofs.document.Document.+depth_to.Given as goal

abbrev pub decreases-depth_to : goal.decreases-depth_to
decreases-depth_to l = l.most
