-- Where one item has other letters, the list of the items has.
use Rattle.std.proofs.Common.{◌≢◌, rules, tests}
use Rattle.std.specs.Prelude.{⊤}
use Rattle.std.proofs.lemmas.Iterator.{YieldsList-from_slice, cases_from_any}
use Rattle.fragment_types.specs.declared.item.Item.{Item}
use Rattle.fragment_types.specs.Item.{entry_of}
use Rattle.text_boxes.specs.Boxes.{entry_with}
use Rattle.text_boxes.proofs.Entries.{any_differs}
use Rattle.text_boxes.proofs.items.differs.Goals as goal

pub returns : goal.returns
returns c =
    let Differs : Item → Type 0 = λ item. entry_with c.args.node c.args.text.now (entry_of item) ≢ entry_of item in
    any_differs (entry_with c.args.node c.args.text.now) entry_of c.args.items.now c.any.result
    (cases_from_any _ _ _ Differs (λ item. ⊤) c.any.ensures.ran (YieldsList-from_slice c.args.items.now cc) (λ x q k. search (rules, tests)) (λ x q k. search (rules, tests)))
