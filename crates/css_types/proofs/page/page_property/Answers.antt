use Rattle.css_types.proofs.PageRows.{stands_for}
use Rattle.css_types.proofs.page.page_property.Goals as goal

pub returns-clause-stands : goal.returns-clause-stands
returns-clause-stands c =
    let row = c.row.result in
    (row, c.row.ensures.only, rw c.about.ensures (rw c.on_page.ensures (stands_for c.args.mode c.args.dir row.reach c.args.property)))
