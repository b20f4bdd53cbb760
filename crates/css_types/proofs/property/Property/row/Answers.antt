use Rattle.css_types.proofs.Listed.{is_row}
use Rattle.css_types.proofs.property.Property.row.Goals as goal

pub returns-clause-only : goal.returns-clause-only
returns-clause-only c = is_row _ _ _ c.place.ensures.place c.row_at.ensures
