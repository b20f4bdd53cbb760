use Rattle.std.proofs.Common.{◌≤◌, ap, sym, subst, List, map, unsigned_abs}
use Rattle.std.specs.List.{All}
use Rattle.line_place.specs.declared.line.LineBox.{LineBox}
use Rattle.line_place.specs.Line.{Item, item_of}
use Rattle.line_place.specs.Reach.{IsInLimit}
use Rattle.line_place.proofs.line_box.place_line.Goals as goal

pub returns-clause-within : goal.returns-clause-within
returns-clause-within c limit has =
    let P : List LineBox → Type 0 = λ boxes. All (λ (b : LineBox). (unsigned_abs b.extents.over ≤ limit) × (unsigned_abs b.extents.under ≤ limit)) boxes in
    let Q : List Item → Type 0 = λ items. All (λ (item : Item). IsInLimit limit item.what) items in
    c.in_ok-made.ensures.within limit (record {
      strut_over = has.strut_over;
      strut_under = has.strut_under;
      boxes = subst P (sym c.deref.ensures.value) has.boxes;
      items = subst Q (sym (ap (map item_of) c.deref-2.ensures.value)) has.items;
    })
