use Rattle.std.proofs.Common.{◌≡◌, ◌<◌, ◌∙◌, ap, sym, subst, true, arith, List, ℕ, length}
use Rattle.std.specs.Prelude.{IfSome, slice_index_or}
use Rattle.std.proofs.lemmas.List.{get_or-map, length-map}
use Rattle.fragment_types.specs.Item.{Entry}
use Rattle.line_place.specs.Line.{Item, item_of}
use Rattle.para_lines.specs.Standing.{Standing, plain}
use Rattle.para_lines.specs.Around.{has}
use Rattle.para_lines.specs.Boxes.{chain_at, innermost}
use Rattle.para_lines.specs.Line.{IsAble, ItemsOn, items_on, standing_of}
use Rattle.para_lines.specs.Lines as rule
use Rattle.para_lines.proofs.OnLine.{item_on_line}
use Rattle.para_lines.proofs.seated_items.SeatedItemsLineSource.item.Goals as goal

pub at-requires : goal.at-requires
at-requires c =
    let entries : List Entry = c.self.inside.seated.boxes.now in
    let own : Standing → Item = λ s. rule.line_item entries c.self.inside.seated.places.now (standing_of entries s) in
    omega (arith, length-map c.self.inside.standings own, ap (λ (o : ItemsOn). length (items_on o)) c.self.view_is, c.requires)

pub line_item-requires-clause-able : goal.line_item-requires-clause-able
line_item-requires-clause-able c =
    let entries : List Entry = c.self.inside.seated.boxes.now in
    let own : Standing → Item = λ s. rule.line_item entries c.self.inside.seated.places.now (standing_of entries s) in
    let lt : c.args.place < length c.self.inside.standings =
    omega (arith, length-map c.self.inside.standings own, ap (λ (o : ItemsOn). length (items_on o)) c.self.view_is, c.requires) in
    subst (IsAble (length entries)) (sym (c.at.ensures (plain c.at.result))) (c.self.invariant.able c.args.place (plain c.at.result) lt)

pub line_item-requires-clause-inside : goal.line_item-requires-clause-inside
line_item-requires-clause-inside c =
    let entries : List Entry = c.self.inside.seated.boxes.now in
    let own : Standing → Item = λ s. rule.line_item entries c.self.inside.seated.places.now (standing_of entries s) in
    let lt : c.args.place < length c.self.inside.standings =
    omega (arith, length-map c.self.inside.standings own, ap (λ (o : ItemsOn). length (items_on o)) c.self.view_is, c.requires) in
    let P : List ℕ → Type 0 = λ places. IfSome (innermost (chain_at entries (slice_index_or c.self.inside.standings c.args.place (plain c.at.result)).item.source)) (λ box. has places box ≡ true) in
    let R : Standing → Type 0 = λ s. IfSome (innermost (chain_at entries s.item.source)) (λ box. has c.self.inside.seated.places.now box ≡ true) in
    subst R (sym (c.at.ensures (plain c.at.result))) (subst P (sym c.self.invariant.places) (item_on_line entries c.self.inside.standings c.args.place (plain c.at.result) lt))

pub returns : goal.returns
returns c d =
    let entries : List Entry = c.self.inside.seated.boxes.now in
    let own : Standing → Item = λ s. rule.line_item entries c.self.inside.seated.places.now (standing_of entries s) in
    let lt : c.args.place < length c.self.inside.standings =
    omega (arith, length-map c.self.inside.standings own, ap (λ (o : ItemsOn). length (items_on o)) c.self.view_is, c.requires) in
    let P : ItemsOn → Type 0 = λ o. item_of c.line_item.result ≡ slice_index_or (items_on o) c.args.place d in
    subst P c.self.view_is (c.line_item.ensures ∙ ap own (c.at.ensures (plain c.at.result)) ∙ sym (get_or-map own c.self.inside.standings c.args.place (plain c.at.result) d lt))
