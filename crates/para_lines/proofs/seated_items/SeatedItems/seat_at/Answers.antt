use Rattle.std.proofs.Common.{◌≡◌, ◌<◌, ◌∙◌, ap, sym, subst, true, arith, List, ℕ, length}
use Rattle.std.specs.Prelude.{IfSome, option_map, slice_index_or}
use Rattle.fragment_types.specs.Item.{Entry}
use Rattle.para_lines.specs.declared.boxes.Round.{Round}
use Rattle.para_lines.specs.Standing.{Standing, plain}
use Rattle.para_lines.specs.Around.{has}
use Rattle.para_lines.specs.Boxes.{chain_at, innermost}
use Rattle.para_lines.specs.Line.{ItemsOn, seat_in}
use Rattle.para_lines.specs.Lines as rule
use Rattle.para_lines.proofs.LineLaws.{innermost_is}
use Rattle.para_lines.proofs.OnLine.{item_on_line}
use Rattle.para_lines.proofs.seated_items.SeatedItems.seat_at.Goals as goal

pub round-round-requires : goal.round-round-requires
round-round-requires c =
    let own : Standing = plain c.standing-own.result in
    let lt : c.args.place < length c.self.inside.standings = omega (arith, ap (λ (o : ItemsOn). length o.standings) c.self.view_is, c.requires) in
    let At : ItemsOn → Type 0 = λ o. own ≡ slice_index_or o.standings c.args.place own in
    let read : own ≡ slice_index_or c.self.inside.standings c.args.place own = subst At (sym c.self.view_is) (c.standing-own.ensures own) in
    let P : Standing → Type 0 = λ s. s.item.source < length c.self.inside.seated.boxes.now in
    subst P (sym read) (c.self.invariant.able c.args.place own lt).source

pub seat_of-requires : goal.seat_of-requires
seat_of-requires c =
    let entries : List Entry = c.self.inside.seated.boxes.now in
    let places : List ℕ = c.self.inside.seated.places.now in
    let own : Standing = plain c.standing-own.result in
    let lt : c.args.place < length c.self.inside.standings = omega (arith, ap (λ (o : ItemsOn). length o.standings) c.self.view_is, c.requires) in
    let At : ItemsOn → Type 0 = λ o. own ≡ slice_index_or o.standings c.args.place own in
    let read : own ≡ slice_index_or c.self.inside.standings c.args.place own = subst At (sym c.self.view_is) (c.standing-own.ensures own) in
    let P : Round → Type 0 = λ round. IfSome round.inside (λ box. has places box ≡ true) in
    let Q : List ℕ → Type 0 = λ boxes. IfSome (innermost (chain_at entries (slice_index_or c.self.inside.standings c.args.place own).item.source)) (λ box. has boxes box ≡ true) in
    let R : Standing → Type 0 = λ s. IfSome (innermost (chain_at entries s.item.source)) (λ box. has places box ≡ true) in
    subst P (sym c.round-round.ensures.is) (subst R (sym read) (subst Q (sym c.self.invariant.places) (item_on_line entries c.self.inside.standings c.args.place own lt)))

pub returns : goal.returns
returns c d =
    let entries : List Entry = c.self.inside.seated.boxes.now in
    let places : List ℕ = c.self.inside.seated.places.now in
    let own : Standing = plain c.standing-own.result in
    let At : ItemsOn → Type 0 = λ o. own ≡ slice_index_or o.standings c.args.place d in
    let read : own ≡ slice_index_or c.self.inside.standings c.args.place d = subst At (sym c.self.view_is) (c.standing-own.ensures d) in
    let P : ItemsOn → Type 0 = λ o. c.seat_of.result ≡ seat_in o (slice_index_or o.standings c.args.place d) in
    subst P c.self.view_is
    (c.seat_of.ensures ∙ ap (λ (r : Round). option_map (rule.place_in places) r.inside) c.round-round.ensures.is ∙ sym (innermost_is places (chain_at entries own.item.source))
    ∙ ap (λ (s : Standing). rule.innermost_in places (chain_at entries s.item.source)) read)
