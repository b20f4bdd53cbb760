use Rattle.std.proofs.Common.{rules, ◌<◌, refl, sym, subst, arith, length, List}
use Rattle.fragment_types.specs.Item.{Entry}
use Rattle.para_lines.specs.Standing.{Standing, plain}
use Rattle.para_lines.proofs.TextLines.{units_found}
use Rattle.para_lines.proofs.text.text_in.Goals as goal

pub stands_outside-requires : goal.stands_outside-requires
stands_outside-requires c =
    let lt : 0 < length c.args.standings.now = omega (arith, c.without_spaces-count.ensures.within, c.if-count-eq0.false) in
    let P : Standing → Type 0 = λ s. s.item.source < length c.args.boxes.now in
    subst P (sym (c.at-first.ensures (plain c.at-first.result))) (c.requires 0 (plain c.at-first.result) lt).source

pub returns-then-are_of : goal.returns-then-are_of
returns-then-are_of c =
    let entries : List Entry = c.args.boxes.now in
    let some : 0 < c.without_spaces-count.result = search rules in
    let found = units_found entries c.at-first.result.item.now.source c.in_ok-name.name c.args.standings.now (c.if-stands_outside.ensures refl) (c.if-are_of.ensures refl) in
    record {
      chains = found.0;
      items = found.1;
      some = some;
      solid = c.without_spaces-count.ensures;
    }
