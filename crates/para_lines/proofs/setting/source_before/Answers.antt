use Rattle.std.proofs.Common.{◌≡◌, ◌∙◌, ◌<◌, ◌-◌, suc, [], ap, sym, subst, arith, length, map, take}
use Rattle.para_lines.specs.Boxes.{chain_at}
use Rattle.para_lines.specs.Line.{standing_of}
use Rattle.para_lines.specs.Lines.{chain_of_last}
use Rattle.para_lines.specs.Standing.{Standing, plain}
use Rattle.para_lines.proofs.SettingLaws.{last_chain}
use Rattle.para_lines.proofs.setting.source_before.Goals as goal

pub returns-else-place-eq0-clause-chain : goal.returns-else-place-eq0-clause-chain
returns-else-place-eq0-clause-chain c entries =
    let lt : c.args.place - 1 < length c.args.standings.now = omega (arith, c.requires, c.if-place-eq0.false) in
    let up : suc (c.args.place - 1) ≡ c.args.place = omega (arith, c.if-place-eq0.false) in
    ap (λ (s : Standing). chain_at entries s.item.source) (c.at.ensures (plain c.at.result))
    ∙ last_chain entries c.args.standings.now [] (c.args.place - 1) (plain c.at.result) lt
    ∙ ap (λ n. chain_of_last [] (take n (map (standing_of entries) c.args.standings.now))) up

pub returns-else-place-eq0-clause-there : goal.returns-else-place-eq0-clause-there
returns-else-place-eq0-clause-there c count able =
    let lt : c.args.place - 1 < length c.args.standings.now = omega (arith, c.requires, c.if-place-eq0.false) in
    let P : Standing → Type 0 = λ s. s.item.source < count in
    subst P (sym (c.at.ensures (plain c.at.result))) (able (c.args.place - 1) (plain c.at.result) lt).source
