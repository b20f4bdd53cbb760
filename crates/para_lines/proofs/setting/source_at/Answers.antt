use Rattle.std.proofs.Common.{◌∙◌, ◌<◌, ap, sym, subst, arith, length}
use Rattle.para_lines.specs.Boxes.{chain_at}
use Rattle.para_lines.specs.Standing.{Standing, plain}
use Rattle.para_lines.proofs.SettingLaws.{first_chain}
use Rattle.para_lines.proofs.setting.source_at.Goals as goal

pub returns-then-place-count-clause-chain : goal.returns-then-place-count-clause-chain
returns-then-place-count-clause-chain c entries =
    let lt : c.args.place < length c.args.standings.now = omega (arith, c.count.ensures, c.if-place-count.true) in
    ap (λ (s : Standing). chain_at entries s.item.source) (c.at.ensures (plain c.at.result)) ∙ first_chain entries c.args.standings.now c.args.place (plain c.at.result) lt

pub returns-then-place-count-clause-there : goal.returns-then-place-count-clause-there
returns-then-place-count-clause-there c count able =
    let lt : c.args.place < length c.args.standings.now = omega (arith, c.count.ensures, c.if-place-count.true) in
    let P : Standing → Type 0 = λ s. s.item.source < count in
    subst P (sym (c.at.ensures (plain c.at.result))) (able c.args.place (plain c.at.result) lt).source
