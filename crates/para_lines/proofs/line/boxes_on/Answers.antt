use Rattle.std.proofs.Common.{◌≡◌, ◌∙◌, ◌<◌, ◌+◌, ◌∷◌, ◌++◌, ap, sym, subst, arith, length, drop, append_assoc, List, ℕ}
use Rattle.std.proofs.lemmas.List.{drop_more}
use Rattle.fragment_types.specs.Item.{Entry}
use Rattle.para_lines.specs.Around.{fresh}
use Rattle.para_lines.specs.Boxes.{chain_at, chain_behind}
use Rattle.para_lines.specs.Line.{on_line}
use Rattle.para_lines.specs.Standing.{Standing, plain}
use Rattle.para_lines.proofs.line.boxes_on.Goals as goal

pub add_fresh-requires-clause-source : goal.add_fresh-requires-clause-source
add_fresh-requires-clause-source c =
    let lt : c.loop-k.k < length c.args.standings.now = omega (arith, c.loop-k-test.true, c.count-k-end.ensures) in
    let P : Standing → Type 0 = λ s. s.item.source < length c.args.boxes.now in
    subst P (sym (c.at.ensures (plain c.at.result))) (c.requires c.loop-k.k (plain c.at.result) lt).source

pub loop-k-preserved : goal.loop-k-preserved
loop-k-preserved c =
    let entries : List Entry = c.args.boxes.now in
    let own : Standing = plain c.at.result in
    let before : List ℕ = chain_behind entries c.loop-k.before in
    let rest : List ℕ = on_line entries (chain_at entries own.item.source) (drop (c.loop-k.k + 1) c.args.standings.now) in
    let lt : c.loop-k.k < length c.args.standings.now = omega (arith, c.loop-k-test.true, c.count-k-end.ensures) in
    let e : drop c.loop-k.k c.args.standings.now ≡ own ∷ drop (c.loop-k.k + 1) c.args.standings.now =
    drop_more c.args.standings.now c.loop-k.k own lt ∙ ap (λ (s : Standing). s ∷ drop (c.loop-k.k + 1) c.args.standings.now) (sym (c.at.ensures own)) in
    let P : Standing → Type 0 = λ s. s.item.source < length entries in (
      ap (λ (xs : List ℕ). xs ++ rest) c.in_ok-add_fresh.ensures
          ∙ append_assoc c.loop-k.places.items (fresh (chain_at entries own.item.source) before) rest
          ∙ ap (λ (ss : List Standing). c.loop-k.places.items ++ on_line entries before ss) (sym e)
          ∙ c.loop-k.invariant.0,
      subst P (sym (c.at.ensures own)) (c.requires c.loop-k.k own lt).source,
    )
