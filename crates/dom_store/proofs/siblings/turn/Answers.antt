use Rattle.std.proofs.Common.{rules, ◌≡◌, ◌∙◌, ◌+◌, ◌-◌, ◌<◌, ℕ, length, length-drop, drop, ap, arith}
use Rattle.std.proofs.lemmas.List.{length-take-le}
use Rattle.dom_store.specs.Taking.{turned}
use Rattle.dom_store.proofs.TurnLaws.{turned_at_most, turned_down, turned_up, turned_whole}
use Rattle.dom_store.proofs.siblings.turn.Goals as goal

pub returns-then-from-to : goal.returns-then-from-to
returns-then-from-to c =
    let numbers = c.args.children.now.items in
    let lent = c.deref_mut.result.now in
    let from = c.args.from in
    let to = c.min-to.result in
    let same : lent ≡ numbers = c.deref_mut.ensures.value in
    let many : c.len-count.result ≡ length numbers = search rules in
    let within : from < length numbers = omega (arith, c.if-from-count.true, many) in
    let up = c.if-from-to.true in
    let fits : from + (to - from) < length lent = omega (arith, up, c.min-to.ensures, many, within, ap length same) in
    let there : from + (to - from) ≡ to = omega (arith, up) in
    let turns = turned_up lent c.rotate_left.new.self from (to - from) (to + 1 - from) fits (omega (arith, up)) c.rotate_left.ensures.after ∙ ap (λ (n : ℕ). turned from n lent) there in
    turned_whole numbers lent _ c.args.children.now.len from to same (search rules) within turns
    ∙ turned_at_most numbers from c.args.to to within (omega (arith, c.min-to.ensures, many))

pub returns-else-from-to : goal.returns-else-from-to
returns-else-from-to c =
    let numbers = c.args.children.now.items in
    let lent = c.deref_mut-else-from-to.result.now in
    let from = c.args.from in
    let to = c.min-to.result in
    let same : lent ≡ numbers = c.deref_mut-else-from-to.ensures.value in
    let many : c.len-count.result ≡ length numbers = search rules in
    let within : from < length numbers = omega (arith, c.if-from-count.true, many) in
    let down = c.if-from-to.false in
    let fits : to + (from - to) < length lent = omega (arith, down, within, ap length same) in
    let there : to + (from - to) ≡ from = omega (arith, down) in
    let part = length-take-le (from + 1 - to) (drop to lent) (omega (arith, length-drop to lent, fits)) in
    let turns = turned_down lent c.rotate_right.new.self to (from - to) (from + 1 - to) fits (omega (arith, down)) _ (omega (arith, part)) c.rotate_right.ensures.after ∙ ap (λ (n : ℕ). turned n to lent) there in
    turned_whole numbers lent _ c.args.children.now.len from to same (search rules) within turns
    ∙ turned_at_most numbers from c.args.to to within (omega (arith, c.min-to.ensures, many))
