use Rattle.std.proofs.Common.{rules, ◌≡◌, ℕ, ◌*◌, length, ap, ◌∙◌}
use Rattle.std.specs.Prelude.{min}
use Rattle.std.specs.Vec.Iter.{into_iter_items, into_iter_len}
use Rattle.css_types.specs.Rule.{rulings_of}
use Rattle.css_sheet.specs.Views.{sheet_of}
use Rattle.css_sheet.proofs.Sheeting.{ruling_ends}
use Rattle.css_sheet.proofs.sheet.put_rules.Goals as goal

-- src/sheet.rt:111:1
pub returns : goal.returns
returns c =
    let many : c.len.result ≡ length c.args.selectors.items = search rules in
    let declared : c.len-2.result ≡ length c.args.declared.items = search rules in
    ruling_ends (sheet_of c.args.sheet.now) (rulings_of c.loop-selector.sheet.rules.items) c.loop-selector.sheet.declared c.saturating_add-sheet.result c.saturating_mul-count.result c.args.selectors.items
    (into_iter_items c.loop-selector.selector-iterator) (into_iter_len c.loop-selector.selector-iterator) c.len.result c.args.declared.items c.loop-selector.invariant c.in-None.ensures.steps.0
    many (c.saturating_mul-count.ensures ∙ ap (λ (n : ℕ). min (c.len.result * n) 18446744073709551615) declared) c.saturating_add-sheet.ensures
