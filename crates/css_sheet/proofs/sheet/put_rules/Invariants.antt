use Rattle.std.specs.Vec.Iter.{into_iter_items, into_iter_len}
use Rattle.css_sheet.specs.Views.{sheet_of}
use Rattle.css_sheet.proofs.Sheeting.{IsRuling}
use Rattle.css_sheet.proofs.sheet.put_rules.Given as goal

abbrev pub invariant-loop-selector : goal.invariant-loop-selector
invariant-loop-selector l = IsRuling (sheet_of l.fn.sheet) (sheet_of l.sheet) l.fn.selectors.items (into_iter_items l.selector-iterator) (into_iter_len l.selector-iterator) l.fn.declared.items
