-- Any of the items is a text of the node where any of their entries is.
use Rattle.std.proofs.Common.{◌∙◌, List, ap, rules, sym, tests}
use Rattle.std.specs.List.{list_any}
use Rattle.std.proofs.lemmas.Iterator.{YieldsList-from_slice}
use Rattle.std.proofs.lemmas.Iterator.Search.{any_from_yields_List}
use Rattle.fragment_types.specs.declared.item.Item.{Item}
use Rattle.fragment_types.specs.Item.{entries_of, entry_of}
use Rattle.box_gen.specs.Tree.{content_of}
use Rattle.text_boxes.specs.Boxes.{has_text, is_text_of}
use Rattle.text_boxes.proofs.Entries.{some_are}
use Rattle.text_boxes.proofs.finding.has_text.Goals as goal

pub returns-in-Inline : goal.returns-in-Inline
returns-in-Inline c =
    any_from_yields_List (λ item. is_text_of c.args.node (entry_of item)) _ _ _ c.any.ensures.ran (YieldsList-from_slice c.deref.result.now cc) (λ x b q k. search (rules, tests))
    ∙ some_are (is_text_of c.args.node) entry_of c.deref.result.now
    ∙ ap (λ (items : List Item). list_any (is_text_of c.args.node) (entries_of items)) c.deref.ensures.value
    ∙ ap (λ content. has_text c.args.node (content_of content)) (sym c.in-Inline.is)
