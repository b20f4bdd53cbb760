use Rattle.std.proofs.Common.{List, ◌++◌, map, option_map, ◌∙◌, ap, sym}
use Rattle.std.specs.String.{string_bytes}
use Rattle.dom_store.specs.declared.node.NodeKind.{NodeKind}
use Rattle.dom_store.specs.State.{what_of}
use Rattle.cascade.specs.Filing.{of_upper_id, of_upper_class, headings_of_id, upper_headings_of, claims_under}
use Rattle.cascade.specs.Line.{whats_of}
use Rattle.cascade.specs.Sheet.{origin_in}
use Rattle.cascade.proofs.Filing.{under_nothing, under_parts}
use Rattle.cascade.proofs.Shelving.{Letters}
use Rattle.cascade.proofs.filed.Filed.put_of_upper.Goals as goal

pub returns-in_ok-put_of_upper_classes-in-Element : goal.returns-in_ok-put_of_upper_classes-in-Element
returns-in_ok-put_of_upper_classes-in-Element c =
    let origin = origin_in c.args.sheet in
    let rules = c.args.self.now.rules.items in
    let shelves = c.args.self.now.shelves in
    let line = whats_of c.args.line.nodes.now in
    let all = c.args.all.now.items in
    let by_class = c.in_ok-put_of_upper_classes-in-Element.ensures
    ∙ ap (λ (classes : List Letters). c.put_of_upper_id.new.all.items ++ claims_under origin rules shelves (map of_upper_class (map (λ n. string_bytes n) classes)) line) c.deref.ensures.value in
    under_parts all c.put_of_upper_id.new.all.items c.put_of_upper_classes.new.all.items origin rules shelves (headings_of_id of_upper_id (option_map (λ n. string_bytes n) c.in-Element.id))
    (map of_upper_class (map (λ n. string_bytes n) c.in-Element.classes.items)) line c.in_ok-put_of_upper_id-in-Element.ensures by_class
    ∙ ap (λ (kind : NodeKind). all ++ claims_under origin rules shelves (upper_headings_of (what_of kind)) line) (sym c.in-Element.is)

pub returns-in-Text : goal.returns-in-Text
returns-in-Text c =
    under_nothing c.args.all.now.items (origin_in c.args.sheet) c.args.self.now.rules.items c.args.self.now.shelves (whats_of c.args.line.nodes.now)
    ∙ ap (λ (kind : NodeKind). c.args.all.now.items ++ claims_under (origin_in c.args.sheet) c.args.self.now.rules.items c.args.self.now.shelves (upper_headings_of (what_of kind)) (whats_of c.args.line.nodes.now)) (sym c.in-Text.is)
