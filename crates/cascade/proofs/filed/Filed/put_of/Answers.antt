use Rattle.std.proofs.Common.{ℕ, List, ◌++◌, map, option_map, ◌∙◌, ap, sym}
use Rattle.std.specs.String.{string_bytes}
use Rattle.html_tokens.specs.Tag.{name_of}
use Rattle.dom_store.specs.declared.node.NodeKind.{NodeKind}
use Rattle.dom_store.specs.State.{what_of}
use Rattle.cascade.specs.Filing.{of_type, of_id, of_class, headings_of, headings_of_id, claims_at, claims_under}
use Rattle.cascade.specs.Line.{whats_of}
use Rattle.cascade.specs.Places.{places_under}
use Rattle.cascade.specs.Sheet.{origin_in}
use Rattle.cascade.proofs.Filing.{under_nothing, under_then, under_parts}
use Rattle.cascade.proofs.Shelving.{Letters}
use Rattle.cascade.proofs.filed.Filed.put_of.Goals as goal

pub returns-in_ok-put_of_classes-in-Element : goal.returns-in_ok-put_of_classes-in-Element
returns-in_ok-put_of_classes-in-Element c =
    let origin = origin_in c.args.sheet in
    let rules = c.args.self.now.rules.items in
    let shelves = c.args.self.now.shelves in
    let line = whats_of c.args.line.nodes.now in
    let all = c.args.all.now.items in
    let by_type = c.in_ok-put_at-in-Element.ensures ∙ ap (λ (places : List ℕ). all ++ claims_at origin rules places line) (c.under.ensures ∙ ap (places_under shelves.by_type) c.name.ensures.name) in
    let by_class = c.in_ok-put_of_classes-in-Element.ensures
    ∙ ap (λ (classes : List Letters). c.put_of_id.new.all.items ++ claims_under origin rules shelves (map of_class (map (λ n. string_bytes n) classes)) line) c.deref.ensures.value in
    let by_others = under_parts c.put_at.new.all.items c.put_of_id.new.all.items c.put_of_classes.new.all.items origin rules shelves (headings_of_id of_id (option_map (λ n. string_bytes n) c.in-Element.id))
    (map of_class (map (λ n. string_bytes n) c.in-Element.classes.items)) line c.in_ok-put_of_id-in-Element.ensures by_class in
    under_then all c.put_at.new.all.items c.put_of_classes.new.all.items origin rules shelves (of_type (name_of c.in-Element.tag))
    (headings_of_id of_id (option_map (λ n. string_bytes n) c.in-Element.id) ++ map of_class (map (λ n. string_bytes n) c.in-Element.classes.items)) line by_type by_others
    ∙ ap (λ (kind : NodeKind). all ++ claims_under origin rules shelves (headings_of (what_of kind)) line) (sym c.in-Element.is)

pub returns-in-Text : goal.returns-in-Text
returns-in-Text c =
    under_nothing c.args.all.now.items (origin_in c.args.sheet) c.args.self.now.rules.items c.args.self.now.shelves (whats_of c.args.line.nodes.now)
    ∙ ap (λ (kind : NodeKind). c.args.all.now.items ++ claims_under (origin_in c.args.sheet) c.args.self.now.rules.items c.args.self.now.shelves (headings_of (what_of kind)) (whats_of c.args.line.nodes.now)) (sym c.in-Text.is)
