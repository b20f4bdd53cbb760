use Rattle.std.proofs.Common.{ℕ, ◌-◌, List, [], ◌++◌, length, take, drop, ◌∙◌, ap, sym}
use Rattle.dom_store.specs.State.{What, what_of}
use Rattle.cascade.specs.Filing.{of_any, headings, headings_of, upper_headings, claims_at, claims_under}
use Rattle.cascade.specs.Line.{whats_of}
use Rattle.cascade.specs.Sheet.{origin_in}
use Rattle.cascade.proofs.Chaining.{begins_with, none_there}
use Rattle.cascade.proofs.Filing.{under_nothing, under_then, under_parts}
use Rattle.cascade.proofs.filed.Filed.put_claims.Goals as goal

pub returns-in_default : goal.returns-in_default
returns-in_default c =
    let origin = origin_in c.args.sheet in
    let rules = c.args.self.now.rules.items in
    let shelves = c.args.self.now.shelves in
    let line = whats_of c.args.line.nodes.now in
    let all = c.args.all.now.items in
    let first = c.in_ok-put_at.ensures ∙ ap (λ (places : List ℕ). all ++ claims_at origin rules places line) c.deref.ensures.value in
    under_then all c.put_at.new.all.items c.put_at.new.all.items origin rules shelves of_any [] line first (under_nothing c.put_at.new.all.items origin rules shelves line)
    ∙ ap (λ (of : List What). all ++ claims_under origin rules shelves (headings of) line) (ap whats_of (sym (none_there c.args.line.nodes.now c.in_default.len_below)))

pub returns-in_ok-put_of_above : goal.returns-in_ok-put_of_above
returns-in_ok-put_of_above c =
    let origin = origin_in c.args.sheet in
    let rules = c.args.self.now.rules.items in
    let shelves = c.args.self.now.shelves in
    let line = whats_of c.args.line.nodes.now in
    let all = c.args.all.now.items in
    let what = what_of c.node-item.result.now.kind in
    let above = whats_of (take (length c.args.line.nodes.now - 1) (drop 1 c.args.line.nodes.now)) in
    let first = c.in_ok-put_at.ensures ∙ ap (λ (places : List ℕ). all ++ claims_at origin rules places line) c.deref.ensures.value in
    let others = under_parts c.put_at.new.all.items c.put_of.new.all.items c.put_of_above.new.all.items origin rules shelves (headings_of what) (upper_headings above) line c.in_ok-put_of.ensures c.in_ok-put_of_above.ensures in
    under_then all c.put_at.new.all.items c.put_of_above.new.all.items origin rules shelves of_any (headings_of what ++ upper_headings above) line first others
    ∙ ap (λ (of : List What). all ++ claims_under origin rules shelves (headings of) line) (sym (begins_with c.args.line.nodes.now c.node-item.result c.in-len1-up.len_at_least c.node-item.is))
