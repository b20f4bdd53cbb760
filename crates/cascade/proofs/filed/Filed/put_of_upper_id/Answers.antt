use Rattle.cascade.specs.Filing.{of_upper_id}
use Rattle.cascade.specs.Line.{whats_of}
use Rattle.cascade.specs.Sheet.{origin_in}
use Rattle.cascade.proofs.Filing.{under_id, under_no_id}
use Rattle.cascade.proofs.filed.Filed.put_of_upper_id.Goals as goal

pub returns-in_ok-put_at : goal.returns-in_ok-put_at
returns-in_ok-put_at c =
    under_id c.args.all.now.items c.put_at.new.all.items (origin_in c.args.sheet) c.args.self.now.rules.items c.args.self.now.shelves of_upper_id c.args.id.now c.in-Some.id c.deref.result.now c.under.result.now (whats_of c.args.line.nodes.now)
    c.in-Some.is c.deref.ensures c.under.ensures c.in_ok-put_at.ensures

pub returns-in_default : goal.returns-in_default
returns-in_default c = under_no_id c.args.all.now.items (origin_in c.args.sheet) c.args.self.now.rules.items c.args.self.now.shelves of_upper_id c.args.id.now (whats_of c.args.line.nodes.now) c.in_default.is
