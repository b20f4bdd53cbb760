use Rattle.std.proofs.Common.{◌∙◌, ap, refl, reverse, true, List}
use Rattle.box_gen.specs.declared.opened.Opened.{Opened}
use Rattle.box_gen.specs.Tree.{none}
use Rattle.box_gen.specs.Boxes.{closed, opened_again}
use Rattle.box_gen.specs.Building.{filling_of, run_of, and_then, run_with}
use Rattle.box_gen.proofs.Puts.{block_put}
use Rattle.box_gen.proofs.filling.Filling.put_block.Goals as goal

pub returns : goal.returns
returns c =
    let was = c.args.self.now in
    let between = c.end_run.new.self in
    block_put (filling_of was) (filling_of between) (run_of c.put_closed.new.self) _ between.boxes.items c.push.new.self.items c.args.block
    (c.in_ok-put_closed.ensures ∙ ap (λ (opened : List Opened). and_then (run_of was.run) (run_with (closed (reverse opened)) none true)) c.deref.ensures.value)
    c.in_ok-end_run.ensures refl c.in_ok-push.ensures.items
    (c.in_ok-put_opened_again.ensures ∙ ap (λ (opened : List Opened). and_then (run_of between.run) (run_with (opened_again (reverse opened)) none true)) c.deref-2.ensures.value)
