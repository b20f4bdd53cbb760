use Rattle.std.proofs.Common.{rules, ◌<◌, length}
use Rattle.para_lines.proofs.OnLine.{on_line_there}
use Rattle.para_lines.proofs.seated.Seated.line_boxes.Goals as goal

pub invariant_of-own : goal.invariant_of-own
invariant_of-own g c =
    let lt : c.loop-k.k < length c.args.self.now.places.now = search rules in
    record { on_line = on_line_there c.args.self.now.boxes.now c.args.self.now.places.now c.loop-k.k 0 c.args.self.now.is_seated.on_line lt }
