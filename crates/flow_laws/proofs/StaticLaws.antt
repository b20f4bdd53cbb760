-- Documents that differ in positions and insets alone have one flow.
use Rattle.std.proofs.Common.{◌∙◌, sym, ap}
use Rattle.box_gen.specs.Boxes.{root_boxes}
use Rattle.relayout.specs.Flow.{layout}
use Rattle.flow_laws.specs.Static.{FlowsAreOfStaticNodes}
use Rattle.flow_laws.proofs.StaticBoxes.{static_nodes_make_static_boxes}
use Rattle.flow_laws.proofs.StaticFlow.{layouts_are_of_static_boxes}

pub flows_are_of_static_nodes : FlowsAreOfStaticNodes
flows_are_of_static_nodes faces inline_size block_size one other same =
    sym (layouts_are_of_static_boxes faces inline_size block_size (root_boxes one))
    ∙ ap (layout faces inline_size block_size) (sym (static_nodes_make_static_boxes one) ∙ ap root_boxes same ∙ static_nodes_make_static_boxes other)
    ∙ layouts_are_of_static_boxes faces inline_size block_size (root_boxes other)
