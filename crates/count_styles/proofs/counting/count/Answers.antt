use Rattle.std.proofs.Common.{List, length, ap, sym, ◌∙◌}
use Rattle.std.proofs.lemmas.List.{length-map}
use Rattle.html_read.specs.declared.node.ReadNode.{ReadNode}
use Rattle.html_read.specs.Values.{node_of, whole_of}
use Rattle.count_styles.proofs.counting.count.Goals as goal

pub returns : goal.returns
returns c = (
  whole_of c.in_ok-read.read,
  c.in_ok-read.ensures.found,
  ap (λ (nodes : List ReadNode). length nodes) c.deref-nodes.ensures.value ∙ sym (length-map c.in_ok-read.read.nodes.items node_of),
)
