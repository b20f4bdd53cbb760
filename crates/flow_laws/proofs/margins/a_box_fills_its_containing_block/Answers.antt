use Rattle.flow_laws.proofs.MarginLaws.{fills_containing_block}
use Rattle.flow_laws.proofs.margins.a_box_fills_its_containing_block.Goals as goal

pub returns : goal.returns
returns c = fills_containing_block
