use Rattle.std.proofs.Common.{refl}
use Rattle.relayout.proofs.RowLaws.{lives_there}
use Rattle.relayout.proofs.flow_box.FlowBox.at.Goals as goal

pub node-requires : goal.node-requires
node-requires c = lives_there c.args.arena.now c.args.own.now.key c.requires.node c.requires.is

pub text-requires : goal.text-requires
text-requires c = lives_there c.args.arena.now c.args.own.now.key c.requires.node c.requires.is

pub returns : goal.returns
returns c = record {
  node = c.node.ensures.node;
  text = c.text.ensures;
  containing = refl;
  sizes = refl;
  linked = c.node.ensures.linked;
}
