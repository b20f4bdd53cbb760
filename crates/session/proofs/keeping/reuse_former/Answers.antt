use Rattle.session.proofs.Former.{keeps_reused, reused_ready}
use Rattle.session.proofs.keeping.reuse_former.Goals as goal

pub returns : goal.returns
returns c = record {
  ready = λ faces view nodes kept ready.
      reused_ready faces view nodes c.args.former c.args.made.now _ _ c.node.ensures.node c.node-2.ensures.node ready c.reuse.new.giver c.reuse.new.taker
      (c.have_one_mode.ensures.0 c.if-not-have_one_mode.false) c.reuse.ensures.reuses c.in_ok-reuse.ensures.all kept c.arenas_are_sound-2.ensures c.requires.bare c.what_is_reused_is_found.ensures.reused
      c.what_is_reused_is_right.ensures c.arenas_are_sound.ensures;
  keeps = λ faces view nodes kept ready.
      keeps_reused faces view nodes c.args.former c.args.made.now _ _ c.node.ensures.node c.node-2.ensures.node ready c.reuse.new.giver c.reuse.new.taker
      (c.have_one_mode.ensures.0 c.if-not-have_one_mode.false) c.reuse.ensures.reuses c.in_ok-reuse.ensures.all kept c.arenas_are_sound-2.ensures c.requires.bare c.what_is_reused_is_found.ensures.reused;
}
