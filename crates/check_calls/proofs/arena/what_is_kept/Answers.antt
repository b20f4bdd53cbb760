use Rattle.std.proofs.Common.{◌∙◌, ap}
use Rattle.box_arena.specs.Links.{parent_of}
use Rattle.check_calls.proofs.arena.what_is_kept.Goals as goal

pub keep-requires-3 : goal.keep-requires-3
keep-requires-3 g c = c.mark.ensures.live _ (c.in_ok-keep-2.ensures.ok.live _ (c.in_ok-keep.ensures.ok.live _ c.insert_reserved-key.ensures.inserts.alive))

pub restyle-old-requires : goal.restyle-old-requires
restyle-old-requires g c =
    c.keep_text.ensures.put.live _ (c.in_ok-keep-3.ensures.ok.live _ (c.mark.ensures.live _ (c.in_ok-keep-2.ensures.ok.live _ (c.in_ok-keep.ensures.ok.live _ c.insert_reserved-key.ensures.inserts.alive))))

pub node-requires-3 : goal.node-requires-3
node-requires-3 g c =
    c.restyle-old.ensures.new.live _
    (c.keep_text.ensures.put.live _ (c.in_ok-keep-3.ensures.ok.live _ (c.mark.ensures.live _ (c.in_ok-keep-2.ensures.ok.live _ (c.in_ok-keep.ensures.ok.live _ c.insert_reserved-key.ensures.inserts.alive)))))

pub text-requires-2 : goal.text-requires-2
text-requires-2 g c =
    c.restyle-old.ensures.new.live _
    (c.keep_text.ensures.put.live _ (c.in_ok-keep-3.ensures.ok.live _ (c.mark.ensures.live _ (c.in_ok-keep-2.ensures.ok.live _ (c.in_ok-keep.ensures.ok.live _ c.insert_reserved-key.ensures.inserts.alive)))))

pub release-requires-clause-live : goal.release-requires-clause-live
release-requires-clause-live g c =
    c.restyle-old.ensures.new.live _
    (c.keep_text.ensures.put.live _ (c.in_ok-keep-3.ensures.ok.live _ (c.mark.ensures.live _ (c.in_ok-keep-2.ensures.ok.live _ (c.in_ok-keep.ensures.ok.live _ c.insert_reserved-key.ensures.inserts.alive)))))

pub release-requires-clause-free : goal.release-requires-clause-free
release-requires-clause-free g c =
    ap parent_of (c.restyle-old.ensures.new.links _ ∙ c.keep_text.ensures.put.links _ ∙ c.in_ok-keep-3.ensures.ok.links _ ∙ c.mark.ensures.links _ ∙ c.in_ok-keep-2.ensures.ok.links _ ∙ c.in_ok-keep.ensures.ok.links _)
    ∙ c.insert_reserved-key.ensures.inserts.here.parent

pub kept-requires-3 : goal.kept-requires-3
kept-requires-3 g c = c.mark.ensures.live _ (c.in_ok-keep-2.ensures.ok.live _ (c.in_ok-keep.ensures.ok.live _ c.insert_reserved-key.ensures.inserts.alive))

pub kept-requires-6 : goal.kept-requires-6
kept-requires-6 g c =
    c.restyle-old.ensures.new.live _
    (c.keep_text.ensures.put.live _ (c.in_ok-keep-3.ensures.ok.live _ (c.mark.ensures.live _ (c.in_ok-keep-2.ensures.ok.live _ (c.in_ok-keep.ensures.ok.live _ c.insert_reserved-key.ensures.inserts.alive)))))
