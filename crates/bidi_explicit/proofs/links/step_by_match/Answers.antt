use Rattle.std.proofs.Common.{arith, suc, ◌≡◌, ◌∙◌, sym, ap, ◌+◌, get_or, length, false, List}
use Rattle.std.proofs.lemmas.List.{get_or_read, take_at}
use Rattle.wm_chars.specs.declared.classes.BidiClass.TheVariants.{L}
use Rattle.bidi_explicit.specs.declared.links.Link.{Link}
use Rattle.bidi_explicit.specs.Isolates.{kind_of}
use Rattle.bidi_explicit.specs.Links.{linked, skipped}
use Rattle.bidi_explicit.proofs.Walking.{nearest_within, within_other, removed_by, kept_by, follower_by}
use Rattle.bidi_explicit.specs.Stack.{stacked}
use Rattle.bidi_explicit.proofs.links.step_by_match.Goals as goal

pub followed-followed-requires-clause-next : goal.followed-followed-requires-clause-next
followed-followed-requires-clause-next c =
    let levels = c.args.levels.now in
    let links = c.args.links.now in
    let same : length levels.level.items ≡ length levels.original.items = c.requires.aligned.level in
    within_other (c.args.i + 1) (length levels.original.items) _ links.next (omega arith)
    (nearest_within levels c.requires.aligned c.args.i c.requires.inside links.links.items (stacked links.pending) links.next c.requires.linked)

pub begin_at-requires-clause-followed : goal.begin_at-requires-clause-followed
begin_at-requires-clause-followed c =
    let levels = c.args.levels.now in
    let links = c.args.links.now in
    let kind-is : c.kind_of-kind.result ≡ kind_of (get_or levels.original.items c.args.i L) = c.kind_of-kind.ensures ∙ ap kind_of (get_or_read levels.original.items c.args.i c.index.result.now c.requires.inside c.index.ensures L) in
    let same : length c.deref_mut-else-index.result.now ≡ length links.links.items = ap length c.deref_mut-else-index.ensures.value in
    within_other (suc c.args.i) (length links.links.items) _ c.followed-followed.result (omega arith)
    (follower_by levels c.requires.aligned c.args.i c.requires.inside links.links.items (stacked links.pending) links.next c.requires.linked
    c.kind_of-kind.result c.in_ok-matched.matched c.behind_of-behind.result kind-is c.in_ok-matched.ensures.matched c.behind_of-behind.ensures
    c.followed-followed.result c.followed-followed.ensures)

pub returns-then-index : goal.returns-then-index
returns-then-index c =
    let levels = c.args.levels.now in
    let links = c.args.links.now in
    let kind-is : c.kind_of-kind.result ≡ kind_of (get_or levels.original.items c.args.i L) = c.kind_of-kind.ensures ∙ ap kind_of (get_or_read levels.original.items c.args.i c.index.result.now c.requires.inside c.index.ensures L) in
    let len : length c.skip.new.links ≡ links.links.len = c.skip.auto.links ∙ c.deref_mut.ensures.len in
    let written : c.skip.new.links ≡ skipped links.links.items c.args.i c.behind_of-behind.result = c.skip.ensures ∙ ap (λ (l : List Link). skipped l c.args.i c.behind_of-behind.result) c.deref_mut.ensures.value in
    rw (take_at c.skip.new.links _ links.links.len len)
    (removed_by levels c.requires.aligned c.args.i c.requires.inside links.links.items (stacked links.pending) links.next c.requires.linked
    c.kind_of-kind.result c.in_ok-matched.matched c.behind_of-behind.result kind-is c.in_ok-matched.ensures.matched c.behind_of-behind.ensures
    _ _ written c.in_ok-matched.ensures.pending
    (sym (get_or_read levels.removed.items c.args.i c.index-2.result.now (omega arith) c.index-2.ensures false) ∙ c.if-index.true))

pub returns-else-index : goal.returns-else-index
returns-else-index c =
    let levels = c.args.levels.now in
    let links = c.args.links.now in
    let kind-is : c.kind_of-kind.result ≡ kind_of (get_or levels.original.items c.args.i L) = c.kind_of-kind.ensures ∙ ap kind_of (get_or_read levels.original.items c.args.i c.index.result.now c.requires.inside c.index.ensures L) in
    let len : length c.begin_at.new.links ≡ links.links.len = c.begin_at.auto.links ∙ c.deref_mut-else-index.ensures.len in
    let written : c.begin_at.new.links ≡ linked links.links.items c.args.i c.followed-followed.result c.behind_of-behind.result
    = c.begin_at.ensures ∙ ap (λ (l : List Link). linked l c.args.i c.followed-followed.result c.behind_of-behind.result) c.deref_mut-else-index.ensures.value in
    rw (take_at c.begin_at.new.links _ links.links.len len)
    (kept_by levels c.requires.aligned c.args.i c.requires.inside links.links.items (stacked links.pending) links.next c.requires.linked
    c.kind_of-kind.result c.in_ok-matched.matched c.behind_of-behind.result kind-is c.in_ok-matched.ensures.matched c.behind_of-behind.ensures
    c.followed-followed.result _ _ c.followed-followed.ensures written c.in_ok-matched.ensures.pending
    (sym (get_or_read levels.removed.items c.args.i c.index-2.result.now (omega arith) c.index-2.ensures false) ∙ c.if-index.false))
