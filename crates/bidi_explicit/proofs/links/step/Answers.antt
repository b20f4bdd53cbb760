use Rattle.std.proofs.Common.{arith, ◌≡◌, ◌∙◌, ap, ◌+◌, get_or, length, Some, List, ℕ}
use Rattle.std.proofs.lemmas.List.{get_or_read, take_at}
use Rattle.wm_chars.specs.declared.classes.BidiClass.TheVariants.{L}
use Rattle.bidi_explicit.specs.declared.links.Link.{Link}
use Rattle.bidi_explicit.specs.Isolates.{kind_of}
use Rattle.bidi_explicit.specs.Links.{linked}
use Rattle.bidi_explicit.specs.Sequences.{level_in}
use Rattle.bidi_explicit.proofs.Walking.{nearest_within, within_other, goes_on_by}
use Rattle.bidi_explicit.specs.Stack.{stacked}
use Rattle.bidi_explicit.proofs.links.step.Goals as goal

pub goes_on-requires-clause-next : goal.goes_on-requires-clause-next
goes_on-requires-clause-next c =
    let levels = c.args.levels.now in
    let links = c.args.links.now in
    let same : length levels.level.items ≡ length levels.original.items = c.requires.aligned.level in
    within_other (c.args.i + 1) (length levels.original.items) _ links.next (omega arith)
    (nearest_within levels c.requires.aligned c.args.i c.requires.inside links.links.items (stacked links.pending) links.next c.requires.linked)

pub returns-in-Some : goal.returns-in-Some
returns-in-Some c =
    let levels = c.args.levels.now in
    let links = c.args.links.now in
    let q = c.in-Some.next in
    let kind-is : kind_of c.index-class.result.now ≡ kind_of (get_or levels.original.items c.args.i L) = ap kind_of (get_or_read levels.original.items c.args.i c.index-class.result.now c.requires.inside c.index-class.ensures L) in
    let len : length c.begin_at.new.links ≡ links.links.len = c.begin_at.auto.links ∙ c.deref_mut.ensures.len in
    let level : c.index-behind.result.now ≡ level_in levels.level.items q = get_or_read levels.level.items q c.index-behind.result.now c.in-Some.ensures.within c.index-behind.ensures 0 in
    let written : c.begin_at.new.links ≡ linked links.links.items c.args.i (Some q) (level_in levels.level.items q)
    = c.begin_at.ensures ∙ ap (λ (l : List Link). linked l c.args.i (Some q) c.index-behind.result.now) c.deref_mut.ensures.value ∙ ap (λ (n : ℕ). linked links.links.items c.args.i (Some q) n) level in
    rw (take_at c.begin_at.new.links _ links.links.len len)
    (goes_on_by levels c.requires.aligned c.args.i c.requires.inside links.links.items (stacked links.pending) links.next c.requires.linked
    (kind_of c.index-class.result.now) q c.begin_at.new.links kind-is c.in-Some.ensures.goes_on written)
