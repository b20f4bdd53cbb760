use Rattle.std.proofs.Common.{◌≡◌, ◌∙◌, ap, arith}
use Rattle.std.specs.List.{slice_range}
use Rattle.std.specs.Str.{chars}
use Rattle.para_prepare.specs.Kept.{chars_of}
use Rattle.para_prepare.proofs.OneSize.{sizes_of}
use Rattle.para_prepare.proofs.PartsLaws.{count_more, order_of, sound_more, stretch_length, text_more}
use Rattle.para_prepare.proofs.text.add_clusters.Goals as goal

pub returns-clause-parts : goal.returns-clause-parts
returns-clause-parts g c =
    text_more _ c.args.text.place.letters.now c.args.text.place.source c.args.text.node c.args.text.style.now c.args.text.place.span.from c.args.text.place.span.to (chars c.deref.result.now) c.in_ok-units.units.items c.deref-2.result.now _ _
    c.in_ok-units.ensures.order c.args.text.place.within (ap chars c.deref.ensures ∙ c.in_ok-kept.ensures.chars) c.in_ok-units.ensures.units c.deref-2.ensures.value c.in_ok-add_runs.ensures

pub returns-clause-sound : goal.returns-clause-sound
returns-clause-sound g c =
    let own = slice_range c.args.text.place.letters.now c.args.text.place.span.from c.args.text.place.span.to in
    let text : chars c.deref.result.now ≡ chars_of own = ap chars c.deref.ensures ∙ c.in_ok-kept.ensures.chars in
    sound_more _ c.args.text.place.letters.now c.args.text.place.source c.args.text.node c.args.text.style.now c.args.text.place.span.from c.args.text.place.span.to c.deref-2.result.now _ _
    (order_of own (chars c.deref.result.now) c.in_ok-units.units.items c.deref-2.result.now text c.deref-2.ensures.value c.in_ok-units.ensures.order)
    (sizes_of c.args.text.style.now _ (chars c.deref.result.now) c.in_ok-units.units.items c.deref-2.result.now c.in_ok-units.ensures.units c.deref-2.ensures.value) c.args.text.size.high c.args.text.place.order c.args.text.place.within
    c.in_ok-add_runs.ensures c.requires.sound

pub returns-clause-count : goal.returns-clause-count
returns-clause-count g c =
    let own = slice_range c.args.text.place.letters.now c.args.text.place.span.from c.args.text.place.span.to in
    let text : chars c.deref.result.now ≡ chars_of own = ap chars c.deref.ensures ∙ c.in_ok-kept.ensures.chars in
    let many = count_more own _ _ c.deref-2.result.now c.args.parts.now.items c.add_runs.new.parts.items
    (order_of own (chars c.deref.result.now) c.in_ok-units.units.items c.deref-2.result.now text c.deref-2.ensures.value c.in_ok-units.ensures.order) c.in_ok-add_runs.ensures in
    let long = stretch_length c.args.text.place.letters.now c.args.text.place.span.from c.args.text.place.span.to c.args.text.place.within in
    omega arith
