use Rattle.std.proofs.Common.{rules, ◌≡◌, ◌<◌, ◌+◌, ◌∷◌, suc, drop, length, arith, ap, sym, ◌∙◌}
use Rattle.std.proofs.Math.Seq.{drop-cons}
use Rattle.para_prepare.specs.Items.{items_by}
use Rattle.para_prepare.specs.Parts.{raws}
use Rattle.para_prepare.specs.Views.{part_of, parts_of}
use Rattle.para_prepare.proofs.MoreItems.{Items, more_items}
use Rattle.para_prepare.proofs.items.prepared_items.Goals as goal

pub loop-part-preserved : goal.loop-part-preserved
loop-part-preserved c =
    let within : c.loop-part.part-index < length c.args.parts.now = search rules in
    let next : c.loop-part.part-index + 1 ≡ suc c.loop-part.part-index = omega arith in
    let there : drop c.loop-part.part-index c.args.parts.now ≡ c.part-item.result ∷ drop (suc c.loop-part.part-index) c.args.parts.now =
    drop-cons c.args.parts.now c.loop-part.part-index c.part-item.result within ∙ ap (λ part. part ∷ drop (suc c.loop-part.part-index) c.args.parts.now) (sym c.part-item.is) in
    let before : Items c.loop-part.items.items (parts_of c.args.letters.now (c.part-item.result ∷ drop (suc c.loop-part.part-index) c.args.parts.now)) c.args.standings.now (items_by (raws (parts_of c.args.letters.now c.args.parts.now)) c.args.standings.now) = rw there at c.loop-part.invariant in
    rw next (rw c.in_ok-add_item.ensures (more_items c.loop-part.items.items (part_of c.args.letters.now c.part-item.result) (parts_of c.args.letters.now (drop (suc c.loop-part.part-index) c.args.parts.now)) c.args.standings.now (items_by (raws (parts_of c.args.letters.now c.args.parts.now)) c.args.standings.now) before))
