use Rattle.std.proofs.Common.{rules, ◌≡◌, ◌∙◌, ap, w64, FitsSigned}
use Rattle.std.proofs.lemmas.Int.{to_z-of_z}
use Rattle.wm_units.specs.Numbers.{cap_size}
use Rattle.line_fill.specs.Sizes.{widest, pieces, is_allowed, is_forced}
use Rattle.line_fill.proofs.Widening.{widens_all, sizes_are}
use Rattle.line_fill.proofs.sizes.intrinsic.Goals as goal

pub returns : goal.returns
returns c =
    let fits : FitsSigned w64 c.width.result = search rules in
    let fits-2 : FitsSigned w64 c.width-2.result = search rules in
    let fits-3 : FitsSigned w64 c.cap_size.result = search rules in
    let fits-4 : FitsSigned w64 c.cap_size-2.result = search rules in
    let least : c.width.result ≡ widest (pieces is_allowed c.args.items.now) = widens_all is_allowed c.args.items.now c.loop-item.least c.loop-item.item-index _ c.loop-item-test.false c.width.ensures c.loop-item.invariant.least in
    let greatest : c.width-2.result ≡ widest (pieces is_forced c.args.items.now) = widens_all is_forced c.args.items.now c.loop-item.greatest c.loop-item.item-index _ c.loop-item-test.false c.width-2.ensures c.loop-item.invariant.greatest in
    sizes_are c.args.items.now _ _
    (to_z-of_z w64 c.cap_size.result fits-3 ∙ (c.cap_size.ensures ∙ ap cap_size (to_z-of_z w64 c.width.result fits ∙ least)))
    (to_z-of_z w64 c.cap_size-2.result fits-4 ∙ (c.cap_size-2.ensures ∙ ap cap_size (to_z-of_z w64 c.width-2.result fits-2 ∙ greatest)))
