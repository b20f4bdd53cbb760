use Rattle.std.proofs.Common.{◌≡◌, sym, subst, ◌+◌, ◌≤◌, ◌^◌, List, Option, None, unsigned_abs, w64, to_z, of_z, ℤ}
use Rattle.std.specs.Prelude.{pos, false}
use Rattle.std.proofs.lemmas.Int.{to_z-of_z}
use Rattle.fragment_types.specs.declared.breaking.Breaking.TheVariants.{No}
use Rattle.line_fill.specs.declared.item.FillItem.{FillItem}
use Rattle.line_fill.specs.declared.forward.Stop.{Stop}
use Rattle.line_fill.specs.Ahead.{break_at}
use Rattle.line_fill.specs.Forward.{EndsLine}
use Rattle.line_fill.specs.Item.{lengths_of}
use Rattle.line_fill.specs.Sizes.{is_allowed, is_forced}
use Rattle.line_fill.proofs.Summing.{room_after}
use Rattle.line_fill.proofs.Forwarding.{Running, goes_on, goes_past, kind_there, running_first, step_near, stepped, stops_before, stops_here}
use Rattle.line_fill.proofs.forward.forward_end.Goals.{then-is_allowed+else-not-fits+else-is_forced, else-is_allowed}
use Rattle.line_fill.proofs.forward.forward_end.Goals as goal

abbrev plain : FillItem
plain = record { advance = pos 0; before = pos 0; after = pos 0; space = false; end = No }

pub loop-place-init : goal.loop-place-init
loop-place-init g c =
    let items : List FillItem = g.S.FillSource.items c.args.source.now in
    subst (Running _ items c.args.from c.args.from None) (sym c.from-piece.ensures) (running_first _ items c.args.from c.args.start c.requires.from c.requires.start)

pub after-piece-requires : goal.after-piece-requires
after-piece-requires g c =
    let items : List FillItem = g.S.FillSource.items c.args.source.now in
    let running = c.loop-place.invariant in
    let P : FillItem → Type 0 = λ item. unsigned_abs c.loop-place.piece.end.edges + unsigned_abs c.loop-place.piece.end.advances + lengths_of item ≤ 2 ^ 60 in
    subst P (sym (c.item-own.ensures plain)) (room_after items c.loop-place.piece.end c.loop-place.place plain running.fitting.inside running.piece_is.end_ c.requires.room)

pub fits-requires : goal.fits-requires
fits-requires g c =
    let items : List FillItem = g.S.FillSource.items c.args.source.now in
    let step = stepped _ items c.args.from c.loop-place.place c.loop-place.last plain c.item-own.result c.loop-place.piece c.after-piece.result c.loop-place.invariant (c.item-own.ensures plain) c.after-piece.ensures in
    step_near _ items c.args.from c.loop-place.place c.loop-place.last c.after-piece.result step c.requires.room

pub returns-then-not-fits : goal.returns-then-not-fits
returns-then-not-fits g c =
    let items : List FillItem = g.S.FillSource.items c.args.source.now in
    let step = stepped _ items c.args.from c.loop-place.place c.loop-place.last plain c.item-own.result c.loop-place.piece c.after-piece.result c.loop-place.invariant (c.item-own.ensures plain) c.after-piece.ensures in
    let allowed = kind_there is_allowed _ (break_at items c.loop-place.place) _ _ c.break_behind-end.ensures c.is_allowed.ensures c.if-is_allowed.true in
    let given : to_z w64 (of_z w64 c.args.available) ≡ c.args.available = to_z-of_z w64 c.args.available c.ranges.available in
    let P : ℤ → Type 0 = λ available. EndsLine available items c.args.from c.last_or.result in
    subst P given (stops_before _ items c.args.from c.loop-place.place c.loop-place.last c.after-piece.result step plain c.fits.result c.fits.ensures c.stop-stop.result c.stop-stop.ensures.end c.stop-stop.ensures.place
    c.requires.forward allowed c.if-not-fits.true c.last_or.result c.last_or.ensures)

pub returns-then-is_forced : goal.returns-then-is_forced
returns-then-is_forced g c =
    let items : List FillItem = g.S.FillSource.items c.args.source.now in
    let step = stepped _ items c.args.from c.loop-place.place c.loop-place.last plain c.item-own.result c.loop-place.piece c.after-piece.result c.loop-place.invariant (c.item-own.ensures plain) c.after-piece.ensures in
    let forced = kind_there is_forced _ (break_at items c.loop-place.place) _ _ c.break_behind-end.ensures c.is_forced.ensures c.if-is_forced.true in
    let given : to_z w64 (of_z w64 c.args.available) ≡ c.args.available = to_z-of_z w64 c.args.available c.ranges.available in
    let P : ℤ → Type 0 = λ available. EndsLine available items c.args.from c.stop-stop.result in
    subst P given (stops_here _ items c.args.from c.loop-place.place c.loop-place.last c.after-piece.result step plain c.fits.result c.fits.ensures c.stop-stop.result c.stop-stop.ensures.end c.stop-stop.ensures.place
    forced c.if-not-fits.false)

pub loop-place-preserved : goal.loop-place-preserved
loop-place-preserved g c =
    let items : List FillItem = g.S.FillSource.items c.args.source.now in
    let step = stepped _ items c.args.from c.loop-place.place c.loop-place.last plain c.item-own.result c.loop-place.piece c.after-piece.result c.loop-place.invariant (c.item-own.ensures plain) c.after-piece.ensures in
    let P : Option Stop → Type 0 = λ last. Running (to_z w64 (of_z w64 c.args.available)) items c.args.from (c.loop-place.place + 1) last c.after-piece.result in
    elim c.if-is_allowed.branch [
      | then-is_allowed+else-not-fits+else-is_forced w ↦
          let allowed = kind_there is_allowed _ (break_at items c.loop-place.place) _ _ c.break_behind-end.ensures c.is_allowed.ensures w.if-is_allowed.true in
          let unforced = kind_there is_forced _ (break_at items c.loop-place.place) _ _ c.break_behind-end.ensures w.is_forced.ensures w.if-is_forced.false in
          subst P (sym w.last-is) (goes_past _ items c.args.from c.loop-place.place c.loop-place.last c.after-piece.result step plain w.fits.result w.fits.ensures w.stop-stop.result w.stop-stop.ensures.end
          w.stop-stop.ensures.place allowed unforced w.if-not-fits.false)
      | else-is_allowed w ↦
          let unallowed = kind_there is_allowed _ (break_at items c.loop-place.place) _ _ c.break_behind-end.ensures c.is_allowed.ensures w.if-is_allowed.false in
          subst P (sym w.last-is) (goes_on _ items c.args.from c.loop-place.place c.loop-place.last c.after-piece.result step plain unallowed)
    ]
