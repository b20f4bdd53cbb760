use Rattle.std.proofs.Common.{◌<◌, length, rules}
use Rattle.std.proofs.lemmas.Result.{on_ok_weaker, on_err_weaker}
use Rattle.face_api.proofs.SeatLaws.{set_seats, same_seats}
use Rattle.face_api.proofs.faces.Faces.set.Goals as goal

pub returns-clause-row : goal.returns-clause-row
returns-clause-row g c =
    let inside : c.from-at.result < length c.args.self.now.seats.items = search rules in
    on_ok_weaker c.set_seat.result
    (set_seats _ c.args.self.now.seats.items c.args.face c.from-at.result c.args.c c.args.upright c.args.value c.index_mut.result.now c.set_seat.new.seat c.from-at.ensures inside c.index_mut.ensures.value)
    c.set_seat.ensures.row

pub returns-clause-unchanged : goal.returns-clause-unchanged
returns-clause-unchanged g c =
    let inside : c.from-at.result < length c.args.self.now.seats.items = search rules in
    on_err_weaker c.set_seat.result
    (same_seats _ c.args.self.now.seats.items c.from-at.result c.index_mut.result.now c.set_seat.new.seat inside c.index_mut.ensures.value)
    c.set_seat.ensures.unchanged
