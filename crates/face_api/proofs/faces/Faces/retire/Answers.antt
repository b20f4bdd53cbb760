use Rattle.std.proofs.lemmas.Result.{on_ok_weaker}
use Rattle.face_api.proofs.SeatLaws.{retired_seats}
use Rattle.face_api.proofs.faces.Faces.retire.Goals as goal

pub returns-clause-retired : goal.returns-clause-retired
returns-clause-retired g c =
    on_ok_weaker c.vacate.result (retired_seats _ c.args.self.now.seats.items c.args.face c.from-at.result c.vacate.new.seat c.from-at.ensures) c.vacate.ensures.vacant
