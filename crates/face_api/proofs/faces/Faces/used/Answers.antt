use Rattle.std.proofs.Common.{◌∙◌, rules}
use Rattle.face_api.proofs.SeatLaws.{used_living, used_first}
use Rattle.face_api.proofs.faces.Faces.used.Goals as goal

pub returns-in-Some : goal.returns-in-Some
returns-in-Some g c = c.lend.ensures ∙ used_living _ c.args.self.now.seats.items c.args.face c.in-Some.face.now (search rules)

pub returns-in-None : goal.returns-in-None
returns-in-None g c = used_first _ c.args.self.now.seats.items c.args.face _ (search rules) c.first.ensures
