use Rattle.std.proofs.Common.{◌≡◌, length, rules}
use Rattle.face_api.proofs.SeatLaws.{all_taken, first_lives, all_living}
use Rattle.face_api.proofs.faces.Faces.new.Goals as goal

pub invariant_of-result : goal.invariant_of-result
invariant_of-result g c =
    let none : length c.loop-face.face-iterator.rest.items ≡ 0 = search rules in
    let taken = all_taken c.loop-face.seats.items c.loop-face.face-iterator.rest.items c.args.faces.items none c.loop-face.invariant in
    let some = c.requires.some in
    record { first = first_lives c.loop-face.seats.items c.args.faces.items some taken }

pub returns : goal.returns
returns g c =
    let none : length c.loop-face.face-iterator.rest.items ≡ 0 = search rules in
    all_living _ c.loop-face.seats.items c.args.faces.items (all_taken c.loop-face.seats.items c.loop-face.face-iterator.rest.items c.args.faces.items none c.loop-face.invariant)
