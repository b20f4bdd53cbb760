use Rattle.para_prepare.proofs.lists.FlatLists.add_single.Goals as goal

pub returns-clause-room : goal.returns-clause-room
returns-clause-room c =
    λ count room. c.put.ensures.room count (record { items = room.items; classes = room.classes; breaks = room.breaks })
