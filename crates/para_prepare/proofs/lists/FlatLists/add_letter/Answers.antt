use Rattle.std.proofs.Common.{◌≡◌, ◌∙◌, [], ◌∷◌, None, ap, map, sym, arith}
use Rattle.cluster_units.specs.Plain.{character_unit}
use Rattle.para_prepare.specs.Flat.{flat_of, grown}
use Rattle.para_prepare.specs.Parts.{control_of, sets_upright}
use Rattle.para_prepare.specs.Text.{letter_part}
use Rattle.para_prepare.proofs.lists.FlatLists.add_letter.Goals as goal

pub returns-in-None-clause-grown : goal.returns-in-None-clause-grown
returns-in-None-clause-grown g c =
    let upright = sets_upright c.args.text.style.now in
    let none : None ≡ character_unit c.args.text.style.now ((goal.Face-dyn g c.args.face.now).table c.args.face.now.1) c.args.place c.args.letter.char = sym c.in-None.is ∙ c.character_unit.ensures.unit in
    c.pass.ensures.grown upright
    ∙ ap (λ controls. grown (flat_of c.args.self.now) (map (control_of upright) controls)) c.from_ref.ensures.value
    ∙ ap (λ one. grown (flat_of c.args.self.now) (letter_part upright c.args.text.place.source c.args.text.node c.args.letter one ∷ [])) none

pub returns-in-None-clause-room : goal.returns-in-None-clause-room
returns-in-None-clause-room g c =
    λ count room. c.pass.ensures.room count (record { items = let more = room.items in omega arith; classes = let more = room.classes in omega arith; breaks = let more = room.breaks in omega arith })
