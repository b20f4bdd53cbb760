use Rattle.std.proofs.Common.{◌∙◌, ap, sym}
use Rattle.face_api.specs.Faces.{faces_of}
use Rattle.para_prepare.specs.Flat.{flat_of, grown}
use Rattle.para_prepare.specs.Text.{letter_parts}
use Rattle.para_prepare.specs.Views.{letters_at}
use Rattle.para_prepare.proofs.AloneLaws.{alone_parts}
use Rattle.para_prepare.proofs.lists.FlatLists.add_text.Goals as goal

pub returns-in_ok-add_letters-clause-grown : goal.returns-in_ok-add_letters-clause-grown
returns-in_ok-add_letters-clause-grown g c =
    let style = c.args.text.style.now in
    let faces = faces_of (λ vtable. (g.dyn-1.0.entry vtable).1) c.args.resources.faces.now in
    let own = letters_at c.args.text.place.letters.now c.args.text.place.span in
    let laws = c.plain_units_are_of_characters.ensures in
    c.in_ok-add_letters.ensures.grown
    ∙ ap (λ table. grown (flat_of c.args.self.now) (letter_parts table c.args.text.place.source c.args.text.node style 0 own)) c.used.ensures
    ∙ sym (ap (grown (flat_of c.args.self.now)) (alone_parts laws.units laws.apart faces c.args.text.place.source c.args.text.node style own (sym c.stand_alone.ensures ∙ c.if-stand_alone.true)))
