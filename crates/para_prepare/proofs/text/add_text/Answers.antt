use Rattle.std.proofs.Common.{◌≡◌, ◌∙◌, ◌++◌, ap, sym, true}
use Rattle.std.specs.List.{slice_range}
use Rattle.face_api.specs.Faces.{faces_of}
use Rattle.para_prepare.specs.Text.{letter_parts, stand_alone}
use Rattle.para_prepare.specs.Views.{parts_of}
use Rattle.para_prepare.proofs.AloneLaws.{alone_parts}
use Rattle.para_prepare.proofs.text.add_text.Goals as goal

pub returns-in_ok-add_letters-clause-parts : goal.returns-in_ok-add_letters-clause-parts
returns-in_ok-add_letters-clause-parts g c =
    let style = c.args.text.style.now in
    let faces = faces_of (λ vtable. (g.dyn-1.0.entry vtable).1) c.args.resources.faces.now in
    let own = slice_range c.args.text.place.letters.now c.args.text.place.span.from c.args.text.place.span.to in
    let laws = c.plain_units_are_of_characters.ensures in
    let front = parts_of c.args.text.place.letters.now c.args.parts.now.items in
    let alone : stand_alone style own ≡ true = sym c.stand_alone.ensures ∙ c.if-stand_alone.true in
    c.in_ok-add_letters.ensures.parts
    ∙ ap (λ table. front ++ letter_parts table c.args.text.place.source c.args.text.node style 0 own) c.used.ensures
    ∙ sym (ap (λ parts. front ++ parts) (alone_parts laws.units laws.apart faces c.args.text.place.source c.args.text.node style own alone))
