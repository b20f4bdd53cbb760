use Rattle.std.proofs.Common.{◌≡◌, ◌∙◌, ap, rules, List, ◌∷◌, reverse}
use Rattle.style_types.specs.declared.style.Style.{Style}
use Rattle.box_gen.specs.declared.opened.Opened.{Opened}
use Rattle.box_gen.specs.Building.{filling_of}
use Rattle.box_gen.proofs.Pieces.{pushed}
use Rattle.box_gen.proofs.Puts.{start_put}
use Rattle.box_gen.proofs.filling.Filling.start.Goals as goal

pub returns : goal.returns
returns c =
    let was = c.args.self.now.opened.items in
    let same : c.in_ok-clone.field-0 ≡ c.args.style.now = search rules in
    start_put (filling_of c.args.self.now) _ c.args.node c.args.style.now _ c.in_ok-put_begin.ensures
    (ap (λ (l : List Opened). reverse l) c.in_ok-push.ensures.items
    ∙ pushed was (record { node = c.args.node; style = c.in_ok-clone.field-0 })
    ∙ ap (λ (style : Style). (let innermost : Opened = record { node = c.args.node; style = style } in innermost) ∷ reverse was) same)
