use Rattle.std.proofs.Common.{rules, ◌≡◌, ◌∙◌, ap, List, Option, ℕ, ℤ, w64, FitsSigned}
use Rattle.std.proofs.lemmas.Int.{to_z-of_z}
use Rattle.face_api.specs.Table.{Table}
use Rattle.style_types.specs.declared.style.Style.{Style}
use Rattle.fragment_types.specs.Item.{Entry}
use Rattle.line_place.specs.declared.line.Extents.{Extents}
use Rattle.para_lines.specs.declared.paragraph.Container.{Container}
use Rattle.para_lines.specs.Around.{box_at}
use Rattle.para_lines.specs.Edges.{raised_in}
use Rattle.para_lines.specs.Lines as rule
use Rattle.para_lines.proofs.seated.PlacedBox.extents.Goals as goal

told : (tables : List (Option Table)) (container : Container) (entries : List Entry) (own style : Style) (raised held : ℤ) (place : ℕ) (extents : Extents)
    → extents ≡ rule.extents_in tables container own held → held ≡ raised → raised ≡ raised_in entries own.shift (box_at entries place).outer → own ≡ style
    → extents ≡ rule.extents_in tables container style (raised_in entries style.shift (box_at entries place).outer)
told tables container entries own style raised held place extents are same is style_is =
    are ∙ ap (rule.extents_in tables container own) (same ∙ is)
    ∙ ap (λ (s : Style). rule.extents_in tables container s (raised_in entries s.shift (box_at entries place).outer)) style_is

pub returns-clause-are : goal.returns-clause-are
returns-clause-are g c =
    let fits : FitsSigned w64 c.raised_by-raised.result = search rules in
    told _ c.args.self.now.seated.now.container.now c.args.self.now.seated.now.boxes.now _ _ c.raised_by-raised.result _ c.args.self.now.place _ c.extents_in.ensures.are (to_z-of_z w64 c.raised_by-raised.result fits) c.raised_by-raised.ensures.value c.at-own.ensures.style
