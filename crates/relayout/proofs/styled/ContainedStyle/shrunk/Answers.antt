use Rattle.std.proofs.Common.{rules, ◌∙◌, refl, w64, FitsSigned}
use Rattle.std.proofs.lemmas.Int.{to_z-of_z}
use Rattle.relayout.proofs.InlineLaws.{shrunk_by}
use Rattle.relayout.proofs.styled.ContainedStyle.shrunk.Goals as goal

pub returns-clause-value : goal.returns-clause-value
returns-clause-value c =
    let own = c.args.self.now in
    let held : FitsSigned w64 c.hold.result = search rules in
    let min : FitsSigned w64 c.args.content.min = search rules in
    let max : FitsSigned w64 c.args.content.max = search rules in
    to_z-of_z w64 c.hold.result held
    ∙ shrunk_by c.args.view own.containing own.style.now own.c c.args.content c.hold.result _ _ _ _ _ _ _
    c.hold.ensures.value
    (to_z-of_z w64 c.fit-size.result (search rules) ∙ c.fit-size.ensures)
    (to_z-of_z w64 c.args.content.min min) (to_z-of_z w64 c.args.content.max max)
    (to_z-of_z w64 c.room.result (search rules) ∙ c.room.ensures)
    refl c.inline_sizes.ensures refl
