use Rattle.std.proofs.Common.{rules, ◌≡◌, ◌∙◌, ap, List, Option, ℤ, w64, FitsSigned}
use Rattle.std.proofs.lemmas.Int.{to_z-of_z}
use Rattle.face_api.specs.declared.row.Metrics.{Metrics}
use Rattle.face_api.specs.Living.{used_table}
use Rattle.face_api.specs.Table.{Table}
use Rattle.style_types.specs.declared.style.Baseline.{Baseline}
use Rattle.style_types.specs.declared.style.Style.{Style}
use Rattle.line_place.specs.declared.line.Extents.{Extents}
use Rattle.line_place.specs.Leading.{extents}
use Rattle.para_lines.specs.declared.paragraph.Container.{Container}
use Rattle.para_lines.specs.Lines as rule
use Rattle.para_lines.proofs.line.extents_in.Goals as goal

told : (tables : List (Option Table)) (container : Container) (style : Style) (metrics : Metrics) (table : Table) (baseline : Baseline) (held raised : ℤ) (made : Extents)
    → made ≡ extents metrics.ascent metrics.descent style baseline held → held ≡ raised → baseline ≡ rule.baseline container → metrics ≡ table.metrics → table ≡ used_table tables style.face
    → made ≡ rule.extents_in tables container style raised
told tables container style metrics table baseline held raised made are same on of_table is =
    are
    ∙ ap (λ (z : ℤ). extents metrics.ascent metrics.descent style baseline z) same
    ∙ ap (λ (b : Baseline). extents metrics.ascent metrics.descent style b raised) on
    ∙ ap (λ (m : Metrics). extents m.ascent m.descent style (rule.baseline container) raised) (of_table ∙ ap (λ (t : Table). t.metrics) is)

pub returns-clause-are : goal.returns-clause-are
returns-clause-are g c =
    let fits : FitsSigned w64 c.args.raised = search rules in
    told _ c.args.edges.now.container.now c.args.edges.now.style.now c.metrics-metrics.result _ c.baseline.result _ c.args.raised c.extents.result
    c.extents.ensures.are (to_z-of_z w64 c.args.raised fits) c.baseline.ensures c.metrics-metrics.ensures.0 c.used.ensures
