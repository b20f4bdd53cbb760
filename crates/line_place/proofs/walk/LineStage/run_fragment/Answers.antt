use Rattle.std.proofs.Common.{[], ◌≡◌, ◌∙◌, ap, sym, arith, to_z, of_z, w64, rules}
use Rattle.std.proofs.lemmas.Int.{ints, to_z-of_z}
use Rattle.line_place.specs.Line.{content_of, line_in}
use Rattle.line_place.specs.Leaves.{seen}
use Rattle.line_place.proofs.Fragments.{run_by}
use Rattle.line_place.proofs.walk.LineStage.run_fragment.Goals as goal

pub returns-in_ok-made-in-Some-Unit : goal.returns-in_ok-made-in-Some-Unit
returns-in_ok-made-in-Some-Unit g c next =
    let l : to_z w64 (of_z w64 c.args.left) ≡ c.args.left = omega (arith, ints) in
    let h = sym c.first_what.ensures ∙ ap seen c.in-Some-Unit.is ∙ ap content_of c.in-Some-Unit.field-0-is in
    c.in_ok-made-in-Some-Unit.ensures next ∙ rw l (run_by (line_in c.args.self.now.frame.now []) c.args.self.now.over c.args.left c.args.run.now next _ h)

pub returns-in_ok-made-in-Some-Combined : goal.returns-in_ok-made-in-Some-Combined
returns-in_ok-made-in-Some-Combined g c next =
    let l : to_z w64 (of_z w64 c.args.left) ≡ c.args.left = omega (arith, ints) in
    let n : to_z w64 (of_z w64 c.in-Some-Combined.natural) ≡ c.in-Some-Combined.natural = to_z-of_z w64 c.in-Some-Combined.natural (search rules) in
    let h = sym c.first_what.ensures ∙ ap seen c.in-Some-Combined.is ∙ ap content_of c.in-Some-Combined.field-0-is in
    c.in_ok-made-in-Some-Combined.ensures next ∙ rw (l, n) (run_by (line_in c.args.self.now.frame.now []) c.args.self.now.over c.args.left c.args.run.now next _ h)

pub returns-in_ok-made-in-Some-Atom : goal.returns-in_ok-made-in-Some-Atom
returns-in_ok-made-in-Some-Atom g c next =
    let l : to_z w64 (of_z w64 c.args.left) ≡ c.args.left = omega (arith, ints) in
    let m : to_z w64 (of_z w64 c.in-Some-Atom.left_margin) ≡ c.in-Some-Atom.left_margin = to_z-of_z w64 c.in-Some-Atom.left_margin (search rules) in
    let n : to_z w64 (of_z w64 c.in-Some-Atom.over_margin) ≡ c.in-Some-Atom.over_margin = to_z-of_z w64 c.in-Some-Atom.over_margin (search rules) in
    let b : to_z w64 (of_z w64 c.in-Some-Atom.baseline) ≡ c.in-Some-Atom.baseline = to_z-of_z w64 c.in-Some-Atom.baseline (search rules) in
    let h = sym c.first_what.ensures ∙ ap seen c.in-Some-Atom.is ∙ ap content_of c.in-Some-Atom.field-0-is in
    c.in_ok-made-in-Some-Atom.ensures next ∙ rw (l, m, n, b) (run_by (line_in c.args.self.now.frame.now []) c.args.self.now.over c.args.left c.args.run.now next _ h)
