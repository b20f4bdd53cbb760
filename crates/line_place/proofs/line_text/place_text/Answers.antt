use Rattle.std.proofs.Common.{◌≡◌, ◌∙◌, ap, sym, arith, subst, ◌*◌, ◌+◌, List, [], ◌∷◌, ◌++◌, to_z, of_z, w64, ℤ, ◌-ℤ◌}
use Rattle.std.proofs.lemmas.Int.{ints}
use Rattle.fragment_types.specs.Fragment.{Pieces, none, pieces_of}
use Rattle.fragment_types.specs.declared.fragment.Fragment.{Fragment}
use Rattle.line_place.specs.Line.{line_in}
use Rattle.line_place.specs.LineText.{text_of, text_piece}
use Rattle.line_place.specs.Placing.{offset}
use Rattle.line_place.specs.Reach.{AreInLimit, line_reach}
use Rattle.line_place.proofs.TextLaws.{text_over, text_parts, text_parts_in, text_under}
use Rattle.line_place.proofs.line_text.place_text.Goals as goal

pub returns-clause-over : goal.returns-clause-over
returns-clause-over c items is =
    let near = c.requires.reach in
    let o : to_z w64 (of_z w64 c.args.frame.now.strut.over) ≡ c.args.frame.now.strut.over = omega (arith, ints) in
    o ∙ text_over c.level_zero_stays.ensures (text_of c.args.text) (line_in c.args.frame.now items) is c.requires.base c.requires.boxes

pub returns-clause-under : goal.returns-clause-under
returns-clause-under c items is =
    let near = c.requires.reach in
    let u : to_z w64 (of_z w64 c.args.frame.now.strut.under) ≡ c.args.frame.now.strut.under = omega (arith, ints) in
    u ∙ text_under c.level_zero_stays.ensures (text_of c.args.text) (line_in c.args.frame.now items) is c.requires.base c.requires.boxes

placed : goal.returns-clause-parts
placed c items is =
    let near = c.requires.reach in
    let o : to_z w64 (of_z w64 c.args.frame.now.strut.over) ≡ c.args.frame.now.strut.over = omega (arith, ints) in
    ap (λ (ps : List Fragment). pieces_of ps) (c.in_ok-push.ensures.items ∙ ap (λ (ps : List Fragment). ps ++ c.in_ok-fragment.fragment ∷ []) c.in_ok-parts.ensures.items)
    ∙ c.in_ok-fragment.ensures none
    ∙ ap (λ (z : ℤ). text_piece c.args.frame.now.strut z (offset c.args.frame.now.align 0 (c.args.frame.now.available -ℤ c.args.text.extent)) (text_of c.args.text) none) o
    ∙ text_parts c.level_zero_stays.ensures (text_of c.args.text) (line_in c.args.frame.now items) is c.requires.base c.requires.boxes

pub returns-clause-parts : goal.returns-clause-parts
returns-clause-parts c items is = placed c items is

pub returns-clause-near : goal.returns-clause-near
returns-clause-near c =
    let near = c.requires.reach in
    (omega (arith, ints), omega (arith, ints))

pub returns-clause-reach : goal.returns-clause-reach
returns-clause-reach c items is =
    let P : Pieces → Type 0 = λ ps. AreInLimit (4 * line_reach (line_in c.args.frame.now items)) ps in
    subst P (sym (placed c items is)) (text_parts_in c.level_zero_stays.ensures (text_of c.args.text) (line_in c.args.frame.now items) is c.requires.base)
