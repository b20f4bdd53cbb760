use Rattle.std.proofs.Common.{◌≡◌, ◌∙◌, refl, ap, arith, map, List, to_z, of_z, w64}
use Rattle.std.proofs.lemmas.Int.{ints}
use Rattle.line_place.specs.LineText.{extent_in, unit_in}
use Rattle.line_place.specs.Reach.{item_reach, total}
use Rattle.para_lines.specs.Standing.{Standing}
use Rattle.para_lines.specs.Text.{bare}
use Rattle.para_lines.proofs.TextLines.{from_first, take_reach, text_is}
use Rattle.para_lines.proofs.text.line_text.Goals as goal

pub extent_of-extent-requires : goal.extent_of-extent-requires
extent_of-extent-requires c =
    let same = ap (λ (s : List Standing). total item_reach (map bare s)) (c.between-solid.ensures ∙ from_first c.args.standings.now c.args.text.count) in
    omega (arith, take_reach c.args.standings.now c.args.text.count, same, c.requires.reach)

pub returns : goal.returns
returns c entries is =
    let extent = c.extent_of-extent.ensures.near in
    let solid = c.between-solid.ensures ∙ from_first c.args.standings.now c.args.text.count in
    let same = ap (λ (s : List Standing). total item_reach (map bare s)) solid in
    let own : to_z w64 (of_z w64 c.extent_of-extent.result) ≡ c.extent_of-extent.result = omega (arith, ints, extent, take_reach c.args.standings.now c.args.text.count, same, c.requires.reach) in
    text_is c.args.standings.now entries c.args.text _ is refl refl (own ∙ c.extent_of-extent.ensures.is ∙ ap (λ (s : List Standing). extent_in (map bare s)) solid)
    (c.in_ok-units.ensures ∙ ap (λ (s : List Standing). map unit_in (map bare s)) solid)
