use Rattle.std.proofs.Common.{inl, inr, ◌≡◌, ◌∙◌, arith, ap, sym, length, get_or, List}
use Rattle.std.proofs.lemmas.Bool.{cases_lt}
use Rattle.std.proofs.lemmas.List.Elements.{All-map}
use Rattle.line_place.specs.Line.{Item}
use Rattle.para_lines.specs.Standing.{Standing, plain}
use Rattle.para_lines.specs.Line.{ItemsOn, standing_of}
use Rattle.para_lines.specs.Lines as rule
use Rattle.para_lines.proofs.seated_items.SeatedItemsLineSource.is_level_zero.Goals as goal

pub loop-place-preserved : goal.loop-place-preserved
loop-place-preserved c k d lt =
    let own : ItemsOn = c.args.self.now in
    let same : own.standings ≡ c.self.inside.standings = sym (ap (λ (o : ItemsOn). o.standings) c.self.view_is) in
    let here : get_or own.standings c.loop-place.place d ≡ plain c.at.result = ap (λ (s : List Standing). get_or s c.loop-place.place d) same ∙ sym (c.at.ensures d) in
    let zero : c.at.result.level ≡ 0 = omega (arith, c.if-at-ne0.false) in
    elim (cases_lt k c.loop-place.place) [
      | inl before ↦ c.loop-place.invariant k d before
      | inr from ↦ let e : k ≡ c.loop-place.place = omega (arith, lt, from) in ap (λ j. (get_or own.standings j d).level) e ∙ ap (λ (s : Standing). s.level) here ∙ zero
    ]

pub returns : goal.returns
returns c is =
    let past = c.loop-place-test.false in
    let own : ItemsOn = c.args.self.now in
    All-map (λ (item : Item). item.level ≡ 0) (λ (s : Standing). rule.line_item own.seated.boxes.now own.seated.places.now (standing_of own.seated.boxes.now s)) own.standings
    (λ k d lt. c.loop-place.invariant k d (omega (arith, past, lt, ap (λ (o : ItemsOn). length o.standings) c.self.view_is)))
